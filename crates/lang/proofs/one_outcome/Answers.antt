use Rattle.lang.proofs.Rules.{one_outcome, one_derivation}
use Rattle.lang.proofs.one_outcome.Goals as goal

pub returns : goal.returns
returns c = (one_outcome, one_derivation)

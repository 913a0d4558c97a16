use Rattle.lang.proofs.Theorems.{finite}
use Rattle.lang.proofs.finite.Goals as goal

pub returns : goal.returns
returns c = finite

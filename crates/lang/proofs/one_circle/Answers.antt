use Rattle.lang.proofs.Calls.{one_circle}
use Rattle.lang.proofs.one_circle.Goals as goal

pub returns : goal.returns
returns c = one_circle

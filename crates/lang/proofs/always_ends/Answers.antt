use Rattle.lang.proofs.Theorems.{always_ends}
use Rattle.lang.proofs.always_ends.Goals as goal

pub returns : goal.returns
returns c = always_ends

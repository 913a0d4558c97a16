use Rattle.lang.proofs.Theorems.{has_a_value}
use Rattle.lang.proofs.has_a_value.Goals as goal

pub returns : goal.returns
returns c = has_a_value

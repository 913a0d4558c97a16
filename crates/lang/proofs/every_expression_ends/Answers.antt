use Rattle.lang.proofs.Theorems.{every_expression_ends}
use Rattle.lang.proofs.every_expression_ends.Goals as goal

pub returns : goal.returns
returns c = every_expression_ends

use Rattle.lang.proofs.Cases.{worked}
use Rattle.lang.proofs.ackermann.Goals as goal

pub returns : goal.returns
returns c = worked

use Rattle.sizechange.proofs.Reason.{decided}
use Rattle.sizechange.proofs.decided.Goals as goal

pub returns : goal.returns
returns c = decided

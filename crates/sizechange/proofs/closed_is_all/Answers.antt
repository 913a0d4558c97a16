use Rattle.sizechange.proofs.Ways.{closed_is_all}
use Rattle.sizechange.proofs.closed_is_all.Goals as goal

pub returns : goal.returns
returns c = closed_is_all

use Rattle.sizechange.proofs.Ways.{different_are_fewer, one_number}
use Rattle.sizechange.proofs.one_number.Goals as goal

pub returns : goal.returns
returns c = (different_are_fewer, one_number)

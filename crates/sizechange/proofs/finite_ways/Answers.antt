use Rattle.sizechange.proofs.Ways.{finite_ways}
use Rattle.sizechange.proofs.finite_ways.Goals as goal

pub returns : goal.returns
returns c = finite_ways

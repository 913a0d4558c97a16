use Rattle.std.proofs.Common.{refl}
use Rattle.table.specs.Index.{bucket_of}
use Rattle.table.proofs.chain.Goals as goal

pub returns-clause-is : goal.returns-clause-is
unfolding bucket_of
returns-clause-is c = refl

use Rattle.std.proofs.Common.{refl}
use Rattle.table.specs.Rows.{edge_of}
use Rattle.table.proofs.Rows.{edge_path}
use Rattle.table.proofs.edge_at.Goals as goal

pub returns : goal.returns
unfolding edge_of
returns c = edge_path _ _ refl refl c.word.ensures c.word-2.ensures

use Rattle.std.proofs.Common.{sym, subst}
use Rattle.table.specs.Ends.{Ends}
use Rattle.table.specs.Rows.{ends_of}
use Rattle.table.proofs.row_at.Goals as goal

pub invariant_of-result : goal.invariant_of-result
invariant_of-result c = record { ends = subst Ends (sym c.edge_at.ensures) (ends_of c.args.rows.now c.args.k) }

use Rattle.std.proofs.Common.{refl, inl, inr}
use Rattle.table.proofs.Index.{found_some, found_none}
use Rattle.table.proofs.Table.add.Goals as goal

pub returns-then-is_none-clause-added : goal.returns-then-is_none-clause-added
returns-then-is_none-clause-added c = inr (found_none c.args.self.now c.args.row.edge c.find.result c.find.ensures c.if-is_none.ensures, c.push.ensures.pushed)

pub returns-else-is_none-clause-added : goal.returns-else-is_none-clause-added
returns-else-is_none-clause-added c = inl (found_some c.args.self.now c.args.row.edge c.find.result c.find.ensures c.if-is_none.ensures, refl)

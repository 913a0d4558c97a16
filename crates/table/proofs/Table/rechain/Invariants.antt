use Rattle.std.proofs.Common.{◌≡◌, ℕ}
use Rattle.table.specs.Rows.{row_at}
use Rattle.table.specs.Tables.{IsChained, IsSameMemory}
use Rattle.table.proofs.Table.rechain.Given as goal

abbrev pub invariant-loop-k : goal.invariant-loop-k
invariant-loop-k l = record {
  memory : IsSameMemory l.fn.self l.self;
  chained : IsChained l.self;
  chains : l.self.chains ≡ l.chains;
  count : l.self.count ≡ l.k;
  kept : (j : ℕ) → row_at l.self.rows.now j ≡ row_at l.fn.self.rows.now j;
}

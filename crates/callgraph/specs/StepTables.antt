-- Steps that are listed in lent words.
use Rattle.std.specs.Prelude.{◌≡◌, length}
use Rattle.callgraph.specs.declared.steps.StepTable.{StepTable}

-- the same rows were lent to both
pub record IsSameMemory (t t' : StepTable) : Type 0 where
  pub rows : t'.rows.ghost_name ≡ t.rows.ghost_name
  pub words : length t'.rows.now ≡ length t.rows.now

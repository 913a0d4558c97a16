-- The points that an edge leads from and to.
use Rattle.std.specs.Prelude.{ℕ, ◌<◌}
use Rattle.table.specs.declared.Edge.{Edge}

abbrev pub points : ℕ
points = 64

-- both ends are points
pub record Ends (e : Edge) : Type 0 where
  pub caller_below : e.caller < points
  pub callee_below : e.callee < points

-- What a table in lent words is.
use Rattle.std.specs.Prelude.{◌≡◌, ℕ, ◌*◌, ◌<◌, ◌≤◌, ◌≢◌, List, length, Option, Some, None}
use Rattle.table.specs.declared.Edge.{Edge}
use Rattle.table.specs.declared.row.Row.{Row}
use Rattle.table.specs.declared.Table.{Table}
use Rattle.table.specs.Rows.{edge_of, rows, width}
use Rattle.table.specs.Index.{Chained}

abbrev pub list_of : Table → List Row
list_of t = rows t.rows.now t.count

-- its rows are there, and each is found by its chain
pub record IsChained (t : Table) : Type 0 where
  pub room : width * t.count ≤ length t.rows.now
  pub chained : Chained t.rows.now t.heads.now t.chains t.count

-- the same words were lent to both
pub record IsSameMemory (t t' : Table) : Type 0 where
  pub rows : t'.rows.ghost_name ≡ t.rows.ghost_name
  pub heads : t'.heads.ghost_name ≡ t.heads.ghost_name
  pub words : length t'.rows.now ≡ length t.rows.now
  pub some_heads : length t'.heads.now ≡ length t.heads.now

-- the place of e among the first n rows, if it is there
abbrev pub FoundAmong : List ℕ → ℕ → Edge → Option ℕ → Type 0
FoundAmong xs n e (Some k) = (k < n) × (edge_of xs k ≡ e)
FoundAmong xs n e None = (j : ℕ) → j < n → edge_of xs j ≢ e

abbrev pub Found : Table → Edge → Option ℕ → Type 0
Found t e o = FoundAmong t.rows.now t.count e o

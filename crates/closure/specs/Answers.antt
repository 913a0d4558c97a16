-- What the answers say.
use Rattle.std.specs.Prelude.{◌≡◌, ℕ, ◌<◌, ◌≤◌, List, length, Some, None, Option, Ok, Err, Result}
use Rattle.sizechange.specs.Graph.{Step, HasReason, Way1, Ways}
use Rattle.sizechange.specs.Theorems.{Fine}
use Rattle.graphs.specs.Words.{places}
use Rattle.table.specs.declared.row.Row.{Row}
use Rattle.table.specs.Ends.{points}
use Rattle.table.specs.Rows.{edge_of, rows}
use Rattle.closure.specs.declared.TooMany.{TooMany}
use Rattle.closure.specs.Ways.{Grown, Complete, RowsOfSteps, RowsOfWays, Sound, Fails}

-- the table has all the ways of the steps, n of them, in breadth-first order
pub record Whole (ts : List Row) (limit : ℕ) (xs : List ℕ) (n : ℕ) : Type 0 where
  pub fits : n ≤ limit
  pub grown : Grown ts (rows xs n)
  pub complete : Complete ts (rows xs n)
  pub ways : (ss : List Step) → RowsOfSteps ts ss → (ws : List Way1) × Ways ss ws × (length ws ≡ n) × RowsOfWays (rows xs n) ws

abbrev pub ClosedBy : List Row → ℕ → List ℕ → Result ℕ TooMany → Type 0
ClosedBy ts limit xs (Ok n) = Whole ts limit xs n
ClosedBy ts limit xs (Err _) = (ss : List Step) → RowsOfSteps ts ss → (ws : List Way1) × Ways ss ws × (limit < length ws)

-- the first of n ways that fails, if one does
abbrev pub FirstFailing : List ℕ → ℕ → Option ℕ → Type 0
FirstFailing xs n (Some k) = (k < n) × Fails (edge_of xs k) × ((j : ℕ) → j < k → Sound (edge_of xs j))
FirstFailing xs n None = (j : ℕ) → j < n → Sound (edge_of xs j)

-- so the reason is decided, if the table has all the ways
abbrev pub ReasonBy : List Step → Option ℕ → Type 0
ReasonBy ss (Some k) = HasReason ss → ⊥
ReasonBy ss None = HasReason ss

abbrev pub DecidesReason : List ℕ → ℕ → Option ℕ → Type 0
DecidesReason xs n r = (ss : List Step) (ws : List Way1) → Fine points places ss → Ways ss ws → RowsOfWays (rows xs n) ws → ReasonBy ss r

-- What the words of a table say.
use Rattle.std.specs.Prelude.{◌≡◌, ℕ, zero, suc, ◌+◌, ◌*◌, ◌/◌, ◌%◌, ◌^◌, List, [], ◌∷◌, ◌++◌, slice_index}
use Rattle.std.proofs.Common.{arith}
use Rattle.table.specs.declared.Edge.{Edge}
use Rattle.table.specs.declared.row.Row.{Row}
use Rattle.table.specs.Ends.{Ends, points}

-- how many words a row has
abbrev pub width : ℕ
width = 8

-- word p of row k
abbrev pub cell : List ℕ → ℕ → ℕ → ℕ
cell xs k p = slice_index xs (width * k + p)

-- two words of `any` and two of `part`, the low one first, and both ends in one
unfoldable pub edge_of : List ℕ → ℕ → Edge
edge_of xs k = record {
  caller = cell xs k 4 / points % points;
  callee = cell xs k 4 % points;
  graph = record { any = cell xs k 0 + cell xs k 1 * 2 ^ 32; part = cell xs k 2 + cell xs k 3 * 2 ^ 32 };
}

-- both ends that a row says are points
pub ends_of : (xs : List ℕ) (k : ℕ) → Ends (edge_of xs k)
unfolding edge_of
ends_of xs k = record { caller_below = omega arith; callee_below = omega arith }

abbrev pub row_at : List ℕ → ℕ → Row
row_at xs k = record { edge = edge_of xs k; from = cell xs k 5; step = cell xs k 6; ends = ends_of xs k }

abbrev pub link_at : List ℕ → ℕ → ℕ
link_at xs k = cell xs k 7

-- the first n rows
abbrev pub rows : List ℕ → ℕ → List Row
rows xs zero = []
rows xs (suc n) = rows xs n ++ row_at xs n ∷ []

-- row j is the same in both
pub record SameRow (xs ys : List ℕ) (j : ℕ) : Type 0 where
  pub row : row_at ys j ≡ row_at xs j
  pub link : link_at ys j ≡ link_at xs j

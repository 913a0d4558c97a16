-- The steps of a way, and the words that its calls are written to.
use Rattle.std.specs.Prelude.{◌≡◌, ℕ, suc, ◌+◌, ◌*◌, ◌<◌, ◌≤◌, List, [], ◌∷◌, ◌++◌, length, ◌≢◌, slice_index, slice_index_or}
use Rattle.std.proofs.Math.Option.{some}
use Rattle.sizechange.specs.Graph.{nth}
use Rattle.lang.specs.Circle.{Call}
use Rattle.table.specs.declared.slice.RowSlice.{RowSlice}
use Rattle.table.specs.Rows.{row_at, rows}
use Rattle.closure.specs.Parts.{caller}
use Rattle.closure.specs.Ways.{Grown}

-- the steps of a way by their places, one more than the way's being given; 0 is the way of no steps
pub data Path (xs : List ℕ) : ℕ → List ℕ → Type 0 where
  start : Path xs 0 []
  on : {k : ℕ} {is : List ℕ} → Path xs (row_at xs k).from is → Path xs (suc k) (is ++ (row_at xs k).step ∷ [])

-- the table of ways has grown from that of the steps, and way k is there
pub record Traced (steps ways : RowSlice) (k : ℕ) : Type 0 where
  pub there : k < ways.count
  pub grown : Grown (rows steps.words.now steps.count) (rows ways.words.now ways.count)

-- r rows right before row i have its caller, and no more
pub record Run (xs : List ℕ) (i r : ℕ) : Type 0 where
  pub most : r ≤ i
  pub same : (j : ℕ) → i ≤ j + r → j < i → caller xs j ≡ caller xs i
  pub stop : (j : ℕ) → j + suc r ≡ i → caller xs j ≢ caller xs i

-- step i is named by two words: its function, and its number in the function's body
pub record Names (steps words : List ℕ) (place i : ℕ) : Type 0 where
  pub function : slice_index_or words (2 * place) 0 ≡ caller steps i
  pub number : Run steps i (slice_index words (2 * place + 1))

-- the steps from number `at` on are named, as many as there are words for
abbrev pub Named : List ℕ → List ℕ → ℕ → List ℕ → Type 0
Named steps is at ws = (j i : ℕ) → nth is (at + j) ≡ some i → 2 * j + 1 < length ws → Names steps ws j i

-- calls from number `at` on, as many as there are words for
abbrev pub Part : List Call → ℕ → List ℕ → Type 0
Part cs at ws = (j : ℕ) (c : Call) → nth cs (at + j) ≡ some c → 2 * j + 1 < length ws → (slice_index ws (2 * j) ≡ c.function) × (slice_index ws (2 * j + 1) ≡ c.number)

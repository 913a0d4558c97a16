-- Which nodes are numbers.
use Rattle.std.specs.Prelude.{◌≡◌, ℕ, zero, suc, ◌<◌, List, Some, None, Option, slice_index, unwrap_or}
use Rattle.arena.specs.Nodes.{tree}
use Rattle.showing.specs.Shown.{after, as_number}

-- for each node up to the last its number, or 0
abbrev pub Numbers : List ℕ → ℕ → List ℕ → Type 0
Numbers ws last vs = (k : ℕ) → k < last → slice_index vs k ≡ unwrap_or (as_number (tree ws (suc k))) 0

-- the number that a word stands for
abbrev pub word_number : ℕ → Option ℕ
word_number zero = None
word_number (suc n) = Some (suc n)

-- the number of a node by the words
abbrev pub number_in : List ℕ → ℕ → Option ℕ
number_in vs zero = Some 0
number_in vs (suc k) = word_number (slice_index vs k)

-- the number of a node by its left part and the number of its right part
abbrev pub number_by : ℕ → Option ℕ → Option ℕ
number_by zero right = after right
number_by (suc l) right = None

-- A stack in lent memory.
use Rattle.std.specs.Prelude.{ℕ, List, take, reverse}

-- the values on a stack, the newest first, and how many fit
pub record Contents (T : Type 0) : Type 0 where
  pub items : List T
  pub capacity : ℕ

-- the first n values of a list, the last of them first
abbrev pub newest : {T : Type 0} → List T → ℕ → List T
newest xs n = reverse (take n xs)

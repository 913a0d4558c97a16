-- What is noted at the start of an expression about the variables that it sees.
use Rattle.std.specs.Prelude.{◌≡◌, ℕ, zero, suc, ◌+◌, ◌*◌, ◌/◌, ◌%◌, List, ◌∷◌, slice_index}
use Rattle.std.proofs.Math.Option.{Option}
use Rattle.lang.specs.Steps.{From}
use Rattle.origins.specs.Origins.{from_of, in_view}

-- how many variables are around it, how many new ones it sees, and the word of those
unfoldable pub outer_at : List ℕ → ℕ → ℕ
outer_at xs j = slice_index xs (2 * j) / 4

unfoldable pub new_at : List ℕ → ℕ → ℕ
new_at xs j = slice_index xs (2 * j) % 4

unfoldable pub word_at : List ℕ → ℕ → ℕ
word_at xs j = slice_index xs (2 * j + 1)

pub record Noted (xs : List ℕ) (j outer new : ℕ) (origin : Option From) : Type 0 where
  pub outer_is : outer_at xs j ≡ outer
  pub new_is : new_at xs j ≡ new
  pub origin_is : from_of (word_at xs j) ≡ origin

-- the note at a place is the same in ys as in xs
pub record SameNote (xs ys : List ℕ) (j : ℕ) : Type 0 where
  pub outer_is : outer_at ys j ≡ outer_at xs j
  pub new_is : new_at ys j ≡ new_at xs j
  pub word_is : word_at ys j ≡ word_at xs j

-- n new variables of one origin
abbrev pub newer : ℕ → Option From → List (Option From) → List (Option From)
newer zero k ks = ks
newer (suc n) k ks = k ∷ newer n k ks

-- what is known of the variables that the expression at a place sees
abbrev pub seen : List ℕ → List ℕ → ℕ → List (Option From)
seen known views j = newer (new_at views j) (from_of (word_at views j)) (in_view known (outer_at views j))

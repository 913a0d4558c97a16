-- Where expressions end.
use Rattle.std.specs.Prelude.{◌≡◌, ℕ, ◌<◌, ◌≤◌, List, length, drop, Some, None, Option, slice_index}
use Rattle.lang.specs.Program.{Expr, Exprs}
use Rattle.lang.specs.Reads.{Reads, ReadsAll}

-- n expressions stand at j in the bytes s and end at k; or none of that number does
abbrev pub EndOfAll : List ℕ → ℕ → ℕ → Option ℕ → Type 0
EndOfAll s n j (Some k) = (k ≤ length s) × (j ≤ k) × (es : Exprs) × ReadsAll n (drop j s) es (drop k s)
EndOfAll s n j None = (es : Exprs) (x : List ℕ) → ReadsAll n (drop j s) es x → ⊥

-- the same of one expression
abbrev pub EndOf : List ℕ → ℕ → Option ℕ → Type 0
EndOf s j (Some k) = (k ≤ length s) × (j < k) × (e : Expr) × Reads (drop j s) e (drop k s)
EndOf s j None = (e : Expr) (x : List ℕ) → Reads (drop j s) e x → ⊥

-- a word of the table of ends: where the expression ends, or 0 where none stands
pub record EndWord (s : List ℕ) (j w : ℕ) : Type 0 where
  pub none : w ≡ 0 → EndOf s j None
  pub some : 0 < w → EndOf s j (Some w)

-- the table is right from i on
abbrev pub EndsFrom : List ℕ → List ℕ → ℕ → Type 0
EndsFrom s ends i = (j : ℕ) → i ≤ j → j < length s → EndWord s j (slice_index ends j)

-- What a table of ends says of the expressions that stand in a script.
use Rattle.std.specs.Prelude.{◌≡◌, ℕ, ◌<◌, ◌≤◌, List, length, drop, Some, None, Option, slice_index}
use Rattle.lang.specs.Program.{Expr}
use Rattle.lang.specs.Reads.{Reads}

-- an expression that stands at j ends at w; if w is 0, none stands there
pub record SaysEnd (s : List ℕ) (j w : ℕ) : Type 0 where
  pub none : w ≡ 0 → (e : Expr) (x : List ℕ) → Reads (drop j s) e x → ⊥
  pub forward : 0 < w → j < w
  pub within : w ≤ length s
  pub rest : (e : Expr) (x : List ℕ) → Reads (drop j s) e x → x ≡ drop w s

-- so at each place
abbrev pub SaysEnds : List ℕ → List ℕ → Type 0
SaysEnds s ends = (j : ℕ) → j < length s → SaysEnd s j (slice_index ends j)

-- an expression that stands at j ends at k; or none stands there
abbrev pub EndsAt : List ℕ → ℕ → Option ℕ → Type 0
EndsAt s j (Some k) = (k ≤ length s) × (j < k) × ((e : Expr) (x : List ℕ) → Reads (drop j s) e x → x ≡ drop k s)
EndsAt s j None = (e : Expr) (x : List ℕ) → Reads (drop j s) e x → ⊥

-- what the table's word for j says
abbrev pub Said : List ℕ → List ℕ → ℕ → Option ℕ → Type 0
Said s ends j (Some k) = (j < length s) × (k ≡ slice_index ends j) × (0 < k)
Said s ends j None = j < length s → slice_index ends j ≡ 0

-- The text of a program that ends, with its tables.
use Rattle.std.specs.Prelude.{◌≡◌, ℕ, ◌<◌, ◌≤◌, T, List, ◌++◌, length, drop}
use Rattle.std.proofs.Math.Option.{some}
use Rattle.sizechange.specs.Graph.{nth}
use Rattle.lang.specs.Program.{Expr, Fun, Prog}
use Rattle.lang.specs.Bytes.{bytes_of_expr, takes, Program}
use Rattle.lang.specs.Reads.{Reads}
use Rattle.lang.specs.Steps.{EndsForAReason}
use Rattle.reading.specs.Tables.{Tables}

-- the bytes s are a program that has the reason, and the tables are its
pub record Ending (s ends starts : List ℕ) : Type 0 where
  pub prog : Prog
  pub why : EndsForAReason prog
  pub tables : Tables s prog ends starts (length prog)
  pub all_ends : length s ≤ length ends
  pub all_starts : length prog ≤ length starts

-- every expression that stands at a place ends at k
pub record EndsAt (s : List ℕ) (at k : ℕ) : Type 0 where
  pub after : at < k
  pub ends : (e : Expr) (x : List ℕ) → Reads (drop at s) e x → x ≡ drop k s

-- the body of function f stands at k
abbrev pub Body : List ℕ → ℕ → ℕ → Type 0
Body s f k = (p : Prog) (g : Fun) → Program s p → nth p f ≡ some g → bytes_of_expr g.body ++ drop (length (bytes_of_expr g.body)) (drop k s) ≡ drop k s

-- an expression stands at a place; a function has number f
abbrev pub Standing : List ℕ → ℕ → Type 0
Standing s at = (p : Prog) → Program s p → (e : Expr) × (x : List ℕ) × Reads (drop at s) e x

abbrev pub Numbered : List ℕ → ℕ → Type 0
Numbered s f = (p : Prog) → Program s p → (g : Fun) × (nth p f ≡ some g)

-- function f takes n arguments
abbrev pub Taking : List ℕ → ℕ → ℕ → Type 0
Taking s f n = (p : Prog) → Program s p → T (takes (nth p f) n)

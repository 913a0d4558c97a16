-- Well-formed expressions at places of a script.
use Rattle.std.specs.Prelude.{ℕ, zero, suc, ◌+◌, ◌*◌, ◌<◌, ◌≤◌, T, List, length, drop, slice_index}
use Rattle.lang.specs.Program.{Expr, Exprs, Prog, max_args, max_bytes, max_functions}
use Rattle.lang.specs.Bytes.{ok, oks}
use Rattle.lang.specs.Reads.{Reads, ReadsAll}

-- the script is not too long, and there are words for the variables in view and for the notes
pub record Room (s : List ℕ) (known views : ℕ) : Type 0 where
  pub few : length s ≤ max_bytes
  pub words : max_args + length s + 2 ≤ known
  pub notes : 2 * length s ≤ views

-- an expression is written at a place of the bytes s
pub record ReadsAt (s : List ℕ) (at : ℕ) : Type 0 where
  pub expression : Expr
  pub rest : List ℕ
  pub reads : Reads (drop at s) expression rest

-- the expression e stands at a place of the bytes s and ends at k; with so many variables in view it is well-formed in p
pub record Standing (p : Prog) (s : List ℕ) (vars at : ℕ) (e : Expr) (k : ℕ) : Type 0 where
  pub reads : Reads (drop at s) e (drop k s)
  pub forward : at < k
  pub within : k ≤ length s
  pub well : T (ok p vars e)

-- n expressions, one after the other
pub record StandingAll (p : Prog) (s : List ℕ) (vars at n : ℕ) (es : Exprs) (k : ℕ) : Type 0 where
  pub reads : ReadsAll n (drop at s) es (drop k s)
  pub within : k ≤ length s
  pub well : T (oks p vars es)

-- some expression of a program stands there
pub record Stands (s : List ℕ) (vars at : ℕ) : Type 0 where
  pub program : Prog
  pub few : length program ≤ max_functions
  pub expression : Expr
  pub end : ℕ
  pub there : Standing program s vars at expression end

pub record StandAll (s : List ℕ) (vars at n : ℕ) : Type 0 where
  pub program : Prog
  pub few : length program ≤ max_functions
  pub expressions : Exprs
  pub end : ℕ
  pub there : StandingAll program s vars at n expressions end

-- where i expressions lead to from a place
abbrev pub hop : List ℕ → ℕ → ℕ → ℕ
hop ends at zero = at
hop ends at (suc i) = hop ends (slice_index ends at) i

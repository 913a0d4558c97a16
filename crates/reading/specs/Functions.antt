-- Functions one after the other, and where they start.
use Rattle.std.specs.Prelude.{◌≡◌, ℕ, ◌+◌, ◌<◌, ◌≤◌, List, [], ◌∷◌, length, drop, Some, None, Option, slice_index, slice_index_or}
use Rattle.std.proofs.Math.Option as opt
use Rattle.sizechange.specs.Graph.{nth}
use Rattle.lang.specs.Program.{Expr, Fun, Prog, max_args, max_functions}
use Rattle.lang.specs.Reads.{Reads}

-- xs are the functions gs, whose bodies may still have variables and calls that are not there
pub data Functions : List ℕ → List Fun → Type 0 where
  f_none : Functions [] []
  f_more : {xs ys : List ℕ} {n : ℕ} {e : Expr} {gs : List Fun} → n ≤ max_args → Reads xs e ys → Functions ys gs → Functions (n ∷ xs) (record { args = n; body = e } ∷ gs)

-- function g stands at a place: its number of arguments, and its body after it
pub record StandsAt (s : List ℕ) (g : Fun) (at : ℕ) : Type 0 where
  pub within : at < length s
  pub args_there : slice_index_or s at 0 ≡ g.args
  pub rest : List ℕ
  pub body_there : Reads (drop (at + 1) s) g.body rest

-- the starts of the functions, in order
abbrev pub Starts : List ℕ → List Fun → List ℕ → Type 0
Starts s p starts = (f : ℕ) (g : Fun) → nth p f ≡ opt.some g → StandsAt s g (slice_index starts f)

-- the bytes s are the functions p, and n of them are found
pub record Found (s : List ℕ) (p : Prog) (starts : List ℕ) (n : ℕ) : Type 0 where
  pub functions : Functions s p
  pub number : length p ≡ n
  pub few : n ≤ max_functions
  pub starting : Starts s p starts

abbrev pub FoundOr : List ℕ → List ℕ → Option ℕ → Type 0
FoundOr s starts (Some n) = (p : Prog) × Found s p starts n
FoundOr s starts None = (p : Prog) → Functions s p → max_functions < length p

-- The head of an expression: what its first bytes say.
use Rattle.std.specs.Prelude.{◌≡◌, ℕ, ◌+◌, ◌≤◌, List, [], ◌∷◌, ◌++◌, length, drop, Some, None, Option}
use Rattle.lang.specs.Program.{Expr}
use Rattle.lang.specs.Reads.{Reads}
use Rattle.reading.specs.declared.head.Head.{Head}
use Rattle.reading.specs.declared.head.Head.TheVariants.{Var, Leaf, Node, Parts, Bind, Call}

abbrev pub bytes_of_head : Head → List ℕ
bytes_of_head (Var i) = 0 ∷ i ∷ []
bytes_of_head Leaf = 1 ∷ []
bytes_of_head Node = 2 ∷ []
bytes_of_head (Parts i) = 3 ∷ i ∷ []
bytes_of_head Bind = 4 ∷ []
bytes_of_head (Call f n) = 5 ∷ f ∷ n ∷ []

-- how many bytes the head has, and how many expressions follow it
abbrev pub width_of : Head → ℕ
width_of (Var i) = 2
width_of Leaf = 1
width_of Node = 1
width_of (Parts i) = 2
width_of Bind = 1
width_of (Call f n) = 3

abbrev pub arity_of : Head → ℕ
arity_of (Var i) = 0
arity_of Leaf = 0
arity_of Node = 2
arity_of (Parts i) = 2
arity_of Bind = 2
arity_of (Call f n) = n

-- at a place of the bytes s stands the head; or no expression stands there
abbrev pub HeadAt : List ℕ → ℕ → Option Head → Type 0
HeadAt s at (Some h) = (at + width_of h ≤ length s) × (drop at s ≡ bytes_of_head h ++ drop (at + width_of h) s)
HeadAt s at None = (e : Expr) (x : List ℕ) → Reads (drop at s) e x → ⊥

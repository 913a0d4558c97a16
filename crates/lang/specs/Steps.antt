-- The call graph of a program: each call in a body is a step, with an arc for each argument given that is an argument of the caller or a part of one.
-- Steps count wherever they stand, whether they can be reached or not.
use Rattle.std.specs.Prelude.{ℕ, zero, suc, ◌+◌, List, [], ◌∷◌, ◌++◌}
use Rattle.std.proofs.Math.Option.{Option, some, none}
use Rattle.sizechange.specs.Graph.{Arc, Step, HasReason, Way1, Ways}
use Rattle.lang.specs.Program.{Expr, var, a_leaf, a_node, parts, bind, call, Exprs, nil, cons, Fun, Prog}

-- where a variable comes from: argument arg, the same (how is 1) or a part of it (how is 2)
pub record From : Type 0 where
  pub arg : ℕ
  pub how : ℕ

-- what is known of variable i, by a list of what is known of each, the newest first
abbrev pub known : List (Option From) → ℕ → Option From
known [] i = none
known (k ∷ ks) zero = k
known (k ∷ ks) (suc i) = known ks i

-- a part of an argument, or of a part of it, is a part of the argument
abbrev pub part : Option From → Option From
part none = none
part (some k) = some (record { arg = k.arg; how = 2 })

-- a bound variable is known if what it is bound to is a variable that is
abbrev pub origin : List (Option From) → Expr → Option From
origin ks (var i) = known ks i
origin ks a_leaf = none
origin ks (a_node a b) = none
origin ks (parts i a b) = none
origin ks (bind a b) = none
origin ks (call f es) = none

-- the arcs to the arguments given, the first of which is argument j
abbrev pub arc : ℕ → Option From → List Arc
arc j none = []
arc j (some k) = record { from = k.arg; to = j; how = k.how } ∷ []

abbrev pub arcs : List (Option From) → ℕ → Exprs → List Arc
arcs ks j nil = []
arcs ks j (cons e es) = arc j (origin ks e) ++ arcs ks (j + 1) es

-- the steps in an expression of function f, in the order of its bytes
abbrev mutual
  pub steps : ℕ → List (Option From) → Expr → List Step
  steps f ks (var i) = []
  steps f ks a_leaf = []
  steps f ks (a_node a b) = steps f ks a ++ steps f ks b
  steps f ks (parts i a b) = steps f ks a ++ steps f (part (known ks i) ∷ part (known ks i) ∷ ks) b
  steps f ks (bind a b) = steps f ks a ++ steps f (origin ks a ∷ ks) b
  steps f ks (call g es) = record { caller = f; callee = g; arcs = arcs ks 0 es } ∷ steps_all f ks es

  pub steps_all : ℕ → List (Option From) → Exprs → List Step
  steps_all f ks nil = []
  steps_all f ks (cons e es) = steps f ks e ++ steps_all f ks es

-- at the start of a body each argument is known to be itself
abbrev pub given : ℕ → ℕ → List (Option From)
given i zero = []
given i (suc n) = some (record { arg = i; how = 1 }) ∷ given (i + 1) n

-- the steps of functions, the first of which is function f
abbrev pub all_steps : ℕ → List Fun → List Step
all_steps f [] = []
all_steps f (g ∷ gs) = steps f (given 0 g.args) g.body ++ all_steps (f + 1) gs

-- the call graph of a program; the reason; the list of all its ways
abbrev pub call_graph : Prog → List Step
call_graph p = all_steps 0 p

abbrev pub EndsForAReason : Prog → Type 0
EndsForAReason p = HasReason (call_graph p)

abbrev pub WaysOf : Prog → List Way1 → Type 0
WaysOf p ws = Ways (call_graph p) ws

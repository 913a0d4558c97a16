-- What is yet to be visited of a body.
use Rattle.std.specs.Prelude.{ℕ, ◌+◌, ◌≤◌, List, [], ◌∷◌, ◌++◌, length}
use Rattle.std.proofs.Math.Option.{Option}
use Rattle.sizechange.specs.Graph.{Step}
use Rattle.lang.specs.Program.{Expr, var, a_leaf, a_node, parts, bind, call, Prog, max_args, max_functions}
use Rattle.lang.specs.Steps.{From, known as of_variable, part, origin, arcs, steps, steps_all}
use Rattle.origins.specs.Origins.{in_view}
use Rattle.origins.specs.Views.{outer_at, new_at, seen}
use Rattle.callgraph.specs.Standing.{ReadsAt, Standing}

-- the step of an expression that is a call; the steps in the parts of an expression
abbrev pub own : ℕ → List (Option From) → Expr → List Step
own f ks (var i) = []
own f ks a_leaf = []
own f ks (a_node a b) = []
own f ks (parts i a b) = []
own f ks (bind a b) = []
own f ks (call g es) = record { caller = f; callee = g; arcs = arcs ks 0 es } ∷ []

abbrev pub inner : ℕ → List (Option From) → Expr → List Step
inner f ks (var i) = []
inner f ks a_leaf = []
inner f ks (a_node a b) = steps f ks a ++ steps f ks b
inner f ks (parts i a b) = steps f ks a ++ steps f (part (of_variable ks i) ∷ part (of_variable ks i) ∷ ks) b
inner f ks (bind a b) = steps f ks a ++ steps f (origin ks a ∷ ks) b
inner f ks (call g es) = steps_all f ks es

-- an expression waits at a place, where it is noted what it sees: at most b variables are around it
pub record Waits (p : Prog) (s views : List ℕ) (b at : ℕ) (e : Expr) (k : ℕ) : Type 0 where
  pub stands : Standing p s (outer_at views at + new_at views at) at e k
  pub around : outer_at views at ≤ b
  pub few : new_at views at ≤ 2
  pub room : outer_at views at + new_at views at ≤ max_args + at

-- expressions wait one after the other from a place to the end of a body of function f, and ss are their steps.
-- None has more variables around it than those before it, so that what comes into view for one is not around a later one.
pub data Pending (p : Prog) (s views known : List ℕ) (f end : ℕ) : ℕ → ℕ → List Step → Type 0 where
  p_none : {b : ℕ} → Pending p s views known f end b end []
  p_more : {b at k : ℕ} {e : Expr} {ss : List Step} → Waits p s views b at e k → Pending p s views known f end (outer_at views at) k ss → Pending p s views known f end b at (steps f (seen known views at) e ++ ss)

-- with the expression at a place visited, its parts wait from `inside` on
abbrev pub PartsWait : List ℕ → ℕ → ℕ → ℕ → List ℕ → List ℕ → List ℕ → Type 0
PartsWait s vars at inside known views views₁ = (p : Prog) (f end : ℕ) (e : Expr) (k : ℕ) (ss : List Step) → Standing p s vars at e k → Pending p s views known f end vars k ss → Pending p s views₁ known f end vars inside (inner f (in_view known vars) e ++ ss)

-- some expressions of a program wait from a place on, where one stands
pub record Walk (s views known : List ℕ) (f end at : ℕ) : Type 0 where
  pub program : Prog
  pub few : length program ≤ max_functions
  pub reads : ReadsAt s at
  pub bound : ℕ
  pub their_steps : List Step
  pub waiting : Pending program s views known f end bound at their_steps

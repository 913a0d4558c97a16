-- The theorems about ways and about chains of states, as types.
use Rattle.std.specs.Prelude.{◌≡◌, ℕ, ◌<◌, ◌≤◌, List, length}
use Rattle.std.proofs.Math.Option.{some}
use mathlib.Core.WellFounded.{Acc}
use Rattle.sizechange.specs.Graph.{Arc, Step, In, nth, compose, HasReason, Way1, Listed, Different, Ways}

-- a call graph with points below n and places below k, all arcs the same or a part
pub record FineArc (k : ℕ) (a : Arc) : Type 0 where
  pub from_below : a.from < k
  pub to_below : a.to < k
  pub some_how : 1 ≤ a.how
  pub how_most : a.how ≤ 2

pub record FineStep (n k : ℕ) (s : Step) : Type 0 where
  pub caller_below : s.caller < n
  pub callee_below : s.callee < n
  pub arcs_fine : (a : Arc) → In a s.arcs → FineArc k a

abbrev pub Fine : ℕ → ℕ → List Step → Type 0
Fine n k ss = (s : Step) → In s ss → FineStep n k s

-- a state: a point, and the size of what each place holds
pub record State : Type 0 where
  pub point : ℕ
  pub size : ℕ → ℕ

-- an arc fits two sizes: the same is no larger, a part is smaller
pub record Fits (how small big : ℕ) : Type 0 where
  pub no_larger : small ≤ big
  pub smaller : 2 ≤ how → small < big

-- the arcs hold between the sizes before and the sizes after
abbrev pub Holds : (ℕ → ℕ) → (ℕ → ℕ) → List Arc → Type 0
Holds before after as₁ = (a : Arc) → In a as₁ → Fits a.how (after a.to) (before a.from)

-- y comes after x by one step
pub record Next (ss : List Step) (y x : State) : Type 0 where
  pub step : Step
  pub is_step : In step ss
  pub leaves : step.caller ≡ x.point
  pub enters : step.callee ≡ y.point
  pub holds : Holds x.size y.size step.arcs

-- with the reason no chain of states is endless: every state is accessible
abbrev pub NoEndlessChain : Type 0
NoEndlessChain = (n k : ℕ) (ss : List Step) → Fine n k ss → HasReason ss → (x : State) → Acc (Next ss) x

-- there is a list of all ways
abbrev pub FiniteWays : Type 0
FiniteWays = (n k : ℕ) (ss : List Step) → Fine n k ss → (ws : List Way1) × Ways ss ws

-- a list of different ways that has every step and, with each way, that way followed by each step that fits
pub record Closed (ss : List Step) (ws : List Way1) : Type 0 where
  pub different : Different ss ws
  pub has_steps : (s : Step) → In s ss → Listed ws s.caller s.callee s.arcs
  pub has_more : (i : ℕ) (w : Way1) (s : Step) → nth ws i ≡ some w → In s ss → s.caller ≡ w.callee → Listed ws w.caller s.callee (compose w.arcs s.arcs)

abbrev pub ClosedIsAll : Type 0
ClosedIsAll = (n k : ℕ) (ss : List Step) (ws : List Way1) → Fine n k ss → Closed ss ws → Ways ss ws

-- no list of different ways is longer than that of all ways; so two lists of all ways have the same length: the number of ways is a fact about the call graph
abbrev pub DifferentAreFewer : Type 0
DifferentAreFewer = (ss : List Step) (vs ws : List Way1) → Different ss vs → Ways ss ws → length vs ≤ length ws

abbrev pub OneNumber : Type 0
OneNumber = (ss : List Step) (ws vs : List Way1) → Ways ss ws → Ways ss vs → length ws ≡ length vs

-- from the list of all ways it is decided whether there is the reason
abbrev pub Decided : Type 0
Decided = (n k : ℕ) (ss : List Step) (ws : List Way1) → Fine n k ss → Ways ss ws → Dec (HasReason ss)

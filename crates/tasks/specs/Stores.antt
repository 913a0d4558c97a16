-- What is in the store: nodes, and the variables in frames.
use Rattle.std.specs.Prelude.{◌≡◌, ℕ, ◌+◌, ◌-◌, ◌*◌, ◌<◌, ◌≤◌, Bool, true, false, cond, List, map, length, take, drop, slice_index, Result, Ok, Err}
use Rattle.lang.specs.Program.{Tree}
use Rattle.lang.specs.Eval.{Outcome, val, full, deep, Outcomes, vals, no_vals, Mode, tail, inner}
use Rattle.tasks.specs.Tasks.{Task, expr, list}
use Rattle.arena.specs.Nodes.{tree, env, Grown}
use Rattle.arena.specs.declared.nodes.NodeId.{NodeId}
use Rattle.tasks.specs.declared.store.Store.{Store}
use Rattle.tasks.specs.declared.store.Stop.{Stop}
use Rattle.tasks.specs.declared.store.Stop.TheVariants.{Full, Deep}
use Rattle.tasks.specs.declared.words.Given.{Given}

-- the tree of a number
abbrev pub tree_of : Store → NodeId → Tree
tree_of st v = tree st.arena.nodes.now v.0

-- the variables in view are in the frame from base to top, the newest last
abbrev pub frame : Store → ℕ → ℕ → List Tree
frame st base top = env st.arena.nodes.now (drop base st.frames.now) (top - base)

abbrev pub room : Store → ℕ
room st = st.arena.limit - st.arena.used

-- the outcome without a value
abbrev pub stopped : Stop → Outcome
stopped Full = full
stopped Deep = deep

-- a result in memory as an outcome
abbrev pub comes_to : Store → Result NodeId Stop → Outcome
comes_to st (Ok v) = val (tree_of st v) (room st)
comes_to st (Err e) = stopped e

-- the same for n arguments
abbrev pub come_to : Store → Result Given Stop → ℕ → Outcomes
come_to st (Ok g) n = vals (map (tree_of st) (take n g.0)) (room st)
come_to st (Err e) n = no_vals (stopped e)

-- every variable in the frame has a tree
pub record Ready (st : Store) (base top : ℕ) : Type 0 where
  pub ordered : base ≤ top
  pub old : (j : ℕ) → j < top - base → slice_index (drop base st.frames.now) j ≤ st.arena.used

-- the store has moved on: nodes have grown, and what lies below a place of the frames is as it was
pub record Moved (floor : ℕ) (st st' : Store) : Type 0 where
  pub limit : st'.arena.limit ≡ st.arena.limit
  pub grown : Grown st.arena.nodes.now st.arena.used st'.arena.nodes.now st'.arena.used
  pub words : length st'.frames.now ≡ length st.frames.now
  pub kept : (j : ℕ) → j < floor → slice_index st'.frames.now j ≡ slice_index st.frames.now j

-- the frame is now from base to top, and holds these trees; nothing below the floor has changed, nor have the nodes
pub record Held (floor : ℕ) (st st' : Store) (base top : ℕ) (ρ : List Tree) : Type 0 where
  pub moved : Moved floor st st'
  pub ready : Ready st' base top
  pub same : room st' ≡ room st
  pub holds : frame st' base top ≡ ρ

-- the task at a place, with the variables of a frame; the arguments there
abbrev pub mode : Bool → Mode
mode true = inner
mode false = tail

abbrev pub task : Store → ℕ → ℕ → ℕ → ℕ → Bool → Task
task st at base top depth inside = expr at (mode inside) depth (frame st base top) (room st)

abbrev pub tasks : Store → ℕ → ℕ → ℕ → ℕ → ℕ → Task
tasks st at base top depth n = list at n depth (frame st base top) (room st)

-- below this place of the frames the task changes nothing: inside, its own frame lasts
abbrev pub floor : Bool → ℕ → ℕ → ℕ
floor inside base top = cond inside top base

-- there are words enough: a variable more takes bytes of the body, of which there are fewer than 4,096 (at a body's start at most 8 variables and 4,095 bytes: 3 · 8 + 2 · 4,095 = 8,214); and 4,096 words for each call that may still be opened
pub record Wide (s : List ℕ) (words at base top depth : ℕ) : Type 0 where
  pub own : 3 * top + 2 * length s ≤ 8214 + 2 * at + 3 * base
  pub bytes : length s ≤ 4096
  pub others : base + 4096 * (depth + 1) ≤ words

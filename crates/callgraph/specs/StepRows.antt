-- Steps in rows of words.
use Rattle.std.specs.Prelude.{◌≡◌, ℕ, ◌/◌, List, [], ◌∷◌, length, Some, None, Option}
use Rattle.std.proofs.Math.Option as opt
use Rattle.sizechange.specs.Graph.{Step, nth}
use Rattle.graphs.specs.Words.{Words}
use Rattle.table.specs.declared.Edge.{Edge}
use Rattle.table.specs.declared.row.Row.{Row}
use Rattle.table.specs.Ends.{Ends}
use Rattle.table.specs.Rows.{row_at}

-- the edge is the step
pub record IsStep (e : Edge) (s : Step) : Type 0 where
  pub caller_is : e.caller ≡ s.caller
  pub callee_is : e.callee ≡ s.callee
  pub graph_is : Words e.graph s.arcs

-- row i is the step: its number is its own, and no way leads to it
pub record StepRow (r : Row) (i : ℕ) (s : Step) : Type 0 where
  pub step : IsStep r.edge s
  pub from_none : r.from ≡ 0
  pub number_is : r.step ≡ i

-- the first m rows are the steps, in order
pub record StepRows (rows : List ℕ) (ss : List Step) (m : ℕ) : Type 0 where
  pub number : length ss ≡ m
  pub each : (i : ℕ) (s : Step) → nth ss i ≡ opt.some s → StepRow (row_at rows i) i s

-- a call has at least three bytes
abbrev pub most_steps : ℕ → ℕ
most_steps bytes = bytes / 3

-- one step or none
abbrev pub OneStep : List Step → Option Edge → Type 0
OneStep ss (Some e) = (s : Step) × (ss ≡ s ∷ []) × IsStep e s
OneStep ss None = ss ≡ []

abbrev pub EndsOf : Option Edge → Type 0
EndsOf (Some e) = Ends e
EndsOf None = Unit {0}

abbrev pub number : Option Edge → ℕ
number (Some e) = 1
number None = 0

-- What a table of ways says, and what it stands for.
use Rattle.std.specs.Prelude.{◌≡◌, ℕ, suc, ◌<◌, ◌≤◌, ◌⊎◌, List, [], ◌∷◌, ◌++◌, ◌≢◌}
use Rattle.std.proofs.Math.Option.{some}
use Rattle.sizechange.specs.Graph.{Arc, Step, In, nth, compose, leads, Idempotent, Way1}
use Rattle.graphs.specs.Words.{Words}
use Rattle.table.specs.declared.Edge.{Edge}
use Rattle.table.specs.declared.row.Row.{Row}
use Rattle.table.specs.Index.{Has}

-- edge r is edge x and then edge y
pub record Then (x y r : Edge) : Type 0 where
  pub caller : r.caller ≡ x.caller
  pub callee : r.callee ≡ y.callee
  pub graph : (as₁ bs : List Arc) → Words x.graph as₁ → Words y.graph bs → Words r.graph (compose as₁ bs)

-- how row r came about, ts being the steps and vs the rows before it: it is a step, or a way before it and then a step
pub data Made (ts vs : List Row) (r : Row) : Type 0 where
  begun : (t : Row) → r.from ≡ 0 → nth ts r.step ≡ some t → r.edge ≡ t.edge → Made ts vs r
  gone_on : (k : ℕ) (w t : Row) → r.from ≡ suc k → nth vs k ≡ some w → nth ts r.step ≡ some t → t.edge.caller ≡ w.edge.callee → Then w.edge t.edge r.edge → Made ts vs r

-- breadth-first: by the way that a row came from, and then by the step
abbrev pub Before : Row → Row → Type 0
Before q r = (q.from < r.from) ⊎ ((q.from ≡ r.from) × (q.step < r.step))

abbrev pub Upto : ℕ → ℕ → Row → Type 0
Upto from step r = (r.from < from) ⊎ ((r.from ≡ from) × (r.step ≤ step))

-- a table that has grown row by row, no edge twice, in that order
pub data Grown (ts : List Row) : List Row → Type 0 where
  nothing : Grown ts []
  grow : {vs : List Row} (r : Row) → Grown ts vs → Made ts vs r → (Has vs r.edge → ⊥) → ((q : Row) → In q vs → Before q r) → Grown ts (vs ++ r ∷ [])

-- edge x, which way k has, and then edge y, which step i has, is in the table, and came no later than by these two
abbrev pub GoesOn : List Row → Edge → Edge → ℕ → ℕ → Type 0
GoesOn vs x y k i = (r : Row) × In r vs × Then x y r.edge × Upto (suc k) i r

-- a table that has each step, and with each way that way and then each step that begins where it ends
pub record Complete (ts vs : List Row) : Type 0 where
  pub steps : (i : ℕ) (t : Row) → nth ts i ≡ some t → (r : Row) × In r vs × (r.edge ≡ t.edge) × Upto 0 i r
  pub ways : (k i : ℕ) (w t : Row) → nth vs k ≡ some w → nth ts i ≡ some t → t.edge.caller ≡ w.edge.callee → GoesOn vs w.edge t.edge k i

-- an edge stands for what leads from f to g by arcs
pub record Stands (e : Edge) (f g : ℕ) (as₁ : List Arc) : Type 0 where
  pub caller : e.caller ≡ f
  pub callee : e.callee ≡ g
  pub words : Words e.graph as₁

-- row by row
pub data Each {A B : Type 0} (R : A → B → Type 0) : List A → List B → Type 0 where
  end : Each R [] []
  and : {x : A} {y : B} {xs : List A} {ys : List B} → R x y → Each R xs ys → Each R (x ∷ xs) (y ∷ ys)

abbrev pub RowsOfSteps : List Row → List Step → Type 0
RowsOfSteps ts ss = Each (λ (t : Row) (s : Step). Stands t.edge s.caller s.callee s.arcs) ts ss

abbrev pub RowsOfWays : List Row → List Way1 → Type 0
RowsOfWays vs ws = Each (λ (r : Row) (w : Way1). Stands r.edge w.caller w.callee w.arcs) vs ws

-- an edge is no loop, or not idempotent, or some place becomes a part of itself
abbrev pub Sound : Edge → Type 0
Sound e = e.caller ≡ e.callee → (as₁ : List Arc) → Words e.graph as₁ → Idempotent as₁ → (i : ℕ) × (leads as₁ i i ≡ 2)

-- it is an idempotent loop, and no place does
pub record Fails (e : Edge) : Type 0 where
  pub loop : e.caller ≡ e.callee
  pub idempotent : (as₁ : List Arc) → Words e.graph as₁ → Idempotent as₁
  pub none : (as₁ : List Arc) → Words e.graph as₁ → (i : ℕ) → leads as₁ i i ≢ 2

-- One step more in the rows.
use Rattle.std.proofs.Common.{◌≡◌, ℕ, zero, suc, ◌+◌, ◌<◌, ◌≤◌, T, List, [], ◌∷◌, ◌++◌, length, Some, sym, refl, ap, ◌∙◌, subst, ⊎_elim, append-nil, arith, length-append}
use mathlib.Core.Option as opt
use Rattle.sizechange.specs.Graph.{Step, nth}
use Rattle.lang.specs.Program.{Expr, Exprs, Fun, Prog, count}
use Rattle.lang.specs.Bytes.{ok, oks, takes}
use Rattle.lang.specs.Steps.{From, arcs}
use Rattle.lang.proofs.Lists.{both}
use Rattle.reading.specs.declared.head.Head.{Head}
use Rattle.reading.specs.declared.head.Head.TheVariants.{Call}
use Rattle.reading.specs.Heads.{HeadAt}
use Rattle.sizechange.proofs.Lists.{nth_below}
use Rattle.reading.proofs.Heading.{Goes, g_var, g_leaf, g_node, g_parts, g_bind, g_call, goes_at}
use Rattle.graphs.specs.declared.Graph.{Graph}
use Rattle.graphs.specs.Words.{Words}
use Rattle.table.specs.declared.Edge.{Edge}
use Rattle.table.specs.declared.row.Row.{Row}
use Rattle.table.specs.Ends.{Ends}
use Rattle.table.specs.Rows.{SameRow, row_at}
use Rattle.table.proofs.Rows.{nth_push}
use Rattle.callgraph.specs.Standing.{Standing, StandingAll, Stands}
use Rattle.callgraph.specs.Pending.{own}
use Rattle.callgraph.specs.StepRows.{StepRow, StepRows, OneStep}
use Rattle.callgraph.proofs.Parting.{call_all}

rows_push : (rows rows₁ : List ℕ) (done : List Step) (s : Step) (m : ℕ) → StepRows rows done m → ((j : ℕ) → (j ≡ m → ⊥) → SameRow rows rows₁ j) → StepRow (row_at rows₁ m) m s → StepRows rows₁ (done ++ s ∷ []) (m + 1)
rows_push rows rows₁ done s m h o q = record {
  number = let a = length-append done (s ∷ []) in let b = h.number in omega arith;
  each = λ i t e. ⊎_elim
      (λ r. let l = nth_below done i r in let b = h.number in subst (λ (w : Row). StepRow w i t) (sym (o i (λ z. omega arith)).row) (h.each i t r))
      (λ r. let b = h.number in subst (λ (j : ℕ). StepRow (row_at rows₁ j) j t) (sym (r.0 ∙ b)) (subst (λ (u : Step). StepRow (row_at rows₁ m) m u) r.1 q))
      (nth_push done s i e);
}

pub rows_one : (rows rows₁ : List ℕ) (m : ℕ) (e : Edge) (ends : Ends e) → row_at rows₁ m ≡ record { edge = e; from = 0; step = m; ends = ends } → ((j : ℕ) → (j ≡ m → ⊥) → SameRow rows rows₁ j) → (done ss : List Step) → StepRows rows done m → OneStep ss (Some e) → StepRows rows₁ (done ++ ss) (m + 1)
rows_one rows rows₁ m e ends r o done ss h q =
    subst (λ (ts : List Step). StepRows rows₁ (done ++ ts) (m + 1)) (sym q.1) (rows_push rows rows₁ done q.0 m h o (subst (λ (w : Row). StepRow w m q.0) (sym r) (record { step = q.2; from_none = refl; number_is = refl })))

pub rows_same : (rows : List ℕ) (m : ℕ) (done ss : List Step) → StepRows rows done m → ss ≡ [] → StepRows rows (done ++ ss) m
rows_same rows m done ss h e = subst (λ (ts : List Step). StepRows rows ts m) (sym (ap (λ (ts : List Step). done ++ ts) e ∙ append-nil done)) h

-- a function that takes arguments is there
takes_below : (p : List Fun) (f n : ℕ) → T (takes (nth p f) n) → f < length p
takes_below [] f n h = elim h [ ]
takes_below (g ∷ p) zero n h = omega arith
takes_below (g ∷ p) (suc f) n h = let i = takes_below p f n h in omega arith

pub callee_below : (s : List ℕ) (vars at g n : ℕ) → HeadAt s at (Some (Call g n)) → Stands s vars at → (g < 64) × (n ≤ 8)
callee_below s vars at g n a h =
    let c = call_all h.program s vars at g n a h.expression h.end h.there in
    let o = both (takes (nth h.program g) (count c.0)) (oks h.program vars c.0) (subst (λ (d : Expr). T (ok h.program vars d)) c.1 h.there.well) in
    let l = takes_below h.program g (count c.0) o.0 in
    let m = h.few in
    (omega arith, c.2)

-- the step of a call, and none where there is no call
pub call_step : (ks : List (opt.Option From)) (p : Prog) (s : List ℕ) (vars at f g n : ℕ) → HeadAt s at (Some (Call g n)) → (r : Graph) → ((q : Prog) (es : Exprs) (k : ℕ) → StandingAll q s vars (at + 3) n es k → Words r (arcs ks 0 es)) → (e : Expr) (k : ℕ) → Standing p s vars at e k → OneStep (own f ks e) (Some (record { caller = f; callee = g; graph = r }))
call_step ks p s vars at f g n a r w e k h =
    let c = call_all p s vars at g n a e k h in
    (record { caller = f; callee = g; arcs = arcs ks 0 c.0 }, ap (λ (d : Expr). own f ks d) c.1, record { caller_is = refl; callee_is = refl; graph_is = w p c.0 k c.3 })

no_own : (f : ℕ) (ks : List (opt.Option From)) {h : Head} {xs zs : List ℕ} {e : Expr} → ((g n : ℕ) → h ≡ Call g n → ⊥) → Goes h xs e zs → own f ks e ≡ []
no_own f ks n g_var = refl
no_own f ks n g_leaf = refl
no_own f ks n (g_node q) = refl
no_own f ks n (g_parts q) = refl
no_own f ks n (g_bind q) = refl
no_own f ks n (g_call {f = g} {n = m} l q) = absurd (n g m refl)

pub no_step : (ks : List (opt.Option From)) (p : Prog) (s : List ℕ) (vars at f : ℕ) (h : Head) → HeadAt s at (Some h) → ((g n : ℕ) → h ≡ Call g n → ⊥) → (e : Expr) (k : ℕ) → Standing p s vars at e k → own f ks e ≡ []
no_step ks p s vars at f h a n e k q = no_own f ks n (goes_at s at h a q.reads)

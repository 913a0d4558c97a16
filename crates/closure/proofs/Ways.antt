-- From a table of ways to the ways themselves.
use Rattle.std.proofs.Common.{◌≡◌, ℕ, zero, suc, ◌≤◌, ◌⊎◌, List, [], ◌∷◌, ◌++◌, length, sym, refl, ap, ◌∙◌, subst, inl, inr, arith}
use mathlib.Core.Option.{some}
use Rattle.sizechange.specs.Graph.{Arc, Step, In, nth, compose, Way, one, more, Alike, HasReason, Way1, Listed, Different, Ways}
use Rattle.sizechange.specs.Theorems.{Fine, Closed}
use Rattle.sizechange.proofs.Lists.{nth_in, in_nth}
use Rattle.sizechange.proofs.Ways.{closed_is_all, many_ways}
use Rattle.sizechange.proofs.Reason.{reason_listed, no_reason}
use Rattle.graphs.proofs.Words.{words_alike, alike_words}
use Rattle.table.specs.declared.Edge.{Edge}
use Rattle.table.specs.declared.row.Row.{Row}
use Rattle.table.specs.Rows.{row_at, rows}
use Rattle.table.proofs.Rows.{edge_path, length_rows, nth_push, rows_nth}
use Rattle.closure.specs.Ways.{Made, begun, gone_on, Grown, nothing, grow, Complete, Stands, Each, end, and, RowsOfSteps, RowsOfWays, Sound, Fails}

-- Lists side by side, and one more at the end.

pub each_nth : {A B : Type 0} {R : A → B → Type 0} {xs : List A} {ys : List B} (i : ℕ) {x : A} → Each R xs ys → nth xs i ≡ some x → (y : B) × (nth ys i ≡ some y) × R x y
each_nth {R = R} i end e = let z : ◌≡◌ {A = ℕ} 0 1 = cc in absurd (omega arith)
each_nth {A} {R = R} zero {x = x} (and {x = a} {y = y} r s) e = let p : a ≡ x = cc in (y, refl, subst (λ (b : A). R b y) p r)
each_nth (suc i) (and r s) e = each_nth i s e

pub each_flip : {A B : Type 0} {R : A → B → Type 0} {xs : List A} {ys : List B} → Each R xs ys → Each (λ (y : B) (x : A). R x y) ys xs
each_flip end = end
each_flip (and r s) = and r (each_flip s)

pub each_length : {A B : Type 0} {R : A → B → Type 0} {xs : List A} {ys : List B} → Each R xs ys → length xs ≡ length ys
each_length end = refl
each_length (and r s) = ap suc (each_length s)

pub each_push : {A B : Type 0} {R : A → B → Type 0} {xs : List A} {ys : List B} {x : A} {y : B} → Each R xs ys → R x y → Each R (xs ++ x ∷ []) (ys ++ y ∷ [])
each_push end r = and r end
each_push (and q s) r = and q (each_push s r)

-- lists are side by side where they agree place by place
pub each_from_nth : {A B : Type 0} {R : A → B → Type 0} (xs : List A) (ys : List B) → length xs ≡ length ys → ((i : ℕ) (x : A) (y : B) → nth xs i ≡ some x → nth ys i ≡ some y → R x y) → Each R xs ys
each_from_nth [] [] e r = end
each_from_nth [] (y ∷ ys) e r = absurd (omega arith)
each_from_nth (x ∷ xs) [] e r = absurd (omega arith)
each_from_nth (x ∷ xs) (y ∷ ys) e r = and (r 0 x y refl refl) (each_from_nth xs ys (omega arith) (λ i. r (suc i)))

-- the rows of a table stand for the steps place by place
pub steps_by_place : (xs : List ℕ) (n : ℕ) (ss : List Step) → length ss ≡ n → ((i : ℕ) (s : Step) → nth ss i ≡ some s → Stands (row_at xs i).edge s.caller s.callee s.arcs) → RowsOfSteps (rows xs n) ss
steps_by_place xs n ss long each = each_from_nth (rows xs n) ss (length_rows xs n ∙ sym long) (λ i t s a b. subst (λ (r : Row). Stands r.edge s.caller s.callee s.arcs) (rows_nth xs n i a).1 (each i s b))

-- A grown table stands for ways, no two of them alike.

pub record Bridge (ss : List Step) (vs : List Row) : Type 0 where
  pub list : List Way1
  pub stand : RowsOfWays vs list
  pub are : (i : ℕ) (w : Way1) → nth list i ≡ some w → Way ss w.caller w.callee w.arcs

bridge_push : (ss : List Step) (vs : List Row) (r : Row) (w : Way1) → Bridge ss vs → Stands r.edge w.caller w.callee w.arcs → Way ss w.caller w.callee w.arcs → Bridge ss (vs ++ r ∷ [])
bridge_push ss vs r w b st way = record { list = b.list ++ w ∷ []; stand = each_push b.stand st; are = are }
  where
    are : (i : ℕ) (u : Way1) → nth (b.list ++ w ∷ []) i ≡ some u → Way ss u.caller u.callee u.arcs
    are i u e = elim (nth_push b.list w i e) [ inl h ↦ b.are i u h | inr h ↦ subst (λ (x : Way1). Way ss x.caller x.callee x.arcs) h.1 way ]

bridge_more : (ts vs : List Row) (ss : List Step) (r : Row) → RowsOfSteps ts ss → Bridge ss vs → Made ts vs r → Bridge ss (vs ++ r ∷ [])
bridge_more ts vs ss r steps b (begun t from at e) =
    let (s, is, st) = each_nth r.step steps at in
    bridge_push ss vs r (record { caller = s.caller; callee = s.callee; arcs = s.arcs }) b (subst (λ (d : Edge). Stands d s.caller s.callee s.arcs) (sym e) st) (one s (nth_in ss r.step is))
bridge_more ts vs ss r steps b (gone_on k w t from way at e go) =
    let (s, is, st) = each_nth r.step steps at in
    let (v, vis, vst) = each_nth k b.stand way in
    bridge_push ss vs r (record { caller = v.caller; callee = s.callee; arcs = compose v.arcs s.arcs }) b
    (record { caller = go.caller ∙ vst.caller; callee = go.callee ∙ st.callee; words = go.graph v.arcs s.arcs vst.words st.words })
    (more s (b.are k v vis) (nth_in ss r.step is) (sym st.caller ∙ e ∙ vst.callee))

pub bridge : {ts vs : List Row} {ss : List Step} → RowsOfSteps ts ss → Grown ts vs → Bridge ss vs
bridge steps nothing = record { list = []; stand = end; are = λ i w e. let z : ◌≡◌ {A = ℕ} 0 1 = cc in absurd (omega arith) }
bridge {ts} {ss = ss} steps (grow {vs = vs} r g made new before) = bridge_more ts vs ss r steps (bridge steps g) made

pub grown_differ : {ts vs : List Row} {q r : Row} (i j : ℕ) → Grown ts vs → nth vs i ≡ some q → nth vs j ≡ some r → q.edge ≡ r.edge → i ≡ j
grown_differ i j nothing a b e = let z : ◌≡◌ {A = ℕ} 0 1 = cc in absurd (omega arith)
grown_differ {q = q} {r = r} i j (grow {vs = vs} p g made new before) a b e = go (nth_push vs p i a) (nth_push vs p j b) (λ x y. grown_differ i j g x y e)
  where
    go : (nth vs i ≡ some q) ⊎ ((i ≡ length vs) × (p ≡ q)) → (nth vs j ≡ some r) ⊎ ((j ≡ length vs) × (p ≡ r)) → (nth vs i ≡ some q → nth vs j ≡ some r → i ≡ j) → i ≡ j
    go (inl x) (inl y) h = h x y
    go (inl x) (inr y) h = absurd (new (q, nth_in vs i x, e ∙ ap (λ (z : Row). z.edge) (sym y.1)))
    go (inr x) (inl y) h = absurd (new (r, nth_in vs j y, sym e ∙ ap (λ (z : Row). z.edge) (sym x.1)))
    go (inr x) (inr y) h = x.0 ∙ sym y.0

-- what stands on the same edge is the same
stands_same : {e d : Edge} {f g h k : ℕ} {as₁ bs : List Arc} → e ≡ d → Stands e f g as₁ → Stands d h k bs → (f ≡ h) × (g ≡ k) × Alike as₁ bs
stands_same {e} {d} {as₁ = as₁} {bs = bs} p x y = (
  sym x.caller ∙ ap (λ (z : Edge). z.caller) p ∙ y.caller,
  sym x.callee ∙ ap (λ (z : Edge). z.callee) p ∙ y.callee,
  words_alike e.graph d.graph as₁ bs x.words y.words (ap (λ (z : Edge). z.graph.any) p) (ap (λ (z : Edge). z.graph.part) p),
)

same_stands : {e d : Edge} {f g h k : ℕ} {as₁ bs : List Arc} → Stands e f g as₁ → Stands d h k bs → f ≡ h → g ≡ k → Alike as₁ bs → e ≡ d
same_stands {e} {d} {as₁ = as₁} {bs = bs} x y p q alike =
    let w = alike_words e.graph d.graph as₁ bs x.words y.words alike in
    edge_path e d (x.caller ∙ p ∙ sym y.caller) (x.callee ∙ q ∙ sym y.callee) w.0 w.1

pub grown_different : {ts vs : List Row} {ss : List Step} (b : Bridge ss vs) → Grown ts vs → Different ss b.list
grown_different {ts} {vs} {ss} b g = record { are = b.are; differ = differ }
  where
    differ : (i j : ℕ) (w v : Way1) → nth b.list i ≡ some w → nth b.list j ≡ some v → w.caller ≡ v.caller → w.callee ≡ v.callee → Alike w.arcs v.arcs → i ≡ j
    differ i j w v x y f h alike =
        let (q, qi, qs) = each_nth i (each_flip b.stand) x in
        let (r, ri, rs) = each_nth j (each_flip b.stand) y in
        grown_differ i j g qi ri (same_stands qs rs f h alike)

-- A complete one stands for all the ways.

listed : {vs : List Row} {ws : List Way1} {e : Edge} {f g : ℕ} {as₁ : List Arc} (r : Row) → RowsOfWays vs ws → In r vs → r.edge ≡ e → Stands e f g as₁ → Listed ws f g as₁
listed r stand i p st =
    let (j, at) = in_nth i in
    let (w, is, ws₁) = each_nth j stand at in
    let (callers, callees, alike) = stands_same p ws₁ st in
    (j, w, is, callers, callees, alike)

pub complete_closed : {ts vs : List Row} {ss : List Step} → RowsOfSteps ts ss → (b : Bridge ss vs) → Grown ts vs → Complete ts vs → Closed ss b.list
complete_closed {ts} {vs} {ss} steps b g c = record { different = grown_different b g; has_steps = has_steps; has_more = has_more }
  where
    has_steps : (s : Step) → In s ss → Listed b.list s.caller s.callee s.arcs
    has_steps s i =
        let (k, at) = in_nth i in
        let (t, is, st) = each_nth k (each_flip steps) at in
        let (r, ir, e, u) = c.steps k t is in
        listed r b.stand ir e st

    has_more : (i : ℕ) (w : Way1) (s : Step) → nth b.list i ≡ some w → In s ss → s.caller ≡ w.callee → Listed b.list w.caller s.callee (compose w.arcs s.arcs)
    has_more i w s at is e =
        let (k, sat) = in_nth is in
        let (t, tis, st) = each_nth k (each_flip steps) sat in
        let (q, qis, qst) = each_nth i (each_flip b.stand) at in
        let (r, ir, go, u) = c.ways i k q t qis tis (st.caller ∙ e ∙ sym qst.callee) in
        listed r b.stand ir refl (record { caller = go.caller ∙ qst.caller; callee = go.callee ∙ st.callee; words = go.graph w.arcs s.arcs qst.words st.words })

pub fine_steps : {ts : List Row} {ss : List Step} → RowsOfSteps ts ss → Fine 64 8 ss
fine_steps steps s i =
    let (k, at) = in_nth i in
    let (t, is, st) = each_nth k (each_flip steps) at in
    let a = t.ends.caller_below in
    let b = t.ends.callee_below in
    record { caller_below = omega (arith, st.caller); callee_below = omega (arith, st.callee); arcs_fine = st.words.fine }

pub all_ways : {ts vs : List Row} {ss : List Step} → RowsOfSteps ts ss → Grown ts vs → Complete ts vs → (ws : List Way1) × Ways ss ws × RowsOfWays vs ws
all_ways {ss = ss} steps g c = let b = bridge steps g in (b.list, closed_is_all 64 8 ss b.list (fine_steps steps) (complete_closed steps b g c), b.stand)

pub many : {ts vs : List Row} {ss : List Step} → RowsOfSteps ts ss → Grown ts vs → (ws : List Way1) × Ways ss ws × (length vs ≤ length ws)
many steps g =
    let b = bridge steps g in
    let (ws, all, le) = many_ways (fine_steps steps) (grown_different b g) in
    (ws, all, omega (arith, le, each_length b.stand))

-- The reason.

pub sound_reason : {vs : List Row} {ss : List Step} {ws : List Way1} → Fine 64 8 ss → Ways ss ws → RowsOfWays vs ws → ((j : ℕ) (r : Row) → nth vs j ≡ some r → Sound r.edge) → HasReason ss
sound_reason fine all stand sound = reason_listed fine all (λ j w at loop. let (r, is, st) = each_nth j (each_flip stand) at in sound j r is (st.caller ∙ loop ∙ sym st.callee) w.arcs st.words)

pub fails_no_reason : {vs : List Row} {ss : List Step} {ws : List Way1} (j : ℕ) (r : Row) → Fine 64 8 ss → Ways ss ws → RowsOfWays vs ws → nth vs j ≡ some r → Fails r.edge → HasReason ss → ⊥
fails_no_reason j r fine all stand at f =
    let (w, is, st) = each_nth j stand at in
    no_reason j w fine all.different is (sym st.caller ∙ f.loop ∙ st.callee) (f.idempotent w.arcs st.words) (λ i l. f.none w.arcs st.words i)

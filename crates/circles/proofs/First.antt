-- The first way of a table that fails goes along the first circle.
use Rattle.std.proofs.Common.{◌≡◌, ℕ, suc, ◌<◌, ◌≤◌, ◌⊎◌, List, [], ◌∷◌, ◌++◌, sym, refl, ap, ◌∙◌, subst, inl, inr, arith}
use mathlib.Core.Option.{some}
use Rattle.std.proofs.lemmas.Bool.{cases_lt, cases_eq}
use Rattle.sizechange.specs.Graph.{Arc, Step, nth, compose}
use Rattle.sizechange.specs.Circle.{Along, one, more, Circle, Shortlex, FirstCircle}
use Rattle.sizechange.proofs.Circles.{lex_last, shortlex_push, shortlex_trans, shortlex_not}
use Rattle.table.specs.declared.Edge.{Edge}
use Rattle.table.specs.declared.row.Row.{Row}
use Rattle.table.specs.Rows.{edge_of, row_at, rows}
use Rattle.table.proofs.Rows.{nth_rows, rows_nth, rows_in}
use Rattle.closure.specs.Ways as Before
use Rattle.closure.specs.Ways.{Made, begun, gone_on, Grown, Complete, Stands, RowsOfSteps, Sound, Fails}
use Rattle.closure.proofs.Ways.{each_nth, each_flip}
use Rattle.circles.specs.Paths.{Path, start, on}
use Rattle.circles.proofs.Paths.{grown_made, path_some, path_one, path_none, path_order}

-- step s stands at place i
abbrev pub At : List Step → ℕ → Step → Type 0
At ss i s = nth ss i ≡ some s

-- no later
abbrev Upto : List ℕ → List ℕ → Type 0
Upto is js = (is ≡ js) ⊎ Shortlex ◌<◌ is js

less_trans : (i j k : ℕ) → i < j → j < k → i < k
less_trans i j k a b = omega arith

less_not : (i : ℕ) → i < i → ⊥
less_not i a = omega arith

upto_then : (is js ks : List ℕ) → Upto is js → Upto js ks → Upto is ks
upto_then is js ks (inl e) h = subst (λ (us : List ℕ). Upto us ks) (sym e) h
upto_then is js ks (inr l) (inl e) = subst (λ (us : List ℕ). Upto is us) e (inr l)
upto_then is js ks (inr l) (inr m) = inr (shortlex_trans is js ks less_trans l m)

upto_push : (is js : List ℕ) (i : ℕ) → Upto is js → Upto (is ++ i ∷ []) (js ++ i ∷ [])
upto_push is js i (inl e) = inl (ap (λ (us : List ℕ). us ++ i ∷ []) e)
upto_push is js i (inr l) = inr (shortlex_push is js i i l)

upto_last : (is : List ℕ) (i j : ℕ) → i ≤ j → Upto (is ++ i ∷ []) (is ++ j ∷ [])
upto_last is i j l = elim (cases_eq i j) [ inl e ↦ inl (ap (λ (k : ℕ). is ++ k ∷ []) e) | inr d ↦ inr (inr (lex_last is i j (omega arith))) ]

module _ (ts : List Row) (xs : List ℕ) (count : ℕ) (ss : List Step) (steps : RowsOfSteps ts ss) (g : Grown ts (rows xs count)) where
  -- the steps of a row lead as the row says
  record Leads (is : List ℕ) (e : Edge) : Type 0 where
    from : ℕ
    to : ℕ
    arcs : List Arc
    along : Along (At ss) is from to arcs
    stands : Stands e from to arcs

  leads_made : (is : List ℕ) (r : Row) → Path xs r.from is → Made ts (rows xs count) r → ((k : ℕ) → r.from ≡ suc k → k < count → Leads is (edge_of xs k)) → Leads (is ++ r.step ∷ []) r.edge
  leads_made is r p (begun t from at e) h =
      let (s, there, st) = each_nth r.step steps at in
      let z : is ≡ [] = path_none p from in
      subst (λ (us : List ℕ). Leads (us ++ r.step ∷ []) r.edge) (sym z) (record { from = s.caller; to = s.callee; arcs = s.arcs; along = one there; stands = subst (λ (d : Edge). Stands d s.caller s.callee s.arcs) (sym e) st })
  leads_made is r p (gone_on k w t from way at e go) h =
      let (s, there, st) = each_nth r.step steps at in
      let (l, same) = rows_nth xs count k way in
      let x : Leads is w.edge = subst (λ (q : Row). Leads is q.edge) same (h k from l) in
      record {
        from = x.from;
        to = s.callee;
        arcs = compose x.arcs s.arcs;
        along = more x.along there (sym st.caller ∙ (e ∙ x.stands.callee));
        stands = record { caller = go.caller ∙ x.stands.caller; callee = go.callee ∙ st.callee; words = go.graph x.arcs s.arcs x.stands.words st.words };
      }

  leads : {n : ℕ} {is : List ℕ} → Path xs n is → (k : ℕ) → n ≡ suc k → k < count → Leads is (edge_of xs k)
  leads start k e l = absurd (omega arith)
  leads (on {k = j} {is = is} p) k e l =
      let z : j ≡ k = omega arith in
      subst (λ (i : ℕ). Leads (is ++ (row_at xs j).step ∷ []) (edge_of xs i)) z (leads_made is (row_at xs j) p (grown_made j (row_at xs j) g (nth_rows xs count j (omega arith))).0 (λ i f b. leads p i f b))

  -- whatever goes along steps, a row leads likewise, by steps that come no later
  record Reached (js : List ℕ) (f h : ℕ) (as₁ : List Arc) : Type 0 where
    place : ℕ
    below : place < count
    stands : Stands (edge_of xs place) f h as₁
    their : List ℕ
    path : Path xs (suc place) their
    upto : Upto their js

  -- by the row of the way that is gone on with, and that of the step after it
  reached_row : (js : List ℕ) (i k f h : ℕ) (as₁ : List Arc) (place : ℕ) (their : List ℕ) → place < count → Path xs (suc place) their → Upto their js → k < count → Stands (edge_of xs k) f h as₁ → Before.Upto (suc place) i (row_at xs k) → Reached (js ++ i ∷ []) f h as₁
  reached_row js i k f h as₁ place their b p before l st u =
      let r = row_at xs k in
      let m = (grown_made k r g (nth_rows xs count k l)).1 in
      let y = path_some xs count g r.from r.from (omega arith) (omega arith) in
      record { place = k; below = l; stands = st; their = y.0 ++ r.step ∷ []; path = on y.1; upto = upto_then _ _ _ (last y.0 y.1 u) (upto_push their js i before) }
    where
      last : (us : List ℕ) → Path xs (row_at xs k).from us → Before.Upto (suc place) i (row_at xs k) → Upto (us ++ (row_at xs k).step ∷ []) (their ++ i ∷ [])
      last us q (inl e) = inr (shortlex_push us their (row_at xs k).step i (path_order xs count g b q p e))
      last us q (inr e) = subst (λ (vs : List ℕ). Upto (vs ++ (row_at xs k).step ∷ []) (their ++ i ∷ [])) (sym (path_one q p e.0)) (upto_last their (row_at xs k).step i e.1)

  reached : {js : List ℕ} {f h : ℕ} {as₁ : List Arc} → Complete ts (rows xs count) → Along (At ss) js f h as₁ → Reached js f h as₁
  reached c (one {x = i} {s = s} at) =
      let (t, is, st) = each_nth i (each_flip steps) at in
      let (r, ir, e, u) = c.steps i t is in
      let (k, l, same) = rows_in xs count ir in
      let z : (r.from ≡ 0) × (r.step ≤ i) = elim u [ inl l ↦ absurd (omega arith) | inr l ↦ l ] in
      let p : Path xs (row_at xs k).from [] = subst (λ (n : ℕ). Path xs n []) (sym (ap (λ (q : Row). q.from) same ∙ z.0)) start in
      record { place = k; below = l; stands = subst (λ (d : Edge). Stands d s.caller s.callee s.arcs) (sym (ap (λ (q : Row). q.edge) same ∙ e)) st; their = (row_at xs k).step ∷ []; path = on p; upto = upto_last [] (row_at xs k).step i (omega (arith, ap (λ (q : Row). q.step) same, z.1)) }
  reached c (more {xs = js} {x = i} {s = s} {f = f} {g = h} {as₁ = as₁} along at meets) =
      let w = reached c along in
      let (t, is, st) = each_nth i (each_flip steps) at in
      let (r, ir, go, u) = c.ways w.place i (row_at xs w.place) t (nth_rows xs count w.place w.below) is (st.caller ∙ (meets ∙ sym w.stands.callee)) in
      let (k, l, same) = rows_in xs count ir in
      reached_row js i k f s.callee (compose as₁ s.arcs) w.place w.their w.below w.path w.upto l
      (subst (λ (q : Row). Stands q.edge f s.callee (compose as₁ s.arcs)) (sym same) (record { caller = go.caller ∙ w.stands.caller; callee = go.callee ∙ st.callee; words = go.graph as₁ s.arcs w.stands.words st.words }))
      (subst (λ (q : Row). Before.Upto (suc w.place) i q) (sym same) u)

  -- so the first row that fails goes along the first circle
  pub first_circle : Complete ts (rows xs count) → (k : ℕ) (is : List ℕ) → k < count → Fails (edge_of xs k) → ((j : ℕ) → j < k → Sound (edge_of xs j)) → Path xs (suc k) is → FirstCircle (At ss) ◌<◌ is
  first_circle c k is b fails sound p = record { circle = circle; first = first }
    where
      x : Leads is (edge_of xs k)
      x = leads p k refl b

      loop : x.to ≡ x.from
      loop = sym x.stands.callee ∙ (sym fails.loop ∙ x.stands.caller)

      circle : Circle (At ss) is
      circle = record { point = x.from; arcs = x.arcs; along = subst (λ (n : ℕ). Along (At ss) is x.from n x.arcs) loop x.along; idempotent = fails.idempotent x.arcs x.stands.words; no_part = fails.none x.arcs x.stands.words }

      later : {js : List ℕ} {f h : ℕ} {as₁ : List Arc} (w : Reached js f h as₁) → k ≤ w.place → Upto is w.their
      later w l = elim (cases_eq k w.place) [ inl e ↦ inl (path_one p w.path (ap suc e)) | inr d ↦ inr (path_order xs count g w.below p w.path (omega arith)) ]

      first : (js : List ℕ) → Circle (At ss) js → Shortlex ◌<◌ js is → ⊥
      first js y before =
          let w = reached c y.along in
          elim (cases_lt w.place k) [
            | inl l ↦ let z = sound w.place l (w.stands.caller ∙ sym w.stands.callee) y.arcs w.stands.words y.idempotent in y.no_part z.0 z.1
            | inr l ↦ elim (upto_then is w.their js (later w l) w.upto) [
              | inl e ↦ shortlex_not is less_not (subst (λ (us : List ℕ). Shortlex ◌<◌ us is) (sym e) before)
              | inr s ↦ shortlex_not is less_not (shortlex_trans is js is less_trans s before)
            ]
          ]

-- A table that grows by a row, or finds its edge there.
use Rattle.std.proofs.Common.{◌≡◌, ℕ, ◌<◌, ◌⊎◌, List, [], ◌∷◌, length, sym, refl, ap, ◌∙◌, subst, inl, inr, arith}
use mathlib.Core.Option.{some}
use Rattle.sizechange.specs.Graph.{In, here, nth}
use Rattle.sizechange.proofs.Arcs.{in_cons, in_left, in_right, in_append}
use Rattle.sizechange.proofs.Lists.{nth_below, nth_in}
use Rattle.table.specs.declared.row.Row.{Row}
use Rattle.table.specs.Index.{Added}
use Rattle.table.proofs.Rows.{nth_push}
use Rattle.closure.specs.Ways.{Made, begun, gone_on, Before, Grown, nothing, grow}

-- A row is added.

pub grown_added : {ts vs us : List Row} (r : Row) → Grown ts vs → Made ts vs r → ((q : Row) → In q vs → Before q r) → Added vs r us → Grown ts us
grown_added {ts} r g made before (inl a) = subst (Grown ts) (sym a.1) g
grown_added {ts} r g made before (inr a) = subst (Grown ts) (sym a.1) (grow r g made a.0 before)

pub added_in : {vs us : List Row} {q : Row} (r : Row) → Added vs r us → In q vs → In q us
added_in {q = q} r (inl a) i = subst (In q) (sym a.1) i
added_in {q = q} r (inr a) i = subst (In q) (sym a.1) (in_left (r ∷ []) i)

-- what is there now was there, or is the new row
pub in_added : {vs us : List Row} {q : Row} (r : Row) → Added vs r us → In q us → In q vs ⊎ (q ≡ r)
in_added {q = q} r (inl a) i = inl (subst (In q) a.1 i)
in_added {vs} {q = q} r (inr a) i = elim (in_append vs (r ∷ []) (subst (In q) a.1 i)) [ inl j ↦ inl j | inr j ↦ elim (in_cons j) [ inl p ↦ inr p | inr k ↦ elim k [ ] ] ]

-- the edge is there now, in the new row or in one that was there
pub added_has : {vs us : List Row} (r : Row) → Added vs r us → (q : Row) × In q us × (q.edge ≡ r.edge) × (In q vs ⊎ (q ≡ r))
added_has {us = us} r (inl a) = let (q, i, e) = a.0 in (q, subst (In q) (sym a.1) i, e, inl i)
added_has {vs} r (inr a) = (r, subst (In r) (sym a.1) (in_right vs here), refl, inr refl)

-- What a grown table says of its rows.

pub grown_before : {ts vs : List Row} {q r : Row} (i j : ℕ) → Grown ts vs → nth vs i ≡ some q → nth vs j ≡ some r → i < j → Before q r
grown_before i j nothing a b l = let z : ◌≡◌ {A = ℕ} 0 1 = cc in absurd (omega arith)
grown_before {q = q} {r = r} i j (grow {vs = vs} p g made new before) a b l = go (nth_push vs p i a) (nth_push vs p j b) (λ x y. grown_before i j g x y l)
  where
    go : (nth vs i ≡ some q) ⊎ ((i ≡ length vs) × (p ≡ q)) → (nth vs j ≡ some r) ⊎ ((j ≡ length vs) × (p ≡ r)) → (nth vs i ≡ some q → nth vs j ≡ some r → Before q r) → Before q r
    go (inl x) (inl y) h = h x y
    go (inl x) (inr y) h = subst (Before q) y.1 (before q (nth_in vs i x))
    go (inr x) (inl y) h = absurd (omega (arith, x.0, nth_below vs j y))
    go (inr x) (inr y) h = absurd (omega (arith, x.0, y.0))

pub grown_step : {ts vs : List Row} {q : Row} (i : ℕ) → Grown ts vs → nth vs i ≡ some q → q.from ≡ 0 → (t : Row) × (nth ts q.step ≡ some t) × (q.edge ≡ t.edge)
grown_step i nothing a z = let y : ◌≡◌ {A = ℕ} 0 1 = cc in absurd (omega arith)
grown_step {ts} {q = q} i (grow {vs = vs} p g made new before) a z = go (nth_push vs p i a) (λ x. grown_step i g x z)
  where
    from_made : Made ts vs p → p.from ≡ 0 → (t : Row) × (nth ts p.step ≡ some t) × (p.edge ≡ t.edge)
    from_made (begun t f at e) y = (t, at, e)
    from_made (gone_on k w t f way at e go) y = absurd (omega arith)

    go : (nth vs i ≡ some q) ⊎ ((i ≡ length vs) × (p ≡ q)) → (nth vs i ≡ some q → (t : Row) × (nth ts q.step ≡ some t) × (q.edge ≡ t.edge)) → (t : Row) × (nth ts q.step ≡ some t) × (q.edge ≡ t.edge)
    go (inl x) h = h x
    go (inr x) h = subst (λ (y : Row). (t : Row) × (nth ts y.step ≡ some t) × (y.edge ≡ t.edge)) x.1 (from_made made (ap (λ (y : Row). y.from) x.1 ∙ z))

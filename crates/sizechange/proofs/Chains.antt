-- No chain of states is endless: the sizes along a chain follow the arcs of a way, and a loop with the reason makes some place smaller than itself.
use Rattle.std.proofs.Common.{◌≡◌, ℕ, zero, suc, ◌+◌, ◌-◌, ◌<◌, ◌≤◌, max, List, sym, ap, subst, subst₂, arith}
use mathlib.Core.WellFounded.Subrelation
use Rattle.sizechange.specs.Graph.{Arc, Step, leads, compose, Way, one, HasReason}
use Rattle.sizechange.specs.Theorems.{Fine, State, Fits, Holds, Next, NoEndlessChain}
use Rattle.sizechange.proofs.AlmostFull.{af_many, acc_all}
use Rattle.sizechange.proofs.Arcs.{FineArcs, in_compose, way_append, way_fine, leads_arc, HasArc}
use Rattle.sizechange.proofs.Powers.{power, power_keeps, idempotent_power}

pub holds_compose : (u v w : ℕ → ℕ) (as₁ bs : List Arc) → Holds u v as₁ → Holds v w bs → Holds u w (compose as₁ bs)
holds_compose u v w as₁ bs h k c i =
    let r = in_compose as₁ bs i in
    let y = subst (λ (m : ℕ). Fits r.second.how (w r.second.to) (v m)) (sym r.meet) (k r.second r.in_second) in
    subst (λ (a : Arc). Fits a.how (w a.to) (u a.from)) (sym r.is) (fits_then (h r.first r.in_first) y)
  where
    fits_then : {h₁ h₂ l m n : ℕ} → Fits h₁ m l → Fits h₂ n m → Fits (max h₁ h₂) n l
    fits_then x y = record { no_larger = omega arith; smaller = λ h. grind arith }

-- arcs that hold still do when the sizes after are lower
holds_lower : {k : ℕ} {as₁ : List Arc} (u v w : ℕ → ℕ) → FineArcs k as₁ → ((i : ℕ) → i < k → w i ≤ v i) → Holds u v as₁ → Holds u w as₁
holds_lower u v w fine low h a i =
    let l = low a.to (fine a i).to_below in
    let f = h a i in
    record { no_larger = omega arith; smaller = omega arith }

-- y comes after x along a way whose arcs hold
record Later (ss : List Step) (y x : State) : Type 0 where
  arcs : List Arc
  way : Way ss x.point y.point arcs
  holds : Holds x.size y.size arcs

later_trans : {ss : List Step} (x y z : State) → Later ss z y → Later ss y x → Later ss z x
later_trans x y z l k = record {
  arcs = compose k.arcs l.arcs;
  way = way_append k.way l.way;
  holds = holds_compose x.size y.size z.size k.arcs l.arcs k.holds l.holds;
}

later_next : {ss : List Step} (y x : State) → Next ss y x → Later ss y x
later_next {ss} y x h = record {
  arcs = h.step.arcs;
  way = subst₂ (λ (f g : ℕ). Way ss f g h.step.arcs) h.leaves h.enters (one h.step h.is_step);
  holds = h.holds;
}

-- a graph with a place that becomes a part of itself holds from no sizes to themselves
no_descent : (u : ℕ → ℕ) (as₁ : List Arc) (i : ℕ) → Holds u u as₁ → leads as₁ i i ≡ 2 → ⊥
no_descent u as₁ i h e = go (leads_arc as₁ i i (omega arith))
  where
    go : HasArc as₁ i i (leads as₁ i i) → ⊥
    go a = omega (arith, (h a.arc a.is_in).smaller (omega arith), ap u a.from_is, ap u a.to_is)

-- what is measured of a state: its point, from below and from above, and the size of each place
measure : ℕ → ℕ → State → ℕ
measure n zero x = x.point
measure n (suc zero) x = n - x.point
measure n (suc (suc i)) x = x.size i

module _ {n k : ℕ} {ss : List Step} (fine : Fine n k ss) (reason : HasReason ss) where
  -- no loop's graph holds from sizes to themselves: else its idempotent power would, and there some place becomes smaller
  no_loop : {f : ℕ} {w : List Arc} (u : ℕ → ℕ) → Way ss f f w → Holds u u w → ⊥
  no_loop {f} {w} u way holds =
      let p = idempotent_power w (way_fine fine way).2 in
      let r = reason f (power w p.0) (power_keeps (Way ss f f) w (λ as₁ bs. way_append) way p.0) p.1 in
      no_descent u (power w p.0) r.0 (power_keeps (Holds u u) w (holds_compose u u u) holds p.0) r.1

  -- nothing comes later that is nowhere smaller
  never : (x y : State) → Later ss y x → ((i : ℕ) → i < 2 + k → measure n i x ≤ measure n i y) → ⊥
  unfolding measure
  never x y l up =
      let f = way_fine fine l.way in
      let same : y.point ≡ x.point = omega (arith, up 0 (omega arith), up 1 (omega arith)) in
      no_loop x.size
      (subst (λ (g : ℕ). Way ss x.point g l.arcs) same l.way)
      (holds_lower x.size y.size x.size f.2 (λ i h. up (suc (suc i)) (omega arith)) l.holds)

pub no_endless_chain : NoEndlessChain
no_endless_chain n k ss fine reason x =
    Subrelation.accessible later_next (acc_all later_trans (af_many (measure n) (2 + k)) (never fine reason) x)

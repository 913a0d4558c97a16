-- The reason, looked at on the list of all ways.
use Rattle.std.proofs.Common.{◌≡◌, ℕ, ◌<◌, ◌≤◌, ◌⊎◌, List, sym, ◌∙◌, subst, inl, inr, arith}
use mathlib.Core.Option.{some}
use native.Mathlib.Decide.{dec_le, ℕ_discrete}
use Rattle.sizechange.specs.Graph.{Arc, Step, In, nth, leads, Way, Alike, Idempotent, HasReason, Way1, Different, Ways}
use Rattle.sizechange.specs.Theorems.{Fine, Decided}
use Rattle.sizechange.proofs.Arcs.{FineArcs, fine_compose, leads_arc, in_leads, leads_fine, leads_most, way_fine, alike_compose, alike?}
use Rattle.sizechange.proofs.Lists.{nth_in, in_nth, all_or}

-- some place becomes a part of itself
abbrev pub Shrinks : List Arc → Type 0
Shrinks as₁ = (i : ℕ) × (leads as₁ i i ≡ 2)

-- a way is no loop, or not idempotent, or some place becomes a part of itself
abbrev pub Sound : Way1 → Type 0
Sound w = w.caller ≡ w.callee → Idempotent w.arcs → Shrinks w.arcs

shrinks_alike : (as₁ bs : List Arc) → Alike as₁ bs → Shrinks as₁ → Shrinks bs
shrinks_alike as₁ bs alike (i, shrinks) = (i, sym (alike i i) ∙ shrinks)

idempotent_alike : {k : ℕ} {as₁ bs : List Arc} → FineArcs k as₁ → FineArcs k bs → Alike as₁ bs → Idempotent bs → Idempotent as₁
idempotent_alike fa fb alike idem i j = alike_compose fa fb fa fb alike alike i j ∙ idem i j ∙ sym (alike i j)

-- where every listed way is sound there is the reason
pub reason_listed : {n k : ℕ} {ss : List Step} {ws : List Way1} → Fine n k ss → Ways ss ws → ((j : ℕ) (w : Way1) → nth ws j ≡ some w → Sound w) → HasReason ss
reason_listed fine all sound f as₁ x idem =
    let (j, w, at, callers, callees, alike) = all.all f f as₁ x in
    let listed_fine = (way_fine fine (all.different.are j w at)).2 in
    shrinks_alike w.arcs as₁ alike (sound j w at (callers ∙ sym callees) (idempotent_alike listed_fine (way_fine fine x).2 alike idem))

-- where one is not, there is none; only places below k can shrink
pub no_reason : {n k : ℕ} {ss : List Step} {ws : List Way1} (j : ℕ) (w : Way1) → Fine n k ss → Different ss ws → nth ws j ≡ some w → w.caller ≡ w.callee → Idempotent w.arcs → ((i : ℕ) → i < k → leads w.arcs i i ≡ 2 → ⊥) → HasReason ss → ⊥
no_reason {ss = ss} j w fine d at loop idem none₁ reason =
    let x = d.are j w at in
    let (i, shrinks) = reason w.caller w.arcs (subst (λ (g : ℕ). Way ss w.caller g w.arcs) (sym loop) x) idem in
    none₁ i (leads_fine i i (way_fine fine x).2 (omega arith)).0 shrinks

shrinks? : {k : ℕ} {as₁ : List Arc} → FineArcs k as₁ → Dec (Shrinks as₁)
shrinks? {k} {as₁} fine = go (all_or Kept as₁ (λ a i. check a i (ℕ_discrete a.to a.from) (dec_le 2 a.how)))
  where
    Kept : Arc → Type 0
    Kept a = a.to ≡ a.from → 2 ≤ a.how → ⊥

    check : (a : Arc) → In a as₁ → Dec (a.to ≡ a.from) → Dec (2 ≤ a.how) → Kept a ⊎ Shrinks as₁
    check a i (no ne) d = inl (λ e _. ne e)
    check a i (yes e) (no ne) = inl (λ _ le. ne le)
    check a i (yes e) (yes le) = let h = in_leads i in let most = leads_most a.from a.to fine in let at : leads as₁ a.from a.to ≡ 2 = omega arith in inr (a.from, subst (λ (j : ℕ). leads as₁ a.from j ≡ 2) e at)

    go : ((a : Arc) → In a as₁ → Kept a) ⊎ Shrinks as₁ → Dec (Shrinks as₁)
    go (inr s) = yes s
    go (inl kept) = no (λ s. let a = leads_arc as₁ s.0 s.0 (omega (arith, s.1)) in kept a.arc a.is_in (a.to_is ∙ sym a.from_is) (omega (arith, a.how_is, s.1)))

pub decided : Decided
decided n k ss ws fine all = go (all_or Sound ws (λ w i. let (j, at) = in_nth i in check j w at))
  where
    check : (j : ℕ) (w : Way1) → nth ws j ≡ some w → Sound w ⊎ (HasReason ss → ⊥)
    check j w at =
        let f = (way_fine fine (all.different.are j w at)).2 in
        elim (ℕ_discrete w.caller w.callee) [
          | no ne ↦ inl (λ e _. absurd (ne e))
          | yes e ↦ elim (alike? (fine_compose f f) f) [
            | no ne ↦ inl (λ _ idem. absurd (ne idem))
            | yes idem ↦ elim (shrinks? f) [
              | yes s ↦ inl (λ _ _. s)
              | no ns ↦ inr (no_reason j w fine all.different at e idem (λ i lt s. ns (i, s)))
            ]
          ]
        ]

    go : ((w : Way1) → In w ws → Sound w) ⊎ (HasReason ss → ⊥) → Dec (HasReason ss)
    go (inl sound) = yes (reason_listed fine all (λ j w at. sound w (nth_in ws j at)))
    go (inr bad) = no bad

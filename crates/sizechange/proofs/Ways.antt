-- The ways along a call graph are finitely many, and a closed list of them is all of them.
use Rattle.std.proofs.Common.{◌≡◌, ℕ, zero, suc, ◌+◌, ◌*◌, ◌^◌, ◌<◌, ◌≤◌, ◌⊎◌, List, [], ◌∷◌, length, sym, refl, ap, ◌∙◌, subst, inl, inr, arith}
use mathlib.Core.Option.{some, none}
use native.Mathlib.Decide.{ℕ_discrete}
use lib.Arith.{digits_lt}
use Rattle.sizechange.specs.Graph.{Arc, Step, In, nth, compose, Way, one, more, Alike, Way1, Listed, Different, Ways}
use Rattle.sizechange.specs.Theorems.{Fine, Closed, ClosedIsAll, DifferentAreFewer, OneNumber, FiniteWays}
use Rattle.sizechange.proofs.Arcs.{way_fine, alike_refl, alike_sym, alike_trans, alike_compose, digits_both, key, key_below, key_alike, alike_key}
use Rattle.sizechange.proofs.Lists.{nth_in, in_nth, nth_below, nth_some, all_or, pigeons}

-- a way of the call graph
abbrev pub IsWay : List Step → Way1 → Type 0
IsWay ss w = Way ss w.caller w.callee w.arcs

-- two ways with the same ends that lead alike
pub record Same (w v : Way1) : Type 0 where
  pub callers : w.caller ≡ v.caller
  pub callees : w.callee ≡ v.callee
  pub alike : Alike w.arcs v.arcs

pub same_sym : {w v : Way1} → Same w v → Same v w
same_sym {w} {v} s = record { callers = sym s.callers; callees = sym s.callees; alike = alike_sym w.arcs v.arcs s.alike }

pub same_trans : {w v u : Way1} → Same w v → Same v u → Same w u
same_trans {w} {v} {u} s t = record { callers = s.callers ∙ t.callers; callees = s.callees ∙ t.callees; alike = alike_trans w.arcs v.arcs u.arcs s.alike t.alike }

-- a way stands in the list, up to leading alike
abbrev pub Has : List Way1 → Way1 → Type 0
Has ws v = Listed ws v.caller v.callee v.arcs

pub has_same : {w v : Way1} (ws : List Way1) → In w ws → Same w v → Has ws v
has_same {w} ws i s = let r = in_nth i in (r.0, w, r.1, s.callers, s.callees, s.alike)

pub listed_same : (ws : List Way1) {f g : ℕ} {as₁ : List Arc} (h : Listed ws f g as₁) → Same h.1 (record { caller = f; callee = g; arcs = as₁ })
listed_same ws h = record { callers = h.3; callees = h.4; alike = h.5 }

-- Counting.

-- where each way has a number below n, and only ways that are the same have the same, n is no less than the length of a list of different ways
counted : {ss : List Step} {vs : List Way1} (n : ℕ) (R : Way1 → ℕ → Type 0) → Different ss vs → ((v : Way1) → IsWay ss v → (j : ℕ) × (j < n) × R v j) → ((v u : Way1) (j : ℕ) → IsWay ss v → IsWay ss u → R v j → R u j → Same v u) → length vs ≤ n
counted {ss} {vs} n R d place apart = pigeons n (length vs) At has_place differ
  where
    At : ℕ → ℕ → Type 0
    At i j = (v : Way1) × (nth vs i ≡ some v) × R v j

    has_place : (i : ℕ) → i < length vs → (j : ℕ) × (j < n) × At i j
    has_place i lt = let (v, e) = nth_some vs i lt in let (j, b, r) = place v (d.are i v e) in (j, b, (v, e, r))

    differ : (i h j : ℕ) → At i j → At h j → i ≡ h
    differ i h j (v, p, x) (u, q, y) = let s = apart v u j (d.are i v p) (d.are h u q) x y in d.differ i h v u p q s.callers s.callees s.alike

-- no list of different ways is longer than that of all ways
pub different_are_fewer : DifferentAreFewer
different_are_fewer ss vs ws d all = counted (length ws) StandsAt d place apart
  where
    StandsAt : Way1 → ℕ → Type 0
    StandsAt v j = (w : Way1) × (nth ws j ≡ some w) × Same w v

    place : (v : Way1) → IsWay ss v → (j : ℕ) × (j < length ws) × StandsAt v j
    place v x = let h = all.all _ _ _ x in (h.0, nth_below ws h.0 h.2, (h.1, h.2, listed_same ws h))

    apart : (v u : Way1) (j : ℕ) → IsWay ss v → IsWay ss u → StandsAt v j → StandsAt u j → Same v u
    apart v u j _ _ (w, p, s) (w₂, q, t) = let e : w₂ ≡ w = cc in same_trans (same_sym s) (subst (λ (x : Way1). Same x u) e t)

pub one_number : OneNumber
one_number ss ws vs all₁ all₂ = omega (arith, different_are_fewer ss ws vs all₁.different all₂, different_are_fewer ss vs ws all₂.different all₁)

-- the number of a way, by its ends and the key of its graph
pub number : ℕ → ℕ → Way1 → ℕ
number n k w = (w.caller * n + w.callee) * 3 ^ (k * k) + key k w.arcs

abbrev pub most_ways : ℕ → ℕ → ℕ
most_ways n k = n * n * 3 ^ (k * k)

number_below : {n k : ℕ} {ss : List Step} {w : Way1} → Fine n k ss → IsWay ss w → number n k w < most_ways n k
unfolding number
number_below fine x = let (f, g, h) = way_fine fine x in digits_lt (digits_lt f g) (key_below h)

number_same : {n k : ℕ} {ss : List Step} {w v : Way1} → Fine n k ss → IsWay ss w → IsWay ss v → number n k w ≡ number n k v → Same w v
unfolding number
number_same {n} {k} {w = w} {v = v} fine x y e =
    let (f₁, g₁, h₁) = way_fine fine x in
    let (f₂, g₂, h₂) = way_fine fine y in
    let (ends, keys) = digits_both (w.caller * n + w.callee) (v.caller * n + v.callee) (key_below h₁) (key_below h₂) e in
    let (callers, callees) = digits_both w.caller v.caller g₁ g₂ ends in
    record { callers = callers; callees = callees; alike = key_alike h₁ h₂ keys }

same_number : (n k : ℕ) {w v : Way1} → Same w v → number n k w ≡ number n k v
unfolding number
same_number n k {w} {v} s = rw (s.callers, s.callees, alike_key k w.arcs v.arcs s.alike)

pub different_bounded : {n k : ℕ} {ss : List Step} {vs : List Way1} → Fine n k ss → Different ss vs → length vs ≤ most_ways n k
different_bounded {n} {k} fine d = counted (most_ways n k) (λ v j. number n k v ≡ j) d (λ v x. (number n k v, number_below fine x, refl)) (λ v u j x y p q. number_same fine x y (p ∙ sym q))

-- A closed list is all.

way_listed : {n k : ℕ} {ss : List Step} {ws : List Way1} {f g : ℕ} {as₁ : List Arc} → Fine n k ss → Closed ss ws → Way ss f g as₁ → Listed ws f g as₁
way_listed fine c (one s i) = c.has_steps s i
way_listed {n} {k} {ss} {ws} {f} fine c (more {as₁ = xs} s v i e) =
    let (j, w, at, callers, callees, alike) = way_listed fine c v in
    let (j₂, w₂, at₂, callers₂, callees₂, alike₂) = c.has_more j w s at i (e ∙ sym callees) in
    let arcs_fine = (fine s i).arcs_fine in
    (j₂, w₂, at₂, callers₂ ∙ callers, callees₂, alike_trans w₂.arcs (compose w.arcs s.arcs) (compose xs s.arcs) alike₂ (alike_compose (way_fine fine (c.different.are j w at)).2 (way_fine fine v).2 arcs_fine arcs_fine alike (alike_refl s.arcs)))

pub closed_is_all : ClosedIsAll
closed_is_all n k ss ws fine c = record { different = c.different; all = λ f g as₁ w. way_listed fine c w }

-- There is a closed list: as long as a way is missing, add it.

New : List Step → List Way1 → Type 0
New ss ws = (v : Way1) × IsWay ss v × (Has ws v → ⊥)

has_or_new : {n k : ℕ} {ss : List Step} (ws : List Way1) (v : Way1) → Fine n k ss → Different ss ws → IsWay ss v → Has ws v ⊎ New ss ws
unfolding New
has_or_new {n} {k} {ss} ws v fine d x = go (all_or (λ w. Same w v → ⊥) ws (λ w i. check w i (ℕ_discrete (number n k w) (number n k v))))
  where
    check : (w : Way1) → In w ws → Dec (number n k w ≡ number n k v) → (Same w v → ⊥) ⊎ Has ws v
    check w i (yes e) = let (j, at) = in_nth i in inr (has_same ws i (number_same fine (d.are j w at) x e))
    check w i (no ne) = inl (λ s. ne (same_number n k s))

    go : ((w : Way1) → In w ws → Same w v → ⊥) ⊎ Has ws v → Has ws v ⊎ New ss ws
    go (inl none₁) = inr (v, x, λ h. none₁ h.1 (nth_in ws h.0 h.2) (listed_same ws h))
    go (inr h) = inl h

closed_or_new : {n k : ℕ} {ss : List Step} {ws : List Way1} → Fine n k ss → Different ss ws → Closed ss ws ⊎ New ss ws
closed_or_new {n} {k} {ss} {ws} fine d = go (all_or StepListed ss step) (all_or Followed ws (λ w i. all_or (FollowedBy w) ss (follow w i)))
  where
    StepListed : Step → Type 0
    StepListed s = Listed ws s.caller s.callee s.arcs

    FollowedBy : Way1 → Step → Type 0
    FollowedBy w s = s.caller ≡ w.callee → Listed ws w.caller s.callee (compose w.arcs s.arcs)

    Followed : Way1 → Type 0
    Followed w = (s : Step) → In s ss → FollowedBy w s

    step : (s : Step) → In s ss → StepListed s ⊎ New ss ws
    step s i = has_or_new ws (record { caller = s.caller; callee = s.callee; arcs = s.arcs }) fine d (one s i)

    follow : (w : Way1) → In w ws → (s : Step) → In s ss → FollowedBy w s ⊎ New ss ws
    follow w i s j = elim (ℕ_discrete s.caller w.callee) [ no ne ↦ inl (λ e. absurd (ne e)) | yes e ↦ let (m, at) = in_nth i in elim (has_or_new ws (record { caller = w.caller; callee = s.callee; arcs = compose w.arcs s.arcs }) fine d (more s (d.are m w at) j e)) [ inl h ↦ inl (λ _. h) | inr x ↦ inr x ] ]

    go : ((s : Step) → In s ss → StepListed s) ⊎ New ss ws → ((w : Way1) → In w ws → Followed w) ⊎ New ss ws → Closed ss ws ⊎ New ss ws
    go (inr x) y = inr x
    go (inl a) (inr y) = inr y
    go (inl a) (inl b) = inl (record { different = d; has_steps = a; has_more = λ i w s at j e. b w (nth_in ws i at) s j e })

pub different_none : (ss : List Step) → Different ss []
different_none ss = record { are = λ i w e. absurd (never e); differ = λ i j w v e. absurd (never e) }
  where
    never : {w : Way1} → none ≡ some w → ⊥
    never {w} e = let z : ◌≡◌ {A = ℕ} 0 1 = cc in omega arith

pub different_more : {ss : List Step} {ws : List Way1} (v : Way1) → Different ss ws → IsWay ss v → (Has ws v → ⊥) → Different ss (v ∷ ws)
different_more {ss} {ws} v d x new = record { are = are; differ = differ }
  where
    are : (i : ℕ) (w : Way1) → nth (v ∷ ws) i ≡ some w → IsWay ss w
    are zero w e = let p : v ≡ w = cc in subst (IsWay ss) p x
    are (suc i) w e = d.are i w e

    fresh : (i : ℕ) (w u : Way1) → nth ws i ≡ some w → some v ≡ some u → Same w u → ⊥
    fresh i w u e p s = let q : u ≡ v = cc in new (has_same ws (nth_in ws i e) (subst (Same w) q s))

    differ : (i j : ℕ) (w u : Way1) → nth (v ∷ ws) i ≡ some w → nth (v ∷ ws) j ≡ some u → w.caller ≡ u.caller → w.callee ≡ u.callee → Alike w.arcs u.arcs → i ≡ j
    differ zero zero w u p q f g a = refl
    differ zero (suc j) w u p q f g a = absurd (fresh j u w q p (same_sym (record { callers = f; callees = g; alike = a })))
    differ (suc i) zero w u p q f g a = absurd (fresh i w u p q (record { callers = f; callees = g; alike = a }))
    differ (suc i) (suc j) w u p q f g a = ap suc (d.differ i j w u p q f g a)

grow : {n k : ℕ} {ss : List Step} (room : ℕ) (ws : List Way1) → Fine n k ss → Different ss ws → most_ways n k < length ws + room → (vs : List Way1) × Closed ss vs
unfolding New
grow zero ws fine d lt = absurd (omega (arith, different_bounded fine d))
grow {n} {k} {ss} (suc room) ws fine d lt = elim (closed_or_new fine d) [ inl c ↦ (ws, c) | inr x ↦ grow room (x.0 ∷ ws) fine (different_more x.0 d x.1 x.2) (omega arith) ]

pub finite_ways : FiniteWays
finite_ways n k ss fine = let (ws, c) = grow (suc (most_ways n k)) [] fine (different_none ss) (omega arith) in (ws, closed_is_all n k ss ws fine c)

-- a list of different ways shows that there are at least so many
pub many_ways : {n k : ℕ} {ss : List Step} {vs : List Way1} → Fine n k ss → Different ss vs → (ws : List Way1) × Ways ss ws × (length vs ≤ length ws)
many_ways {n} {k} {ss} {vs} fine d = let (ws, all) = finite_ways n k ss fine in (ws, all, different_are_fewer ss vs ws d all)

-- The algebra of size-change graphs: composition is associative, and how a composition leads depends only on how its parts lead.
use Rattle.std.proofs.Common.{◌≡◌, ℕ, zero, suc, ◌+◌, ◌*◌, ◌/◌, ◌%◌, ◌^◌, ◌<◌, ◌≤◌, min, max, Bool, true, false, cond, ◌&&◌, T, eqb, ◌⊎◌, List, [], ◌∷◌, ◌++◌, sym, refl, ap, ◌∙◌, subst, ap₂, inl, inr, append_assoc, pow-suc, mul-zero, mul-suc, arith, eqb→eq, pow-add, eq-eqb, ne_eqb}
use native.Mathlib.Nat.{pow-zero}
use native.Mathlib.Decide.{map_dec, ℕ_discrete}
use lib.Arith.{digits_lt, digits_div, digits_mod}
use Rattle.std.proofs.lemmas.Bool.{cases_lt, cases_eq}
use Rattle.std.proofs.lemmas.Bool.Decides.{nat_tests}
use Rattle.sizechange.specs.Graph.{Arc, Step, In, here, there, leads, compose1, compose, Way, one, more, Alike}
use Rattle.sizechange.specs.Theorems.{FineArc, Fine}

infixl 70 ◌▸◌
-- an arc followed by an arc
abbrev pub ◌▸◌ : Arc → Arc → Arc
◌▸◌ a b = record { from = a.from; to = b.to; how = max a.how b.how }

-- Composition is associative, as lists.

cond_append : {A : Type 0} (c : Bool) (x : A) (xs ys : List A) → cond c (x ∷ xs) xs ++ ys ≡ cond c (x ∷ (xs ++ ys)) (xs ++ ys)
cond_append true x xs ys = refl
cond_append false x xs ys = refl

compose1_append : (a : Arc) (xs ys : List Arc) → compose1 a (xs ++ ys) ≡ compose1 a xs ++ compose1 a ys
compose1_append a [] ys = refl
compose1_append a (x ∷ xs) ys = cc (compose1_append a xs ys, cond_append (eqb a.to x.from) (a ▸ x) (compose1 a xs) (compose1 a ys))

compose_append : (xs ys cs : List Arc) → compose (xs ++ ys) cs ≡ compose xs cs ++ compose ys cs
compose_append [] ys cs = refl
compose_append (x ∷ xs) ys cs = ap (λ (l : List Arc). compose1 x cs ++ l) (compose_append xs ys cs) ∙ sym (append_assoc (compose1 x cs) (compose xs cs) (compose ys cs))

arc_assoc : (a b c : Arc) → a ▸ b ▸ c ≡ a ▸ (b ▸ c)
arc_assoc a b c = let m : max (max a.how b.how) c.how ≡ max a.how (max b.how c.how) = omega arith in λ i. record { from = a.from; to = c.to; how = m i }

compose1_twice : (a b : Arc) (cs : List Arc) → compose1 a (compose1 b cs) ≡ cond (eqb a.to b.from) (compose1 (a ▸ b) cs) []
compose1_twice a b [] = go (eqb a.to b.from)
  where
    go : (e : Bool) → ◌≡◌ {A = List Arc} [] (cond e [] [])
    go true = refl
    go false = refl
compose1_twice a b (c ∷ cs) = go (eqb b.to c.from) (eqb a.to b.from) refl (compose1_twice a b cs)
  where
    go : (d e : Bool) → eqb a.to b.from ≡ e → compose1 a (compose1 b cs) ≡ cond e (compose1 (a ▸ b) cs) [] → compose1 a (cond d (b ▸ c ∷ compose1 b cs) (compose1 b cs)) ≡ cond e (cond d (a ▸ b ▸ c ∷ compose1 (a ▸ b) cs) (compose1 (a ▸ b) cs)) []
    go true true t h = rw t (ap₂ (λ (x : Arc) (l : List Arc). x ∷ l) (sym (arc_assoc a b c)) h)
    go true false t h = rw t h
    go false true t h = h
    go false false t h = h

compose_one : (a : Arc) (bs cs : List Arc) → compose (compose1 a bs) cs ≡ compose1 a (compose bs cs)
compose_one a [] cs = refl
compose_one a (b ∷ bs) cs = go (eqb a.to b.from) (compose1_twice a b cs) (compose_one a bs cs) ∙ sym (compose1_append a (compose1 b cs) (compose bs cs))
  where
    go : (e : Bool) → compose1 a (compose1 b cs) ≡ cond e (compose1 (a ▸ b) cs) [] → compose (compose1 a bs) cs ≡ compose1 a (compose bs cs) → compose (cond e (a ▸ b ∷ compose1 a bs) (compose1 a bs)) cs ≡ compose1 a (compose1 b cs) ++ compose1 a (compose bs cs)
    go true t h = ap₂ (λ (x y : List Arc). x ++ y) (sym t) h
    go false t h = rw t h

pub compose_assoc : (as₁ bs cs : List Arc) → compose (compose as₁ bs) cs ≡ compose as₁ (compose bs cs)
compose_assoc [] bs cs = refl
compose_assoc (a ∷ as₁) bs cs = compose_append (compose1 a bs) (compose as₁ bs) cs ∙ ap₂ (λ (x y : List Arc). x ++ y) (compose_one a bs cs) (compose_assoc as₁ bs cs)

pub way_append : {ss : List Step} {f g h : ℕ} {as₁ bs : List Arc} → Way ss f g as₁ → Way ss g h bs → Way ss f h (compose as₁ bs)
way_append w (one s i) = more s w i refl
way_append {as₁ = xs} w (more {as₁ = ys} s v i e) = rw (← compose_assoc xs ys s.arcs) (more s (way_append w v) i e)

-- The arcs of a composition.

pub in_cons : {A : Type 0} {c x : A} {xs : List A} → In c (x ∷ xs) → (c ≡ x) ⊎ In c xs
in_cons here = inl refl
in_cons (there i) = inr i

pub in_at : {A : Type 0} {c x : A} {xs : List A} → c ≡ x → In c (x ∷ xs)
in_at {A} {c} {x} {xs} p = subst (λ (y : A). In y (x ∷ xs)) (sym p) here

pub in_left : {A : Type 0} {c : A} {xs : List A} (ys : List A) → In c xs → In c (xs ++ ys)
in_left ys here = here
in_left ys (there i) = there (in_left ys i)

pub in_right : {A : Type 0} {c : A} (xs : List A) {ys : List A} → In c ys → In c (xs ++ ys)
in_right [] i = i
in_right (x ∷ xs) i = there (in_right xs i)

pub in_append : {A : Type 0} {c : A} (xs ys : List A) → In c (xs ++ ys) → In c xs ⊎ In c ys
in_append [] ys i = inr i
in_append {c} (x ∷ xs) ys i = elim (in_cons i) [ inl p ↦ inl (in_at p) | inr j ↦ elim (in_append xs ys j) [ inl k ↦ inl (there k) | inr k ↦ inr k ] ]

-- an arc of a composition is one arc followed by another
pub record Joined (as₁ bs : List Arc) (c : Arc) : Type 0 where
  pub first : Arc
  pub second : Arc
  pub in_first : In first as₁
  pub in_second : In second bs
  pub meet : first.to ≡ second.from
  pub is : c ≡ first ▸ second

in_compose1 : (a : Arc) (bs : List Arc) {c : Arc} → In c (compose1 a bs) → (b : Arc) × In b bs × (a.to ≡ b.from) × (c ≡ a ▸ b)
in_compose1 a [] i = elim i [ ]
in_compose1 a (b ∷ bs) {c} i = go (eqb a.to b.from) (eqb→eq a.to b.from) (in_compose1 a bs) i
  where
    later : (b : Arc) × In b bs × (a.to ≡ b.from) × (c ≡ a ▸ b) → (d : Arc) × In d (b ∷ bs) × (a.to ≡ d.from) × (c ≡ a ▸ d)
    later x = (x.0, there x.1, x.2, x.3)

    go : (e : Bool) → (T e → a.to ≡ b.from) → (In c (compose1 a bs) → (b : Arc) × In b bs × (a.to ≡ b.from) × (c ≡ a ▸ b)) → In c (cond e (a ▸ b ∷ compose1 a bs) (compose1 a bs)) → (d : Arc) × In d (b ∷ bs) × (a.to ≡ d.from) × (c ≡ a ▸ d)
    go true t h j = elim (in_cons j) [ inl p ↦ (b, here, t tt, p) | inr k ↦ later (h k) ]
    go false t h j = later (h j)

pub in_compose : (as₁ bs : List Arc) {c : Arc} → In c (compose as₁ bs) → Joined as₁ bs c
in_compose [] bs i = elim i [ ]
in_compose (a ∷ as₁) bs {c} i = go (in_append (compose1 a bs) (compose as₁ bs) i) (in_compose as₁ bs)
  where
    go : In c (compose1 a bs) ⊎ In c (compose as₁ bs) → (In c (compose as₁ bs) → Joined as₁ bs c) → Joined (a ∷ as₁) bs c
    go (inl j) h = let b = in_compose1 a bs j in record { first = a; second = b.0; in_first = here; in_second = b.1; meet = b.2; is = b.3 }
    go (inr j) h = let r = h j in record { first = r.first; second = r.second; in_first = there r.in_first; in_second = r.in_second; meet = r.meet; is = r.is }

compose1_in : (a : Arc) {b : Arc} {bs : List Arc} → In b bs → a.to ≡ b.from → In (a ▸ b) (compose1 a bs)
compose1_in a {b = b} (here {xs = bs}) m = subst (λ (e : Bool). In (a ▸ b) (cond e (a ▸ b ∷ compose1 a bs) (compose1 a bs))) (sym (eq-eqb a.to b.from m)) here
compose1_in a {b = b} (there {x = d} {xs = bs} i) m = go (eqb a.to d.from) (compose1_in a i m)
  where
    go : (e : Bool) → In (a ▸ b) (compose1 a bs) → In (a ▸ b) (cond e (a ▸ d ∷ compose1 a bs) (compose1 a bs))
    go true j = there j
    go false j = j

pub compose_in : {a b : Arc} {as₁ bs : List Arc} → In a as₁ → In b bs → a.to ≡ b.from → In (a ▸ b) (compose as₁ bs)
compose_in {a = a} {bs = bs} (here {xs = xs}) j m = in_left (compose xs bs) (compose1_in a j m)
compose_in {bs = bs} (there {x = x} i) j m = in_right (compose1 x bs) (compose_in i j m)

-- Fine arcs: their places are below k, and each is the same or a part.

abbrev pub FineArcs : ℕ → List Arc → Type 0
FineArcs k as₁ = (a : Arc) → In a as₁ → FineArc k a

pub fine_compose : {k : ℕ} {as₁ bs : List Arc} → FineArcs k as₁ → FineArcs k bs → FineArcs k (compose as₁ bs)
fine_compose {k} {as₁} {bs} fa fb c i =
    let r = in_compose as₁ bs i in
    let a = fa r.first r.in_first in
    let b = fb r.second r.in_second in
    subst (FineArc k) (sym r.is) (record { from_below = a.from_below; to_below = b.to_below; some_how = omega arith; how_most = omega arith })

pub way_fine : {n k : ℕ} {ss : List Step} {f g : ℕ} {as₁ : List Arc} → Fine n k ss → Way ss f g as₁ → (f < n) × (g < n) × FineArcs k as₁
way_fine fine (one s i) = let h = fine s i in (h.caller_below, h.callee_below, h.arcs_fine)
way_fine fine (more s w i e) = let h = fine s i in let v = way_fine fine w in (v.0, h.callee_below, fine_compose v.2 h.arcs_fine)

-- How a graph leads, by its arcs.

-- an arc of the graph from i to j of that kind
pub record HasArc (as₁ : List Arc) (i j how₁ : ℕ) : Type 0 where
  pub arc : Arc
  pub is_in : In arc as₁
  pub from_is : arc.from ≡ i
  pub to_is : arc.to ≡ j
  pub how_is : arc.how ≡ how₁

here_leads : (a : Arc) (i j : ℕ) → let c = cond (eqb i a.from && eqb j a.to) a.how 0 in 1 ≤ c → (a.from ≡ i) × (a.to ≡ j) × (a.how ≡ c)
here_leads a i j h = grind (arith, nat_tests)

pub leads_arc : (as₁ : List Arc) (i j : ℕ) → 1 ≤ leads as₁ i j → HasArc as₁ i j (leads as₁ i j)
leads_arc [] i j h = absurd (omega arith)
leads_arc (a ∷ as₁) i j h = go (cases_lt (leads as₁ i j) (cond (eqb i a.from && eqb j a.to) a.how 0)) (leads_arc as₁ i j)
  where
    go : let c = cond (eqb i a.from && eqb j a.to) a.how 0 in let l = leads as₁ i j in (l < c) ⊎ (c ≤ l) → (1 ≤ l → HasArc as₁ i j l) → HasArc (a ∷ as₁) i j (max c l)
    go (inl lt) r = let x = here_leads a i j (omega arith) in record { arc = a; is_in = here; from_is = x.0; to_is = x.1; how_is = omega arith }
    go (inr le) r = let x = r (omega arith) in record { arc = x.arc; is_in = there x.is_in; from_is = x.from_is; to_is = x.to_is; how_is = omega arith }

pub in_leads : {a : Arc} {as₁ : List Arc} → In a as₁ → a.how ≤ leads as₁ a.from a.to
in_leads {a} here = grind (arith, nat_tests)
in_leads {a} (there {x = x} i) = let h = in_leads i in omega arith

pub leads_fine : {k : ℕ} {as₁ : List Arc} (i j : ℕ) → FineArcs k as₁ → 1 ≤ leads as₁ i j → (i < k) × (j < k) × (leads as₁ i j ≤ 2)
leads_fine {k} {as₁} i j fine h = let a = leads_arc as₁ i j h in let f = fine a.arc a.is_in in (omega arith, omega arith, omega arith)

pub leads_outside : {k : ℕ} {as₁ : List Arc} (i j : ℕ) → FineArcs k as₁ → (k ≤ i) ⊎ (k ≤ j) → leads as₁ i j ≡ 0
leads_outside {k} {as₁} i j fine out = let h = leads_fine i j fine in elim (cases_lt 0 (leads as₁ i j)) [ inl lt ↦ omega (arith, h lt) | inr le ↦ omega arith ]

pub leads_most : {k : ℕ} {as₁ : List Arc} (i j : ℕ) → FineArcs k as₁ → leads as₁ i j ≤ 2
leads_most {k} {as₁} i j fine = elim (cases_lt 0 (leads as₁ i j)) [ inl lt ↦ (leads_fine i j fine lt).2 | inr le ↦ omega arith ]

-- How a composition leads: through some place in the middle, a part if either is.

unfoldable pub thru : ℕ → ℕ → ℕ
thru zero y = 0
thru (suc x) zero = 0
thru (suc x) (suc y) = max (suc x) (suc y)

unfoldable pub sup : ℕ → (ℕ → ℕ) → ℕ
sup zero f = 0
sup (suc k) f = max (f k) (sup k f)

pub thru_is : (x y : ℕ) → ((min x y ≡ 0) × (thru x y ≡ 0)) ⊎ ((1 ≤ min x y) × (thru x y ≡ max x y))
unfolding thru
thru_is zero y = inl (omega arith, refl)
thru_is (suc x) zero = inl (omega arith, refl)
thru_is (suc x) (suc y) = inr (omega arith, refl)

thru_comm : (x y : ℕ) → thru x y ≡ thru y x
unfolding thru
thru_comm zero zero = refl
thru_comm zero (suc y) = refl
thru_comm (suc x) zero = refl
thru_comm (suc x) (suc y) = omega arith

thru_max : (x y z : ℕ) → thru (max x y) z ≡ max (thru x z) (thru y z)
unfolding thru
thru_max zero y z = let e : max 0 y ≡ y = omega arith in rw e (omega arith)
thru_max (suc x) zero z = let e : max (suc x) 0 ≡ suc x = omega arith in rw e (omega arith)
thru_max (suc x) (suc y) zero = omega (arith, thru_is (max (suc x) (suc y)) 0)
thru_max (suc x) (suc y) (suc z) = omega (arith, thru_is (max (suc x) (suc y)) (suc z))

pub sup_cong : (k : ℕ) (f g : ℕ → ℕ) → ((m : ℕ) → m < k → f m ≡ g m) → sup k f ≡ sup k g
unfolding sup
sup_cong zero f g h = refl
sup_cong (suc k) f g h = ap₂ max (h k (omega arith)) (sup_cong k f g (λ m lt. h m (omega arith)))

sup_zero : (k : ℕ) → sup k (λ m. 0) ≡ 0
unfolding sup
sup_zero zero = refl
sup_zero (suc k) = omega (arith, sup_zero k)

-- a value more at one place
sup_at : (k t v : ℕ) (f g : ℕ → ℕ) → t < k → g t ≡ max v (f t) → ((m : ℕ) → (m ≡ t → ⊥) → g m ≡ f m) → sup k g ≡ max v (sup k f)
unfolding sup
sup_at zero t v f g lt p q = absurd (omega arith)
sup_at (suc k) t v f g lt p q = go (cases_eq k t) (sup_at k t v f g)
  where
    go : (k ≡ t) ⊎ (k ≡ t → ⊥) → (t < k → g t ≡ max v (f t) → ((m : ℕ) → (m ≡ t → ⊥) → g m ≡ f m) → sup k g ≡ max v (sup k f)) → max (g k) (sup k g) ≡ max v (max (f k) (sup k f))
    go (inl e) ih = let a : g k ≡ max v (f k) = rw e p in let b = sup_cong k g f (λ m l. q m (λ z. omega arith)) in omega arith
    go (inr n) ih = let a = q k n in let b = ih (omega arith) p q in omega arith

leads_append : (xs ys : List Arc) (i j : ℕ) → leads (xs ++ ys) i j ≡ max (leads xs i j) (leads ys i j)
leads_append [] ys i j = omega arith
leads_append (x ∷ xs) ys i j = omega (arith, leads_append xs ys i j)

leads_compose1 : (a : Arc) (bs : List Arc) (i j : ℕ) → 1 ≤ a.how → ((b : Arc) → In b bs → 1 ≤ b.how) → leads (compose1 a bs) i j ≡ cond (eqb i a.from) (thru a.how (leads bs a.to j)) 0
leads_compose1 a [] i j ha hb = go (eqb i a.from)
  where
    go : (q : Bool) → 0 ≡ cond q (thru a.how 0) 0
    go true = omega (arith, thru_is a.how 0)
    go false = refl
leads_compose1 a (b ∷ bs) i j ha hb = go (eqb a.to b.from) (eqb i a.from) (eqb j b.to) refl refl (leads_compose1 a bs i j ha (λ c k. hb c (there k)))
  where
    rest : ℕ
    rest = leads bs a.to j

    through : (y : ℕ) → thru a.how (max y rest) ≡ max (thru a.how y) (thru a.how rest)
    through y = cc (thru_comm a.how (max y rest), thru_max y rest a.how, thru_comm a.how y, thru_comm a.how rest)

    go : (p q r : Bool) → eqb i a.from ≡ q → eqb j b.to ≡ r → leads (compose1 a bs) i j ≡ cond q (thru a.how rest) 0 → leads (cond p (a ▸ b ∷ compose1 a bs) (compose1 a bs)) i j ≡ cond q (thru a.how (max (cond (p && r) b.how 0) rest)) 0
    go true true true s t ih = rw (s, t) (omega (arith, through b.how, thru_is a.how b.how, hb b here))
    go true true false s t ih = rw (s, t) (omega (arith, through 0, thru_is a.how 0))
    go true false r s t ih = rw s (omega arith)
    go false true r s t ih = omega (arith, through 0, thru_is a.how 0)
    go false false r s t ih = ih

pub leads_compose : {k : ℕ} (as₁ bs : List Arc) (i j : ℕ) → FineArcs k as₁ → FineArcs k bs → leads (compose as₁ bs) i j ≡ sup k (λ m. thru (leads as₁ i m) (leads bs m j))
unfolding thru
leads_compose {k} [] bs i j fa fb = sym (sup_zero k)
leads_compose {k} (a ∷ as₁) bs i j fa fb =
    let fine = fa a here in
    let parts = leads_append (compose1 a bs) (compose as₁ bs) i j in
    let first = leads_compose1 a bs i j fine.some_how (λ b m. (fb b m).some_how) in
    let rest = leads_compose as₁ bs i j (λ b m. fa b (there m)) fb in
    let at = sup_at k a.to (cond (eqb i a.from) (thru a.how (leads bs a.to j)) 0) (λ m. thru (leads as₁ i m) (leads bs m j)) (λ m. thru (leads (a ∷ as₁) i m) (leads bs m j)) fine.to_below meets passes in
    omega arith
  where
    with_arc : (q : Bool) (x y : ℕ) → thru (max (cond (q && true) a.how 0) x) y ≡ max (cond q (thru a.how y) 0) (thru x y)
    with_arc true x y = thru_max a.how x y
    with_arc false x y = thru_max 0 x y

    meets : thru (leads (a ∷ as₁) i a.to) (leads bs a.to j) ≡ max (cond (eqb i a.from) (thru a.how (leads bs a.to j)) 0) (thru (leads as₁ i a.to) (leads bs a.to j))
    meets = rw (eq-eqb a.to a.to refl) (with_arc (eqb i a.from) (leads as₁ i a.to) (leads bs a.to j))

    without : (q : Bool) (x y : ℕ) → thru (max (cond (q && false) a.how 0) x) y ≡ thru x y
    without true x y = thru_max 0 x y ∙ omega arith
    without false x y = thru_max 0 x y ∙ omega arith

    passes : (m : ℕ) → (m ≡ a.to → ⊥) → thru (leads (a ∷ as₁) i m) (leads bs m j) ≡ thru (leads as₁ i m) (leads bs m j)
    passes m n = rw (ne_eqb m a.to n) (without (eqb i a.from) (leads as₁ i m) (leads bs m j))

-- Leading alike.

pub alike_refl : (as₁ : List Arc) → Alike as₁ as₁
alike_refl as₁ i j = refl

pub alike_sym : (as₁ bs : List Arc) → Alike as₁ bs → Alike bs as₁
alike_sym as₁ bs h i j = sym (h i j)

pub alike_trans : (as₁ bs cs : List Arc) → Alike as₁ bs → Alike bs cs → Alike as₁ cs
alike_trans as₁ bs cs h k i j = h i j ∙ k i j

pub alike_compose : {k : ℕ} {as₁ as₂ bs₁ bs₂ : List Arc} → FineArcs k as₁ → FineArcs k as₂ → FineArcs k bs₁ → FineArcs k bs₂ → Alike as₁ as₂ → Alike bs₁ bs₂ → Alike (compose as₁ bs₁) (compose as₂ bs₂)
alike_compose {k} {as₁} {as₂} {bs₁} {bs₂} f₁ f₂ g₁ g₂ h₁ h₂ i j = leads_compose as₁ bs₁ i j f₁ g₁ ∙ sup_cong k _ _ (λ m lt. ap₂ thru (h₁ i m) (h₂ m j)) ∙ sym (leads_compose as₂ bs₂ i j f₂ g₂)

-- A graph's key: the digits, in base 3, of how it leads at the k * k pairs of places.

-- the number with these n digits in base b
pub numeral : ℕ → ℕ → (ℕ → ℕ) → ℕ
numeral b zero f = 0
numeral b (suc n) f = numeral b n f * b + f n

numeral_below : (b n : ℕ) (f : ℕ → ℕ) → ((i : ℕ) → i < n → f i < b) → numeral b n f < b ^ n
unfolding numeral
numeral_below b zero f h = rw (pow-zero b) (omega arith)
numeral_below b (suc n) f h = rw (pow-suc b n) (digits_lt (numeral_below b n f (λ i lt. h i (omega arith))) (h n (omega arith)))

numeral_cong : (b n : ℕ) (f g : ℕ → ℕ) → ((i : ℕ) → i < n → f i ≡ g i) → numeral b n f ≡ numeral b n g
unfolding numeral
numeral_cong b zero f g h = refl
numeral_cong b (suc n) f g h = ap₂ (λ (q r : ℕ). q * b + r) (numeral_cong b n f g (λ i lt. h i (omega arith))) (h n (omega arith))

-- different digits make different numbers
pub digits_both : {m r₁ r₂ : ℕ} (q₁ q₂ : ℕ) → r₁ < m → r₂ < m → q₁ * m + r₁ ≡ q₂ * m + r₂ → (q₁ ≡ q₂) × (r₁ ≡ r₂)
digits_both {m} q₁ q₂ l₁ l₂ e = (sym (digits_div q₁ l₁) ∙ ap (λ (x : ℕ). x / m) e ∙ digits_div q₂ l₂, sym (digits_mod q₁ l₁) ∙ ap (λ (x : ℕ). x % m) e ∙ digits_mod q₂ l₂)

numeral_digits : (b n : ℕ) (f g : ℕ → ℕ) → ((i : ℕ) → i < n → f i < b) → ((i : ℕ) → i < n → g i < b) → numeral b n f ≡ numeral b n g → (i : ℕ) → i < n → f i ≡ g i
unfolding numeral
numeral_digits b zero f g hf hg e i lt = absurd (omega arith)
numeral_digits b (suc n) f g hf hg e i lt =
    let (e₁, e₂) = digits_both (numeral b n f) (numeral b n g) (hf n (omega arith)) (hg n (omega arith)) e in
    elim (cases_eq i n) [ inl p ↦ rw p e₂ | inr p ↦ numeral_digits b n f g (λ j l. hf j (omega arith)) (λ j l. hg j (omega arith)) e₁ i (omega arith) ]

pow_mul : (b m n : ℕ) → (b ^ m) ^ n ≡ b ^ (m * n)
pow_mul b m zero = rw (mul-zero m, pow-zero (b ^ m), pow-zero b)
pow_mul b m (suc n) = rw (pow-suc (b ^ m) n, pow_mul b m n, mul-suc m n) (sym (pow-add b (m * n) m))

pub key : ℕ → List Arc → ℕ
key k as₁ = numeral (3 ^ k) k (λ i. numeral 3 k (leads as₁ i))

row_below : {k : ℕ} {as₁ : List Arc} → FineArcs k as₁ → (i : ℕ) → numeral 3 k (leads as₁ i) < 3 ^ k
row_below {k} {as₁} fine i = numeral_below 3 k (leads as₁ i) (λ j lt. omega (arith, leads_most i j fine))

pub key_below : {k : ℕ} {as₁ : List Arc} → FineArcs k as₁ → key k as₁ < 3 ^ (k * k)
unfolding key
key_below {k} {as₁} fine = rw (← pow_mul 3 k k) (numeral_below (3 ^ k) k (λ i. numeral 3 k (leads as₁ i)) (λ i lt. row_below fine i))

pub alike_key : (k : ℕ) (as₁ bs : List Arc) → Alike as₁ bs → key k as₁ ≡ key k bs
unfolding key
alike_key k as₁ bs h = numeral_cong (3 ^ k) k _ _ (λ i lt. numeral_cong 3 k _ _ (λ j lt. h i j))

pub key_alike : {k : ℕ} {as₁ bs : List Arc} → FineArcs k as₁ → FineArcs k bs → key k as₁ ≡ key k bs → Alike as₁ bs
unfolding key
key_alike {k} {as₁} {bs} fa fb e i j = go (cases_lt i k) (cases_lt j k)
  where
    go : (i < k) ⊎ (k ≤ i) → (j < k) ⊎ (k ≤ j) → leads as₁ i j ≡ leads bs i j
    go (inl a) (inl b) = numeral_digits 3 k (leads as₁ i) (leads bs i) (λ m lt. omega (arith, leads_most i m fa)) (λ m lt. omega (arith, leads_most i m fb)) (numeral_digits (3 ^ k) k (λ m. numeral 3 k (leads as₁ m)) (λ m. numeral 3 k (leads bs m)) (λ m lt. row_below fa m) (λ m lt. row_below fb m) e i a) j b
    go (inl a) (inr b) = leads_outside i j fa (inr b) ∙ sym (leads_outside i j fb (inr b))
    go (inr a) y = leads_outside i j fa (inl a) ∙ sym (leads_outside i j fb (inl a))

pub alike? : {k : ℕ} {as₁ bs : List Arc} → FineArcs k as₁ → FineArcs k bs → Dec (Alike as₁ bs)
alike? {k} {as₁} {bs} fa fb = map_dec (key_alike fa fb) (alike_key k as₁ bs) (ℕ_discrete (key k as₁) (key k bs))

-- Lists by place, a search through a list, and the pigeonhole principle.
use Rattle.std.proofs.Common.{◌≡◌, ℕ, zero, suc, ◌<◌, ◌≤◌, cond, eqb, ◌⊎◌, List, [], ◌∷◌, length, sym, refl, subst, inl, inr, arith, eq-eqb, ne_eqb}
use mathlib.Core.Option.{some}
use Rattle.std.proofs.lemmas.Bool.{cases_eq}
use Rattle.sizechange.specs.Graph.{nth, In, here, there}
use Rattle.sizechange.proofs.Arcs.{in_cons, in_at}

pub nth_in : {A : Type 0} (xs : List A) (i : ℕ) {x : A} → nth xs i ≡ some x → In x xs
nth_in [] i e = let z : ◌≡◌ {A = ℕ} 0 1 = cc in absurd (omega arith)
nth_in (y ∷ ys) zero e = in_at cc
nth_in (y ∷ ys) (suc i) e = there (nth_in ys i e)

pub in_nth : {A : Type 0} {x : A} {xs : List A} → In x xs → (i : ℕ) × (nth xs i ≡ some x)
in_nth here = (0, refl)
in_nth (there i) = let r = in_nth i in (suc r.0, r.1)

pub nth_below : {A : Type 0} (xs : List A) (i : ℕ) {x : A} → nth xs i ≡ some x → i < length xs
nth_below [] i e = let z : ◌≡◌ {A = ℕ} 0 1 = cc in absurd (omega arith)
nth_below (y ∷ ys) zero e = omega arith
nth_below (y ∷ ys) (suc i) e = omega (arith, nth_below ys i e)

pub nth_some : {A : Type 0} (xs : List A) (i : ℕ) → i < length xs → (x : A) × (nth xs i ≡ some x)
nth_some [] i lt = absurd (omega arith)
nth_some (y ∷ ys) zero lt = (y, refl)
nth_some (y ∷ ys) (suc i) lt = nth_some ys i (omega arith)

-- every element passes, or one of them gives what is looked for
pub all_or : {A N : Type 0} (P : A → Type 0) (xs : List A) → ((x : A) → In x xs → P x ⊎ N) → ((x : A) → In x xs → P x) ⊎ N
all_or P [] h = inl (λ x i. elim i [ ])
all_or {A} {N} P (y ∷ ys) h = go (h y here) (all_or P ys (λ x i. h x (there i)))
  where
    go : P y ⊎ N → ((x : A) → In x ys → P x) ⊎ N → ((x : A) → In x (y ∷ ys) → P x) ⊎ N
    go (inr n) r = inr n
    go (inl p) (inr n) = inr n
    go (inl p) (inl r) = inl (λ x i. elim (in_cons i) [ inl e ↦ subst P (sym e) p | inr j ↦ r x j ])

-- with place t taken away, whoever has the last place moves there
move : (Q : ℕ → Type 0) (n t j : ℕ) → t < suc n → j < suc n → (j ≡ t → ⊥) → Q j → (x : ℕ) × (x < n) × Q (cond (eqb x t) n x)
move Q n t j bt bj ne q = elim (cases_eq j n) [ inl e ↦ (t, omega arith, rw (eq-eqb t t refl) (subst Q e q)) | inr d ↦ (j, omega arith, rw (ne_eqb j t ne) q) ]

-- each of m numbers has one of n places, no two the same
pub pigeons : (n m : ℕ) (R : ℕ → ℕ → Type 0) → ((i : ℕ) → i < m → (j : ℕ) × (j < n) × R i j) → ((i h j : ℕ) → R i j → R h j → i ≡ h) → m ≤ n
pigeons zero zero R f g = omega arith
pigeons zero (suc m) R f g = absurd (omega (arith, (f 0 (omega arith)).1))
pigeons (suc n) zero R f g = omega arith
pigeons (suc n) (suc m) R f g =
    let (t, bt, rt) = f m (omega arith) in
    omega (arith, pigeons n m (λ i j. R i (cond (eqb j t) n j)) (λ i lt. let (j, bj, rj) = f i (omega arith) in move (R i) n t j bt bj (λ e. omega (arith, g i m t (subst (R i) e rj) rt)) rj) (λ i h j. g i h (cond (eqb j t) n j)))

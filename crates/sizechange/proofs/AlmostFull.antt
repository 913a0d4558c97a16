-- Almost-full relations, after Vytiniotis, Coquand and Wahlstedt: the constructive form of well-quasi-orders, with no excluded middle.
use Rattle.std.proofs.Common.{◌≡◌, ℕ, zero, suc, ◌<◌, ◌≤◌, ◌⊎◌, inl, inr, ⊎_elim, zero-le, arith}
use mathlib.Core.WellFounded.{Acc}
use native.Mathlib.Decide.{dec_lt}

infix 1 ◌⊆◌
infixr 2 ◌∪◌
abbrev pub Rel : Type 0 → Type 1
Rel X = X → X → Type 0

abbrev pub ◌⊆◌ : {X : Type 0} → Rel X → Rel X → Type 0
◌⊆◌ {X} R S = (x y : X) → R x y → S x y

abbrev pub ◌∪◌ : {X : Type 0} → Rel X → Rel X → Rel X
◌∪◌ R S x y = R x y ⊎ S x y

-- the relation lifted by x, what is left to find once x has been seen: a related pair, or x related to the first of the pair
abbrev pub After : {X : Type 0} → Rel X → X → Rel X
After R x y z = R y z ⊎ R x y

-- in every sequence some element is related to a later one, after finitely many looks
pub data AF {X : Type 0} : Rel X → Type 1 where
  full : {R : Rel X} → ((x y : X) → R x y) → AF R
  look : {R : Rel X} → ((x : X) → AF (After R x)) → AF R

pub af_mono : {X : Type 0} {R S : Rel X} → R ⊆ S → AF R → AF S
af_mono i (full r) = full (λ x y. i x y (r x y))
af_mono i (look f) = look (λ x. af_mono (λ y z. ⊎_elim (λ r. inl (i y z r)) (λ r. inr (i x y r))) (f x))

-- Intersection. Of almost-full P and Q, P is in D or R, Q in D or S, and what is in both R and S is in D; then D is almost full.
-- Shown for R and S that look at neither element, at the first, at both, each from the one before.
record Meet {X : Type 0} (P Q D R S : Rel X) : Type 0 where
  left : P ⊆ D ∪ R
  right : Q ⊆ D ∪ S
  both : (y z : X) → R y z → S y z → D y z

meet_swap : {X : Type 0} {P Q D R S : Rel X} → Meet P Q D R S → Meet Q P D S R
meet_swap m = record { left = m.right; right = m.left; both = λ y z s r. m.both y z r s }

meet_full : {X : Type 0} {P Q D R S : Rel X} → ((y z : X) → P y z) → AF Q → Meet P Q D R S → AF D
meet_full p af m = af_mono (λ y z q. ⊎_elim (λ d. d) (λ r. ⊎_elim (λ d. d) (m.both y z r) (m.right y z q)) (m.left y z (p y z))) af

-- P lifted by x, where E has D lifted by x and what R may say of x
meet_look : {X : Type 0} {P Q D E R S : Rel X} (x : X) → After D x ⊆ E → ((y z : X) → R x y → E y z ⊎ R y z) → Meet P Q D R S → Meet (After P x) Q E R S
meet_look x e r m = record {
  left = λ y z. ⊎_elim (λ p. ⊎_elim (λ d. inl (e y z (inl d))) inr (m.left y z p)) (λ p. ⊎_elim (λ d. inl (e y z (inr d))) (r y z) (m.left x y p));
  right = λ y z q. ⊎_elim (λ d. inl (e y z (inl d))) inr (m.right y z q);
  both = λ y z s t. e y z (inl (m.both y z s t));
}

meet_nullary : {X A B : Type 0} {P Q D : Rel X} → AF P → AF Q → Meet P Q D (λ y z. A) (λ y z. B) → AF D
meet_nullary (full p) af m = meet_full p af m
meet_nullary (look f) af m = look (λ x. meet_nullary (f x) af (meet_look x (λ y z d. d) (λ y z. inr) m))

-- D lifted by x, or R at x
abbrev Grown : {X : Type 0} → Rel X → Rel X → X → Rel X
Grown D R x = After D x ∪ (λ y z. R x y)

meet_grown : {X : Type 0} {P Q D R S : Rel X} (x : X) → Meet P Q D R S → Meet (After P x) Q (Grown D R x) R S
meet_grown x = meet_look x (λ y z. inl) (λ y z r. inl (inr r))

-- R and S look at one element more than those of which it is known
module _ {X : Type 0} {R S : Rel X} (lower : (x : X) (P Q D : Rel X) → AF P → AF Q → Meet P Q D (λ y z. R x y) (λ y z. S x y) → AF D) where
  -- recursion on Q, where it is known of P lifted
  meet_right : {P Q D : Rel X} → AF P → ((x : X) (Q E : Rel X) → AF Q → Meet (After P x) Q E R S → AF E) → AF Q → Meet P Q D R S → AF D
  meet_right af ih (full q) m = meet_full q af (meet_swap m)
  meet_right {Q} {D} af ih (look g) m = look (λ x. join x (ih x Q (Grown D R x) (look g) (meet_grown x m)) (meet_right af ih (g x) (meet_swap (meet_grown x (meet_swap m)))))
    where
      join : (x : X) → AF (Grown D R x) → AF (Grown D S x) → AF (After D x)
      join x p q = lower x (Grown D R x) (Grown D S x) (After D x) p q (record { left = λ y z e. e; right = λ y z e. e; both = λ y z r s. inr (m.both x y r s) })

  meet_step : {P Q D : Rel X} → AF P → AF Q → Meet P Q D R S → AF D
  meet_step (full p) af m = meet_full p af m
  meet_step (look f) af m = meet_right (look f) (λ x Q E. meet_step (f x)) af m

meet_unary : {X : Type 0} {A B : X → Type 0} {P Q D : Rel X} → AF P → AF Q → Meet P Q D (λ y z. A y) (λ y z. B y) → AF D
meet_unary = meet_step (λ x P Q D. meet_nullary)

meet_binary : {X : Type 0} {P Q D R S : Rel X} → AF P → AF Q → Meet P Q D R S → AF D
meet_binary = meet_step (λ x P Q D. meet_unary)

pub af_and : {X : Type 0} {R S : Rel X} → AF R → AF S → AF (λ x y. R x y × S x y)
af_and p q = meet_binary p q (record { left = λ y z. inr; right = λ y z. inr; both = λ y z r s. (r, s) })

-- Measures: ≤ between them is almost full.
module _ {X : Type 0} (μ : X → ℕ) where
  -- with an element of measure n seen
  af_le_after : (n : ℕ) → AF (λ y z. (μ y ≤ μ z) ⊎ (n ≤ μ y))
  af_le_after zero = full (λ y z. inr zero-le)
  af_le_after (suc n) = look (λ x. go x (dec_lt n (μ x)) (af_le_after n))
    where
      go : (x : X) → Dec (n < μ x) → AF (λ y z. (μ y ≤ μ z) ⊎ (n ≤ μ y)) → AF (After (λ y z. (μ y ≤ μ z) ⊎ (n < μ y)) x)
      go x (yes h) af = full (λ y z. inr (inr h))
      go x (no h) af = af_mono (λ y z. ⊎_elim (λ e. inl (inl e)) (λ e. inr (inl (omega arith)))) af

  pub af_le : AF (λ x y. μ x ≤ μ y)
  af_le = look (λ x. af_le_after (μ x))

pub af_many : {X : Type 0} (μ : ℕ → X → ℕ) (n : ℕ) → AF (λ x y. (i : ℕ) → i < n → μ i x ≤ μ i y)
af_many μ zero = full (λ x y i h. absurd (omega arith))
af_many {X} μ (suc n) = af_mono (λ x y h i l. go x y h i l (dec_lt i n)) (af_and (af_many μ n) (af_le (μ n)))
  where
    go : (x y : X) → ((i : ℕ) → i < n → μ i x ≤ μ i y) × (μ n x ≤ μ n y) → (i : ℕ) → i < suc n → Dec (i < n) → μ i x ≤ μ i y
    go x y h i l (yes e) = h.0 i e
    go x y h i l (no e) = let i≡n : i ≡ n = omega arith in rw i≡n h.1

-- A transitive relation that never meets an almost-full one turned round is well-founded.
module _ {X : Type 0} {Less : Rel X} (trans : (x y z : X) → Less z y → Less y x → Less z x) where
  -- it is enough that they do not meet at x and below it
  acc_from : {R : Rel X} → AF R → (x : X) → ((y : X) → Less y x → R x y → ⊥) → ((y z : X) → Less y x → Less z y → R y z → ⊥) → Acc Less x
  acc_from (full r) x here below = Acc.intro x (λ y l. absurd (here y l (r x y)))
  acc_from {R} (look f) x here below = Acc.intro x (λ y l. acc_from (f x) y (at y l) (under y l))
    where
      at : (y : X) → Less y x → (z : X) → Less z y → After R x y z → ⊥
      at y l z k = ⊎_elim (below y z l k) (here y l)

      under : (y : X) → Less y x → (z w : X) → Less z y → Less w z → After R x z w → ⊥
      under y l z w k = let m = trans x y z k l in λ j. ⊎_elim (below z w m j) (here z m)

  pub acc_all : {R : Rel X} → AF R → ((x y : X) → Less y x → R x y → ⊥) → (x : X) → Acc Less x
  acc_all af never x = acc_from af x (never x) (λ y z l. never y z)

-- The order of lists, and that there is one first circle at most.
use Rattle.std.proofs.Common.{◌≡◌, ℕ, suc, ◌+◌, ◌⊎◌, List, [], ◌∷◌, ◌++◌, length, sym, refl, ap, ◌∙◌, subst, inl, inr, arith, length-append}
use Rattle.std.proofs.lemmas.Bool.{cases_lt, cases_eq}
use Rattle.sizechange.specs.Graph.{Step}
use Rattle.sizechange.specs.Circle.{Lex, differ, agree, Shortlex, FirstCircle}

pub length_push : {A : Type 0} (xs : List A) (x : A) → length (xs ++ x ∷ []) ≡ length xs + 1
length_push xs x = length-append xs (x ∷ [])

pub lex_length : {A : Type 0} {R : A → A → Type 0} {xs ys : List A} → Lex R xs ys → length xs ≡ length ys
lex_length (differ r e) = ap suc e
lex_length (agree l) = ap suc (lex_length l)

lex_push : {A : Type 0} {R : A → A → Type 0} {xs ys : List A} (x y : A) → Lex R xs ys → Lex R (xs ++ x ∷ []) (ys ++ y ∷ [])
lex_push x y (differ {xs = xs} {ys = ys} r e) = differ r (length_push xs x ∙ (ap (λ (n : ℕ). n + 1) e ∙ sym (length_push ys y)))
lex_push x y (agree l) = agree (lex_push x y l)

pub shortlex_push : {A : Type 0} {R : A → A → Type 0} (xs ys : List A) (x y : A) → Shortlex R xs ys → Shortlex R (xs ++ x ∷ []) (ys ++ y ∷ [])
shortlex_push xs ys x y (inl l) = inl (omega (arith, length_push xs x, length_push ys y))
shortlex_push xs ys x y (inr l) = inr (lex_push x y l)

pub lex_last : {A : Type 0} {R : A → A → Type 0} (xs : List A) (x y : A) → R x y → Lex R (xs ++ x ∷ []) (xs ++ y ∷ [])
lex_last [] x y r = differ r refl
lex_last (z ∷ xs) x y r = agree (lex_last xs x y r)

lex_trans : {A : Type 0} {R : A → A → Type 0} {xs ys zs : List A} → ((x y z : A) → R x y → R y z → R x z) → Lex R xs ys → Lex R ys zs → Lex R xs zs
lex_trans t (differ r e) (differ q f) = differ (t _ _ _ r q) (e ∙ f)
lex_trans t (differ r e) (agree m) = differ r (e ∙ lex_length m)
lex_trans t (agree l) (differ q f) = differ q (lex_length l ∙ f)
lex_trans t (agree l) (agree m) = agree (lex_trans t l m)

pub shortlex_trans : {A : Type 0} {R : A → A → Type 0} (xs ys zs : List A) → ((x y z : A) → R x y → R y z → R x z) → Shortlex R xs ys → Shortlex R ys zs → Shortlex R xs zs
shortlex_trans xs ys zs t (inl l) (inl m) = inl (omega arith)
shortlex_trans xs ys zs t (inl l) (inr m) = inl (omega (arith, lex_length m))
shortlex_trans xs ys zs t (inr l) (inl m) = inl (omega (arith, lex_length l))
shortlex_trans xs ys zs t (inr l) (inr m) = inr (lex_trans t l m)

lex_not : {A : Type 0} {R : A → A → Type 0} {xs ys : List A} → ((x : A) → R x x → ⊥) → Lex R xs ys → xs ≡ ys → ⊥
lex_not {A} {R} irr (differ {x = x} {y = y} r e) p = let q : x ≡ y = cc in irr y (subst (λ (z : A). R z y) q r)
lex_not irr (agree {xs = xs} {ys = ys} l) p = let q : xs ≡ ys = cc in lex_not irr l q

pub shortlex_not : {A : Type 0} {R : A → A → Type 0} (xs : List A) → ((x : A) → R x x → ⊥) → Shortlex R xs xs → ⊥
shortlex_not xs irr (inl l) = omega arith
shortlex_not xs irr (inr l) = lex_not irr l refl

-- of two lists of one length one comes first, or they are the same
lex_any : {A : Type 0} {R : A → A → Type 0} → ((x y : A) → R x y ⊎ (R y x ⊎ (x ≡ y))) → (xs ys : List A) → length xs ≡ length ys → Lex R xs ys ⊎ (Lex R ys xs ⊎ (xs ≡ ys))
lex_any any [] [] e = inr (inr refl)
lex_any any [] (y ∷ ys) e = absurd (omega arith)
lex_any any (x ∷ xs) [] e = absurd (omega arith)
lex_any {A} {R} any (x ∷ xs) (y ∷ ys) e = go (any x y) (lex_any any xs ys e')
  where
    e' : length xs ≡ length ys
    e' = omega arith

    go : R x y ⊎ (R y x ⊎ (x ≡ y)) → Lex R xs ys ⊎ (Lex R ys xs ⊎ (xs ≡ ys)) → Lex R (x ∷ xs) (y ∷ ys) ⊎ (Lex R (y ∷ ys) (x ∷ xs) ⊎ (x ∷ xs ≡ y ∷ ys))
    go (inl r) h = inl (differ r e')
    go (inr (inl r)) h = inr (inl (differ r (sym e')))
    go (inr (inr p)) (inl l) = inl (subst (λ (z : A). Lex R (x ∷ xs) (z ∷ ys)) p (agree l))
    go (inr (inr p)) (inr (inl l)) = inr (inl (subst (λ (z : A). Lex R (z ∷ ys) (x ∷ xs)) p (agree l)))
    go (inr (inr p)) (inr (inr q)) = inr (inr cc)

-- one first circle at most, where of two names one is sooner or they are the same
pub one_first : {A : Type 0} {N : A → Step → Type 0} {R : A → A → Type 0} → ((x y : A) → R x y ⊎ (R y x ⊎ (x ≡ y))) → (xs ys : List A) → FirstCircle N R xs → FirstCircle N R ys → xs ≡ ys
one_first {A} {N} {R} any xs ys f g = elim (cases_eq (length xs) (length ys)) [ inl e ↦ same (lex_any any xs ys e) | inr d ↦ elim (cases_lt (length xs) (length ys)) [ inl l ↦ absurd (g.first xs f.circle (inl l)) | inr l ↦ absurd (f.first ys g.circle (inl (omega arith))) ] ]
  where
    same : Lex R xs ys ⊎ (Lex R ys xs ⊎ (xs ≡ ys)) → xs ≡ ys
    same (inl l) = absurd (g.first xs f.circle (inr l))
    same (inr (inl l)) = absurd (f.first ys g.circle (inr l))
    same (inr (inr p)) = p

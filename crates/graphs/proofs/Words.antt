-- Graphs in words follow the graphs that they stand for.
use Rattle.std.proofs.Common.{◌≡◌, ℕ, zero, suc, ◌+◌, ◌*◌, ◌/◌, ◌%◌, ◌^◌, ◌<◌, ◌≤◌, min, max, Bool, true, cond, not, ◌&&◌, eqb, ◌⊎◌, List, [], ◌∷◌, ◌++◌, Decides, sym, refl, ap, ◌∙◌, subst, ap₂, inl, inr, arith, lit<}
use lib.Bits.{bit_and, bit_or, and_lt, or_lt}
use Rattle.std.proofs.lemmas.Nat.{pow_below}
use Rattle.std.proofs.lemmas.Bool.{cases_lt, cond-true, cond-false, eq-eqb, and_from, and_parts, cases_eq, eqb-true, ne_eqb, not-true, not_from_false}
use Rattle.std.proofs.lemmas.Bool.Decides.{Decides-below_and, Decides-eqb, eqb_tells, nat_tests, not_from_Decides}
use Rattle.sizechange.specs.Graph.{Arc, In, leads, compose, Alike, Idempotent}
use Rattle.sizechange.specs.Theorems.{FineArc}
use Rattle.sizechange.proofs.Arcs.{sup, thru, thru_is, sup_cong, leads_compose, leads_outside, fine_compose, in_append, in_cons}
use Rattle.std.specs.Int.{bit_at}
use Rattle.std.proofs.lemmas.Nat.Bits.{bit_at-lt, bit_at-zero, bit_at-pow_same, bit_at-pow_other, bit_at_and, bit_at_or, bit_at-trailing_zeros, same_from_bits_below}
use Rattle.graphs.specs.How.{how_of}
use Rattle.graphs.specs.declared.How.{How}
use Rattle.graphs.specs.declared.How.TheVariants.{Same, Part}
use Rattle.graphs.specs.Words.{Words, Through}
use Rattle.graphs.specs.declared.Graph.{Graph}
use Rattle.std.specs.Int.{trailing_zeros, w64}

-- a level of one place in the middle: leads are sums of two bits
thru_sum : (a p b q : ℕ) → a < 2 → b < 2 → p ≤ a → q ≤ b → thru (a + p) (b + q) ≡ min a b + max (min p b) (min a q)
thru_sum a p b q ha hb hp hq = omega (arith, thru_is (a + p) (b + q))

max_sum : (u v x y : ℕ) → u < 2 → x < 2 → v ≤ u → y ≤ x → max (u + v) (x + y) ≡ max u x + max v y
max_sum u v x y hu hx hv hy = omega arith

max_swap : (a b c d : ℕ) → max (max a b) (max c d) ≡ max (max a c) (max b d)
max_swap a b c d = omega arith

record Sums (n : ℕ) (a p b q : ℕ → ℕ) : Type 0 where
  most : sup n (λ m. min (a m) (b m)) < 2
  within : max (sup n (λ m. min (p m) (b m))) (sup n (λ m. min (a m) (q m))) ≤ sup n (λ m. min (a m) (b m))
  sum : sup n (λ m. thru (a m + p m) (b m + q m)) ≡ sup n (λ m. min (a m) (b m)) + max (sup n (λ m. min (p m) (b m))) (sup n (λ m. min (a m) (q m)))

sup_sum : (n : ℕ) (a p b q : ℕ → ℕ) → ((m : ℕ) → m < n → a m < 2) → ((m : ℕ) → m < n → b m < 2) → ((m : ℕ) → m < n → p m ≤ a m) → ((m : ℕ) → m < n → q m ≤ b m) → Sums n a p b q
unfolding sup
sup_sum zero a p b q ha hb hp hq = record { most = omega arith; within = omega arith; sum = omega arith }
sup_sum (suc n) a p b q ha hb hp hq =
    let l : n < suc n = omega arith in
    let h = sup_sum n a p b q (λ m k. ha m (omega arith)) (λ m k. hb m (omega arith)) (λ m k. hp m (omega arith)) (λ m k. hq m (omega arith)) in
    let an = ha n l in
    let bn = hb n l in
    let pn = hp n l in
    let qn = hq n l in
    let t = thru_sum (a n) (p n) (b n) (q n) an bn pn qn in
    let low = max_sum (min (a n) (b n)) (max (min (p n) (b n)) (min (a n) (q n))) (sup n (λ m. min (a m) (b m))) (max (sup n (λ m. min (p m) (b m))) (sup n (λ m. min (a m) (q m)))) (omega arith) h.most (omega arith) h.within in
    record {
      most = omega arith;
      within = omega arith;
      sum = ap₂ max t h.sum ∙ low ∙ ap (λ (z : ℕ). max (min (a n) (b n)) (sup n (λ m. min (a m) (b m))) + z) (max_swap (min (p n) (b n)) (min (a n) (q n)) (sup n (λ m. min (p m) (b m))) (sup n (λ m. min (a m) (q m))));
    }

-- the words of a composition
pub words_compose : (x y r : Graph) (p q : ℕ) (as₁ bs : List Arc) → r.any < 2 ^ 64 → r.part < 2 ^ 64 → Through 8 x.any y.any r.any → Through 8 x.part y.any p → Through 8 x.any y.part q → r.part ≡ bit_or p q → Words x as₁ → Words y bs → Words r (compose as₁ bs)
words_compose x y r p q as₁ bs fa fp ta tp tq e wx wy = record { fine = fine_compose wx.fine wy.fine; any_fits = fa; part_fits = fp; lead = λ i j hi hj. (both i j hi hj).0; within = λ i j hi hj. (both i j hi hj).1 }
  where
    both : (i j : ℕ) → i < 8 → j < 8 → (leads (compose as₁ bs) i j ≡ bit_at r.any (8 * i + j) + bit_at r.part (8 * i + j)) × (bit_at r.part (8 * i + j) ≤ bit_at r.any (8 * i + j))
    both i j hi hj =
        let a : ℕ → ℕ = λ m. bit_at x.any (8 * i + m) in
        let c : ℕ → ℕ = λ m. bit_at x.part (8 * i + m) in
        let b : ℕ → ℕ = λ m. bit_at y.any (8 * m + j) in
        let d : ℕ → ℕ = λ m. bit_at y.part (8 * m + j) in
        let s = sup_sum 8 a c b d (λ m l. bit_at-lt x.any (8 * i + m)) (λ m l. bit_at-lt y.any (8 * m + j)) (λ m l. wx.within i m hi l) (λ m l. wy.within m j l hj) in
        let way = leads_compose as₁ bs i j wx.fine wy.fine ∙ sup_cong 8 (λ m. thru (leads as₁ i m) (leads bs m j)) (λ m. thru (a m + c m) (b m + d m)) (λ m l. ap₂ thru (wx.lead i m hi l) (wy.lead m j l hj)) in
        let any = ta i j hi hj in
        let part : bit_at r.part (8 * i + j) ≡ max (sup 8 (λ m. min (c m) (b m))) (sup 8 (λ m. min (a m) (d m))) = ap (λ (z : ℕ). bit_at z (8 * i + j)) e ∙ bit_at_or p q (8 * i + j) ∙ ap₂ max (tp i j hi hj) (tq i j hi hj) in
        (way ∙ s.sum ∙ ap₂ (λ (u v : ℕ). u + v) (sym any) (sym part), rw (part, any) s.within)

-- Two graphs in words lead alike where their words are the same, and only there.

pub words_alike : (g h : Graph) (as₁ bs : List Arc) → Words g as₁ → Words h bs → g.any ≡ h.any → g.part ≡ h.part → Alike as₁ bs
words_alike g h as₁ bs wg wh ea ep i j = go (cases_lt i 8) (cases_lt j 8)
  where
    go : (i < 8) ⊎ (8 ≤ i) → (j < 8) ⊎ (8 ≤ j) → leads as₁ i j ≡ leads bs i j
    go (inl hi) (inl hj) = wg.lead i j hi hj ∙ ap₂ (λ (u v : ℕ). bit_at u (8 * i + j) + bit_at v (8 * i + j)) ea ep ∙ sym (wh.lead i j hi hj)
    go (inl hi) (inr hj) = leads_outside i j wg.fine (inr hj) ∙ sym (leads_outside i j wh.fine (inr hj))
    go (inr hi) y = leads_outside i j wg.fine (inl hi) ∙ sym (leads_outside i j wh.fine (inl hi))

-- the places of a bit
place : (P : ℕ → Type 0) → ((i j : ℕ) → i < 8 → j < 8 → P (8 * i + j)) → (n : ℕ) → n < 64 → P n
place P f n h = let e : 8 * (n / 8) + n % 8 ≡ n = omega arith in subst P e (f (n / 8) (n % 8) (omega arith) (omega arith))

pub alike_words : (g h : Graph) (as₁ bs : List Arc) → Words g as₁ → Words h bs → Alike as₁ bs → (g.any ≡ h.any) × (g.part ≡ h.part)
alike_words g h as₁ bs wg wh alike = (same_from_bits_below 64 g.any h.any wg.any_fits wh.any_fits (place (λ n. bit_at g.any n ≡ bit_at h.any n) any), same_from_bits_below 64 g.part h.part wg.part_fits wh.part_fits (place (λ n. bit_at g.part n ≡ bit_at h.part n) part))
  where
    sums : (i j : ℕ) → i < 8 → j < 8 → bit_at g.any (8 * i + j) + bit_at g.part (8 * i + j) ≡ bit_at h.any (8 * i + j) + bit_at h.part (8 * i + j)
    sums i j hi hj = sym (wg.lead i j hi hj) ∙ alike i j ∙ wh.lead i j hi hj

    any : (i j : ℕ) → i < 8 → j < 8 → bit_at g.any (8 * i + j) ≡ bit_at h.any (8 * i + j)
    any i j hi hj = omega (arith, sums i j hi hj, wg.within i j hi hj, wh.within i j hi hj, bit_at-lt g.any (8 * i + j), bit_at-lt h.any (8 * i + j))

    part : (i j : ℕ) → i < 8 → j < 8 → bit_at g.part (8 * i + j) ≡ bit_at h.part (8 * i + j)
    part i j hi hj = omega (arith, sums i j hi hj, any i j hi hj)

-- A place becomes a part of itself where `part` has a bit of the diagonal.

abbrev pub diagonal : ℕ
diagonal = 0x8040_2010_0804_0201

ninth : ℕ → ℕ
ninth n = cond (eqb (n % 9) 0) 1 0

all_ninths : ℕ → Bool
all_ninths zero = true
all_ninths (suc n) = eqb (bit_at diagonal n) (ninth n) && all_ninths n

-- of the first 64 bits, those of the diagonal are every ninth; by looking at each
diagonal_bit : (n : ℕ) → n < 64 → bit_at diagonal n ≡ ninth n
unfolding all_ninths ninth
diagonal_bit = (Decides-below_and (λ n. eqb (bit_at diagonal n) (ninth n)) (λ n. bit_at diagonal n ≡ ninth n) all_ninths (λ n. Decides-eqb (bit_at diagonal n) (ninth n)) refl (λ n. refl) 64).0 refl

some_bit : (x : ℕ) → 0 < x → x < 2 ^ 64 → (n : ℕ) × (n < 64) × (bit_at x n ≡ 1)
some_bit x some fits = let b = bit_at-trailing_zeros w64 x some fits in (trailing_zeros w64 x, b.0, b.1)

pub shrinks : (g : Graph) (as₁ : List Arc) → Words g as₁ → 0 < bit_and g.part diagonal → (i : ℕ) × (leads as₁ i i ≡ 2)
unfolding ninth
shrinks g as₁ w h =
    let b = some_bit (bit_and g.part diagonal) h (and_lt 64 g.part diagonal w.part_fits (lit< tt)) in
    let n = b.0 in
    let both = sym (bit_at_and g.part diagonal n) ∙ b.2 in
    let at : n % 9 ≡ 0 = elim (eqb_tells (n % 9) 0) [ inl y ↦ y.1 | inr z ↦ absurd (omega (arith, cond-false {A = ℕ} (eqb (n % 9) 0) 1 0 z.0, diagonal_bit n b.1, both)) ] in
    let e : 8 * (n / 9) + n / 9 ≡ n = omega arith in
    let p : bit_at g.part (8 * (n / 9) + n / 9) ≡ 1 = ap (bit_at g.part) e ∙ omega (arith, both, bit_at-lt g.part n) in
    (n / 9, omega (arith, p, w.lead (n / 9) (n / 9) (omega arith) (omega arith), w.within (n / 9) (n / 9) (omega arith) (omega arith), bit_at-lt g.any (8 * (n / 9) + n / 9)))

pub not_shrinks : (g : Graph) (as₁ : List Arc) → Words g as₁ → bit_and g.part diagonal ≡ 0 → (i : ℕ) → leads as₁ i i ≡ 2 → ⊥
unfolding ninth
not_shrinks g as₁ w h i e = go (cases_lt i 8)
  where
    go : (i < 8) ⊎ (8 ≤ i) → ⊥
    go (inl l) =
        let n : ℕ = 8 * i + i in
        let none : bit_at (bit_and g.part diagonal) n ≡ 0 = ap (λ (x : ℕ). bit_at x n) h ∙ bit_at-zero n in
        let d : bit_at diagonal n ≡ 1 = diagonal_bit n (omega arith) ∙ cond-true (eqb (n % 9) 0) 1 0 (eq-eqb (n % 9) 0 (omega arith)) in
        omega (arith, none, bit_at_and g.part diagonal n, d, w.lead i i l l, bit_at-lt g.any n, e)
    go (inr l) = omega (arith, leads_outside i i w.fine (inl l), e)

-- One arc more.

pub fine_arc : {from to : ℕ} (h : How) → from < 8 → to < 8 → FineArc 8 (record { from = from; to = to; how = how_of h })
fine_arc Same f t = record { from_below = f; to_below = t; some_how = omega arith; how_most = omega arith }
fine_arc Part f t = record { from_below = f; to_below = t; some_how = omega arith; how_most = omega arith }

leads_push : (as₁ : List Arc) (a : Arc) (i j : ℕ) → leads (as₁ ++ a ∷ []) i j ≡ max (leads as₁ i j) (cond (eqb i a.from && eqb j a.to) a.how 0)
leads_push [] a i j = omega arith
leads_push (x ∷ xs) a i j = omega (arith, leads_push xs a i j)

pub words_none : Words (record { any = 0; part = 0 }) []
words_none = record { fine = λ a i. elim i [ ]; any_fits = lit< tt; part_fits = lit< tt; lead = λ i j hi hj. omega (arith, bit_at-zero (8 * i + j)); within = λ i j hi hj. omega arith }

-- what one arc adds to a bit
arc_here : (a : Arc) (i j : ℕ) → i < 8 → j < 8 → FineArc 8 a → 8 * i + j ≡ 8 * a.from + a.to → cond (eqb i a.from && eqb j a.to) a.how 0 ≡ a.how
arc_here a i j hi hj fa e =
    let hf = fa.from_below in
    let ht = fa.to_below in
    cond-true {A = ℕ} (eqb i a.from && eqb j a.to) a.how 0 (and_from (eqb i a.from) (eqb j a.to) (eq-eqb i a.from (omega arith)) (eq-eqb j a.to (omega arith)))

arc_other : (a : Arc) (i j : ℕ) → (8 * i + j ≡ 8 * a.from + a.to → ⊥) → cond (eqb i a.from && eqb j a.to) a.how 0 ≡ 0
arc_other a i j ne = grind (arith, nat_tests)

-- `arc` is the bit of a, and t what goes into the part word
pub words_push : (g : Graph) (arc t : ℕ) (a : Arc) → FineArc 8 a → arc ≡ 2 ^ (8 * a.from + a.to) → ((a.how ≡ 1) × (t ≡ 0)) ⊎ ((a.how ≡ 2) × (t ≡ arc)) → (as₁ : List Arc) → Words g as₁ → Words (record { any = bit_or g.any arc; part = bit_or g.part t }) (as₁ ++ a ∷ [])
words_push g arc t a fa is how as₁ w = record { fine = fine; any_fits = or_lt 64 g.any arc w.any_fits arc_fits; part_fits = or_lt 64 g.part t w.part_fits t_fits; lead = λ i j hi hj. (both i j hi hj).0; within = λ i j hi hj. (both i j hi hj).1 }
  where
    m : ℕ
    m = 8 * a.from + a.to

    arc_fits : arc < 2 ^ 64
    arc_fits = omega (arith, is, pow_below m 64 (omega (arith, fa.from_below, fa.to_below)))

    t_fits : t < 2 ^ 64
    t_fits = elim how [ inl x ↦ omega (arith, x.1) | inr x ↦ omega (arith, x.1, arc_fits) ]

    fine : (b : Arc) → In b (as₁ ++ a ∷ []) → FineArc 8 b
    fine b i = elim (in_append as₁ (a ∷ []) i) [ inl j ↦ w.fine b j | inr j ↦ elim (in_cons j) [ inl p ↦ subst (FineArc 8) (sym p) fa | inr k ↦ elim k [ ] ] ]

    any : (n : ℕ) → bit_at (bit_or g.any arc) n ≡ max (bit_at g.any n) (bit_at (2 ^ m) n)
    any n = bit_at_or g.any arc n ∙ ap (λ (x : ℕ). max (bit_at g.any n) (bit_at x n)) is

    part : (n : ℕ) → bit_at (bit_or g.part t) n ≡ max (bit_at g.part n) (bit_at t n)
    part n = bit_at_or g.part t n

    here_bit : bit_at t m + 1 ≡ a.how
    here_bit = elim how [ inl x ↦ omega (arith, ap (λ (y : ℕ). bit_at y m) x.1, bit_at-zero m) | inr x ↦ omega (arith, ap (λ (y : ℕ). bit_at y m) (x.1 ∙ is), bit_at-pow_same m) ]

    other_bit : (n : ℕ) → (n ≡ m → ⊥) → bit_at t n ≡ 0
    other_bit n ne = elim how [ inl x ↦ ap (λ (y : ℕ). bit_at y n) x.1 ∙ bit_at-zero n | inr x ↦ ap (λ (y : ℕ). bit_at y n) (x.1 ∙ is) ∙ bit_at-pow_other m n ne ]

    both : (i j : ℕ) → i < 8 → j < 8 → (leads (as₁ ++ a ∷ []) i j ≡ bit_at (bit_or g.any arc) (8 * i + j) + bit_at (bit_or g.part t) (8 * i + j)) × (bit_at (bit_or g.part t) (8 * i + j) ≤ bit_at (bit_or g.any arc) (8 * i + j))
    both i j hi hj = elim (cases_eq (8 * i + j) m) [ inl e ↦ (omega (arith, old, hb, wb, leads_push as₁ a i j, arc_here a i j hi hj fa e, any n, part n, ap (bit_at (2 ^ m)) e, ap (bit_at t) e, here_bit, bit_at-pow_same m, fa.how_most), omega (arith, wb, hb, any n, part n, ap (bit_at (2 ^ m)) e, ap (bit_at t) e, here_bit, bit_at-pow_same m, fa.how_most)) | inr ne ↦ (omega (arith, old, leads_push as₁ a i j, arc_other a i j ne, any n, part n, other_bit n ne, bit_at-pow_other m n ne), omega (arith, wb, any n, part n, other_bit n ne, bit_at-pow_other m n ne)) ]
      where
        n : ℕ
        n = 8 * i + j

        old : leads as₁ i j ≡ bit_at g.any n + bit_at g.part n
        old = w.lead i j hi hj

        wb : bit_at g.part n ≤ bit_at g.any n
        wb = w.within i j hi hj

        hb : bit_at g.any n < 2
        hb = bit_at-lt g.any n

-- The tests.

pub decides_shrinks : (g : Graph) (as₁ : List Arc) → Words g as₁ → Decides (not (eqb (bit_and g.part diagonal) 0)) ((i : ℕ) × (leads as₁ i i ≡ 2))
decides_shrinks g as₁ w =
    let d = bit_and g.part diagonal in (
      (λ t. shrinks g as₁ w (elim (cases_lt 0 d) [ inl l ↦ l | inr z ↦ absurd (not_from_Decides (eqb d 0) (Decides-eqb d 0) (not-true (eqb d 0) t) (omega arith)) ])),
      (λ s. not_from_false (eqb d 0) (ne_eqb d 0 (λ z. not_shrinks g as₁ w z s.0 s.1))),
    )

-- t is g gone twice
pub decides_idempotent : (g t : Graph) (as₁ : List Arc) → Words g as₁ → Words t (compose as₁ as₁) → Decides (eqb t.any g.any && eqb t.part g.part) (Idempotent as₁)
decides_idempotent g t as₁ w v = (λ b. let e = and_parts _ _ b in words_alike t g (compose as₁ as₁) as₁ v w (eqb-true t.any g.any e.0) (eqb-true t.part g.part e.1), λ i. let e = alike_words t g (compose as₁ as₁) as₁ v w i in and_from _ _ (eq-eqb t.any g.any e.0) (eq-eqb t.part g.part e.1))

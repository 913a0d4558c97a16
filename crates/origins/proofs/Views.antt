-- Writing notes, and bringing variables into view.
use Rattle.std.proofs.Common.{◌≡◌, ℕ, zero, suc, ◌+◌, ◌*◌, ◌/◌, ◌%◌, ◌<◌, ◌≤◌, ◌≢◌, List, ◌∷◌, length, get_or, set, sym, refl, ap, ◌∙◌, ap₂, add-zero, arith}
use mathlib.Core.Option.{Option}
use Rattle.std.proofs.lemmas.List.{length-set, get_or-set_same, get_or-set_other}
use Rattle.lang.specs.Steps.{From}
use Rattle.origins.specs.declared.origin.Origin.{Origin}
use Rattle.origins.specs.Origins.{from_of, in_view, origin_of}
use Rattle.origins.specs.Views.{outer_at, new_at, word_at, Noted, SameNote, newer}
use Rattle.origins.proofs.Origins.{view_same}

-- the words of a note
abbrev wrote : List ℕ → ℕ → ℕ → ℕ → List ℕ
wrote xs at a b = set (set xs (2 * at) a) (2 * at + 1) b

wrote_first : (xs : List ℕ) (at a b : ℕ) → 2 * at + 2 ≤ length xs → get_or (wrote xs at a b) (2 * at) 0 ≡ a
wrote_first xs at a b l = get_or-set_other (set xs (2 * at) a) (2 * at + 1) (2 * at) b 0 (λ e. omega arith) ∙ get_or-set_same xs (2 * at) a 0 (omega arith)

wrote_second : (xs : List ℕ) (at a b : ℕ) → 2 * at + 2 ≤ length xs → get_or (wrote xs at a b) (2 * at + 1) 0 ≡ b
wrote_second xs at a b l = get_or-set_same (set xs (2 * at) a) (2 * at + 1) b 0 (omega (arith, length-set xs (2 * at) a))

wrote_other : (xs : List ℕ) (at a b k : ℕ) → k ≢ 2 * at → k ≢ 2 * at + 1 → get_or (wrote xs at a b) k 0 ≡ get_or xs k 0
wrote_other xs at a b k h i = get_or-set_other (set xs (2 * at) a) (2 * at + 1) k b 0 i ∙ get_or-set_other xs (2 * at) k a 0 h

pub noted : (xs : List ℕ) (at outer new word : ℕ) (k : Option From) → from_of word ≡ k → 2 * at + 2 ≤ length xs → new ≤ 2 → Noted (wrote xs at (outer * 4 + new) word) at outer new k
unfolding outer_at new_at word_at
noted xs at outer new word k q l f =
    let e = wrote_first xs at (outer * 4 + new) word l in
    record { outer_is = ap (λ (w : ℕ). w / 4) e ∙ omega arith; new_is = ap (λ (w : ℕ). w % 4) e ∙ omega arith; origin_is = ap from_of (wrote_second xs at (outer * 4 + new) word l) ∙ q }

pub noted_word : (xs : List ℕ) (at outer new word w : ℕ) → word ≡ w → 2 * at + 2 ≤ length xs → word_at (wrote xs at (outer * 4 + new) word) at ≡ w
unfolding word_at
noted_word xs at outer new word w e l = wrote_second xs at (outer * 4 + new) word l ∙ e

pub read_word : (xs : List ℕ) (at : ℕ) (o : Origin) → o ≡ origin_of (get_or xs (2 * at + 1) 0) → o ≡ origin_of (word_at xs at)
unfolding word_at
read_word xs at o e = e

pub noted_other : (xs : List ℕ) (at a b j : ℕ) → (j ≡ at → ⊥) → SameNote xs (wrote xs at a b) j
unfolding outer_at new_at word_at
noted_other xs at a b j n =
    let e = wrote_other xs at a b (2 * j) (λ q. n (omega arith)) (λ q. omega arith) in
    record { outer_is = ap (λ (w : ℕ). w / 4) e; new_is = ap (λ (w : ℕ). w % 4) e; word_is = wrote_other xs at a b (2 * j + 1) (λ q. omega arith) (λ q. n (omega arith)) }

pub noted_read : (xs : List ℕ) (at : ℕ) (k : Option From) → k ≡ from_of (get_or xs (2 * at + 1) 0) → Noted xs at (get_or xs (2 * at) 0 / 4) (get_or xs (2 * at) 0 % 4) k
unfolding outer_at new_at word_at
noted_read xs at k q = record { outer_is = refl; new_is = refl; origin_is = sym q }

-- two words of one origin, of which some come into view
abbrev twice : List ℕ → ℕ → ℕ → List ℕ
twice xs o w = set (set xs o w) (o + 1) w

pub twice_below : (xs : List ℕ) (o w j : ℕ) → j < o → get_or (twice xs o w) j 0 ≡ get_or xs j 0
twice_below xs o w j l = get_or-set_other (set xs o w) (o + 1) j w 0 (λ e. omega arith) ∙ get_or-set_other xs o j w 0 (λ e. omega arith)

twice_first : (xs : List ℕ) (o w : ℕ) → o + 2 ≤ length xs → get_or (twice xs o w) o 0 ≡ w
twice_first xs o w l = get_or-set_other (set xs o w) (o + 1) o w 0 (λ e. omega arith) ∙ get_or-set_same xs o w 0 (omega arith)

twice_second : (xs : List ℕ) (o w : ℕ) → o + 2 ≤ length xs → get_or (twice xs o w) (suc o) 0 ≡ w
twice_second xs o w l = let e : suc o ≡ o + 1 = omega arith in rw e (get_or-set_same (set xs o w) (o + 1) w 0 (omega (arith, length-set xs o w)))

opened_words : (xs : List ℕ) (o n w : ℕ) → n ≤ 2 → o + 2 ≤ length xs → in_view (twice xs o w) (o + n) ≡ newer n (from_of w) (in_view xs o)
opened_words xs o zero w h l = rw add-zero (view_same xs (twice xs o w) o (twice_below xs o w))
opened_words xs o (suc zero) w h l =
    let e : o + 1 ≡ suc o = omega arith in
    ap (λ (k : ℕ). in_view (twice xs o w) k) e ∙ ap₂ (λ (v : ℕ) (ks : List (Option From)). from_of v ∷ ks) (twice_first xs o w l) (view_same xs (twice xs o w) o (twice_below xs o w))
opened_words xs o (suc (suc zero)) w h l =
    let e : o + 2 ≡ suc (suc o) = omega arith in
    ap (λ (k : ℕ). in_view (twice xs o w) k) e ∙ ap₂ (λ (v : ℕ) (ks : List (Option From)). from_of v ∷ ks) (twice_second xs o w l) (ap₂ (λ (v : ℕ) (ks : List (Option From)). from_of v ∷ ks) (twice_first xs o w l) (view_same xs (twice xs o w) o (twice_below xs o w)))
opened_words xs o (suc (suc (suc n))) w h l = absurd (omega arith)

pub opened : (xs : List ℕ) (o n w : ℕ) (k : Option From) → from_of w ≡ k → n ≤ 2 → o + 2 ≤ length xs → in_view (twice xs o w) (o + n) ≡ newer n k (in_view xs o)
opened xs o n w k q h l = opened_words xs o n w h l ∙ ap (λ (d : Option From). newer n d (in_view xs o)) q

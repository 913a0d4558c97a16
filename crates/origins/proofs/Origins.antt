-- What words in memory say about variables.
use Rattle.std.proofs.Common.{◌≡◌, ℕ, zero, suc, ◌+◌, ◌-◌, ◌*◌, ◌/◌, ◌%◌, ◌<◌, ◌≤◌, ◌==◌, if◌then◌else◌, List, ◌∷◌, get_or, refl, ap, ◌∙◌, ap₂, arith}
use mathlib.Core.Option.{Option, some}
use Rattle.lang.specs.Steps.{From, known, given}
use Rattle.origins.specs.declared.origin.Origin.{Origin}
use Rattle.origins.specs.declared.origin.Origin.TheVariants.{Unknown, Same, Part}
use Rattle.origins.specs.Origins.{from_of, in_view, origin_from, origin_of, word_of}

from_some : (w : ℕ) → 0 < w → from_of w ≡ some (record { arg = (w - 1) / 2 % 8; how = 1 + (w - 1) % 2 })
from_some zero h = absurd (omega arith)
from_some (suc w) h = let e : suc w - 1 ≡ w = omega arith in rw e refl

-- an origin's word says the same, and so does a word's origin
pub word_from : (o : Origin) → from_of (word_of o) ≡ origin_from o
word_from Unknown = refl
word_from (Same i) =
    let a : (2 * (i % 8) + 1 - 1) / 2 % 8 ≡ i % 8 = omega arith in
    let b : 1 + (2 * (i % 8) + 1 - 1) % 2 ≡ 1 = omega arith in
    from_some (2 * (i % 8) + 1) (omega arith) ∙ ap₂ (λ (x y : ℕ). some (record { arg = x; how = y })) a b
word_from (Part i) =
    let a : (2 * (i % 8) + 2 - 1) / 2 % 8 ≡ i % 8 = omega arith in
    let b : 1 + (2 * (i % 8) + 2 - 1) % 2 ≡ 2 = omega arith in
    from_some (2 * (i % 8) + 2) (omega arith) ∙ ap₂ (λ (x y : ℕ). some (record { arg = x; how = y })) a b

pub from_word : (w : ℕ) → origin_from (origin_of w) ≡ from_of w
from_word zero = refl
from_word (suc w) = go (w % 2) (omega arith)
  where
    go : (r : ℕ) → r < 2 → origin_from (if r == 0 then Same (w / 2) else Part (w / 2)) ≡ some (record { arg = w / 2 % 8; how = 1 + r })
    go zero l = refl
    go (suc zero) l = refl
    go (suc (suc r)) l = absurd (omega arith)

-- variable i of n in view has word n - 1 - i
pub known_word : (xs : List ℕ) (n i : ℕ) → i < n → known (in_view xs n) i ≡ from_of (get_or xs (n - 1 - i) 0)
known_word xs zero i h = absurd (omega arith)
known_word xs (suc n) zero h = let e : suc n - 1 - 0 ≡ n = omega arith in rw e refl
known_word xs (suc n) (suc i) h = let e : suc n - 1 - suc i ≡ n - 1 - i = omega arith in rw e (known_word xs n i (omega arith))

-- words past those in view do not matter
pub view_same : (xs ys : List ℕ) (n : ℕ) → ((j : ℕ) → j < n → get_or ys j 0 ≡ get_or xs j 0) → in_view ys n ≡ in_view xs n
view_same xs ys zero h = refl
view_same xs ys (suc n) h = ap₂ (λ (w : ℕ) (ks : List (Option From)). from_of w ∷ ks) (h n (omega arith)) (view_same xs ys n (λ j l. h j (omega arith)))

-- the words that `give` writes
pub given_view : (xs : List ℕ) (i n : ℕ) → i + n ≤ 8 → ((k : ℕ) → k < n → from_of (get_or xs k 0) ≡ origin_from (Same (i + n - 1 - k))) → in_view xs n ≡ given i n
given_view xs i zero l h = refl
given_view xs i (suc n) l h =
    let a : (i + suc n - 1 - n) % 8 ≡ i = omega arith in
    let e : from_of (get_or xs n 0) ≡ some (record { arg = i; how = 1 }) = h n (omega arith) ∙ ap (λ (x : ℕ). some (record { arg = x; how = 1 })) a in
    ap₂ (λ (k : Option From) (ks : List (Option From)). k ∷ ks) e (given_view xs (i + 1) n (omega arith) (λ k m. let b : i + suc n - 1 - k ≡ i + 1 + n - 1 - k = omega arith in h k (omega arith) ∙ ap (λ (x : ℕ). origin_from (Same x)) b))

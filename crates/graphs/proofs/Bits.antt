-- The product of two words as relations, through one middle place.
use Rattle.std.proofs.Common.{◌≡◌, ℕ, zero, suc, ◌+◌, ◌-◌, ◌*◌, ◌/◌, ◌%◌, ◌^◌, ◌<◌, min, sym, ap, ◌∙◌, mul-le-mul_right, mul_assoc, mul_comm, add-mul, add_comm, one-mul, zero-add, zero-mul, add-one, arith, shr-shr}
use native.Mathlib.Nat.{zero-div}
use lib.Bits.{bit_and, bit_or, and_block, and_mask, and_le_r}
use lib.Pow.{split}
use Rattle.std.specs.Int.{bit_at}
use Rattle.std.proofs.lemmas.Nat.{mul-le}
use Rattle.std.proofs.lemmas.Nat.Bits.{bit_at-zero, bit_at_cat_low, bit_at_cat_high, bit_at_or}
use Rattle.sizechange.proofs.Arcs.{sup}
use Rattle.graphs.specs.Words.{Through}

-- bits after a shift
bit_shift : (w m n : ℕ) → bit_at (w / 2 ^ m) n ≡ bit_at w (m + n)
bit_shift w m n = ap (λ (x : ℕ). x % 2) (shr-shr w m n)

-- a bit times a number
bit_times : (b v n : ℕ) → b < 2 → bit_at (b * v) n ≡ min b (bit_at v n)
bit_times zero v n h = rw (zero-mul v, zero-div) (omega arith)
bit_times (suc zero) v n h = rw one-mul (omega arith)
bit_times (suc (suc b)) v n h = absurd (omega arith)

-- a one at the start of each of n blocks of eight
abbrev column : ℕ → ℕ
column zero = 0
column (suc n) = column n * 2 ^ 8 + 1

and_column : (n x : ℕ) → bit_and x (column (suc n)) ≡ bit_and (x / 2 ^ 8) (column n) * 2 ^ 8 + x % 2
and_column n x =
    ap (λ (y : ℕ). bit_and y (column n * 2 ^ 8 + 1)) (sym (split x 8))
    ∙ and_block 8 (x / 2 ^ 8) (column n) (x % 2 ^ 8) 1 (omega arith) (omega arith)
    ∙ ap (λ (y : ℕ). bit_and (x / 2 ^ 8) (column n) * 2 ^ 8 + y) (and_mask (x % 2 ^ 8) 1 ∙ omega arith)

and_column_times : (n x v : ℕ) → bit_and x (column (suc n)) * v ≡ (bit_and (x / 2 ^ 8) (column n) * v) * 2 ^ 8 + (x % 2) * v
and_column_times n x v =
    let a = bit_and (x / 2 ^ 8) (column n) in
    ap (λ (y : ℕ). y * v) (and_column n x)
    ∙ add-mul (a * 2 ^ 8) (x % 2) v
    ∙ ap (λ (y : ℕ). y + (x % 2) * v) (mul_assoc a (2 ^ 8) v ∙ ap (λ (y : ℕ). a * y) (mul_comm (2 ^ 8) v) ∙ sym (mul_assoc a v (2 ^ 8)))

low_times : (b v : ℕ) → b < 2 → v < 2 ^ 8 → b * v < 2 ^ 8
low_times b v h hv = omega (arith, mul-le-mul_right {m = b} {n = 1} v (omega arith))

bit_through : (n x v i j : ℕ) → v < 2 ^ 8 → i < n → j < 8 → bit_at (bit_and x (column n) * v) (8 * i + j) ≡ min (bit_at x (8 * i)) (bit_at v j)
bit_through zero x v i j hv hi hj = absurd (omega arith)
bit_through (suc n) x v zero j hv hi hj =
    let a = bit_and (x / 2 ^ 8) (column n) * v in
    ap (λ (y : ℕ). bit_at y (0 + j)) (and_column_times n x v)
    ∙ ap (λ (y : ℕ). bit_at (a * 2 ^ 8 + (x % 2) * v) y) (zero-add j)
    ∙ bit_at_cat_low a 8 ((x % 2) * v) j hj
    ∙ bit_times (x % 2) v j (omega arith)
    ∙ ap (λ (y : ℕ). min y (bit_at v j)) (omega arith)
bit_through (suc n) x v (suc i) j hv hi hj =
    let a = bit_and (x / 2 ^ 8) (column n) * v in
    let e : 8 * suc i + j - 8 ≡ 8 * i + j = omega arith in
    let d : 8 + 8 * i ≡ 8 * suc i = omega arith in
    ap (λ (y : ℕ). bit_at y (8 * suc i + j)) (and_column_times n x v)
    ∙ bit_at_cat_high a 8 ((x % 2) * v) (8 * suc i + j) (low_times (x % 2) v (omega arith) hv) (omega arith)
    ∙ ap (bit_at a) e
    ∙ bit_through n (x / 2 ^ 8) v i j hv (omega arith) hj
    ∙ ap (λ (y : ℕ). min y (bit_at v j)) (bit_shift x 8 (8 * i) ∙ ap (bit_at x) d)

-- the low bits of a number are those of its low block
bit_block : (w j : ℕ) → j < 8 → bit_at (w % 2 ^ 8) j ≡ bit_at w j
bit_block w j l = sym (bit_at_cat_low (w / 2 ^ 8) 8 (w % 2 ^ 8) j l) ∙ ap (λ (x : ℕ). bit_at x j) (split w 8)

pub through_bits : (x y k i j : ℕ) → i < 8 → j < 8 → bit_at (bit_and (x / 2 ^ k) 0x0101_0101_0101_0101 * bit_and (y / 2 ^ (8 * k)) 255) (8 * i + j) ≡ min (bit_at x (8 * i + k)) (bit_at y (8 * k + j))
through_bits x y k i j hi hj =
    let v = y / 2 ^ (8 * k) in
    ap (λ (z : ℕ). bit_at (bit_and (x / 2 ^ k) (column 8) * z) (8 * i + j)) (and_mask v 8)
    ∙ bit_through 8 (x / 2 ^ k) (v % 2 ^ 8) i j (omega arith) hi hj
    ∙ ap (λ (z : ℕ). min z (bit_at (v % 2 ^ 8) j)) (bit_shift x k (8 * i) ∙ ap (bit_at x) (add_comm k (8 * i)))
    ∙ ap (λ (z : ℕ). min (bit_at x (8 * i + k)) z) (bit_block v j hj ∙ bit_shift y (8 * k) j)

pub through_fits : (a b : ℕ) → bit_and a 0x0101_0101_0101_0101 * bit_and b 255 < 2 ^ 64
through_fits a b = omega (arith, mul-le (bit_and a 0x0101_0101_0101_0101) (bit_and b 255) 0x0101_0101_0101_0101 255 (and_le_r a 0x0101_0101_0101_0101) (and_le_r b 255))

pub through_none : (x y : ℕ) → Through 0 x y 0
unfolding sup
through_none x y i j hi hj = bit_at-zero (8 * i + j)

pub through_more : (x y n r t : ℕ) → Through n x y r → ((i j : ℕ) → i < 8 → j < 8 → bit_at t (8 * i + j) ≡ min (bit_at x (8 * i + n)) (bit_at y (8 * n + j))) → Through (n + 1) x y (bit_or r t)
unfolding sup
through_more x y n r t h g i j hi hj = rw add-one (omega (arith, bit_at_or r t (8 * i + j), h i j hi hj, g i j hi hj))

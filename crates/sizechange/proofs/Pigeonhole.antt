-- The pigeonhole principle for numbers.
use Rattle.std.proofs.Common.{◌≡◌, ℕ, zero, suc, ◌-◌, ◌<◌, ◌≤◌, min, zero-le, arith}
use native.Mathlib.Decide.{ℕ_discrete}

-- two numbers up to n, one below the other, with one value
pub record Collision (g : ℕ → ℕ) (n : ℕ) : Type 0 where
  pub low : ℕ
  pub high : ℕ
  pub below : low < high
  pub within : high ≤ n
  pub same : g low ≡ g high

-- a value is taken below n
abbrev Taken : (ℕ → ℕ) → ℕ → ℕ → Type 0
Taken g v n = (i : ℕ) × (i < n) × (g i ≡ v)

taken? : (g : ℕ → ℕ) (v n : ℕ) → Dec (Taken g v n)
taken? g v zero = no (λ t. absurd (omega arith))
taken? g v (suc n) = go (taken? g v n) (ℕ_discrete (g n) v)
  where
    earlier : ¬ (g n ≡ v) → Taken g v (suc n) → Taken g v n
    earlier e (i, l, p) = let i≢n : i ≡ n → ⊥ = λ q. e (cc) in (i, omega arith, p)

    go : Dec (Taken g v n) → Dec (g n ≡ v) → Dec (Taken g v (suc n))
    go (yes t) d = yes (t.0, omega arith, t.2)
    go (no f) (yes e) = yes (n, omega arith, e)
    go (no f) (no e) = no (λ t. f (earlier e t))

-- of n + 1 numbers with values below n, two have the same value
pub pigeonhole : (n : ℕ) (g : ℕ → ℕ) → ((i : ℕ) → i ≤ n → g i < n) → Collision g n
pigeonhole zero g h = absurd (omega (arith, h 0 zero-le))
pigeonhole (suc n) g h = go (taken? g (g (suc n)) (suc n)) (pigeonhole n less)
  where
    -- the value of the last left out, the values above it one lower
    less : ℕ → ℕ
    less i = g i - min 1 (g i - g (suc n))

    go : Dec (Taken g (g (suc n)) (suc n)) → (((i : ℕ) → i ≤ n → less i < n) → Collision less n) → Collision g (suc n)
    go (yes t) ih = record { low = t.0; high = suc n; below = t.1; within = omega arith; same = t.2 }
    go (no f) ih =
        let other : (i : ℕ) → i ≤ n → g i ≡ g (suc n) → ⊥ = λ i l e. f (i, omega arith, e) in
        let c = ih (λ i l. omega (arith, other i l, h i (omega arith), h (suc n) (omega arith))) in
        let d = other c.low (omega arith) in
        let e = other c.high c.within in
        record { low = c.low; high = c.high; below = c.below; within = omega arith; same = omega arith }

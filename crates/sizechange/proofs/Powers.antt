-- The powers of a size-change graph, and one among them that is idempotent.
use Rattle.std.proofs.Common.{◌≡◌, ℕ, zero, suc, ◌+◌, ◌-◌, ◌*◌, ◌^◌, List, sym, ap, ◌∙◌, subst, arith}
use Rattle.sizechange.specs.Graph.{Arc, leads, compose, Alike, Idempotent}
use Rattle.sizechange.proofs.Arcs.{FineArcs, compose_assoc, fine_compose, alike_refl, alike_compose, key, key_below, key_alike}
use Rattle.sizechange.proofs.Pigeonhole.{pigeonhole}

-- a graph gone once, and n times more
pub power : List Arc → ℕ → List Arc
power w zero = w
power w (suc n) = compose w (power w n)

-- what holds of a graph, and of compositions of what it holds of, holds of its powers
pub power_keeps : (P : List Arc → Type 0) (w : List Arc) → ((as₁ bs : List Arc) → P as₁ → P bs → P (compose as₁ bs)) → P w → (n : ℕ) → P (power w n)
unfolding power
power_keeps P w join p zero = p
power_keeps P w join p (suc n) = join w (power w n) p (power_keeps P w join p n)

pub power_compose : (w : List Arc) (m n : ℕ) → compose (power w m) (power w n) ≡ power w (suc (m + n))
unfolding power
power_compose w zero n = let e : n ≡ 0 + n = omega arith in ap (λ (x : ℕ). power w (suc x)) e
power_compose w (suc m) n =
    let e : suc (m + n) ≡ suc m + n = omega arith in
    compose_assoc w (power w m) (power w n) ∙ ap (compose w) (power_compose w m n) ∙ ap (λ (x : ℕ). power w (suc x)) e

module _ {k : ℕ} (w : List Arc) (fine : FineArcs k w) where
  power_fine : (n : ℕ) → FineArcs k (power w n)
  power_fine = power_keeps (FineArcs k) w (λ as₁ bs f g. fine_compose f g) fine

  -- two powers that lead alike still do when gone on alike
  alike_longer : (a b i : ℕ) → Alike (power w a) (power w b) → Alike (power w (suc (a + i))) (power w (suc (b + i)))
  alike_longer a b i h =
      rw (← power_compose w a i, ← power_compose w b i)
      (alike_compose (power_fine a) (power_fine b) (power_fine i) (power_fine i) h (alike_refl (power w i)))

  -- so from there on the powers repeat, with their distance as period
  alike_again : (a d i j : ℕ) → Alike (power w a) (power w (a + suc d)) → Alike (power w (suc (a + i))) (power w (suc (a + (i + j * suc d))))
  alike_again a d i zero h x y = let e : i ≡ i + 0 * suc d = omega arith in ap (λ (n : ℕ). leads (power w (suc (a + n))) x y) e
  alike_again a d i (suc j) h x y =
      let e : suc (a + suc d + (i + j * suc d)) ≡ suc (a + (i + suc j * suc d)) = omega arith in
      alike_again a d i j h x y ∙ alike_longer a (a + suc d) (i + j * suc d) h x y ∙ ap (λ (n : ℕ). leads (power w n) x y) e

  -- the power whose exponent is a multiple of the period is idempotent
  idempotent_at : (a d : ℕ) → Alike (power w a) (power w (a + suc d)) → Idempotent (power w (suc (a + (a + 2) * d)))
  idempotent_at a d h x y =
      let m = suc (a + (a + 2) * d) in
      let e : suc (m + m) ≡ suc (a + ((a + 2) * d + (a + 2) * suc d)) = omega arith in
      ap (λ (g : List Arc). leads g x y) (power_compose w m m ∙ ap (power w) e) ∙ sym (alike_again a d ((a + 2) * d) (a + 2) h x y)

  pub idempotent_power : (n : ℕ) × Idempotent (power w n)
  idempotent_power =
      let c = pigeonhole (3 ^ (k * k)) (λ n. key k (power w n)) (λ i l. key_below (power_fine i)) in
      let d = c.high - suc c.low in
      let e : c.high ≡ c.low + suc d = omega arith in
      (suc (c.low + (c.low + 2) * d), idempotent_at c.low d (subst (λ (n : ℕ). Alike (power w c.low) (power w n)) e (key_alike (power_fine c.low) (power_fine c.high) c.same)))

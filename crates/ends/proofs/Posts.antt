-- The promise of `judge`, put together.
use Rattle.std.proofs.Common.{◌≡◌, ℕ, ◌+◌, ◌-◌, ◌^◌, ◌<◌, ◌≤◌, List, refl, arith}
use Rattle.std.proofs.Math.Nat.{le-min, min-le_left}
use Rattle.std.specs.Prelude.{min, ◌≢◌}
use Rattle.lang.proofs.Reading.{one_program, one_list}
use Rattle.lang.proofs.Rules.{one_outcome, one_derivation}
use Rattle.lang.proofs.Theorems.{always_ends, has_a_value, every_expression_ends, finite}
use Rattle.ends.specs.declared.judge_call.Judged.{Judged}
use Rattle.ends.specs.declared.judge_call.Judged.TheVariants.{Few}
use Rattle.ends.specs.Judging.{JudgedSays, JudgedPost, Theorems, floor}

pub theorems : Theorems
theorems = record { always_ends = always_ends; has_a_value = has_a_value; every_expression_ends = every_expression_ends; one_outcome = one_outcome; one_derivation = one_derivation; finite = finite; one_program = one_program; one_list = one_list }

-- where a slice has at least as many words as can be counted of those wanted, it has all that are wanted
pub enough : (w wanted m : ℕ) → m ≡ min wanted (2 ^ 64 - 1) → m ≤ w → w < 2 ^ 63 → wanted ≤ w
enough w wanted m e l fits = omega (arith, more)
  where
    more : w < wanted → ⊥
    more few = let least : w + 1 ≤ min wanted (2 ^ 64 - 1) = le-min (omega arith) (omega arith) in omega arith

pub few_post : (s : List ℕ) (n w m : ℕ) → m ≡ min (floor s n) (2 ^ 64 - 1) → w < m → JudgedPost s n w Few
few_post s n w m e l = record { says = tt; theorems = theorems; few = ((λ _. refl), (λ _. omega (arith, min-le_left (floor s n) (2 ^ 64 - 1)))) }

-- an answer other than few, where there are enough words
pub post : (s : List ℕ) (n w : ℕ) (r : Judged) → (r ≢ Few) → floor s n ≤ w → JudgedSays s n r → JudgedPost s n w r
post s n w r other l says = record { says = says; theorems = theorems; few = ((λ few. absurd (omega arith)), (λ z. absurd (other z))) }

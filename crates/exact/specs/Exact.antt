-- What is promised leaves nothing open: no two answers are true of the same call. A promise that said less than it should would not keep them apart.
use Rattle.std.specs.Prelude.{◌≡◌, List, ℕ, length, Result}
use Rattle.ends.specs.declared.judge_call.Judged.{Judged}
use Rattle.ends.specs.declared.go_call.Refusal.{Refusal}
use Rattle.ends.specs.declared.go_call.Value.{Value}
use Rattle.ends.specs.Judging.{JudgedPost}
use Rattle.ends.specs.Going.{GoPost}
use Rattle.ends.specs.Numbers.{judged_number, ran_numbers}

abbrev pub OneJudgement : Type 0
OneJudgement = (s : List ℕ) (n w : ℕ) (x y : Judged) → JudgedPost s n w x → JudgedPost s n w y → judged_number x ≡ judged_number y

-- a slice keeps its length
abbrev pub OneRun : Type 0
OneRun = (s : List ℕ) (n f : ℕ) (a : List ℕ) (d r : ℕ) (o o₁ o₂ : List ℕ) (w : ℕ) (x y : Result Value Refusal) → length o₁ ≡ length o → length o₂ ≡ length o → GoPost s n f a d r o o₁ w x → GoPost s n f a d r o o₂ w y → (x ≡ y) × (o₁ ≡ o₂)

-- answers that cross as the same numbers are the same
abbrev pub OneNumberEach : Type 0
OneNumberEach = (x y : Result Value Refusal) → ran_numbers x ≡ ran_numbers y → x ≡ y

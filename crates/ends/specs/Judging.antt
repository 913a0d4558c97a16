-- What `judge` promises.
use Rattle.std.specs.Prelude.{◌≡◌, ℕ, ◌+◌, ◌*◌, ◌<◌, ◌≤◌, ◌↔◌, List, length, Option, None, Some, Result, Ok, Err}
use Rattle.sizechange.specs.Graph.{Way1}
use Rattle.lang.specs.Program.{Prog}
use Rattle.lang.specs.Steps.{EndsForAReason, WaysOf}
use Rattle.lang.specs.Bytes.{Program}
use Rattle.lang.specs.Theorems.{AlwaysEnds, HasAValue, EveryExpressionEnds, OneOutcome, OneDerivation, Finite, OneProgram, OneList}
use Rattle.judging.specs.declared.Refusal.{Refusal}
use Rattle.judging.specs.declared.Refusal.TheVariants as refusal
use Rattle.judging.specs.declared.Verdict.{Verdict}
use Rattle.ends.specs.declared.judge_call.Judged.{Judged}
use Rattle.ends.specs.declared.judge_call.Judged.TheVariants.{Ends, NoReason, NoProgram, Many, Few}

-- The bytes s are judged, with n ways at most: the program, the list of all its ways against the number allowed, and the reason or its refutation.
abbrev pub JudgedSays : List ℕ → ℕ → Judged → Type 0
JudgedSays s n Ends = (p : Prog) × (ws : List Way1) × Program s p × WaysOf p ws × (length ws ≤ n) × EndsForAReason p
JudgedSays s n NoReason = (p : Prog) × (ws : List Way1) × Program s p × WaysOf p ws × (length ws ≤ n) × (EndsForAReason p → ⊥)
JudgedSays s n NoProgram = (p : Prog) → Program s p → ⊥
JudgedSays s n Many = (p : Prog) × (ws : List Way1) × Program s p × WaysOf p ws × (n < length ws)
JudgedSays s n Few = Unit {0}

-- what is said where this is found, of a program by the first of its ways that lacks the reason
abbrev pub judged_by : Option ℕ → Judged
judged_by None = Ends
judged_by (Some _) = NoReason

abbrev pub judged_of : Result Verdict Refusal → Judged
judged_of (Ok v) = judged_by v.failing
judged_of (Err refusal.NoProgram) = NoProgram
judged_of (Err refusal.Many) = Many

-- the work words that judging wants
abbrev pub floor : List ℕ → ℕ → ℕ
floor s n = 16384 + (64 * length s + 64 * n)

-- the theorems that make the answer worth having
pub record Theorems : Type 0 where
  pub always_ends : AlwaysEnds
  pub has_a_value : HasAValue
  pub every_expression_ends : EveryExpressionEnds
  pub one_outcome : OneOutcome
  pub one_derivation : OneDerivation
  pub finite : Finite
  pub one_program : OneProgram
  pub one_list : OneList

pub record JudgedPost (s : List ℕ) (n w : ℕ) (r : Judged) : Type 0 where
  pub says : JudgedSays s n r
  pub theorems : Theorems
  pub few : (w < floor s n) ↔ (r ≡ Few)

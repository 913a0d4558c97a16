-- The answers as they cross to other languages.
use Rattle.std.specs.Prelude.{ℕ, Result, Ok, Err}
use Rattle.ends.specs.declared.judge_call.Judged.{Judged}
use Rattle.ends.specs.declared.judge_call.Judged.TheVariants.{Ends, NoReason, NoProgram, Many, Few}
use Rattle.ends.specs.declared.go_call.Value.{Value}
use Rattle.ends.specs.declared.go_call.Refusal.{Refusal}
use Rattle.ends.specs.declared.go_call.Refusal.TheVariants.{Full, Deep, Unproved, BadCall, OutFull, Small}
use Rattle.ends.specs.declared.numbers.RanC.{RanC}

-- an answer of `judge` as a number
abbrev pub judged_number : Judged → ℕ
judged_number Ends = 0
judged_number NoReason = 1
judged_number NoProgram = 2
judged_number Many = 3
judged_number Few = 4

-- why a call has no value, as a number; 0 is a value
abbrev pub refusal_number : Refusal → ℕ
refusal_number Full = 1
refusal_number Deep = 2
refusal_number Unproved = 3
refusal_number BadCall = 4
refusal_number OutFull = 5
refusal_number Small = 6

-- what `go` returns as a number, the room left and the bytes written, which are 0 where there is no value
abbrev pub ran_numbers : Result Value Refusal → RanC
ran_numbers (Ok v) = record { answer = 0; room = v.room; bytes = v.bytes }
ran_numbers (Err e) = record { answer = refusal_number e; room = 0; bytes = 0 }

use Rattle.circles.proofs.Tracing.{Writing}
use Rattle.circles.proofs.write_calls.Given as goal

abbrev pub invariant-loop-number : goal.invariant-loop-number
invariant-loop-number l = Writing l.steps.words.now l.ways.words.now l.initial.way l.at l.part l.from l.number

use Rattle.circles.proofs.Tracing.{Counting}
use Rattle.circles.proofs.count_steps.Given as goal

abbrev pub invariant-loop-k : goal.invariant-loop-k
invariant-loop-k l = Counting l.ways.words.now l.initial.way l.from l.n

abbrev pub decreases-loop-k : goal.decreases-loop-k
decreases-loop-k l = l.from

use Rattle.reading.proofs.Passing.{Passed}
use Rattle.reading.proofs.ends.EndTable.end_of_all.Given as goal

abbrev pub invariant-loop-i : goal.invariant-loop-i
invariant-loop-i l = Passed l.self.bytes.now l.at l._i l.end

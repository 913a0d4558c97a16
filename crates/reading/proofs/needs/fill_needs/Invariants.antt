use Rattle.lang.specs.Program.{Prog}
use Rattle.reading.specs.Needs.{Located, NeedsFrom}
use Rattle.reading.proofs.needs.fill_needs.Given as goal

abbrev pub invariant-loop-at : goal.invariant-loop-at
invariant-loop-at l = (p : Prog) → Located l.expressions.bytes.now l.starts p → NeedsFrom p l.expressions.bytes.now l.needs l.at

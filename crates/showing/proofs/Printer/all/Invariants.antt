use Rattle.std.proofs.Common.{length}
use Rattle.showing.specs.Printers.{to_come}
use Rattle.showing.proofs.Printouts.{Ongoing}
use Rattle.showing.proofs.Printer.all.Given as goal

abbrev pub invariant-loop-next : goal.invariant-loop-next
invariant-loop-next l = Ongoing (to_come l.initial.self l.initial.next) l.initial.self l.self l.next

abbrev pub decreases-loop-next : goal.decreases-loop-next
decreases-loop-next l = length (to_come l.self l.next)

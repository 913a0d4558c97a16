use Rattle.std.proofs.Common.{◌-◌, List, length}
use Rattle.lang.specs.Program.{Fun}
use Rattle.reading.proofs.Finding.{Before}
use Rattle.reading.proofs.functions.find_functions.Given as goal

abbrev pub invariant-loop-at : goal.invariant-loop-at
invariant-loop-at l = (fs : List Fun) × Before l.table.bytes.now fs l.at l.starts l.n

abbrev pub decreases-loop-at : goal.decreases-loop-at
decreases-loop-at l = length l.table.bytes.now - l.at

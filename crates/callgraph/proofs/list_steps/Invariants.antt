use Rattle.std.proofs.Common.{◌-◌, length}
use Rattle.callgraph.specs.StepTables.{IsSameMemory}
use Rattle.callgraph.proofs.Listing.{Listing}
use Rattle.callgraph.proofs.list_steps.Given as goal

abbrev pub invariant-loop-at : goal.invariant-loop-at
invariant-loop-at l = IsSameMemory l.initial.table l.table × Listing l.script.bytes.now l.table.rows.now l.at l.caller l.table.count

abbrev pub decreases-loop-at : goal.decreases-loop-at
decreases-loop-at l = length l.script.bytes.now - l.at

use Rattle.std.proofs.Common.{◌-◌}
use Rattle.callgraph.specs.StepTables.{IsSameMemory}
use Rattle.callgraph.proofs.Walking.{Walking}
use Rattle.callgraph.proofs.body.visit_body.Given as goal

abbrev pub invariant-loop-at : goal.invariant-loop-at
invariant-loop-at l = IsSameMemory l.initial.table l.table × Walking l.script.bytes.now l.initial.views l.initial.known l.initial.table.rows.now l.caller l.end l.initial.at l.initial.table.count l.views l.known l.table.rows.now l.at l.table.count

abbrev pub decreases-loop-at : goal.decreases-loop-at
decreases-loop-at l = l.end - l.at

use Rattle.closure.specs.Parts.{Linked}
use Rattle.closure.proofs.link_steps.Given as goal

abbrev pub invariant-loop-step : goal.invariant-loop-step
invariant-loop-step l = Linked l.step l.first l.table.rows.now l.starts l.nexts

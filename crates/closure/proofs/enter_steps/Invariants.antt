use Rattle.table.specs.Rows.{rows}
use Rattle.table.specs.Tables.{IsSameMemory}
use Rattle.closure.specs.Parts.{Entered, Open}
use Rattle.closure.proofs.enter_steps.Given as goal

abbrev pub invariant-loop-step : goal.invariant-loop-step
invariant-loop-step l = record {
  memory : IsSameMemory l.fn.table l.table;
  is_open : Open l.table l.limit;
  entered : Entered (rows l.steps.words.now l.steps.count) l.step l.limit l.table.rows.now l.table.count;
}

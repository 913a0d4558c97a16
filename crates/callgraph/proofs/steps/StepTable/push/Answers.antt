use Rattle.std.proofs.Common.{Option, subst}
use Rattle.table.specs.declared.Edge.{Edge}
use Rattle.callgraph.specs.StepRows.{OneStep}
use Rattle.callgraph.proofs.Stepping.{rows_one}
use Rattle.callgraph.proofs.steps.StepTable.push.Goals as goal

pub returns-in-Some-clause-steps : goal.returns-in-Some-clause-steps
returns-in-Some-clause-steps c done ss h q = rows_one c.args.self.now.rows.now c.put.new.rows c.args.self.now.count c.in-Some.edge _ c.put.ensures.new c.put.ensures.others done ss h (subst (λ (s : Option Edge). OneStep ss s) c.in-Some.is q)

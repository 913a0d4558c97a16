use Rattle.std.proofs.Common.{sym, subst, refl, arith, rules}
use Rattle.table.specs.Ends.{Ends}
use Rattle.table.specs.Rows.{ends_of, rows, row_at}
use Rattle.table.proofs.Rows.{nth_rows}
use Rattle.closure.proofs.Entering.{entered_none, entered_over, entered_more}
use Rattle.closure.proofs.enter_steps.Goals as goal

pub invariant_of-row : goal.invariant_of-row
invariant_of-row c = record { ends = subst Ends (sym c.edge.ensures) (ends_of c.args.steps.now.words.now c.loop-step.step) }

pub loop-step-init : goal.loop-step-init
loop-step-init c = record { memory = search rules; is_open = c.requires.open; entered = entered_none (rows c.args.steps.now.words.now c.args.steps.now.count) c.args.limit c.args.table.now.rows.now c.args.table.now.count c.requires.empty }

pub returns-in_err-add_way-clause-entered : goal.returns-in_err-add_way-clause-entered
returns-in_err-add_way-clause-entered c =
    let k = c.loop-step.step in
    let a = c.add_way.ensures in
    let i = c.loop-step.invariant in
    let t = c.add_way.new.table in
    entered_over (entered_more t.rows.now t.count (row_at c.args.steps.now.words.now k) _ i.entered i.is_open.fits (nth_rows c.args.steps.now.words.now c.args.steps.now.count k c.loop-step-test.true) c.edge.ensures refl refl a.added a.most.1) (omega arith) c.in_err-add_way.ensures.fits

pub loop-step-preserved : goal.loop-step-preserved
loop-step-preserved c =
    let k = c.loop-step.step in
    let a = c.add_way.ensures in
    let i = c.loop-step.invariant in
    let t = c.add_way.new.table in
    record {
      memory = search rules;
      is_open = c.in_ok-add_way.ensures.fits;
      entered = entered_more t.rows.now t.count (row_at c.args.steps.now.words.now k) _ i.entered i.is_open.fits (nth_rows c.args.steps.now.words.now c.args.steps.now.count k c.loop-step-test.true) c.edge.ensures refl refl a.added a.most.1;
    }

use Rattle.std.proofs.Common.{◌-◌, ap, arith}
use Rattle.table.specs.declared.row.Row.{Row}
use Rattle.circles.proofs.Tracing.{row_traced, writing_from, writing_more, writing_all}
use Rattle.circles.proofs.write_calls.Goals as goal

pub overflow_sub-from : goal.overflow_sub-from
overflow_sub-from c = let a = writing_from c.requires.traced c.loop-number.invariant (omega arith) in omega arith

pub put_call-requires : goal.put_call-requires
put_call-requires c =
    let a = c.loop-number.invariant.few in
    let b = writing_from c.requires.traced c.loop-number.invariant (omega arith) in
    let d = (row_traced c.requires.traced (c.loop-number.from - 1) (omega arith)).1 in
    omega (arith, ap (λ (r : Row). r.step) c.row-row.ensures)

pub loop-number-preserved : goal.loop-number-preserved
loop-number-preserved c =
    let b = writing_from c.requires.traced c.loop-number.invariant (omega arith) in
    writing_more c.put_call.new.part (c.loop-number.from - 1) _ _ _ c.requires.traced c.loop-number.invariant (omega arith) (ap (λ (r : Row). r.from) c.row-row.ensures) (ap (λ (r : Row). r.step) c.row-row.ensures) (omega arith) (omega arith) (omega arith) c.put_call.ensures.here c.put_call.ensures.others

pub returns : goal.returns
returns c = writing_all c.loop-number.invariant (omega arith)

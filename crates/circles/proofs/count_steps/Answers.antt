use Rattle.std.proofs.Common.{ap, arith}
use Rattle.table.specs.declared.row.Row.{Row}
use Rattle.circles.proofs.Tracing.{row_traced, counting_none, counting_more, counting_all}
use Rattle.circles.proofs.count_steps.Goals as goal

pub loop-k-init : goal.loop-k-init
loop-k-init c = counting_none c.args.ways.now.words.now c.args.way _ (omega arith)

pub loop-k-smaller : goal.loop-k-smaller
loop-k-smaller c =
    let a = c.loop-k.invariant.few in
    let b = (row_traced c.requires.1 c.in-Some.k (omega arith)).0 in
    omega (arith, ap (λ (r : Row). r.from) c.row-from.ensures)

pub loop-k-preserved : goal.loop-k-preserved
loop-k-preserved c = counting_more c.in-Some.k _ c.requires.1 c.loop-k.invariant (omega arith) (ap (λ (r : Row). r.from) c.row-from.ensures)

pub returns : goal.returns
returns c = let a = c.loop-k.invariant.few in record { most = omega arith; is = counting_all c.loop-k.invariant (omega arith) }

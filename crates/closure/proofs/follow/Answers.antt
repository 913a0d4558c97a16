use Rattle.std.proofs.Common.{refl, arith}
use Rattle.closure.proofs.Following.{turn_none, turn_said, turn_more, turn_all}
use Rattle.closure.proofs.follow.Goals as goal

pub loop-step-init : goal.loop-step-init
loop-step-init c = record { turn = turn_none c.row.result c.requires.ready c.row.ensures; is_open = c.requires.ready.is_open }

pub returns-clause-advanced : goal.returns-clause-advanced
returns-clause-advanced c = turn_all c.loop-step.invariant.turn c.requires.ready (λ le. c.in_default.ensures)

pub returns-in_err-add_way-clause-advanced : goal.returns-in_err-add_way-clause-advanced
returns-in_err-add_way-clause-advanced c =
    let way = c.row.result.edge in
    let last = c.row-last.result in
    let a = c.add_way.ensures in
    let i = c.loop-step.invariant in
    turn_all (turn_more last _ (turn_said c.in-Some.ensures.0 i.turn) c.requires.ready c.requires.here i.is_open.fits c.in-Some.ensures.1 c.row-last.ensures (record { caller = refl; callee = refl; graph = c.then.ensures }) refl refl a.memory a.added a.kept a.most.0 a.most.1) c.requires.ready (λ le. absurd (omega (arith, c.in_err-add_way.ensures.fits)))

pub loop-step-preserved : goal.loop-step-preserved
loop-step-preserved c =
    let way = c.row.result.edge in
    let last = c.row-last.result in
    let a = c.add_way.ensures in
    let i = c.loop-step.invariant in
    record {
      turn = turn_more last _ (turn_said c.in-Some.ensures.0 i.turn) c.requires.ready c.requires.here i.is_open.fits c.in-Some.ensures.1 c.row-last.ensures (record { caller = refl; callee = refl; graph = c.then.ensures }) refl refl a.memory a.added a.kept a.most.0 a.most.1;
      is_open = c.in_ok-add_way.ensures.fits;
    }

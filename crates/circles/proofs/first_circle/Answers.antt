use Rattle.std.proofs.Common.{arith}
use Rattle.circles.proofs.Tying.{traced, tied}
use Rattle.circles.proofs.first_circle.Goals as goal

pub count_steps-calls-requires : goal.count_steps-calls-requires
count_steps-calls-requires c = (c.args.steps.now, traced c.args.steps.now c.args.ways.now c.args.way c.requires.grown c.requires.fails)

pub write_calls-requires-clause-traced : goal.write_calls-requires-clause-traced
write_calls-requires-clause-traced c = traced c.args.steps.now c.args.ways.now c.args.way c.requires.grown c.requires.fails

pub returns : goal.returns
returns c =
    let t = traced c.args.steps.now c.args.ways.now c.args.way c.requires.grown c.requires.fails in
    let m = c.count_steps-calls.ensures.most in
    let l = c.requires.fails.0 in
    record { most = omega arith; circle = tied c.args.steps.now c.args.ways.now c.args.way c.args.at _ c.write_calls.new.part t c.requires.complete c.requires.fails c.count_steps-calls.ensures.is c.write_calls.ensures }

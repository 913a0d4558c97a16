use Rattle.std.proofs.Common.{ℕ, ◌<◌, length, Option, subst, rules}
use Rattle.calling.specs.Calling.{Wants}
use Rattle.calling.proofs.Wanting.{taking_below}
use Rattle.calling.proofs.call.Goals as goal

pub overflow_cast-function : goal.overflow_cast-function
overflow_cast-function c =
    let w = subst (λ (o : Option ℕ). Wants c.args.script.now.expressions.bytes.now c.args.function o) c.in_ok-n.ensures.ok_part c.wanted.ensures in
    let l : c.args.function < 64 = taking_below c.args.script.now.expressions.bytes.now c.args.script.now.expressions.ends.now c.args.script.now.starts.now (length c.args.script.now.starts.now) c.args.function c.in_ok-n.n c.requires.judged w.0 in
    search rules

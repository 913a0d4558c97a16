-- Each arm's head stands there; where none does, `starting` says what an expression would begin with.
use Rattle.std.proofs.Common.{arith}
use Rattle.reading.proofs.Heading.{starting}
use Rattle.reading.proofs.ends.head_at.Goals as goal

pub returns-then-at-bytes : goal.returns-then-at-bytes
returns-then-at-bytes c e x h = omega (arith, starting c.args.bytes.now c.args.at h)

pub returns-in_default : goal.returns-in_default
returns-in_default c e x h = omega (arith, (starting c.args.bytes.now c.args.at h).var_two c.in-0.is)

pub returns-in_default-2 : goal.returns-in_default-2
returns-in_default-2 c e x h = omega (arith, (starting c.args.bytes.now c.args.at h).parts_two c.in-3.is)

pub returns-in_default-3 : goal.returns-in_default-3
returns-in_default-3 c e x h = omega (arith, (starting c.args.bytes.now c.args.at h).call_three c.in-5.is)

pub returns-in_default-4 : goal.returns-in_default-4
returns-in_default-4 c e x h = let i = (starting c.args.bytes.now c.args.at h).known in grind arith

use Rattle.std.proofs.Common.{◌≡◌, ◌≤◌, length, arith, rules}
use Rattle.tasks.proofs.Frames.{held_given}
use Rattle.tasks.proofs.store.Store.give.Goals as goal

pub returns-then-j-n : goal.returns-then-j-n
returns-then-j-n c old =
    let g = c.loop-j.invariant in
    let l : c.args.n ≤ length c.args.given.0 = search rules in
    let e : c.loop-j.j ≡ c.args.n = (let few = g.0 in omega arith) in
    held_given c.args.self.now c.loop-j.self c.args.base c.args.n c.loop-j.j c.args.given.0 e g.1 l c.requires.within old

pub returns : goal.returns
returns c old =
    let g = c.loop-j.invariant in
    let l : c.args.n ≤ length c.args.given.0 = search rules in
    let e : c.loop-j.j ≡ c.args.n = (let few = g.0 in omega arith) in
    held_given c.args.self.now c.loop-j.self c.args.base c.args.n c.loop-j.j c.args.given.0 e g.1 l c.requires.within old

use Rattle.std.proofs.Common.{refl, arith}
use Rattle.tasks.proofs.Frames.{held_parts}
use Rattle.tasks.proofs.store.Store.keep_parts.Goals as goal

pub returns : goal.returns
returns c base ready =
    let p = c.parts.ensures in
    held_parts c.args.self.now _ base c.args.top c.parts.result.0 c.parts.result.1 _ _ p.left p.right (record { arena = refl; frames = refl }) c.requires.within (omega arith) (omega arith) ready

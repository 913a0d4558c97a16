use Rattle.std.proofs.Common.{refl}
use Rattle.tasks.proofs.Frames.{held_push}
use Rattle.tasks.proofs.store.Store.keep.Goals as goal

pub returns : goal.returns
returns c base ready new = held_push c.args.self.now _ base c.args.top c.args.v (record { arena = refl; frames = refl }) c.requires.within new ready

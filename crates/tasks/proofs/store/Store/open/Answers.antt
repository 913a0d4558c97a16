use Rattle.std.proofs.Common.{refl}
use Rattle.tasks.proofs.Frames.{held_open}
use Rattle.tasks.proofs.store.Store.open.Goals as goal

pub returns : goal.returns
returns c old = held_open c.args.self.now _ c.args.given.now (record { arena = refl; frames = c.copy_first.ensures }) c.requires.within old

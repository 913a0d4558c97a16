use Rattle.std.proofs.Common.{◌-◌, length}
use Rattle.arena.proofs.Readers.{Sofar}
use Rattle.arena.proofs.reading.read_trees.Given as goal

abbrev pub invariant-loop-byte : goal.invariant-loop-byte
invariant-loop-byte l = Sofar l.bytes (length l.bytes - length l.yielded) l.nodes l.used l.stack l.top l.height

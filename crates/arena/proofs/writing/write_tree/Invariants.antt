use Rattle.std.proofs.Common.{◌⊎◌, []}
use Rattle.arena.specs.Walks.{Walks, to_come}
use Rattle.arena.proofs.Writers.{Writing}
use Rattle.arena.proofs.writing.write_tree.Given as goal

-- after the last byte nothing is to come, though the walk still stands at a leaf
abbrev pub invariant-loop-byte : goal.invariant-loop-byte
invariant-loop-byte l = Walks l.walk × (Writing (to_come l.initial.walk) l.initial.byte-items l.byte-items l.byte-index (to_come l.walk) ⊎ Writing (to_come l.initial.walk) l.initial.byte-items l.byte-items l.byte-index [])

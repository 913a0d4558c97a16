use Rattle.std.proofs.Common.{◌+◌, ◌<◌, ◌≤◌}
use Rattle.lang.specs.Program.{Prog}
use Rattle.reading.specs.Needs.{NeedsFrom}
use Rattle.reading.proofs.Needing.{Joined}
use Rattle.reading.proofs.needs.Needs.need_of_all.Given as goal

abbrev pub invariant-loop-i : goal.invariant-loop-i
invariant-loop-i l = (l.at ≤ l.place) × ((p : Prog) → NeedsFrom p l.self.expressions.bytes.now l.self.words.now l.at → Joined p l.self.expressions.bytes.now l.at l._i l.place l.need) × (l.need + 1 < 4294967296)

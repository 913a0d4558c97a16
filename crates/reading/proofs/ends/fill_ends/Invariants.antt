use Rattle.std.proofs.Common.{◌≤◌, length}
use Rattle.reading.specs.Ends.{EndsFrom}
use Rattle.reading.proofs.ends.fill_ends.Given as goal

abbrev pub invariant-loop-at : goal.invariant-loop-at
invariant-loop-at l = (l.at ≤ length l.bytes) × EndsFrom l.bytes l.ends l.at

abbrev pub decreases-loop-at : goal.decreases-loop-at
decreases-loop-at l = l.at

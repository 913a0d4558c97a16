use Rattle.std.proofs.Common.{ℕ, ◌-◌, ◌<◌}
use Rattle.table.specs.Rows.{edge_of}
use Rattle.closure.specs.Ways.{Sound}
use Rattle.closure.proofs.first_without_reason.Given as goal

abbrev pub invariant-look : goal.invariant-look
invariant-look l = (j : ℕ) → j < l.way → Sound (edge_of l.ways.words.now j)

abbrev pub decreases-look : goal.decreases-look
decreases-look l = l.ways.count - l.way

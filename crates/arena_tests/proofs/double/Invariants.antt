use Rattle.std.proofs.Common.{◌-◌, ◌≤◌}
use Rattle.arena_tests.proofs.double.Given as goal

abbrev pub invariant-loop-m : goal.invariant-loop-m
invariant-loop-m l = l.n.0 ≤ l.arena.used

abbrev pub decreases-loop-m : goal.decreases-loop-m
decreases-loop-m l = l.arena.limit - l.arena.used

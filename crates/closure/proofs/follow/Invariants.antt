use Rattle.std.proofs.Common.{◌-◌, length}
use Rattle.closure.specs.Parts.{Open}
use Rattle.closure.proofs.Following.{Turn}
use Rattle.closure.proofs.follow.Given as goal

abbrev pub invariant-loop-step : goal.invariant-loop-step
invariant-loop-step l = record {
  turn : Turn l.links l.limit l.k l.way l.fn.table l.table l.next;
  is_open : Open l.table l.limit;
}

abbrev pub decreases-loop-step : goal.decreases-loop-step
decreases-loop-step l = length l.links.nexts.now - l.next

use Rattle.std.proofs.Common.{◌+◌, ◌-◌, ◌≤◌}
use Rattle.closure.specs.Parts.{Advanced, Ready}
use Rattle.closure.proofs.extend.Given as goal

abbrev pub invariant-loop-k : goal.invariant-loop-k
invariant-loop-k l = record {
  ready : Ready l.table l.links l.limit;
  advanced : Advanced l.links l.limit 0 l.k l.fn.table l.table;
  here : l.k ≤ l.table.count;
}

-- there are at most `limit` ways
abbrev pub decreases-loop-k : goal.decreases-loop-k
decreases-loop-k l = l.limit + 1 - l.k

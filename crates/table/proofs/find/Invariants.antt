use Rattle.table.proofs.Index.{Left}
use Rattle.table.proofs.find.Given as goal

abbrev pub invariant-loop-k : goal.invariant-loop-k
invariant-loop-k l = Left l.rows l.chains l.count l.e l.at

abbrev pub decreases-loop-k : goal.decreases-loop-k
decreases-loop-k l = l.at

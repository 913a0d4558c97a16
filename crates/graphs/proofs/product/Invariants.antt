use Rattle.graphs.specs.Words.{Through}
use Rattle.graphs.proofs.product.Given as goal

abbrev pub invariant-loop-k : goal.invariant-loop-k
invariant-loop-k l = Through l.k l.x l.y l.all

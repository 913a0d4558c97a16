use Rattle.showing.specs.Numbers.{Numbers}
use Rattle.showing.proofs.find_numbers.Given as goal

abbrev pub invariant-loop-k : goal.invariant-loop-k
invariant-loop-k l = Numbers l.tree.nodes.now l.k l.values

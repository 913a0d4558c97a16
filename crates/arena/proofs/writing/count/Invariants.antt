use Rattle.std.proofs.Common.{◌≡◌, ◌+◌, ◌-◌, ◌*◌, ◌≤◌, get_or}
use Rattle.arena.specs.Nodes.{tree, forest}
use Rattle.arena.proofs.Counters.{Counting, nodes_of_tree, nodes_of_trees}
use Rattle.arena.proofs.writing.count.Given as goal

abbrev pub invariant-loop-height : goal.invariant-loop-height
invariant-loop-height l = Counting l.stack l.initial.top l.top l.height × (l.k + 2 * nodes_of_trees (forest l.tree.nodes.now l.stack l.top l.height) ≡ 1 + 2 * nodes_of_tree (tree l.tree.nodes.now l.initial.top)) × (l.k ≤ l.most) × (2 ≤ l.height → l.below ≡ get_or l.stack (l.height - 1 - 1) 0)

abbrev pub decreases-loop-height : goal.decreases-loop-height
decreases-loop-height l = l.most - l.k

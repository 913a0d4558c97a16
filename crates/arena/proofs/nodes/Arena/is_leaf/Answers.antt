use Rattle.std.proofs.Common.{sym, ap, ◌∙◌, arith, eqb-true}
use borrow.Author.Tests.{eqb-false}
use Rattle.arena.specs.Nodes.{tree}
use Rattle.arena.proofs.Trees.{tree_parts, leaf_zero, is_node}
use Rattle.arena.proofs.nodes.Arena.is_leaf.Goals as goal

pub returns-clause-leaf : goal.returns-clause-leaf
returns-clause-leaf c e = ap (tree c.args.self.now.nodes.now) (eqb-true c.args.n.0 0 (sym c.eq.ensures ∙ e)) ∙ leaf_zero c.args.self.now.nodes.now

pub returns-clause-node : goal.returns-clause-node
returns-clause-node c e = is_node _ _ _ (tree_parts c.args.self.now.nodes.now c.args.self.now.used c.args.self.now.well.sound c.args.n.0 (omega (arith, eqb-false c.args.n.0 0 (sym c.eq.ensures ∙ e))) c.requires).whole

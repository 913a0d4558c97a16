use Rattle.std.proofs.Common.{◌≡◌, ◌+◌, ◌-◌, ◌*◌, get_or, set, sym, ap, ◌∙◌, ap₂, arith, eqb-true}
use borrow.Author.Tests.{eqb-false}
use Rattle.arena.specs.Nodes.{tree}
use Rattle.arena.proofs.Counters.{two_each, counting, start_nodes, none, some_nodes, leaf_nodes, counted}
use Rattle.arena.proofs.writing.count.Goals as goal

pub returns-then-most-eq0 : goal.returns-then-most-eq0
returns-then-most-eq0 c = omega (arith, two_each (tree c.args.tree.nodes.now c.args.tree.root.0))

pub returns-then-eq : goal.returns-then-eq
returns-then-eq c = (omega (arith, two_each (tree c.args.tree.nodes.now c.args.tree.root.0), leaf_nodes c.args.tree.nodes.now c.args.tree.root.0 (eqb-true c.args.tree.root.0 0 (sym c.eq.ensures ∙ c.if-eq.true))), omega arith)

pub loop-height-init : goal.loop-height-init
loop-height-init c = (counting c.args.stack.now c.args.tree.root.0 (omega (arith, eqb-false c.args.tree.root.0 0 (sym c.eq.ensures ∙ c.if-eq.false))), ap (λ n. 1 + 2 * n) (start_nodes c.args.tree.nodes.now c.args.stack.now c.args.tree.root.0), omega arith, λ two. absurd (omega arith))

pub returns-then-most-k-lt2 : goal.returns-then-most-k-lt2
returns-then-most-k-lt2 c =
    let l = c.loop-height in
    let n = some_nodes c.args.tree.nodes.now l.stack c.args.tree.root.0 l.top l.height c.args.tree.sound l.invariant.0 c.loop-height-test.true in
    omega (arith, two_each (tree c.args.tree.nodes.now c.args.tree.root.0))

pub loop-height-preserved : goal.loop-height-preserved
loop-height-preserved c =
    let l = c.loop-height in
    let some = c.loop-height-test.true in
    let s = counted c.args.tree.nodes.now l.stack c.args.tree.root.0 l.top l.height (omega arith) l.invariant.0 some _ _ c.parts-left.ensures _ _ _ l.below c.first.ensures.second c.first.ensures.first c.first-top.ensures.second c.first-top.ensures.first l.invariant.3 (ap₂ (λ a b. l.height + a + b - 1) c.min.ensures c.min-in-loop-height.ensures) in
    (s.counting, omega (arith, s.less), omega arith, λ two. let e : c.max.result - 2 ≡ l.height + c.min.result + c.min-in-loop-height.result - 1 - 1 - 1 = grind arith in ap (λ i. get_or (set l.stack (l.height - 1) c.parts-left.result.1.0) i 0) e)

pub returns : goal.returns
returns c =
    let l = c.loop-height in
    let z = none c.args.tree.nodes.now l.stack l.top l.height c.loop-height-test.false in
    (omega (arith, two_each (tree c.args.tree.nodes.now c.args.tree.root.0)), omega arith)

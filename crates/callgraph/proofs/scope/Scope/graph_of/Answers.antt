use Rattle.std.proofs.Common.{◌≡◌, ℕ, length, ap, ◌∙◌, subst, arith}
use Rattle.lang.specs.Program.{Exprs}
use Rattle.lang.specs.Steps.{arcs}
use Rattle.graphs.specs.Words.{Words}
use Rattle.origins.specs.Origins.{in_view}
use Rattle.callgraph.proofs.Standing.{stands_next, stands_read, hop_on}
use Rattle.callgraph.proofs.Arguments.{firsts, all_firsts, words_more}
use Rattle.callgraph.proofs.scope.Scope.graph_of.Goals as goal

pub origin_of-requires : goal.origin_of-requires
origin_of-requires c = stands_next c.args.self.now.script.bytes.now c.args.self.now.script.ends.now c.args.self.now.script.ending (length c.args.self.now.known.now) c.args.at c.args.n c.loop-i.i c.loop-i.start c.loop-i.invariant.0 c.loop-i-test.true c.requires.stand

pub end_of-start-requires : goal.end_of-start-requires
end_of-start-requires c =
    let h = stands_next c.args.self.now.script.bytes.now c.args.self.now.script.ends.now c.args.self.now.script.ending (length c.args.self.now.known.now) c.args.at c.args.n c.loop-i.i c.loop-i.start c.loop-i.invariant.0 c.loop-i-test.true c.requires.stand in
    stands_read c.args.self.now.script.bytes.now (length c.args.self.now.known.now) c.loop-i.start h

pub loop-i-preserved : goal.loop-i-preserved
loop-i-preserved c = (
  c.end_of-start.ensures.is ∙ hop_on c.args.self.now.script.ends.now c.args.at c.loop-i.i c.loop-i.start c.loop-i.invariant.0,
  λ p es k h. words_more (in_view c.args.self.now.known.now (length c.args.self.now.known.now)) p c.args.self.now.script.bytes.now c.args.self.now.script.ends.now c.args.self.now.script.ending (length c.args.self.now.known.now) c.args.at c.args.n es k c.loop-i.i c.loop-i.start c.loop-i-test.true c.loop-i.invariant.0 _ c.origin_of.ensures c.loop-i.graph c.lead-graph.result c.lead-graph.ensures h (c.loop-i.invariant.1 p es k h),
)

pub returns : goal.returns
returns c p es k h =
    let e : c.loop-i.i ≡ c.args.n = omega arith in
    subst (λ (d : Exprs). Words c.loop-i.graph (arcs (in_view c.args.self.now.known.now (length c.args.self.now.known.now)) 0 d)) (ap (λ (m : ℕ). firsts m es) e ∙ all_firsts p c.args.self.now.script.bytes.now (length c.args.self.now.known.now) c.args.at c.args.n es k h) (c.loop-i.invariant.1 p es k h)

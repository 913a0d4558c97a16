use Rattle.std.proofs.Common.{◌≡◌, ℕ, length}
use Rattle.lang.specs.Program.{Exprs, Prog}
use Rattle.lang.specs.Steps.{arcs}
use Rattle.graphs.specs.Words.{Words}
use Rattle.origins.specs.Origins.{in_view}
use Rattle.callgraph.specs.Standing.{StandingAll, hop}
use Rattle.callgraph.proofs.Arguments.{firsts}
use Rattle.callgraph.proofs.scope.Scope.graph_of.Given as goal

abbrev pub invariant-loop-i : goal.invariant-loop-i
invariant-loop-i l = (l.start ≡ hop l.self.script.ends.now l.at l.i) × ((p : Prog) (es : Exprs) (k : ℕ) → StandingAll p l.self.script.bytes.now (length l.self.known.now) l.at l.n es k → Words l.graph (arcs (in_view l.self.known.now (length l.self.known.now)) 0 (firsts l.i es)))

use Rattle.std.proofs.Common.{◌≡◌, ℕ, ◌+◌, length, Some, ap, ◌∙◌, subst, arith}
use Rattle.lang.specs.Program.{Exprs, Prog}
use Rattle.lang.specs.Steps.{arcs}
use Rattle.graphs.specs.Words.{Words}
use Rattle.origins.specs.Origins.{in_view}
use Rattle.reading.specs.declared.head.Head.{Head}
use Rattle.reading.specs.Heads.{HeadAt, width_of}
use Rattle.callgraph.specs.Standing.{StandingAll}
use Rattle.callgraph.proofs.Stepping.{callee_below, call_step, no_step}
use Rattle.callgraph.proofs.scope.Scope.step_at.Goals as goal

pub returns-in-Call-clause-step : goal.returns-in-Call-clause-step
returns-in-Call-clause-step c p =
    let s = c.args.self.now.script.bytes.now in
    let ks = in_view c.args.self.now.known.now (length c.args.self.now.known.now) in
    let w : c.width.result ≡ 3 = c.width.ensures ∙ ap width_of c.in-Call.is in
    let a = subst (λ (g : Head). HeadAt c.args.self.now.script.bytes.now c.args.at (Some g)) c.in-Call.is c.requires.head in
    call_step ks p s (length c.args.self.now.known.now) c.args.at c.args.caller c.in-Call.callee c.in-Call.n a c.graph_of.result (subst (λ (j : ℕ). (q : Prog) (es : Exprs) (k : ℕ) → StandingAll q s (length c.args.self.now.known.now) (c.args.at + j) c.in-Call.n es k → Words c.graph_of.result (arcs ks 0 es)) w c.graph_of.ensures)

pub returns-in-Call-clause-ends : goal.returns-in-Call-clause-ends
returns-in-Call-clause-ends c =
    let a = subst (λ (g : Head). HeadAt c.args.self.now.script.bytes.now c.args.at (Some g)) c.in-Call.is c.requires.head in
    record { caller_below = c.requires.caller; callee_below = (callee_below c.args.self.now.script.bytes.now (length c.args.self.now.known.now) c.args.at c.in-Call.callee c.in-Call.n a c.requires.stands).0 }

pub returns-in_default : goal.returns-in_default
returns-in_default c = record { step = λ p. no_step (in_view c.args.self.now.known.now (length c.args.self.now.known.now)) p c.args.self.now.script.bytes.now (length c.args.self.now.known.now) c.args.at c.args.caller c.args.head c.requires.head c.in_default.not-Call; ends = tt; wide = omega arith }

use Rattle.std.proofs.Common.{length, sym, ap, ◌∙◌}
use Rattle.lang.specs.Program.{Expr}
use Rattle.lang.specs.Steps.{origin}
use Rattle.origins.specs.Origins.{in_view}
use Rattle.callgraph.proofs.Standing.{var_at}
use Rattle.callgraph.proofs.scope.Scope.origin_of.Goals as goal

pub returns-in-Var : goal.returns-in-Var
returns-in-Var c e x r = c.origin_at.ensures ∙ sym (ap (λ (d : Expr). origin (in_view c.args.self.now.known.now (length c.args.self.now.known.now)) d) (var_at c.args.self.now.script.bytes.now c.args.at c.in-Var.i c.in-Var.ensures r))

use Rattle.std.proofs.Common.{◌≡◌, ℕ, ◌<◌, T}
use mathlib.Core.Option.{some}
use Rattle.sizechange.specs.Graph.{nth}
use Rattle.lang.specs.Program.{Prog, Fun}
use Rattle.lang.specs.Bytes.{ok}
use Rattle.reading.specs.Needs.{Located, NeedsFrom}
use Rattle.reading.proofs.needs.Needs.bodies_fit.Given as goal

abbrev pub invariant-loop-start : goal.invariant-loop-start
invariant-loop-start l = (p : Prog) → Located l.self.expressions.bytes.now l.self.starts.now p → NeedsFrom p l.self.expressions.bytes.now l.self.words.now 0 → (j : ℕ) (g : Fun) → j < l.start-index → nth p j ≡ some g → T (ok p g.args g.body)

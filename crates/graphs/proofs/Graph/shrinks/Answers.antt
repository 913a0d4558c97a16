use Rattle.graphs.proofs.Words.{decides_shrinks}
use Rattle.graphs.proofs.Graph.shrinks.Goals as goal

pub returns : goal.returns
returns c = λ as₁ w. decides_shrinks c.args.self as₁ w

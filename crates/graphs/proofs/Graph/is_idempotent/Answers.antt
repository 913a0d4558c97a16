use Rattle.graphs.proofs.Words.{decides_idempotent}
use Rattle.graphs.proofs.Graph.is_idempotent.Goals as goal

pub returns : goal.returns
returns c = λ as₁ w. rw c.eq.ensures (decides_idempotent c.args.self c.then.result as₁ w (c.then.ensures as₁ as₁ w w))

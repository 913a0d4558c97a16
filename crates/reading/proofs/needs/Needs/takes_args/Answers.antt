use Rattle.std.proofs.Common.{◌∙◌}
use Rattle.std.proofs.lemmas.Bool.{le-ltb}
use Rattle.reading.proofs.Places.{takes_there, takes_none}
use Rattle.reading.proofs.needs.Needs.takes_args.Goals as goal

pub returns-then-f-self : goal.returns-then-f-self
returns-then-f-self c p h = takes_there c.args.self.now.expressions.bytes.now c.args.self.now.starts.now p c.args.f c.args.n h c.if-f-self.true

pub returns-else-f-self : goal.returns-else-f-self
returns-else-f-self c p h = le-ltb _ _ c.if-f-self.false ∙ takes_none c.args.self.now.expressions.bytes.now c.args.self.now.starts.now p c.args.f c.args.n h c.if-f-self.false

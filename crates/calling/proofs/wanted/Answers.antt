use Rattle.std.proofs.Common.{length}
use Rattle.calling.proofs.Wanting.{no_function, wants}
use Rattle.calling.proofs.wanted.Goals as goal

pub returns-then-f-script : goal.returns-then-f-script
returns-then-f-script c = no_function _ _ _ _ c.args.f c.requires c.if-f-script.true

pub returns : goal.returns
returns c = wants _ _ _ _ c.args.f _ c.requires c.if-f-script.false (λ g e. (c.function_at.ensures c.requires.prog (length c.args.script.now.starts.now) g c.requires.tables e).0)

use Rattle.std.proofs.Common.{sym, ◌∙◌}
use Rattle.readable.proofs.Steps.{none_flushed}
use Rattle.readable.proofs.parsing.Parser.flush.Goals as goal

pub returns-in-None : goal.returns-in-None
returns-in-None c =
    let p = c.args.self.now in
    rw c.take.ensures.after (none_flushed p (sym c.take.ensures.value ∙ c.in-None.is))

use Rattle.std.proofs.Common.{length, sym, ap, ◌∙◌}
use Rattle.origins.specs.Origins.{origin_from}
use Rattle.origins.proofs.Origins.{from_word, known_word}
use Rattle.origins.proofs.origin.origin_at.Goals as goal

pub returns : goal.returns
returns c = ap origin_from c.from.ensures ∙ (from_word _ ∙ sym (known_word c.args.known.now (length c.args.known.now) c.args.i c.requires))

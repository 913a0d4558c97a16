use Rattle.std.proofs.Common.{ap, ◌∙◌}
use Rattle.origins.specs.Origins.{origin_from}
use Rattle.origins.proofs.Origins.{from_word}
use Rattle.origins.proofs.Views.{noted_read, read_word}
use Rattle.origins.proofs.view.view_at.Goals as goal

pub returns : goal.returns
returns c = record { noted = noted_read c.args.views.now c.args.at _ (ap origin_from c.from.ensures ∙ from_word _); origin = read_word c.args.views.now c.args.at _ c.from.ensures }

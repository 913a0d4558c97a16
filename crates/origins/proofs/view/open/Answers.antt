use Rattle.std.proofs.Common.{ap, ◌∙◌, refl}
use Rattle.origins.specs.Origins.{from_of}
use Rattle.origins.proofs.Origins.{word_from}
use Rattle.origins.proofs.Views.{opened, twice_below}
use Rattle.origins.proofs.view.open.Goals as goal

pub returns : goal.returns
returns c = record { number = refl; opened = opened c.args.known.now c.args.view.outer c.args.view.new _ _ (ap from_of c.into-word.ensures ∙ word_from c.args.view.origin) c.requires.few c.requires.within; kept = twice_below c.args.known.now c.args.view.outer c.into-word.result }

use Rattle.std.proofs.Common.{ap, ◌∙◌}
use Rattle.origins.specs.Origins.{from_of}
use Rattle.origins.proofs.Origins.{word_from}
use Rattle.origins.proofs.Views.{noted, noted_word, noted_other}
use Rattle.origins.proofs.view.note.Goals as goal

pub returns : goal.returns
returns c = record {
  noted = noted c.args.views.now c.args.at c.args.view.outer c.args.view.new _ _ (ap from_of c.into.ensures ∙ word_from c.args.view.origin) c.requires.room c.requires.few;
  word = noted_word c.args.views.now c.args.at c.args.view.outer c.args.view.new _ _ c.into.ensures c.requires.room;
  others = noted_other c.args.views.now c.args.at _ _;
}

use Rattle.graphs.proofs.Words.{words_none}
use Rattle.graphs.proofs.Graph.none.Goals as goal

pub returns : goal.returns
returns c = words_none

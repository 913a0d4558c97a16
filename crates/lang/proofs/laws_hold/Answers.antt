use Rattle.lang.proofs.Laws.{laws}
use Rattle.lang.proofs.laws_hold.Goals as goal

pub returns : goal.returns
returns c = laws

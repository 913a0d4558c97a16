use Rattle.lang.proofs.Reading.{one_list}
use Rattle.lang.proofs.one_list.Goals as goal

pub returns : goal.returns
returns c = one_list

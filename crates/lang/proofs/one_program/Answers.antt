use Rattle.lang.proofs.Reading.{one_program}
use Rattle.lang.proofs.one_program.Goals as goal

pub returns : goal.returns
returns c = one_program

use Rattle.exact.proofs.Exact.{one_judgement, one_run, one_number_each}
use Rattle.exact.proofs.exact_answers.Goals as goal

pub returns : goal.returns
returns c = (one_judgement, one_run, one_number_each)

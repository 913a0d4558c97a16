use Rattle.graphs.proofs.Bits.{through_bits, through_fits}
use Rattle.graphs.proofs.through.Goals as goal

pub overflow_mul-result-2 : goal.overflow_mul-result-2
overflow_mul-result-2 c = record { fits = through_fits _ _ }

pub returns : goal.returns
returns c = λ i j hi hj. through_bits c.args.x c.args.y c.args.k i j hi hj

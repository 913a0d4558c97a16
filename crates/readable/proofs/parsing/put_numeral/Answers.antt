use Rattle.std.proofs.Common.{arith}
use Rattle.readable.proofs.Numbers.{length_numeral}
use Rattle.readable.proofs.parsing.put_numeral.Goals as goal

pub returns-then-n-room : goal.returns-then-n-room
returns-then-n-room c = omega (arith, length_numeral c.args.n)

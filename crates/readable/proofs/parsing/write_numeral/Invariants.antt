use Rattle.readable.proofs.Numbers.{Partly}
use Rattle.readable.proofs.parsing.write_numeral.Given as goal

abbrev pub invariant-loop-i : goal.invariant-loop-i
invariant-loop-i l = Partly l.n l.i l.initial.out l.out

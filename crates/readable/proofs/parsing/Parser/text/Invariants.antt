use Rattle.readable.proofs.Whole.{Reading}
use Rattle.readable.proofs.parsing.Parser.text.Given as goal

abbrev pub invariant-loop-i : goal.invariant-loop-i
invariant-loop-i l = Reading l.text l.i-counter l.initial.self l.self

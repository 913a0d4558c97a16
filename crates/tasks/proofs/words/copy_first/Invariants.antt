use Rattle.std.proofs.Common.{◌≡◌, length, take, drop}
use Rattle.tasks.proofs.words.copy_first.Given as goal

abbrev pub invariant-loop-j : goal.invariant-loop-j
invariant-loop-j l = (length l.words ≡ length l.initial.words) × (take l.j l.words ≡ take l.j l.given) × (drop l.j l.words ≡ drop l.j l.initial.words)

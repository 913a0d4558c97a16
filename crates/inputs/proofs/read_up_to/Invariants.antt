use Rattle.std.proofs.Common.{◌≤◌, length}
use Rattle.inputs.proofs.read_up_to.Given as goal

abbrev pub invariant-loop-i : goal.invariant-loop-i
invariant-loop-i g l = l.n ≤ length l.buf

use Rattle.std.proofs.Common.{◌≡◌, ◌≤◌, length}
use Rattle.run_script.proofs.read_lines.Given as goal

abbrev pub invariant-loop-line : goal.invariant-loop-line
invariant-loop-line l = (l.used ≤ length l.bytes) × (length l.bytes ≡ length l.initial.bytes)

use Rattle.std.proofs.Common.{◌≡◌, ℕ, ◌<◌, ◌≤◌}
use Rattle.closure.specs.Parts.{caller}
use Rattle.circles.proofs.number_in_body.Given as goal

abbrev pub invariant-loop-before : goal.invariant-loop-before
invariant-loop-before l = (j : ℕ) → l.before ≤ j → j < l.step → caller l.steps.words.now j ≡ l.caller

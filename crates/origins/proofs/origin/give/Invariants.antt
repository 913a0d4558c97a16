use Rattle.std.proofs.Common.{◌≡◌, ℕ, ◌-◌, ◌<◌, get_or}
use Rattle.origins.specs.declared.origin.Origin.TheVariants.{Same}
use Rattle.origins.specs.Origins.{from_of, origin_from}
use Rattle.origins.proofs.origin.give.Given as goal

abbrev pub invariant-loop-k : goal.invariant-loop-k
invariant-loop-k l = (j : ℕ) → j < l.k → from_of (get_or l.word-items j 0) ≡ origin_from (Same (l.args - 1 - j))

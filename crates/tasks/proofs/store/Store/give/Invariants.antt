use Rattle.std.proofs.Common.{◌≤◌}
use Rattle.tasks.proofs.Frames.{Giving}
use Rattle.tasks.proofs.store.Store.give.Given as goal

abbrev pub invariant-loop-j : goal.invariant-loop-j
invariant-loop-j l = (l.j ≤ l.n) × Giving l.initial.self l.self l.base l.n l.fn.given.0 l.j

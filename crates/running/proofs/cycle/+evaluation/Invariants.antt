-- The measure is the number of rules of the one derivation, by the theorem that there is one; three times that, since some hand their own task on.
use Rattle.std.proofs.Common.{◌+◌, ◌*◌, ◌≤◌, true, length}
use Rattle.tasks.specs.Stores.{Wide, task, tasks}
use Rattle.tasks.proofs.Calling.{Worked}
use Rattle.tasks.proofs.Courses.{Course, cost_of}
use Rattle.running.proofs.cycle.+evaluation.Given as goal

abbrev pub decreases-arguments : goal.decreases-arguments
decreases-arguments l = 3 * cost_of l.text.now (tasks l.store.now l.at l.frame.now.base l.frame.now.top l.frame.now.depth l.n)

abbrev pub decreases-node : goal.decreases-node
decreases-node l = 3 * cost_of l.text.now (task l.store.now l.at l.frame.now.base l.frame.now.top l.frame.now.depth true)

abbrev pub decreases-operand : goal.decreases-operand
decreases-operand l = 3 * cost_of l.text.now (task l.store.now l.at l.frame.now.base l.frame.now.top l.frame.now.depth true) + 2

abbrev pub decreases-value : goal.decreases-value
decreases-value l = 3 * cost_of l.text.now (task l.store.now l.at l.within.now.base l.within.now.top l.within.now.depth l.inside) + 1

abbrev pub invariant-arguments-loop-j : goal.invariant-arguments-loop-j
invariant-arguments-loop-j l =
    (l.j ≤ l.n)
    × Wide l.text.bytes.now (length l.store.frames.now) l.at l.frame.base l.frame.top l.frame.depth
    × Worked l.text.bytes.now l.initial.store l.initial.at l.frame.base l.frame.top l.frame.depth l.n l.store l.at l.j l.given.0

abbrev pub invariant-value-body : goal.invariant-value-body
invariant-value-body l =
    Course l.text.bytes.now l.initial.store l.initial.at l.initial.frame.base l.initial.frame.top l.initial.frame.depth l.initial.inside l.store l.at l.frame.base l.frame.top l.frame.depth l.inside

abbrev pub decreases-value-body : goal.decreases-value-body
decreases-value-body l = cost_of l.text (task l.store l.at l.frame.base l.frame.top l.frame.depth l.inside)

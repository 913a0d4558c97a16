use Rattle.std.proofs.Common.{length}
use Rattle.callgraph.proofs.Laying.{Laid}
use Rattle.callgraph.proofs.scope.Scope.note_all.Given as goal

abbrev pub invariant-loop-i : goal.invariant-loop-i
invariant-loop-i l = Laid l.self.script.ends.now l.at (length l.self.known.now) l._i l.initial.views l.start l.views

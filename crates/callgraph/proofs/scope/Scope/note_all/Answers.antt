use Rattle.std.proofs.Common.{ℕ, ◌+◌, length, sym, subst, arith}
use Rattle.callgraph.proofs.Standing.{stands_next, stands_read}
use Rattle.callgraph.proofs.Laying.{Laid, laid_more, note_as}
use Rattle.callgraph.proofs.scope.Scope.note_all.Goals as goal

pub end_of-end-requires : goal.end_of-end-requires
end_of-end-requires c =
    let h = stands_next c.args.self.now.script.bytes.now c.args.self.now.script.ends.now c.args.self.now.script.ending (length c.args.self.now.known.now) c.args.at c.args.n c.loop-i._i c.loop-i.start c.loop-i.invariant.next c.loop-i-test.true c.requires.stand in
    stands_read c.args.self.now.script.bytes.now (length c.args.self.now.known.now) c.loop-i.start h

pub loop-i-preserved : goal.loop-i-preserved
loop-i-preserved c =
    let e = c.end_of-end.ensures.is in
    subst (λ (k : ℕ). Laid c.args.self.now.script.ends.now c.args.at (length c.args.self.now.known.now) (c.loop-i._i + 1) c.args.views.now k c.note.new.views) (sym e)
    (laid_more c.args.self.now.script.ends.now c.args.at (length c.args.self.now.known.now) c.loop-i._i c.args.views.now c.loop-i.start c.loop-i.views c.loop-i.invariant c.note.new.views (note_as c.note.new.views c.loop-i.start _ _ _ _ _ _ c.plain.ensures.outer c.plain.ensures.new c.plain.ensures.origin c.note.ensures.noted) c.note.ensures.others (omega arith))

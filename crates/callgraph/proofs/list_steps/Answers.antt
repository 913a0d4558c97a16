use Rattle.std.proofs.Common.{ℕ, ◌+◌, sym, refl, subst, arith}
use Rattle.callgraph.proofs.Laying.{note_as}
use Rattle.callgraph.proofs.Walking.{memory_then, same_memory}
use Rattle.callgraph.proofs.Listing.{Listing, listing_none, listing_at, listing_turn, listing_done, same_rows, at_reads, at_walk}
use Rattle.callgraph.proofs.list_steps.Goals as goal

pub loop-at-init : goal.loop-at-init
loop-at-init c = (same_memory _, listing_none c.args.script.now.bytes.now c.args.rows.now)

pub give-requires : goal.give-requires
give-requires c =
    let x = listing_at c.args.script.now.ends.now c.args.script.now.ending c.loop-at.invariant.1 c.loop-at-test.true c.requires.program in
    let a = x.function.few in
    let r = c.requires.room in
    record { few = a; within = omega arith }

pub note-requires-clause-room : goal.note-requires-clause-room
note-requires-clause-room c =
    let x = listing_at c.args.script.now.ends.now c.args.script.now.ending c.loop-at.invariant.1 c.loop-at-test.true c.requires.program in
    let b = x.function.stands.forward in
    let d = x.function.stands.within in
    let r = c.requires.room in
    omega arith

pub visit_body-requires-clause-caller : goal.visit_body-requires-clause-caller
visit_body-requires-clause-caller c = (listing_at c.args.script.now.ends.now c.args.script.now.ending c.loop-at.invariant.1 c.loop-at-test.true c.requires.program).below

pub visit_body-requires-clause-walk : goal.visit_body-requires-clause-walk
visit_body-requires-clause-walk c =
    let x = listing_at c.args.script.now.ends.now c.args.script.now.ending c.loop-at.invariant.1 c.loop-at-test.true c.requires.program in
    at_walk x c.note.new.views c.give.new.known _ refl (note_as _ _ _ _ _ _ _ _ c.plain.ensures.outer c.plain.ensures.new c.plain.ensures.origin c.note.ensures.noted) c.give.ensures

pub end_of-at-requires : goal.end_of-at-requires
end_of-at-requires c =
    let x = listing_at c.args.script.now.ends.now c.args.script.now.ending c.loop-at.invariant.1 c.loop-at-test.true c.requires.program in
    at_reads x

pub loop-at-preserved : goal.loop-at-preserved
loop-at-preserved c =
    let q = listing_turn c.args.script.now.ends.now c.args.script.now.ending c.loop-at.invariant.1 c.loop-at-test.true c.note.new.views c.give.new.known c.visit_body.new.table.rows.now _ c.visit_body.new.table.count refl (note_as _ _ _ _ _ _ _ _ c.plain.ensures.outer c.plain.ensures.new c.plain.ensures.origin c.note.ensures.noted) c.give.ensures c.visit_body.ensures.few (omega arith) c.visit_body.ensures.steps in
    (memory_then c.loop-at.invariant.0 c.visit_body.ensures.memory, subst (λ (k : ℕ). Listing c.args.script.now.bytes.now c.visit_body.new.table.rows.now k (c.loop-at.caller + 1) c.visit_body.new.table.count) (sym c.end_of-at.ensures.is) q)

pub returns-clause-steps : goal.returns-clause-steps
returns-clause-steps c p h =
    let a = c.loop-at.invariant.0.rows in
    same_rows c.loop-at.table.rows.now _ _ _ (grind arith) (listing_done c.loop-at.invariant.1 c.loop-at-test.false p h)

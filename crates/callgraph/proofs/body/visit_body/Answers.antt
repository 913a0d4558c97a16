use Rattle.std.proofs.Common.{ℕ, ◌+◌, List, length, get_or, take, sym, subst, arith}
use mathlib.Core.Option.{Option}
use Rattle.lang.specs.Steps.{From}
use Rattle.origins.specs.Origins.{origin_from}
use Rattle.sizechange.specs.Graph.{Step}
use Rattle.lang.specs.Program.{Prog}
use Rattle.callgraph.specs.Standing.{Standing}
use Rattle.callgraph.specs.Pending.{own, Pending, PartsWait}
use Rattle.callgraph.specs.StepRows.{OneStep}
use Rattle.callgraph.proofs.Walking.{here, sees, view_take, parts_take, memory_then, walking_turn, going_done, going_before}
use Rattle.callgraph.proofs.body.visit_body.Goals as goal

pub head_of-head-requires : goal.head_of-head-requires
head_of-head-requires c = (here c.loop-at.invariant.1 c.loop-at-test.true c.end_of-end.ensures.is c.requires.walk).reads

pub open-vars-requires : goal.open-vars-requires
open-vars-requires c =
    let h = here c.loop-at.invariant.1 c.loop-at-test.true c.end_of-end.ensures.is c.requires.walk in
    let a = h.few in
    let b = h.room in
    let d = h.below in
    let e = c.view_at.ensures.noted.outer_is in
    let f = c.view_at.ensures.noted.new_is in
    let r = c.requires.room in
    record { few = omega arith; within = omega arith; fits = omega arith }

pub slice_bounds-scope-end : goal.slice_bounds-scope-end
slice_bounds-scope-end c =
    let h = here c.loop-at.invariant.1 c.loop-at-test.true c.end_of-end.ensures.is c.requires.walk in
    let r = c.requires.room in
    let v = sees h c.open-vars.new.known c.open-vars.result _ _ _ c.view_at.ensures.noted c.open-vars.ensures.number (omega arith) in
    v.within

pub slice_bounds-scope-end-in-loop-at : goal.slice_bounds-scope-end-in-loop-at
slice_bounds-scope-end-in-loop-at c =
    let h = here c.loop-at.invariant.1 c.loop-at-test.true c.end_of-end.ensures.is c.requires.walk in
    let r = c.requires.room in
    let v = sees h c.open-vars.new.known c.open-vars.result _ _ _ c.view_at.ensures.noted c.open-vars.ensures.number (omega arith) in
    sym v.all

pub step_at-step-requires-clause-stands : goal.step_at-step-requires-clause-stands
step_at-step-requires-clause-stands c =
    let h = here c.loop-at.invariant.1 c.loop-at-test.true c.end_of-end.ensures.is c.requires.walk in
    let r = c.requires.room in
    let v = sees h c.open-vars.new.known c.open-vars.result _ _ _ c.view_at.ensures.noted c.open-vars.ensures.number (omega arith) in
    v.stands

pub note_parts-requires-clause-stands : goal.note_parts-requires-clause-stands
note_parts-requires-clause-stands c =
    let h = here c.loop-at.invariant.1 c.loop-at-test.true c.end_of-end.ensures.is c.requires.walk in
    let r = c.requires.room in
    let v = sees h c.open-vars.new.known c.open-vars.result _ _ _ c.view_at.ensures.noted c.open-vars.ensures.number (omega arith) in
    v.stands

pub note_parts-requires-clause-few : goal.note_parts-requires-clause-few
note_parts-requires-clause-few c =
    let h = here c.loop-at.invariant.1 c.loop-at-test.true c.end_of-end.ensures.is c.requires.walk in
    let r = c.requires.room in
    let v = sees h c.open-vars.new.known c.open-vars.result _ _ _ c.view_at.ensures.noted c.open-vars.ensures.number (omega arith) in
    let a = v.all in
    let b = v.few in
    omega arith

pub loop-at-preserved : goal.loop-at-preserved
loop-at-preserved c =
    let h = here c.loop-at.invariant.1 c.loop-at-test.true c.end_of-end.ensures.is c.requires.walk in
    let r = c.requires.room in
    let v = sees h c.open-vars.new.known c.open-vars.result _ _ _ c.view_at.ensures.noted c.open-vars.ensures.number (omega arith) in
    let a = c.loop-at.invariant.1.few in
    let b = c.step_at-step.ensures.wide in
    let d = c.push.ensures.count in
    let e = c.width-at.ensures in (
      memory_then c.loop-at.invariant.0 c.push.ensures.memory,
      walking_turn c.loop-at.invariant.1 c.loop-at-test.true c.open-vars.new.known c.note_parts.new.views c.push.new.self.rows.now c.open-vars.result c.view_at.result.outer c.view_at.result.new (origin_from c.view_at.result.origin) c.push.new.self.count (c.loop-at.at + c.width-at.result) c.step_at-step.result
          (record { noted = c.view_at.ensures.noted; number = c.open-vars.ensures.number; opened = c.open-vars.ensures.opened; kept = c.open-vars.ensures.kept })
          (λ q x k st. subst (λ (ks : List (Option From)). OneStep (own c.args.caller ks x) c.step_at-step.result) (view_take c.open-vars.new.known c.open-vars.result v.within) (c.step_at-step.ensures.step q x k (subst (λ (n : ℕ). Standing q c.args.script.now.bytes.now n c.loop-at.at x k) (sym v.all) st)))
          c.push.ensures.steps
          (parts_take _ _ _ _ _ _ _ v.within (subst (λ (w : ℕ). PartsWait c.args.script.now.bytes.now (length (take c.open-vars.result c.open-vars.new.known)) c.loop-at.at (c.loop-at.at + w) (take c.open-vars.result c.open-vars.new.known) c.loop-at.views c.note_parts.new.views) (sym e) c.note_parts.ensures))
          (omega arith),
    )

pub returns : goal.returns
returns c =
    let i = c.end_of-end.ensures.is in
    let w = c.requires.walk in
    let inv = c.loop-at.invariant.1 in
    let start = λ (p : Prog) (b : ℕ) (ss : List Step) (h : Pending p c.args.script.now.bytes.now c.args.views.now c.args.known.now c.args.caller (get_or c.args.script.now.ends.now c.args.at 0) b c.args.at ss). subst (λ (k : ℕ). Pending p c.args.script.now.bytes.now c.args.views.now c.args.known.now c.args.caller k b c.args.at ss) (sym i) h in
    record {
      memory = c.loop-at.invariant.0;
      few = let f = inv.few in let b = going_before _ _ _ _ _ _ _ _ _ _ _ _ (inv.going w.program w.bound w.their_steps (start w.program w.bound w.their_steps w.waiting)) in omega arith;
      steps = λ p b ss done h q. going_done _ _ _ _ _ _ _ _ _ _ _ _ (inv.going p b ss (start p b ss h)) c.loop-at-test.false done q;
    }

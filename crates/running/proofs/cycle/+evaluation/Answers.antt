-- Each turn goes on with what is left of the first task; what is left, and every part of it, costs less.
use Rattle.std.proofs.Common.{◌+◌, ◌<◌, ◌≤◌, true, length, refl, ap, ◌∙◌, arith}
use Rattle.std.proofs.lemmas.List.Elements.{All-replicate}
use Rattle.std.proofs.lemmas.Result.{err_from_is_err_and}
use Rattle.tasks.specs.Stores.{task, tasks}
use Rattle.tasks.proofs.Costs.{within_stands}
use Rattle.tasks.proofs.Paths.{moved_then, still, path_var, path_leaf, path_left, path_left_stops, path_right, path_right_stops, path_made, path_bound, path_parts_leaf, path_parts_node, path_value, path_value_stops}
use Rattle.tasks.proofs.Calling.{moved_same, worked_none, worked_all, worked_stop, worked_more, worked_stands, path_args, path_args_stop, path_deep}
use Rattle.tasks.proofs.Courses.{cost_of, falls_to_operand, falls_from_value, falls_to_arguments, part_falls, node_stands, node_falls, course_start, course_says, course_step, course_up, here_parts, course_falls, worked_falls, step_falls, here, var_view, parts_view, few_given, call_numbered, wide_part, wide_one, wide_two, Enters, opened, replaced, enters_wide, enters_leads, course_enters}
use Rattle.running.specs.declared.cycle.Frame.{Frame}
use Rattle.running.proofs.cycle.+evaluation.Goals as goal
use Rattle.running.proofs.cycle.+evaluation.Goals.{value-then-inside+else-frame-eq0, value-else-inside}

pub arguments-loop-j-init : goal.arguments-loop-j-init
arguments-loop-j-init t c =
    (omega arith, c.requires.wide, worked_none c.args.text.now.bytes.now c.args.store.now c.args.at c.args.frame.now.base c.args.frame.now.top c.args.frame.now.depth c.args.n _ c.requires.ready refl (All-replicate (λ v. v.0 ≤ c.args.store.now.arena.used) 8 _ (omega arith)))

pub arguments-returns-then-j-n-clause-say : goal.arguments-returns-then-j-n-clause-say
arguments-returns-then-j-n-clause-say t c =
    worked_all c.args.text.now.bytes.now c.args.store.now c.args.at c.args.frame.now.base c.args.frame.now.top c.args.frame.now.depth c.args.n c.loop-j.store c.loop-j.at c.loop-j.j c.loop-j.given.0 c.loop-j.invariant.2 c.if-j-n.true

pub arguments-operand-requires : goal.arguments-operand-requires
arguments-operand-requires t c =
    let w = c.loop-j.invariant.2 in
    let le = c.loop-j.invariant.0 in
    let ne = c.if-j-n.false in
    let more : c.loop-j.j < c.args.n = omega arith in
    let f = worked_falls c.args.text.now c.args.store.now c.args.at c.args.frame.now.base c.args.frame.now.top c.args.frame.now.depth c.args.n c.loop-j.store c.loop-j.at c.loop-j.j c.loop-j.given.0 c.requires.stand w more in
    (falls_to_operand (cost_of c.args.text.now (task c.loop-j.store c.loop-j.at c.args.frame.now.base c.args.frame.now.top c.args.frame.now.depth true)) (cost_of c.args.text.now (tasks c.args.store.now c.args.at c.args.frame.now.base c.args.frame.now.top c.args.frame.now.depth c.args.n)) t f c.decreases, (w.ready, (c.loop-j.invariant.1, worked_stands c.args.text.now.bytes.now c.args.store.now c.args.at c.args.frame.now.base c.args.frame.now.top c.args.frame.now.depth c.args.n c.loop-j.store c.loop-j.at c.loop-j.j c.loop-j.given.0 w more c.requires.stand)))

pub arguments-returns-in_err-given-clause-say : goal.arguments-returns-in_err-given-clause-say
arguments-returns-in_err-given-clause-say t c =
    let w = c.loop-j.invariant.2 in
    let le = c.loop-j.invariant.0 in
    let ne = c.if-j-n.false in
    let more : c.loop-j.j < c.args.n = omega arith in
    let p = err_from_is_err_and c.from_residual.result c.from_residual.ensures.1 in rw (p.1, p.2) (worked_stop c.args.text.now.bytes.now c.args.store.now c.args.at c.args.frame.now.base c.args.frame.now.top c.args.frame.now.depth c.args.n c.loop-j.store c.loop-j.at c.loop-j.j c.loop-j.given.0 w more c.in_err-given.field-0.0 c.in_err-given.ensures.says)

pub arguments-end-at-requires : goal.arguments-end-at-requires
arguments-end-at-requires t c =
    let w = c.loop-j.invariant.2 in
    let le = c.loop-j.invariant.0 in
    let ne = c.if-j-n.false in
    let more : c.loop-j.j < c.args.n = omega arith in
    here c.args.text.now c.loop-j.store c.loop-j.at c.args.frame.now.base c.args.frame.now.top c.args.frame.now.depth true (worked_stands c.args.text.now.bytes.now c.args.store.now c.args.at c.args.frame.now.base c.args.frame.now.top c.args.frame.now.depth c.args.n c.loop-j.store c.loop-j.at c.loop-j.j c.loop-j.given.0 w more c.requires.stand)

pub arguments-loop-j-preserved : goal.arguments-loop-j-preserved
arguments-loop-j-preserved t c =
    let w = c.loop-j.invariant.2 in
    let le = c.loop-j.invariant.0 in
    let ne = c.if-j-n.false in
    let more : c.loop-j.j < c.args.n = omega arith in
    let m = c.in_ok-given.ensures.moved in
    let e = c.end-at.ensures in (
      omega arith,
      wide_part c.args.text.now.bytes.now (length c.loop-j.store.frames.now) (length c.operand.new.store.frames.now) c.loop-j.at c.args.frame.now.base c.args.frame.now.top c.args.frame.now.depth c.loop-j.invariant.1 m.words c.end-at.result (let a = e.after in omega arith),
      worked_more c.args.text.now.bytes.now c.args.store.now c.args.at c.args.frame.now.base c.args.frame.now.top c.args.frame.now.depth c.args.n c.loop-j.store c.loop-j.at c.loop-j.j c.loop-j.given.0 w more c.operand.new.store c.in_ok-given.field-0 c.in_ok-given.ensures.says c.end-at.result (omega arith) m c.in_ok-given.ensures.there e,
    )

pub arguments-returns-clause-say : goal.arguments-returns-clause-say
arguments-returns-clause-say t c =
    worked_all c.args.text.now.bytes.now c.args.store.now c.args.at c.args.frame.now.base c.args.frame.now.top c.args.frame.now.depth c.args.n c.loop-j.store c.loop-j.at c.loop-j.j c.loop-j.given.0 c.loop-j.invariant.2 (let l = c.loop-j.invariant.0 in omega arith)

pub node-operand-requires : goal.node-operand-requires
node-operand-requires t c =
    let p = path_left c.args.text.now.bytes.now c.args.store.now c.args.at c.args.frame.now.base c.args.frame.now.top c.args.frame.now.depth true c.requires.head in
    (falls_to_operand (cost_of c.args.text.now (task c.args.store.now (c.args.at + 1) c.args.frame.now.base c.args.frame.now.top c.args.frame.now.depth true)) (cost_of c.args.text.now (task c.args.store.now c.args.at c.args.frame.now.base c.args.frame.now.top c.args.frame.now.depth true)) t (part_falls c.args.text.now (task c.args.store.now (c.args.at + 1) c.args.frame.now.base c.args.frame.now.top c.args.frame.now.depth true) (task c.args.store.now c.args.at c.args.frame.now.base c.args.frame.now.top c.args.frame.now.depth true) c.requires.stands p) c.decreases, (c.requires.ready, (wide_part c.args.text.now.bytes.now (length c.args.store.now.frames.now) (length c.args.store.now.frames.now) c.args.at c.args.frame.now.base c.args.frame.now.top c.args.frame.now.depth c.requires.wide refl (c.args.at + 1) (omega arith), within_stands c.args.text.now.bytes.now (task c.args.store.now (c.args.at + 1) c.args.frame.now.base c.args.frame.now.top c.args.frame.now.depth true) (task c.args.store.now c.args.at c.args.frame.now.base c.args.frame.now.top c.args.frame.now.depth true) p c.requires.stands)))

pub node-returns-in_err-left-clause-says : goal.node-returns-in_err-left-clause-says
node-returns-in_err-left-clause-says t c = let p = err_from_is_err_and c.from_residual.result c.from_residual.ensures.1 in rw (p.1, p.2) (λ inside. path_left_stops c.args.text.now.bytes.now c.args.store.now c.args.at c.args.frame.now.base c.args.frame.now.top c.args.frame.now.depth inside c.in_err-left.field-0.0 c.requires.head c.in_err-left.ensures.says)

pub node-end-next-requires : goal.node-end-next-requires
node-end-next-requires t c =
    here c.args.text.now c.args.store.now (c.args.at + 1) c.args.frame.now.base c.args.frame.now.top c.args.frame.now.depth true (within_stands c.args.text.now.bytes.now (task c.args.store.now (c.args.at + 1) c.args.frame.now.base c.args.frame.now.top c.args.frame.now.depth true) (task c.args.store.now c.args.at c.args.frame.now.base c.args.frame.now.top c.args.frame.now.depth true) (path_left c.args.text.now.bytes.now c.args.store.now c.args.at c.args.frame.now.base c.args.frame.now.top c.args.frame.now.depth true c.requires.head) c.requires.stands)

pub node-operand-requires-2 : goal.node-operand-requires-2
node-operand-requires-2 t c =
    let l = c.end-next.ensures.after in
    let p = path_right c.args.text.now.bytes.now c.args.store.now c.args.at c.args.frame.now.base c.args.frame.now.top c.args.frame.now.depth true c.requires.ready c.operand.new.store c.in_ok-left.left c.end-next.result c.in_ok-left.ensures.moved c.in_ok-left.ensures.says c.end-next.ensures c.requires.head in
    (falls_to_operand (cost_of c.args.text.now (task c.operand.new.store c.end-next.result c.args.frame.now.base c.args.frame.now.top c.args.frame.now.depth true)) (cost_of c.args.text.now (task c.args.store.now c.args.at c.args.frame.now.base c.args.frame.now.top c.args.frame.now.depth true)) t (part_falls c.args.text.now (task c.operand.new.store c.end-next.result c.args.frame.now.base c.args.frame.now.top c.args.frame.now.depth true) (task c.args.store.now c.args.at c.args.frame.now.base c.args.frame.now.top c.args.frame.now.depth true) c.requires.stands p) c.decreases, (still c.args.store.now c.operand.new.store c.args.frame.now.base c.args.frame.now.top c.requires.ready c.in_ok-left.ensures.moved, (wide_part c.args.text.now.bytes.now (length c.args.store.now.frames.now) (length c.operand.new.store.frames.now) c.args.at c.args.frame.now.base c.args.frame.now.top c.args.frame.now.depth c.requires.wide c.in_ok-left.ensures.moved.words c.end-next.result (omega arith), within_stands c.args.text.now.bytes.now (task c.operand.new.store c.end-next.result c.args.frame.now.base c.args.frame.now.top c.args.frame.now.depth true) (task c.args.store.now c.args.at c.args.frame.now.base c.args.frame.now.top c.args.frame.now.depth true) p c.requires.stands)))

pub node-returns-in_err-right-clause-says : goal.node-returns-in_err-right-clause-says
node-returns-in_err-right-clause-says t c = let p = err_from_is_err_and c.from_residual-in_err-right.result c.from_residual-in_err-right.ensures.1 in rw (p.1, p.2) (λ inside. path_right_stops c.args.text.now.bytes.now c.args.store.now c.args.at c.args.frame.now.base c.args.frame.now.top c.args.frame.now.depth inside c.requires.ready c.operand.new.store c.in_ok-left.left c.end-next.result c.in_ok-left.ensures.moved c.in_ok-left.ensures.says c.end-next.ensures c.in_err-right.field-0.0 c.requires.head c.in_err-right.ensures.says)

pub node-returns-clause-moved : goal.node-returns-clause-moved
node-returns-clause-moved t c =
    moved_then c.args.frame.now.top c.args.frame.now.top c.args.store.now c.operand-2.new.store c.make.new.self (moved_then c.args.frame.now.top c.args.frame.now.top c.args.store.now c.operand.new.store c.operand-2.new.store c.in_ok-left.ensures.moved c.in_ok-right.ensures.moved (omega arith)) (c.make.ensures.moved c.args.frame.now.top) (omega arith)

pub node-returns-clause-says : goal.node-returns-clause-says
node-returns-clause-says t c = λ inside. path_made c.args.text.now.bytes.now c.args.store.now c.args.at c.args.frame.now.base c.args.frame.now.top c.args.frame.now.depth inside c.requires.ready c.operand.new.store c.in_ok-left.left c.end-next.result c.in_ok-left.ensures.moved c.in_ok-left.ensures.says c.end-next.ensures c.operand-2.new.store c.make.new.self c.in_ok-right.right c.make.result c.requires.head c.in_ok-left.ensures.there c.in_ok-right.ensures.moved c.in_ok-right.ensures.says c.make.ensures.comes

pub operand-variable-requires-clause-below : goal.operand-variable-requires-clause-below
operand-variable-requires-clause-below t c = let v = var_view c.args.text.now c.args.store.now c.args.at c.args.frame.now.base c.args.frame.now.top c.args.frame.now.depth true c.requires.stands c.in-Var.i c.in-Var.ensures in omega arith

pub operand-returns-in-Var-clause-there : goal.operand-returns-in-Var-clause-there
operand-returns-in-Var-clause-there t c = c.variable.ensures.there c.args.frame.now.base c.requires.ready (var_view c.args.text.now c.args.store.now c.args.at c.args.frame.now.base c.args.frame.now.top c.args.frame.now.depth true c.requires.stands c.in-Var.i c.in-Var.ensures)

pub operand-returns-in-Var-clause-says : goal.operand-returns-in-Var-clause-says
operand-returns-in-Var-clause-says t c = path_var c.args.text.now.bytes.now c.args.store.now c.args.at c.args.frame.now.base c.args.frame.now.top c.args.frame.now.depth true c.in-Var.i c.variable.result c.in-Var.ensures (c.variable.ensures.is c.args.frame.now.base c.requires.ready (var_view c.args.text.now c.args.store.now c.args.at c.args.frame.now.base c.args.frame.now.top c.args.frame.now.depth true c.requires.stands c.in-Var.i c.in-Var.ensures))

pub operand-returns-in-Leaf-clause-says : goal.operand-returns-in-Leaf-clause-says
operand-returns-in-Leaf-clause-says t c = path_leaf c.args.text.now.bytes.now c.args.store.now c.args.at c.args.frame.now.base c.args.frame.now.top c.args.frame.now.depth true c.in-Leaf.ensures

pub value-body-init : goal.value-body-init
value-body-init t c =
    course_start c.args.text.now.bytes.now c.args.store.now c.args.at c.args.within.now.base c.args.within.now.top c.args.within.now.depth c.args.inside c.requires.ready c.requires.wide c.requires.stands

pub value-head-requires : goal.value-head-requires
value-head-requires t c =
    here c.args.text.now c.body.store c.body.at c.body.frame.base c.body.frame.top c.body.frame.depth c.body.inside c.body.invariant.stands

pub value-variable-requires-clause-below : goal.value-variable-requires-clause-below
value-variable-requires-clause-below t c = let v = var_view c.args.text.now c.body.store c.body.at c.body.frame.base c.body.frame.top c.body.frame.depth c.body.inside c.body.invariant.stands c.in-Var.i c.in-Var.ensures in omega arith

pub value-returns-in-Var-clause-there : goal.value-returns-in-Var-clause-there
value-returns-in-Var-clause-there t c = c.variable.ensures.there c.body.frame.base c.body.invariant.ready (var_view c.args.text.now c.body.store c.body.at c.body.frame.base c.body.frame.top c.body.frame.depth c.body.inside c.body.invariant.stands c.in-Var.i c.in-Var.ensures)

pub value-returns-in-Var-clause-says : goal.value-returns-in-Var-clause-says
value-returns-in-Var-clause-says t c = course_says c.args.text.now.bytes.now c.args.store.now c.args.at c.args.within.now.base c.args.within.now.top c.args.within.now.depth c.args.inside c.body.store c.body.at c.body.frame.base c.body.frame.top c.body.frame.depth c.body.inside c.body.invariant _ (path_var c.args.text.now.bytes.now c.body.store c.body.at c.body.frame.base c.body.frame.top c.body.frame.depth c.body.inside c.in-Var.i c.variable.result c.in-Var.ensures (c.variable.ensures.is c.body.frame.base c.body.invariant.ready (var_view c.args.text.now c.body.store c.body.at c.body.frame.base c.body.frame.top c.body.frame.depth c.body.inside c.body.invariant.stands c.in-Var.i c.in-Var.ensures)))

pub value-returns-in-Leaf-clause-says : goal.value-returns-in-Leaf-clause-says
value-returns-in-Leaf-clause-says t c = course_says c.args.text.now.bytes.now c.args.store.now c.args.at c.args.within.now.base c.args.within.now.top c.args.within.now.depth c.args.inside c.body.store c.body.at c.body.frame.base c.body.frame.top c.body.frame.depth c.body.inside c.body.invariant _ (path_leaf c.args.text.now.bytes.now c.body.store c.body.at c.body.frame.base c.body.frame.top c.body.frame.depth c.body.inside c.in-Leaf.ensures)

pub value-node-requires : goal.value-node-requires
value-node-requires t c =
    let a = c.in-Node.ensures in
    (node_falls c.args.text.now c.args.store.now c.args.at c.args.within.now.base c.args.within.now.top c.args.within.now.depth c.args.inside c.body.store c.body.at c.body.frame.base c.body.frame.top c.body.frame.depth c.body.inside c.requires.stands c.body.invariant a t c.decreases, (a, (c.body.invariant.ready, (c.body.invariant.wide, node_stands c.args.text.now c.args.store.now c.args.at c.args.within.now.base c.args.within.now.top c.args.within.now.depth c.args.inside c.body.store c.body.at c.body.frame.base c.body.frame.top c.body.frame.depth c.body.inside c.requires.stands c.body.invariant a))))

pub value-returns-in-Node-clause-says : goal.value-returns-in-Node-clause-says
value-returns-in-Node-clause-says t c = course_says c.args.text.now.bytes.now c.args.store.now c.args.at c.args.within.now.base c.args.within.now.top c.args.within.now.depth c.args.inside c.body.store c.body.at c.body.frame.base c.body.frame.top c.body.frame.depth c.body.inside c.body.invariant _ (c.node.ensures.says c.body.inside)

pub value-variable-whole-requires-clause-below : goal.value-variable-whole-requires-clause-below
value-variable-whole-requires-clause-below t c = let v = parts_view c.args.text.now c.body.store c.body.at c.body.frame.base c.body.frame.top c.body.frame.depth c.body.inside c.body.invariant.stands c.in-Parts.i c.in-Parts.ensures in omega arith

pub value-is_leaf-requires : goal.value-is_leaf-requires
value-is_leaf-requires t c = c.variable-whole.ensures.there c.body.frame.base c.body.invariant.ready (parts_view c.args.text.now c.body.store c.body.at c.body.frame.base c.body.frame.top c.body.frame.depth c.body.inside c.body.invariant.stands c.in-Parts.i c.in-Parts.ensures)

pub value-body-smaller-then-is_leaf : goal.value-body-smaller-then-is_leaf
value-body-smaller-then-is_leaf t c =
    let a = c.in-Parts.ensures in
    let v = parts_view c.args.text.now c.body.store c.body.at c.body.frame.base c.body.frame.top c.body.frame.depth c.body.inside c.body.invariant.stands c.in-Parts.i a in
    let is = c.variable-whole.ensures.is c.body.frame.base c.body.invariant.ready v in
    let p = path_parts_leaf c.args.text.now.bytes.now c.body.store c.body.at c.body.frame.base c.body.frame.top c.body.frame.depth c.body.inside c.in-Parts.i c.variable-whole.result a is (c.is_leaf.ensures.leaf c.if-is_leaf.true) in
    step_falls c.args.text.now c.body.store c.body.at c.body.frame.base c.body.frame.top c.body.frame.depth c.body.inside c.body.store (c.body.at + 2) c.body.frame.base c.body.frame.top c.body.frame.depth c.body.inside c.body.invariant.stands p

pub value-body-preserved-then-is_leaf : goal.value-body-preserved-then-is_leaf
value-body-preserved-then-is_leaf t c =
    let a = c.in-Parts.ensures in
    let v = parts_view c.args.text.now c.body.store c.body.at c.body.frame.base c.body.frame.top c.body.frame.depth c.body.inside c.body.invariant.stands c.in-Parts.i a in
    let is = c.variable-whole.ensures.is c.body.frame.base c.body.invariant.ready v in
    let p = path_parts_leaf c.args.text.now.bytes.now c.body.store c.body.at c.body.frame.base c.body.frame.top c.body.frame.depth c.body.inside c.in-Parts.i c.variable-whole.result a is (c.is_leaf.ensures.leaf c.if-is_leaf.true) in
    course_step c.args.text.now.bytes.now c.args.store.now c.args.at c.args.within.now.base c.args.within.now.top c.args.within.now.depth c.args.inside c.body.store c.body.at c.body.frame.base c.body.frame.top c.body.frame.depth c.body.inside c.body.invariant c.body.store (c.body.at + 2) c.body.frame.base c.body.frame.top c.body.frame.depth c.body.inside c.body.invariant.ready (wide_part c.args.text.now.bytes.now (length c.body.store.frames.now) (length c.body.store.frames.now) c.body.at c.body.frame.base c.body.frame.top c.body.frame.depth c.body.invariant.wide refl (c.body.at + 2) (omega arith)) (moved_same _ c.body.store) (omega arith) p

pub value-keep_parts-requires-clause-there : goal.value-keep_parts-requires-clause-there
value-keep_parts-requires-clause-there t c = c.variable-whole.ensures.there c.body.frame.base c.body.invariant.ready (parts_view c.args.text.now c.body.store c.body.at c.body.frame.base c.body.frame.top c.body.frame.depth c.body.inside c.body.invariant.stands c.in-Parts.i c.in-Parts.ensures)

pub value-end-at-requires : goal.value-end-at-requires
value-end-at-requires t c =
    let a = c.in-Parts.ensures in
    here_parts c.args.text.now c.body.store c.body.at c.body.frame.base c.body.frame.top c.body.frame.depth c.body.inside c.body.invariant.stands c.in-Parts.i a

pub value-body-smaller-in-Parts : goal.value-body-smaller-in-Parts
value-body-smaller-in-Parts t c =
    let a = c.in-Parts.ensures in
    let v = parts_view c.args.text.now c.body.store c.body.at c.body.frame.base c.body.frame.top c.body.frame.depth c.body.inside c.body.invariant.stands c.in-Parts.i a in
    let is = c.variable-whole.ensures.is c.body.frame.base c.body.invariant.ready v in
    let held = c.keep_parts.ensures c.body.frame.base c.body.invariant.ready in
    let p = path_parts_node c.args.text.now.bytes.now c.body.store c.body.at c.body.frame.base c.body.frame.top c.body.frame.depth c.body.inside c.in-Parts.i c.variable-whole.result c.end-at.result c.keep_parts.new.self a c.end-at.ensures is (c.is_leaf.ensures.node c.if-is_leaf.false) held in
    step_falls c.args.text.now c.body.store c.body.at c.body.frame.base c.body.frame.top c.body.frame.depth c.body.inside c.keep_parts.new.self c.end-at.result c.body.frame.base (c.body.frame.top + 2) c.body.frame.depth c.body.inside c.body.invariant.stands p

pub value-body-preserved-in-Parts : goal.value-body-preserved-in-Parts
value-body-preserved-in-Parts t c =
    let a = c.in-Parts.ensures in
    let v = parts_view c.args.text.now c.body.store c.body.at c.body.frame.base c.body.frame.top c.body.frame.depth c.body.inside c.body.invariant.stands c.in-Parts.i a in
    let is = c.variable-whole.ensures.is c.body.frame.base c.body.invariant.ready v in
    let held = c.keep_parts.ensures c.body.frame.base c.body.invariant.ready in
    let p = path_parts_node c.args.text.now.bytes.now c.body.store c.body.at c.body.frame.base c.body.frame.top c.body.frame.depth c.body.inside c.in-Parts.i c.variable-whole.result c.end-at.result c.keep_parts.new.self a c.end-at.ensures is (c.is_leaf.ensures.node c.if-is_leaf.false) held in
    let l = c.end-at.ensures.after in
    course_up c.args.text.now.bytes.now c.args.store.now c.args.at c.args.within.now.base c.args.within.now.top c.args.within.now.depth c.args.inside c.body.store c.body.at c.body.frame.base c.body.frame.top c.body.frame.depth c.body.inside c.body.invariant c.keep_parts.new.self c.end-at.result (c.body.frame.top + 2) held.ready (wide_two c.args.text.now.bytes.now (length c.body.store.frames.now) (length c.keep_parts.new.self.frames.now) c.body.at c.body.frame.base c.body.frame.top c.body.frame.depth c.body.invariant.wide held.moved.words c.end-at.result (omega arith)) held.moved (omega arith) p

pub value-operand-requires : goal.value-operand-requires
value-operand-requires t c =
    let a = c.in-Bind.ensures in
    let p = path_value c.args.text.now.bytes.now c.body.store c.body.at c.body.frame.base c.body.frame.top c.body.frame.depth c.body.inside a in
    (falls_from_value (cost_of c.args.text.now (task c.body.store (c.body.at + 1) c.body.frame.base c.body.frame.top c.body.frame.depth true)) (cost_of c.args.text.now (task c.args.store.now c.args.at c.args.within.now.base c.args.within.now.top c.args.within.now.depth c.args.inside)) t (course_falls c.args.text.now c.args.store.now c.args.at c.args.within.now.base c.args.within.now.top c.args.within.now.depth c.args.inside c.body.store c.body.at c.body.frame.base c.body.frame.top c.body.frame.depth c.body.inside c.requires.stands c.body.invariant (task c.body.store (c.body.at + 1) c.body.frame.base c.body.frame.top c.body.frame.depth true) p) c.decreases, (c.body.invariant.ready, (wide_part c.args.text.now.bytes.now (length c.body.store.frames.now) (length c.body.store.frames.now) c.body.at c.body.frame.base c.body.frame.top c.body.frame.depth c.body.invariant.wide refl (c.body.at + 1) (omega arith), within_stands c.args.text.now.bytes.now (task c.body.store (c.body.at + 1) c.body.frame.base c.body.frame.top c.body.frame.depth true) (task c.body.store c.body.at c.body.frame.base c.body.frame.top c.body.frame.depth c.body.inside) p c.body.invariant.stands)))

pub value-returns-in_err-bound-in-Bind-clause-says : goal.value-returns-in_err-bound-in-Bind-clause-says
value-returns-in_err-bound-in-Bind-clause-says t c = let p = err_from_is_err_and c.from_residual.result c.from_residual.ensures.1 in rw (p.1, p.2) (course_says c.args.text.now.bytes.now c.args.store.now c.args.at c.args.within.now.base c.args.within.now.top c.args.within.now.depth c.args.inside c.body.store c.body.at c.body.frame.base c.body.frame.top c.body.frame.depth c.body.inside c.body.invariant _ (path_value_stops c.args.text.now.bytes.now c.body.store c.body.at c.body.frame.base c.body.frame.top c.body.frame.depth c.body.inside c.in_err-bound-in-Bind.field-0.0 c.in-Bind.ensures c.in_err-bound-in-Bind.ensures.says))

pub value-end-at-requires-in-Bind : goal.value-end-at-requires-in-Bind
value-end-at-requires-in-Bind t c =
    let a = c.in-Bind.ensures in
    here c.args.text.now c.body.store (c.body.at + 1) c.body.frame.base c.body.frame.top c.body.frame.depth true (within_stands c.args.text.now.bytes.now (task c.body.store (c.body.at + 1) c.body.frame.base c.body.frame.top c.body.frame.depth true) (task c.body.store c.body.at c.body.frame.base c.body.frame.top c.body.frame.depth c.body.inside) (path_value c.args.text.now.bytes.now c.body.store c.body.at c.body.frame.base c.body.frame.top c.body.frame.depth c.body.inside a) c.body.invariant.stands)

pub value-body-smaller-in-Bind : goal.value-body-smaller-in-Bind
value-body-smaller-in-Bind t c =
    let a = c.in-Bind.ensures in
    let m = c.in_ok-bound-in-Bind.ensures.moved in
    let r1 = still c.body.store c.operand.new.store c.body.frame.base c.body.frame.top c.body.invariant.ready m in
    let held = c.keep.ensures c.body.frame.base r1 c.in_ok-bound-in-Bind.ensures.there in
    let p = path_bound c.args.text.now.bytes.now c.body.store c.body.at c.body.frame.base c.body.frame.top c.body.frame.depth c.body.inside c.body.invariant.ready c.operand.new.store c.in_ok-bound-in-Bind.bound c.end-at-in-Bind.result m c.in_ok-bound-in-Bind.ensures.says c.end-at-in-Bind.ensures c.keep.new.self a held in
    step_falls c.args.text.now c.body.store c.body.at c.body.frame.base c.body.frame.top c.body.frame.depth c.body.inside c.keep.new.self c.end-at-in-Bind.result c.body.frame.base (c.body.frame.top + 1) c.body.frame.depth c.body.inside c.body.invariant.stands p

pub value-body-preserved-in-Bind : goal.value-body-preserved-in-Bind
value-body-preserved-in-Bind t c =
    let a = c.in-Bind.ensures in
    let m = c.in_ok-bound-in-Bind.ensures.moved in
    let r1 = still c.body.store c.operand.new.store c.body.frame.base c.body.frame.top c.body.invariant.ready m in
    let held = c.keep.ensures c.body.frame.base r1 c.in_ok-bound-in-Bind.ensures.there in
    let p = path_bound c.args.text.now.bytes.now c.body.store c.body.at c.body.frame.base c.body.frame.top c.body.frame.depth c.body.inside c.body.invariant.ready c.operand.new.store c.in_ok-bound-in-Bind.bound c.end-at-in-Bind.result m c.in_ok-bound-in-Bind.ensures.says c.end-at-in-Bind.ensures c.keep.new.self a held in
    let l = c.end-at-in-Bind.ensures.after in
    course_up c.args.text.now.bytes.now c.args.store.now c.args.at c.args.within.now.base c.args.within.now.top c.args.within.now.depth c.args.inside c.body.store c.body.at c.body.frame.base c.body.frame.top c.body.frame.depth c.body.inside c.body.invariant c.keep.new.self c.end-at-in-Bind.result (c.body.frame.top + 1) held.ready (wide_one c.args.text.now.bytes.now (length c.body.store.frames.now) (length c.keep.new.self.frames.now) c.body.at c.body.frame.base c.body.frame.top c.body.frame.depth c.body.invariant.wide (held.moved.words ∙ m.words) c.end-at-in-Bind.result (omega arith)) (moved_then c.body.frame.top c.body.frame.top c.body.store c.operand.new.store c.keep.new.self m held.moved (omega arith)) (omega arith) p

pub value-arguments-requires : goal.value-arguments-requires
value-arguments-requires t c =
    let a = c.in-Call.ensures in
    let p = path_args c.args.text.now.bytes.now c.body.store c.body.at c.body.frame.base c.body.frame.top c.body.frame.depth c.body.inside c.in-Call.f c.in-Call.n a in
    (falls_to_arguments (cost_of c.args.text.now (tasks c.body.store (c.body.at + 3) c.body.frame.base c.body.frame.top c.body.frame.depth c.in-Call.n)) (cost_of c.args.text.now (task c.args.store.now c.args.at c.args.within.now.base c.args.within.now.top c.args.within.now.depth c.args.inside)) t (course_falls c.args.text.now c.args.store.now c.args.at c.args.within.now.base c.args.within.now.top c.args.within.now.depth c.args.inside c.body.store c.body.at c.body.frame.base c.body.frame.top c.body.frame.depth c.body.inside c.requires.stands c.body.invariant (tasks c.body.store (c.body.at + 3) c.body.frame.base c.body.frame.top c.body.frame.depth c.in-Call.n) p) c.decreases, (few_given c.args.text.now c.body.store c.body.at c.body.frame.base c.body.frame.top c.body.frame.depth c.body.inside c.body.invariant.stands c.in-Call.f c.in-Call.n a, (c.body.invariant.ready, (wide_part c.args.text.now.bytes.now (length c.body.store.frames.now) (length c.body.store.frames.now) c.body.at c.body.frame.base c.body.frame.top c.body.frame.depth c.body.invariant.wide refl (c.body.at + 3) (omega arith), within_stands c.args.text.now.bytes.now (tasks c.body.store (c.body.at + 3) c.body.frame.base c.body.frame.top c.body.frame.depth c.in-Call.n) (task c.body.store c.body.at c.body.frame.base c.body.frame.top c.body.frame.depth c.body.inside) p c.body.invariant.stands))))

pub value-returns-in_err-given-in-Call-clause-says : goal.value-returns-in_err-given-in-Call-clause-says
value-returns-in_err-given-in-Call-clause-says t c = let p = err_from_is_err_and c.from_residual-in_err-given-in-Call.result c.from_residual-in_err-given-in-Call.ensures.1 in rw (p.1, p.2) (course_says c.args.text.now.bytes.now c.args.store.now c.args.at c.args.within.now.base c.args.within.now.top c.args.within.now.depth c.args.inside c.body.store c.body.at c.body.frame.base c.body.frame.top c.body.frame.depth c.body.inside c.body.invariant _ (path_args_stop c.args.text.now.bytes.now c.body.store c.body.at c.body.frame.base c.body.frame.top c.body.frame.depth c.body.inside c.in-Call.f c.in-Call.n c.in-Call.ensures c.in_err-given-in-Call.field-0.0 c.in_err-given-in-Call.ensures.say))

pub value-returns-then-frame-eq0-clause-says : goal.value-returns-then-frame-eq0-clause-says
value-returns-then-frame-eq0-clause-says t c = course_says c.args.text.now.bytes.now c.args.store.now c.args.at c.args.within.now.base c.args.within.now.top c.args.within.now.depth c.args.inside c.body.store c.body.at c.body.frame.base c.body.frame.top c.body.frame.depth c.body.inside c.body.invariant _ (path_deep c.args.text.now.bytes.now c.body.store c.body.at c.body.frame.base c.body.frame.top c.body.frame.depth c.body.inside c.in-Call.f c.in-Call.n c.in-Call.ensures c.arguments.new.store c.in_ok-given-in-Call.given.0 c.in_ok-given-in-Call.ensures.say c.if-inside.true c.if-frame-eq0.true)

pub value-give-requires-clause-few : goal.value-give-requires-clause-few
value-give-requires-clause-few t c = few_given c.args.text.now c.body.store c.body.at c.body.frame.base c.body.frame.top c.body.frame.depth c.body.inside c.body.invariant.stands c.in-Call.f c.in-Call.n c.in-Call.ensures

pub value-body-at-requires : goal.value-body-at-requires
value-body-at-requires t c =
    let a = c.in-Call.ensures in
    call_numbered c.args.text.now c.body.store c.body.at c.body.frame.base c.body.frame.top c.body.frame.depth c.body.inside c.body.invariant.stands c.in-Call.f c.in-Call.n a

pub value-body-smaller : goal.value-body-smaller
value-body-smaller t c =
    let a = c.in-Call.ensures in
    let e : Enters c.body.frame.base c.body.frame.top c.body.frame.depth c.body.inside c.if-inside.frame.base c.if-inside.frame.depth c.if-inside.inside = elim c.if-inside.branch [
      | value-then-inside+else-frame-eq0 w ↦ opened c.body.frame.base c.body.frame.top c.body.frame.depth c.body.inside c.if-inside.frame.base c.if-inside.frame.depth c.if-inside.inside w.if-inside.true w.inside-is (ap (λ (f : Frame). f.base) w.frame-is) (let z = w.if-frame-eq0.false in let y = ap (λ (f : Frame). f.depth) w.frame-is in omega arith)
      | value-else-inside w ↦ replaced c.body.frame.base c.body.frame.top c.body.frame.depth c.body.inside c.if-inside.frame.base c.if-inside.frame.depth c.if-inside.inside w.if-inside.false w.inside-is (ap (λ (f : Frame). f.base) w.frame-is) (ap (λ (f : Frame). f.depth) w.frame-is)
    ] in
    let held = c.give.ensures c.in_ok-given-in-Call.ensures.there in
    let p = enters_leads c.args.text.now.bytes.now c.body.store c.body.at c.body.frame.base c.body.frame.top c.body.frame.depth c.body.inside c.in-Call.f c.in-Call.n a c.arguments.new.store c.in_ok-given-in-Call.given.0 c.in_ok-given-in-Call.ensures.say c.give.new.self c.body-at.result c.body-at.ensures.there c.if-inside.frame.base c.if-inside.frame.depth c.if-inside.inside e held in
    step_falls c.args.text.now c.body.store c.body.at c.body.frame.base c.body.frame.top c.body.frame.depth c.body.inside c.give.new.self c.body-at.result c.if-inside.frame.base (c.if-inside.frame.base + c.in-Call.n) c.if-inside.frame.depth c.if-inside.inside c.body.invariant.stands p

pub value-body-preserved : goal.value-body-preserved
value-body-preserved t c =
    let a = c.in-Call.ensures in
    let e : Enters c.body.frame.base c.body.frame.top c.body.frame.depth c.body.inside c.if-inside.frame.base c.if-inside.frame.depth c.if-inside.inside = elim c.if-inside.branch [
      | value-then-inside+else-frame-eq0 w ↦ opened c.body.frame.base c.body.frame.top c.body.frame.depth c.body.inside c.if-inside.frame.base c.if-inside.frame.depth c.if-inside.inside w.if-inside.true w.inside-is (ap (λ (f : Frame). f.base) w.frame-is) (let z = w.if-frame-eq0.false in let y = ap (λ (f : Frame). f.depth) w.frame-is in omega arith)
      | value-else-inside w ↦ replaced c.body.frame.base c.body.frame.top c.body.frame.depth c.body.inside c.if-inside.frame.base c.if-inside.frame.depth c.if-inside.inside w.if-inside.false w.inside-is (ap (λ (f : Frame). f.base) w.frame-is) (ap (λ (f : Frame). f.depth) w.frame-is)
    ] in
    let held = c.give.ensures c.in_ok-given-in-Call.ensures.there in
    let p = enters_leads c.args.text.now.bytes.now c.body.store c.body.at c.body.frame.base c.body.frame.top c.body.frame.depth c.body.inside c.in-Call.f c.in-Call.n a c.arguments.new.store c.in_ok-given-in-Call.given.0 c.in_ok-given-in-Call.ensures.say c.give.new.self c.body-at.result c.body-at.ensures.there c.if-inside.frame.base c.if-inside.frame.depth c.if-inside.inside e held in
    let wide = enters_wide c.args.text.now c.body.store c.body.at c.body.frame.base c.body.frame.top c.body.frame.depth c.body.inside c.if-inside.frame.base c.if-inside.frame.depth c.if-inside.inside c.body.invariant.stands c.body.invariant.ready c.body.invariant.wide (length c.give.new.self.frames.now) (held.moved.words ∙ c.in_ok-given-in-Call.ensures.moved.words) c.body-at.result c.in-Call.n (few_given c.args.text.now c.body.store c.body.at c.body.frame.base c.body.frame.top c.body.frame.depth c.body.inside c.body.invariant.stands c.in-Call.f c.in-Call.n a) c.body-at.ensures.after e in
    course_enters c.args.text.now.bytes.now c.args.store.now c.args.at c.args.within.now.base c.args.within.now.top c.args.within.now.depth c.args.inside c.body.store c.body.at c.body.frame.base c.body.frame.top c.body.frame.depth c.body.inside c.body.invariant c.arguments.new.store c.give.new.self c.body-at.result c.if-inside.frame.base c.in-Call.n c.if-inside.frame.depth c.if-inside.inside _ e c.in_ok-given-in-Call.ensures.moved held wide p

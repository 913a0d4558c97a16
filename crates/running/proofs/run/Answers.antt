use Rattle.std.proofs.Common.{length, arith}
use Rattle.std.proofs.lemmas.Result.{err_from_is_err_and}
use Rattle.lang.specs.Eval.{val}
use Rattle.arena.specs.Nodes.{env}
use Rattle.arena.proofs.Trees.{sound_below}
use Rattle.arena.proofs.Stacks.{length_env}
use Rattle.tasks.specs.Stores.{tree_of, stopped, room}
use Rattle.tasks.proofs.Paths.{moved_then}
use Rattle.tasks.proofs.Runs.{taking_few, taking_numbered, run_wide, run_stands, run_calls}
use Rattle.running.proofs.run.Goals as goal

pub open-requires : goal.open-requires
open-requires c = let f = taking_few c.args.text.now c.args.f (length c.args.given.now) c.requires.takes in omega arith

pub body-at-requires : goal.body-at-requires
body-at-requires c = taking_numbered c.args.text.now.bytes.now c.args.f (length c.args.given.now) c.requires.takes

pub value-requires : goal.value-requires
value-requires c =
    let held = c.open.ensures c.requires.there in
    let w = held.moved.words in
    record {
      ready = held.ready;
      wide = run_wide c.args.text.now c.args.f (length c.args.given.now) (length c.open.new.self.frames.now) c.body-at.result c.args.depth c.requires.takes c.body-at.ensures.after (omega arith);
      stands = run_stands c.args.text.now.bytes.now c.args.f (length c.args.given.now) c.body-at.result c.args.depth (env c.args.store.now.arena.nodes.now c.args.given.now (length c.args.given.now)) c.requires.takes c.body-at.ensures.there (length_env c.args.store.now.arena.nodes.now c.args.given.now (length c.args.given.now)) c.args.store.now c.open.new.self held;
    }

pub returns-in_err-root : goal.returns-in_err-root
returns-in_err-root c =
    let held = c.open.ensures c.requires.there in
    let m = moved_then 0 0 c.args.store.now c.open.new.self c.value.new.store held.moved c.in_err-root.ensures.moved (omega arith) in
    let p = err_from_is_err_and c.from_residual.result c.from_residual.ensures.1 in
    rw (p.1, p.2)
    (record { there = tt; grown = m.grown; comes = run_calls c.args.text.now.bytes.now c.args.f (length c.args.given.now) c.body-at.result c.args.depth (env c.args.store.now.arena.nodes.now c.args.given.now (length c.args.given.now)) c.requires.takes c.body-at.ensures.there (length_env c.args.store.now.arena.nodes.now c.args.given.now (length c.args.given.now)) c.args.store.now c.open.new.self held (stopped c.in_err-root.field-0.0) c.in_err-root.ensures.says })

pub returns : goal.returns
returns c =
    let held = c.open.ensures c.requires.there in
    let new = c.value.new.store in
    let m = moved_then 0 0 c.args.store.now c.open.new.self new held.moved c.in_ok-root.ensures.moved (omega arith) in
    record { there = c.in_ok-root.ensures.there; grown = m.grown; comes = (sound_below new.arena.nodes.now new.arena.used c.in_ok-root.root.0 m.grown.sound c.in_ok-root.ensures.there, run_calls c.args.text.now.bytes.now c.args.f (length c.args.given.now) c.body-at.result c.args.depth (env c.args.store.now.arena.nodes.now c.args.given.now (length c.args.given.now)) c.requires.takes c.body-at.ensures.there (length_env c.args.store.now.arena.nodes.now c.args.given.now (length c.args.given.now)) c.args.store.now c.open.new.self held (val (tree_of new c.in_ok-root.root) (room new)) c.in_ok-root.ensures.says) }

use Rattle.std.proofs.Common.{◌≡◌, length, arith}
use Rattle.std.proofs.lemmas.Result.{err_from_is_err_and}
use Rattle.table.specs.Rows.{rows}
use Rattle.closure.proofs.Answering.{entered_followed, whole, over}
use Rattle.closure.proofs.all_ways.Goals as goal

pub returns-in_err-enter_steps : goal.returns-in_err-enter_steps
returns-in_err-enter_steps c = let e = err_from_is_err_and c.from_residual.result c.from_residual.ensures.1 in rw e.1 (over c.args.steps.now.words.now c.args.steps.now.count c.args.limit c.enter_steps.new.table.rows.now c.enter_steps.new.table.count c.enter_steps.ensures.entered.grown c.in_err-enter_steps.ensures.fits)

pub returns-in_err-extend : goal.returns-in_err-extend
returns-in_err-extend c =
    let ts = rows c.args.steps.now.words.now c.args.steps.now.count in
    let first = c.enter_steps.new.table.count in
    let m : length c.link_steps.new.nexts ≡ first = omega (arith, c.link_steps.auto.nexts, c.split_at_mut-nexts-2.ensures.front_len) in
    let e = err_from_is_err_and c.from_residual-in_err-extend.result c.from_residual-in_err-extend.ensures.1 in
    rw e.1 (over c.args.steps.now.words.now c.args.steps.now.count c.args.limit c.extend.new.table.rows.now c.extend.new.table.count (c.extend.ensures.advanced.followed ts (entered_followed m c.enter_steps.ensures.entered)).grown c.in_err-extend.ensures.fits)

pub returns : goal.returns
returns c =
    let ts = rows c.args.steps.now.words.now c.args.steps.now.count in
    let first = c.enter_steps.new.table.count in
    let m : length c.link_steps.new.nexts ≡ first = omega (arith, c.link_steps.auto.nexts, c.split_at_mut-nexts-2.ensures.front_len) in
    let e = c.enter_steps.ensures.entered in
    let a = c.chain_for.ensures.memory.rows in
    let b = c.enter_steps.ensures.memory.rows in
    let d = c.extend.ensures.advanced.memory.rows in
    whole c.args.steps.now.words.now c.args.steps.now.count c.args.limit c.enter_steps.new.table.rows.now first (length c.link_steps.new.nexts) c.extend.new.table.rows.now _ c.extend.new.table.count (grind arith) m e c.in_ok-enter_steps.ensures.fits.fits (c.extend.ensures.advanced.followed ts (entered_followed m e)) c.in_ok-extend.ensures.fits c.extend.ensures.advanced.kept

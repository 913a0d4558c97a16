use Rattle.std.proofs.Common.{◌∙◌}
use Rattle.std.proofs.lemmas.Option.{MatchOption-at_none, MatchOption-at_some}
use Rattle.std.proofs.lemmas.Result.{err_from_is_err_and}
use Rattle.calling.proofs.Given.{comes, says_stopped, or_error}
use Rattle.calling.proofs.evaluate.Goals as goal

pub returns-in_err-value : goal.returns-in_err-value
returns-in_err-value c =
    let p = err_from_is_err_and c.from_residual.result c.from_residual.ensures.1 in
    rw (p.1, p.2) (says_stopped _ _ _ _ _ _ c.in_err-value.field-0.0 (comes _ _ c.args.store.now.arena.nodes.now c.args.stack.now c.args.n _ _ _ c.requires.within c.in_err-value.ensures.comes))

pub returns-in_err-bytes : goal.returns-in_err-bytes
returns-in_err-bytes c =
    let p = err_from_is_err_and c.from_residual-in_err-bytes.result c.from_residual-in_err-bytes.ensures.1 in
    let e = or_error c.write.result _ _ c.in_err-bytes.ensures.value in
    let w = MatchOption-at_none _ _ c.in_err-bytes.ensures.ok_part c.write.ensures in
    rw (p.1, p.2 ∙ e) (_, _, comes _ _ c.args.store.now.arena.nodes.now c.args.stack.now c.args.n _ _ _ c.requires.within c.in_ok-value.ensures.comes.1, w.small, w.same)

pub returns : goal.returns
returns c =
    let w = MatchOption-at_some _ _ c.in_ok-bytes.bytes c.in_ok-bytes.ensures.ok_part c.write.ensures in
    (_, comes _ _ c.args.store.now.arena.nodes.now c.args.stack.now c.args.n _ _ _ c.requires.within c.in_ok-value.ensures.comes.1, w.size, w.bytes, w.others)

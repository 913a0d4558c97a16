use Rattle.std.proofs.lemmas.Result.{err_from_is_err_and}
use Rattle.judging.proofs.Bridge.{steps_of, settled}
use Rattle.judging.proofs.close.Goals as goal

pub returns-in_err-ways : goal.returns-in_err-ways
returns-in_err-ways c =
    let p = err_from_is_err_and c.from_residual.result c.from_residual.ensures.1 in
    rw p.1 (λ ss f h. c.in_err-ways.ensures ss (steps_of c.args.steps.now.words.now ss c.args.steps.now.count h))

pub returns : goal.returns
returns c ss f h = settled c.args.steps.now.words.now c.args.steps.now.count c.args.limit c.all_ways.new.ways c.in_ok-ways.ways c.first_without_reason-failing.result ss f h c.in_ok-ways.ensures c.first_without_reason-failing.ensures.first c.first_without_reason-failing.ensures.reason

use Rattle.std.proofs.Common.{refl}
use Rattle.std.proofs.lemmas.Bool.{false≢true}
use Rattle.std.proofs.lemmas.Result.{err_from_is_err_and}
use Rattle.readable.proofs.Steps.{end_stopped, end_open, end_done}
use Rattle.readable.proofs.parsing.Parser.end.Goals as goal

pub returns-in_err-flush : goal.returns-in_err-flush
returns-in_err-flush c =
    let e = err_from_is_err_and c.from_residual.result c.from_residual.ensures.1 in
    rw (e.1, e.2) (end_stopped c.args.self.now c.in_err-flush.field-0.0 c.in_err-flush.ensures)

pub returns-then-not-is_empty : goal.returns-then-not-is_empty
returns-then-not-is_empty c = end_open c.args.self.now c.flush.new.self c.in_ok-flush.ensures (λ e. false≢true (c.if-not-is_empty.ensures.1 e))

pub returns : goal.returns
returns c = end_done c.args.self.now c.flush.new.self c.in_ok-flush.ensures (c.if-not-is_empty.ensures.0 refl)

use Rattle.std.proofs.Common.{sym}
use Rattle.std.proofs.lemmas.Result.{MatchResult-weaker, err_from_is_err_and}
use Rattle.readable.proofs.Steps.{digit_stopped, not_flushed_space, not_flushed_mark, space_step, mark_step, mark_stopped}
use Rattle.readable.proofs.parsing.Parser.byte.Goals as goal

pub returns-in_err-digit-in-Digit : goal.returns-in_err-digit-in-Digit
returns-in_err-digit-in-Digit c =
    let e = err_from_is_err_and c.from_residual.result c.from_residual.ensures.1 in
    rw (e.1, e.2) (digit_stopped c.args.self.now c.args.c c.in-Digit.d c.in_err-digit-in-Digit.field-0.0 (sym c.in-Digit.ensures) c.in_err-digit-in-Digit.ensures)

pub returns-in_err-flush-in-Mark : goal.returns-in_err-flush-in-Mark
returns-in_err-flush-in-Mark c =
    let e = err_from_is_err_and c.from_residual-in_err-flush-in-Mark.result c.from_residual-in_err-flush-in-Mark.ensures.1 in
    rw (e.1, e.2) (not_flushed_mark c.args.self.now c.args.c c.in_err-flush-in-Mark.field-0.0 c.in-Mark.token (sym c.in-Mark.ensures) c.in_err-flush-in-Mark.ensures)

pub returns-in-Space : goal.returns-in-Space
returns-in-Space c =
    let p = c.args.self.now in
    MatchResult-weaker c.flush.result c.flush.ensures
    (λ x h. space_step p c.args.c c.flush.new.self (sym c.in-Space.ensures) h)
    (λ stop h. not_flushed_space p c.args.c stop (sym c.in-Space.ensures) h)

pub returns-in_ok-flush-in-Mark : goal.returns-in_ok-flush-in-Mark
returns-in_ok-flush-in-Mark c =
    let p = c.args.self.now in
    let q = c.flush-in-Mark.new.self in
    MatchResult-weaker c.take.result c.take.ensures
    (λ x m. mark_step p c.args.c q _ c.in-Mark.token (sym c.in-Mark.ensures) c.in_ok-flush-in-Mark.ensures m)
    (λ stop h. mark_stopped p c.args.c q stop c.in-Mark.token (sym c.in-Mark.ensures) c.in_ok-flush-in-Mark.ensures h)

use Rattle.std.proofs.Common.{[], ◌∷◌, refl}
use Rattle.std.proofs.lemmas.Result.{err_from_is_err_and}
use Rattle.lang.specs.Bytes.{bytes_of_tree}
use Rattle.readable.specs.declared.tokens.Token.TheVariants.{Dot, Open, Begin, Number}
use Rattle.readable.specs.declared.parsing.Symbol.TheVariants.{First, Rest}
use Rattle.readable.specs.Machine.{wants}
use Rattle.readable.specs.Syntax.{numeral}
use Rattle.readable.proofs.Turns.{whole_item, item_overflows, pair_begun, list_begun, no_item}
use Rattle.readable.proofs.parsing.Parser.item.Goals as goal

pub returns-in_err-put-in-Dot : goal.returns-in_err-put-in-Dot
returns-in_err-put-in-Dot c =
    let p = c.args.self.now in
    let e = err_from_is_err_and c.from_residual.result c.from_residual.ensures.1 in
    rw (e.1, e.2) (item_overflows p c.args.token Dot (0 ∷ []) (wants p.stack.now.items) c.in-Dot.is refl c.in_err-put-in-Dot.ensures.bytes)

pub returns-in_err-put_numeral-in-Number : goal.returns-in_err-put_numeral-in-Number
returns-in_err-put_numeral-in-Number c =
    let p = c.args.self.now in
    let n = c.in-Number.n in
    let e = err_from_is_err_and c.from_residual-in_err-put_numeral-in-Number.result c.from_residual-in_err-put_numeral-in-Number.ensures.1 in
    rw (e.1, e.2) (item_overflows p c.args.token (Number n) (bytes_of_tree (numeral n)) (wants p.stack.now.items) c.in-Number.is refl c.in_err-put_numeral-in-Number.ensures)

pub returns-in_err-put-in-Open : goal.returns-in_err-put-in-Open
returns-in_err-put-in-Open c =
    let p = c.args.self.now in
    let e = err_from_is_err_and c.from_residual-in_err-put-in-Open.result c.from_residual-in_err-put-in-Open.ensures.1 in
    rw (e.1, e.2) (item_overflows p c.args.token Open (1 ∷ []) (wants (First ∷ p.stack.now.items)) c.in-Open.is refl c.in_err-put-in-Open.ensures.bytes)

pub returns-in_ok-put-in-Dot : goal.returns-in_ok-put-in-Dot
returns-in_ok-put-in-Dot c = whole_item c.args.self.now c.args.token Dot (0 ∷ []) _ c.in-Dot.is refl c.in_ok-put-in-Dot.ensures.bytes refl refl refl

pub returns-in_ok-put_numeral-in-Number : goal.returns-in_ok-put_numeral-in-Number
returns-in_ok-put_numeral-in-Number c = whole_item c.args.self.now c.args.token (Number c.in-Number.n) (bytes_of_tree (numeral c.in-Number.n)) _ c.in-Number.is refl c.in_ok-put_numeral-in-Number.ensures refl refl refl

pub returns-in_ok-put-in-Open : goal.returns-in_ok-put-in-Open
returns-in_ok-put-in-Open c = pair_begun c.args.self.now c.args.token Open (1 ∷ []) First _ c.in-Open.is refl c.in_ok-put-in-Open.ensures.bytes refl refl c.push.ensures.items c.push.ensures.capacity

pub returns-in-Begin : goal.returns-in-Begin
returns-in-Begin c = list_begun c.args.self.now c.args.token Begin Rest _ c.in-Begin.is refl refl refl c.push-in-Begin.ensures.items c.push-in-Begin.ensures.capacity

pub returns-in-Close : goal.returns-in-Close
returns-in-Close c = no_item c.args.self.now c.args.token c.in-Close.is

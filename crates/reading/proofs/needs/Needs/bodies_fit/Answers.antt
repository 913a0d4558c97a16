use Rattle.std.proofs.Common.{T, sym, ◌∙◌, subst, arith}
use Rattle.lang.specs.Bytes.{all_ok}
use Rattle.sizechange.proofs.Lists.{nth_below}
use Rattle.reading.proofs.Places.{function_at, each_ok, ok_each, is_true, is_false}
use Rattle.reading.proofs.needs.Needs.bodies_fit.Goals as goal

pub returns : goal.returns
returns c p h d = is_true (all_ok p p) (each_ok p h.functions (λ f g e. let n = nth_below p f e in let m = h.number in c.loop-start.invariant p h d f g (omega arith) e))

pub returns-then-not-body_fits : goal.returns-then-not-body_fits
returns-then-not-body_fits c p h d =
    let x = function_at c.args.self.now.expressions.bytes.now c.args.self.now.starts.now p c.loop-start.start-index h (omega arith) in
    is_false (all_ok p p) (λ t. subst T (sym (c.body_fits.ensures p x.0 d x.2) ∙ c.if-not-body_fits.true) (ok_each p p c.loop-start.start-index x.0 t x.1))

use Rattle.std.proofs.Common.{◌≡◌, ℕ, ◌+◌, ◌-◌, ◌∙◌, ◌++◌, length, take, drop, ap, arith, below_more}
use Rattle.std.proofs.lemmas.List.{get_or-set_same, get_or-set_other, get_or_append_left, length-take-le}
use Rattle.origins.specs.declared.origin.Origin.TheVariants.{Same}
use Rattle.origins.specs.Origins.{from_of, origin_from}
use Rattle.origins.proofs.Origins.{given_view, word_from}
use Rattle.origins.proofs.origin.give.Goals as goal

pub loop-k-preserved : goal.loop-k-preserved
loop-k-preserved c =
    below_more _ _
    (λ j h. ap from_of (get_or-set_other c.loop-k.word-items c.loop-k.k j _ 0 (λ e. omega arith)) ∙ c.loop-k.invariant j h)
    (ap from_of (get_or-set_same c.loop-k.word-items c.loop-k.k _ 0 (omega arith)) ∙ (ap from_of c.from.ensures ∙ word_from (Same (c.args.args - 1 - c.loop-k.k))))

pub returns : goal.returns
returns c =
    let l : length (take c.args.args c.args.known.now) ≡ c.args.args = length-take-le c.args.args c.args.known.now c.requires.within in
    given_view (c.loop-k.word-items ++ drop c.args.args c.args.known.now) 0 c.args.args (omega arith) (λ k h.
    let e : c.args.args - 1 - k ≡ 0 + c.args.args - 1 - k = omega arith in
    ap from_of (get_or_append_left c.loop-k.word-items (drop c.args.args c.args.known.now) 0 k (omega arith)) ∙ (c.loop-k.invariant k (omega arith) ∙ ap (λ (x : ℕ). origin_from (Same x)) e))

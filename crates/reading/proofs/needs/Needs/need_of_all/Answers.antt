use Rattle.std.proofs.Common.{◌≡◌, ℕ, None, subst, arith}
use Rattle.reading.proofs.Needing.{Joined, joined_none, joined_more, joined_no, joined_all, need_none, known}
use Rattle.reading.proofs.needs.Needs.need_of_all.Goals as goal

pub loop-i-init : goal.loop-i-init
loop-i-init c = (omega arith, λ p h. joined_none p c.args.self.now.expressions.bytes.now c.args.at, omega arith)

pub loop-i-preserved : goal.loop-i-preserved
loop-i-preserved c =
    let s = c.args.self.now.expressions.bytes.now in
    let e = c.in_ok-end.ensures in
    let a = e.0 in
    let b = e.1 in
    let f = c.in_ok-own.ensures.fits in
    let i = c.loop-i.invariant.0 in
    (omega arith, λ p h. joined_more p s c.args.at c.loop-i._i c.loop-i.place c.loop-i.need c.in_ok-end.end c.in_ok-own.own c.max-need.result c.max-need.ensures (c.loop-i.invariant.1 p h) e (known p s c.args.self.now.words.now c.args.at c.loop-i.place _ h i (omega arith) c.in_ok-own.ensures.need), omega arith)

pub returns-in_err-end : goal.returns-in_err-end
returns-in_err-end c =
    let s = c.args.self.now.expressions.bytes.now in
    rw c.from_residual.ensures (record { need = λ p h. joined_no p s c.args.at c.loop-i._i c.loop-i.place c.loop-i.need c.args.n (c.loop-i.invariant.1 p h) c.loop-i-test.true (need_none p s c.loop-i.place c.in_err-end.ensures None); fits = tt })

pub returns-in_err-own : goal.returns-in_err-own
returns-in_err-own c =
    let s = c.args.self.now.expressions.bytes.now in
    let e = c.in_ok-end.ensures in
    let a = e.0 in
    let b = e.1 in
    let i = c.loop-i.invariant.0 in
    rw c.from_residual-in_err-own.ensures (record { need = λ p h. joined_no p s c.args.at c.loop-i._i c.loop-i.place c.loop-i.need c.args.n (c.loop-i.invariant.1 p h) c.loop-i-test.true (known p s c.args.self.now.words.now c.args.at c.loop-i.place _ h i (omega arith) c.in_err-own.ensures.need); fits = tt })

pub returns : goal.returns
returns c =
    let s = c.args.self.now.expressions.bytes.now in
    let e : c.loop-i._i ≡ c.args.n = omega arith in
    record { need = λ p h. joined_all p s c.args.at c.args.n c.loop-i.place c.loop-i.need (subst (λ (n : ℕ). Joined p s c.args.at n c.loop-i.place c.loop-i.need) e (c.loop-i.invariant.1 p h)); fits = c.loop-i.invariant.2 }

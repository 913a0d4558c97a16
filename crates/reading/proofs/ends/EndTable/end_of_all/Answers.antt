use Rattle.std.proofs.Common.{◌≡◌, ℕ, subst, arith}
use Rattle.reading.proofs.Passing.{Passed, passed_none, passed_more, passed_no, passed_all}
use Rattle.reading.proofs.ends.EndTable.end_of_all.Goals as goal

pub loop-i-init : goal.loop-i-init
loop-i-init c = passed_none c.args.self.now.bytes.now c.args.at c.requires.at_within

pub loop-i-preserved : goal.loop-i-preserved
loop-i-preserved c = passed_more c.args.self.now.bytes.now c.args.at c.loop-i._i c.loop-i.end _ c.loop-i.invariant c.in_ok-end.ensures

pub returns-in_err-end : goal.returns-in_err-end
returns-in_err-end c = rw c.from_residual.ensures (passed_no c.args.self.now.bytes.now c.args.at c.loop-i._i c.loop-i.end c.args.n c.loop-i.invariant c.loop-i-test.true c.in_err-end.ensures)

pub returns : goal.returns
returns c = let e : c.loop-i._i ≡ c.args.n = omega arith in passed_all c.args.self.now.bytes.now c.args.at c.args.n c.loop-i.end (subst (λ (n : ℕ). Passed c.args.self.now.bytes.now c.args.at n c.loop-i.end) e c.loop-i.invariant)

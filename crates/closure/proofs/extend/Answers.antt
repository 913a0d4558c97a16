use Rattle.std.proofs.Common.{arith}
use Rattle.closure.proofs.Following.{advanced_then, advanced_chained, advanced_all, ready_chained}
use Rattle.closure.proofs.extend.Goals as goal

pub follow-requires-clause-ready : goal.follow-requires-clause-ready
follow-requires-clause-ready c =
    let h = c.keep_chained-enough.ensures in
    ready_chained c.loop-k.invariant.ready h.open h.count h.kept

pub returns-in_err-follow-clause-advanced : goal.returns-in_err-follow-clause-advanced
returns-in_err-follow-clause-advanced c =
    let i = c.loop-k.invariant in
    let h = c.keep_chained-enough.ensures in
    let f = c.follow.ensures.advanced in
    advanced_all (advanced_then i.advanced (advanced_then (advanced_chained i.here h.memory h.count h.kept) f)) (omega (arith, f.more, h.count, c.loop-k-test.true)) (λ le. absurd (omega (arith, c.in_err-follow.ensures.fits)))

pub loop-k-preserved : goal.loop-k-preserved
loop-k-preserved c =
    let i = c.loop-k.invariant in
    let h = c.keep_chained-enough.ensures in
    let f = c.follow.ensures.advanced in
    record { ready = c.in_ok-follow.ensures.fits; advanced = advanced_then i.advanced (advanced_then (advanced_chained i.here h.memory h.count h.kept) f); here = omega (arith, f.more, h.count, c.loop-k-test.true) }

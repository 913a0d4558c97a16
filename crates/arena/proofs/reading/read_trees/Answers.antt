use Rattle.std.proofs.Common.{◌≡◌, ◌+◌, ◌-◌, length, refl, arith}
use Rattle.std.proofs.lemmas.List.{length_push, length-reverse}
use Rattle.std.proofs.lemmas.Iterator.Adapters.{YieldsList-from_rev_slice}
use Rattle.std.proofs.lemmas.Iterator.Consumers.{YieldsList-turn, YieldsList-end}
use Rattle.arena.proofs.Readers.{nothing, bad_byte, no_two, byte_read, other_number, yielded_byte}
use Rattle.arena.proofs.reading.read_trees.Goals as goal

pub loop-byte-init : goal.loop-byte-init
loop-byte-init c =
    let e : length c.args.bytes.now - 0 ≡ length c.args.bytes.now = omega arith in
    rw e (nothing c.args.bytes.now c.args.nodes.now c.args.stack.now)

pub returns-then-b-gt1 : goal.returns-then-b-gt1
returns-then-b-gt1 c =
    let t = yielded_byte c.args.bytes.now (length c.loop-byte.yielded) c.in-Some.field-0.now (YieldsList-turn (YieldsList-from_rev_slice c.args.bytes.now (cc)) c.loop-byte.yielded _ c.loop-byte.yielded_by _ _ c.in-Some.field-0 c.in-Some.is c.next.ensures.steps) in
    bad_byte _ _ _ _ _ _ _ (omega arith) c.loop-byte.invariant _ t.1 c.if-b-gt1.true c.args.wanted

pub returns-then-height-b : goal.returns-then-height-b
returns-then-height-b c =
    let t = yielded_byte c.args.bytes.now (length c.loop-byte.yielded) c.in-Some.field-0.now (YieldsList-turn (YieldsList-from_rev_slice c.args.bytes.now (cc)) c.loop-byte.yielded _ c.loop-byte.yielded_by _ _ c.in-Some.field-0 c.in-Some.is c.next.ensures.steps) in
    no_two _ _ _ _ _ _ _ (omega arith) c.loop-byte.invariant (omega arith) (omega arith) c.args.wanted

pub loop-byte-preserved : goal.loop-byte-preserved
loop-byte-preserved c =
    let s = c.loop-byte.invariant in
    let t = yielded_byte c.args.bytes.now (length c.loop-byte.yielded) c.in-Some.field-0.now (YieldsList-turn (YieldsList-from_rev_slice c.args.bytes.now (cc)) c.loop-byte.yielded _ c.loop-byte.yielded_by _ _ c.in-Some.field-0 c.in-Some.is c.next.ensures.steps) in
    let n = length_push c.loop-byte.yielded c.in-Some.field-0 in
    let e : length c.args.bytes.now - (length c.loop-byte.yielded + 1) ≡ length c.args.bytes.now - length c.loop-byte.yielded - 1 = omega arith in
    rw (n, e) (byte_read _ _ _ _ _ _ _ (omega arith) s _ _ _ _ _ t.1 (omega arith) (omega arith) c.number-top.ensures.node c.number-top.ensures.leaf refl refl refl (omega (arith, s.few)) (omega (arith, s.low)))

pub returns-then-height-wanted : goal.returns-then-height-wanted
returns-then-height-wanted c =
    let t = YieldsList-end (YieldsList-from_rev_slice c.args.bytes.now (cc)) c.loop-byte.yielded _ c.loop-byte.yielded_by _ _ c.in-None.is c.next.ensures.steps in
    other_number _ _ _ _ _ _ _ (omega (arith, t.1, length-reverse c.args.bytes.now)) c.loop-byte.invariant c.args.wanted (λ same. omega arith)

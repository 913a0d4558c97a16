use Rattle.std.proofs.Common.{arith}
use Rattle.reading.proofs.Passing.{says_ends}
use Rattle.ends.proofs.Answers.{judged, room_fits}
use Rattle.ends.proofs.go_call.go_within.Goals as goal

pub invariant_of-expressions : goal.invariant_of-expressions
invariant_of-expressions c = record { table = omega arith; ending = says_ends _ _ c.in_ok-verdict.ensures.1.tables.ending }

pub call-requires-clause-judged : goal.call-requires-clause-judged
call-requires-clause-judged c = judged _ _ c.find_verdict.new.starts _ c.in_ok-verdict.verdict (grind arith) c.in_ok-verdict.ensures (omega arith)

pub overflow_cast-result : goal.overflow_cast-result
overflow_cast-result c =
    let left = room_fits c.args.program.now _ _ c.args.limits.ways c.in_ok-verdict.verdict c.in_ok-verdict.ensures c.args.function c.args.args.now c.args.limits.depth c.args.limits.room c.args.out.now _ c.in_ok-value.value (omega arith) c.in_ok-value.ensures in
    omega arith

use Rattle.std.proofs.Common.{◌≡◌, Some, arith}
use Rattle.reading.proofs.Passing.{says_ends}
use Rattle.judging.proofs.Bridge.{was_read, says}
use Rattle.judging.proofs.find_verdict.Goals as goal

pub invariant_of-script-clause-ending : goal.invariant_of-script-clause-ending
invariant_of-script-clause-ending c =
    let e : c.read_program.result ≡ Some c.in_ok-functions.functions = grind arith in
    let t = was_read c.args.program.now c.read_program.new.ends c.read_program.new.starts e c.read_program.ensures in
    says_ends _ _ t.1.ending

pub returns : goal.returns
returns c =
    let e : c.read_program.result ≡ Some c.in_ok-functions.functions = grind arith in
    let t = was_read c.args.program.now c.read_program.new.ends c.read_program.new.starts e c.read_program.ensures in
    says c.args.program.now c.read_program.new.ends c.read_program.new.starts c.args.ways t.0 _ _ t.1 (c.in_ok-closed.ensures t.0 t.1.program)

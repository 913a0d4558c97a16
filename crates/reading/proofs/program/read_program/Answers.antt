use Rattle.std.proofs.Common.{T, sym, ◌∙◌, subst, arith}
use Rattle.reading.proofs.Passing.{says_ends}
use Rattle.reading.proofs.Places.{bodies_within, located, program_found, program_is_found, no_functions}
use Rattle.reading.proofs.program.read_program.Goals as goal

pub fill_needs-requires : goal.fill_needs-requires
fill_needs-requires c =
    let f = c.in_ok-n.ensures in
    let k = f.1.few in
    record { bodies = bodies_within c.args.bytes.now _ f.0 (located c.args.bytes.now c.find_functions.new.starts f.0 c.in_ok-n.n (omega arith) f.1); room = omega arith }

pub invariant_of-expressions-clause-ending : goal.invariant_of-expressions-clause-ending
invariant_of-expressions-clause-ending c = says_ends _ _ c.fill_ends.ensures

pub invariant_of-needs-clause-bodies : goal.invariant_of-needs-clause-bodies
invariant_of-needs-clause-bodies c =
    let f = c.in_ok-n.ensures in
    let k = f.1.few in
    bodies_within c.args.bytes.now _ f.0 (located c.args.bytes.now c.find_functions.new.starts f.0 c.in_ok-n.n (omega arith) f.1)

pub returns-then-bodies_fit : goal.returns-then-bodies_fit
returns-then-bodies_fit c =
    let f = c.in_ok-n.ensures in
    let k = f.1.few in
    let l = located c.args.bytes.now c.find_functions.new.starts f.0 c.in_ok-n.n (omega arith) f.1 in
    let o = c.bodies_fit.ensures f.0 l (c.fill_needs.ensures f.0 l) in
    (f.0, record { program = program_found c.args.bytes.now c.find_functions.new.starts f.0 c.in_ok-n.n (omega arith) f.1 (subst T (sym c.if-bodies_fit.true ∙ o) tt); found = f.1; ending = c.fill_ends.ensures })

pub returns-else-bodies_fit : goal.returns-else-bodies_fit
returns-else-bodies_fit c p h =
    let f = c.in_ok-n.ensures in
    let k = f.1.few in
    let l = located c.args.bytes.now c.find_functions.new.starts f.0 c.in_ok-n.n (omega arith) f.1 in
    let o = c.bodies_fit.ensures f.0 l (c.fill_needs.ensures f.0 l) in
    subst T (sym o ∙ c.if-bodies_fit.false) (program_is_found c.args.bytes.now c.find_functions.new.starts f.0 p c.in_ok-n.n f.1 h)

pub returns-in_err-n : goal.returns-in_err-n
returns-in_err-n c = rw c.from_residual.ensures (no_functions c.args.bytes.now c.in_err-n.ensures)

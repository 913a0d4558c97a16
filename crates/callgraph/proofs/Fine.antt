-- The call graph of a program is fine for tables of 64 points and 8 places.
use Rattle.std.proofs.Common.{ℕ, List, arith}
use Rattle.sizechange.specs.Theorems.{Fine}
use Rattle.lang.specs.Program.{Prog}
use Rattle.lang.specs.Bytes.{Program}
use Rattle.lang.specs.Steps.{call_graph}
use Rattle.lang.proofs.Fine.{fine_call_graph}
use Rattle.lang.proofs.Reading.{fine_parts}
use Rattle.lang.proofs.Well.{well_program}
use Rattle.graphs.specs.Words.{places}
use Rattle.table.specs.Ends.{points}

pub fine_program : (s : List ℕ) (p : Prog) → Program s p → Fine points places (call_graph p)
fine_program s p h t i =
    let f = fine_call_graph p (well_program s p h) t i in
    let few = (fine_parts s p h).1 in
    let a = f.caller_below in
    let b = f.callee_below in
    record { caller_below = omega arith; callee_below = omega arith; arcs_fine = f.arcs_fine }

use Rattle.std.proofs.Common.{[], ◌∷◌, sym, ◌∙◌, arith, eqb-true}
use Rattle.std.proofs.lemmas.Result.{err_from_is_err_and}
use Rattle.showing.specs.Printers.{frames_text}
use Rattle.showing.proofs.Picked.{rest_end}
use Rattle.showing.proofs.Printouts.{overlong, ended}
use Rattle.showing.proofs.Printer.rest.Goals as goal

pub returns-in_err-put : goal.returns-in_err-put
returns-in_err-put c =
    let p = c.args.self.now in
    let below = frames_text p.tree.nodes.now p.stack.now.items in
    let e = err_from_is_err_and c.from_residual.result c.from_residual.ensures.1 in
    rw e.1 (overlong _ p (93 ∷ []) below c.in_err-put.ensures.bytes (rest_end p.tree.nodes.now c.args.n.0 (eqb-true c.args.n.0 0 (sym c.eq.ensures ∙ c.if-eq.true)) below))

pub returns-then-eq : goal.returns-then-eq
returns-then-eq c =
    let p = c.args.self.now in
    let below = frames_text p.tree.nodes.now p.stack.now.items in
    ended _ p c.put.new.self (93 ∷ []) c.in_ok-put.ensures.bytes (omega arith) c.requires.found c.requires.frames (rest_end p.tree.nodes.now c.args.n.0 (eqb-true c.args.n.0 0 (sym c.eq.ensures ∙ c.if-eq.true)) below)

use Rattle.std.proofs.Common.{[], ◌∷◌, sym, ◌∙◌, arith, eqb-true}
use borrow.Author.Tests.{eqb-false}
use Rattle.std.proofs.lemmas.Result.{err_from_is_err_and}
use Rattle.arena.proofs.Trees.{tree_parts}
use Rattle.showing.specs.Shown.{decimal}
use Rattle.showing.specs.Printers.{frames_text}
use Rattle.showing.proofs.Numbering.{number_in_is, decimal_some}
use Rattle.showing.proofs.Picked.{leaf_text, number_text}
use Rattle.showing.proofs.Printouts.{overlong, ended}
use Rattle.showing.proofs.Printer.item.Goals as goal

pub returns-in_err-put : goal.returns-in_err-put
returns-in_err-put c =
    let p = c.args.self.now in
    let below = frames_text p.tree.nodes.now p.stack.now.items in
    let e = err_from_is_err_and c.from_residual.result c.from_residual.ensures.1 in
    rw e.1 (overlong _ p (46 ∷ []) below c.in_err-put.ensures.bytes (leaf_text p.tree.nodes.now c.args.n.0 (eqb-true c.args.n.0 0 (sym c.eq.ensures ∙ c.if-eq.true)) below))

pub returns-then-eq : goal.returns-then-eq
returns-then-eq c =
    let p = c.args.self.now in
    let below = frames_text p.tree.nodes.now p.stack.now.items in
    ended _ p c.put.new.self (46 ∷ []) c.in_ok-put.ensures.bytes (omega arith) c.requires.found c.requires.frames (leaf_text p.tree.nodes.now c.args.n.0 (eqb-true c.args.n.0 0 (sym c.eq.ensures ∙ c.if-eq.true)) below)

pub returns-in_err-put_decimal : goal.returns-in_err-put_decimal
returns-in_err-put_decimal c =
    let p = c.args.self.now in
    let ws = p.tree.nodes.now in
    let n = c.args.n.0 in
    let f = c.requires.found in
    let below = frames_text ws p.stack.now.items in
    let node = eqb-false n 0 (sym c.eq.ensures ∙ c.if-eq.false) in
    let parts = tree_parts ws p.tree.root.0 p.tree.sound n (omega arith) c.requires.next.0 in
    let is = sym (number_in_is ws p.tree.root.0 p.values.now p.tree.sound f.numbers n c.requires.next.0) ∙ sym c.number_at.ensures ∙ c.in-Some.is in
    let e = err_from_is_err_and c.from_residual-in_err-put_decimal.result c.from_residual-in_err-put_decimal.ensures.1 in
    rw e.1 (overlong _ p (decimal c.in-Some.number) below c.in_err-put_decimal.ensures (number_text ws n _ _ parts c.in-Some.number is below))

pub returns-in-Some : goal.returns-in-Some
returns-in-Some c =
    let p = c.args.self.now in
    let ws = p.tree.nodes.now in
    let n = c.args.n.0 in
    let f = c.requires.found in
    let below = frames_text ws p.stack.now.items in
    let node = eqb-false n 0 (sym c.eq.ensures ∙ c.if-eq.false) in
    let parts = tree_parts ws p.tree.root.0 p.tree.sound n (omega arith) c.requires.next.0 in
    let is = sym (number_in_is ws p.tree.root.0 p.values.now p.tree.sound f.numbers n c.requires.next.0) ∙ sym c.number_at.ensures ∙ c.in-Some.is in
    ended _ p c.put_decimal.new.out (decimal c.in-Some.number) c.in_ok-put_decimal.ensures (decimal_some c.in-Some.number) f c.requires.frames (number_text ws n _ _ parts c.in-Some.number is below)

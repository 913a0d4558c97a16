use Rattle.std.proofs.Common.{◌≡◌, ℕ, ◌<◌, Some, [], ◌∷◌, sym, ◌∙◌, arith}
use Rattle.arena.specs.Nodes.{tree}
use Rattle.showing.specs.declared.Frame.TheVariants.{Rest}
use Rattle.showing.specs.Shown.{as_number}
use Rattle.showing.specs.Printers.{frames_text}
use Rattle.showing.proofs.Numbering.{number_in_is}
use Rattle.showing.proofs.Picked.{list_text}
use Rattle.showing.proofs.Printouts.{opened}
use Rattle.showing.proofs.Printer.open.Goals as goal
use Rattle.showing.proofs.Printer.open.Goals.{in_default-via-in-Some+else-number-ge2, in_default-via-in_default}

pub returns-in_ok-put-in_default : goal.returns-in_ok-put-in_default
returns-in_ok-put-in_default c =
    let p = c.args.self.now in
    let ws = p.tree.nodes.now in
    let vs = p.values.now in
    let f = c.requires.printing.found in
    let next = c.requires.printing.next in
    let l = c.parts.result.0.0 in
    let r = c.parts.result.1.0 in
    let parts = c.parts.ensures in
    let is = number_in_is ws p.tree.root.0 vs p.tree.sound f.numbers in
    let none = sym (is c.args.n.0 next.0) ∙ c.requires.none in
    let few : (w : ℕ) → as_number (tree ws r) ≡ Some w → w < 2 = λ w e.
    let k : c.number_at.result ≡ Some w = c.number_at.ensures ∙ is r (omega arith) ∙ e in
    elim c.in_default.branch [
      | in_default-via-in-Some+else-number-ge2 v ↦ let same : v.in-Some.number ≡ w = cc in omega (arith, v.if-number-ge2.false)
      | in_default-via-in_default v ↦ absurd (v.in_default.not-Some w k)
    ] in
    opened _ p c.put-in_default.new.self (91 ∷ []) c.in_ok-put-in_default.ensures.bytes (omega arith) c.push-in_default.new.self c.args.n.0 l (Rest c.parts.result.1) f c.requires.printing.frames c.push-in_default.ensures.items c.push-in_default.ensures.capacity next.0 next.1 parts.left parts.right
    (list_text ws c.args.n.0 l r parts none few (frames_text ws p.stack.now.items))

use Rattle.std.proofs.Common.{[], ◌∷◌, ◌++◌, unwrap_or, ap, ◌∙◌, arith}
use Rattle.showing.specs.Shown.{decimal}
use Rattle.showing.specs.Printers.{frames_text, frame_to_come, node_of}
use Rattle.showing.proofs.Numbering.{number_in_is}
use Rattle.showing.proofs.Picked.{second_text}
use Rattle.showing.proofs.Printouts.{ended}
use Rattle.showing.proofs.Printer.frame.Goals as goal

pub returns-in_ok-put_second-in-Second : goal.returns-in_ok-put_second-in-Second
returns-in_ok-put_second-in-Second c =
    let p = c.args.self.now in
    let ws = p.tree.nodes.now in
    let n = c.in-Second.n.0 in
    let v = c.unwrap_or-number.result in
    let f = c.requires.found in
    let below = frames_text ws p.stack.now.items in
    let is = c.unwrap_or-number.ensures ∙ ap (λ o. unwrap_or o 0) (c.number_at.ensures ∙ number_in_is ws p.tree.root.0 p.values.now p.tree.sound f.numbers n (omega (arith, ap node_of c.in-Second.is))) in
    ended _ p c.put_second.new.out (32 ∷ (decimal v ++ (41 ∷ []))) c.in_ok-put_second-in-Second.ensures (omega arith) f c.requires.frames (ap (frame_to_come p) c.in-Second.is ∙ second_text ws n v is below)

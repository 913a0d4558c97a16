use Rattle.std.proofs.Common.{refl, ap, arith}
use Rattle.std.proofs.lemmas.Result.{MatchResult-weaker}
use Rattle.arena.specs.Nodes.{tree}
use Rattle.showing.specs.Shown.{pick, text}
use Rattle.showing.specs.Printers.{frames_text}
use Rattle.showing.proofs.Printouts.{shown_into, not_shown}
use Rattle.showing.proofs.print.Goals as goal

pub returns : goal.returns
returns c =
    let ws = c.args.tree.nodes.now in
    let t = tree ws c.args.tree.root.0 in
    let is = ap (λ fs. text (pick t) (frames_text ws fs)) c.requires.empty in
    MatchResult-weaker c.all.result c.all.ensures
    (λ k m. let name = m.kept.out_same in shown_into t c.args.out.now _ is c.requires.none _ c.all.new.self k refl m (grind arith))
    (λ e h. not_shown t c.args.out.now _ is c.requires.none h)

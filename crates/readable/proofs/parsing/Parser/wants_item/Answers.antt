use Rattle.std.proofs.Common.{◌≡◌, sym, ap, ◌∙◌, arith, Some}
use Rattle.std.proofs.lemmas.Grind.{common_steps}
use Rattle.readable.specs.declared.tokens.Token.TheVariants.{Number}
use Rattle.readable.specs.declared.parsing.Symbol.TheVariants.{Shut}
use Rattle.readable.proofs.Turns.{no_top, top_is, nothing_wanted, not_shut}
use Rattle.readable.proofs.parsing.Parser.wants_item.Goals as goal

pub returns-in-Some-clause-no : goal.returns-in-Some-clause-no
returns-in-Some-clause-no c = λ e v.
    let is : c.in-Some.top ≡ Shut = grind (arith, common_steps) in
    not_shut c.args.self.now _ (top_is c.args.self.now.stack.now.items Shut (ap Some (sym is) ∙ c.in-Some.ensures)) (Number v) (λ f. cc)

pub returns-in-None-clause-no : goal.returns-in-None-clause-no
returns-in-None-clause-no c = λ e v. nothing_wanted c.args.self.now (Number v) (no_top c.args.self.now.stack.now.items c.in-None.ensures)

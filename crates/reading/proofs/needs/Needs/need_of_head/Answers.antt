use Rattle.std.proofs.Common.{ℕ, Some, sym, ◌∙◌, subst, arith}
use Rattle.reading.specs.declared.head.Head.{Head}
use Rattle.reading.specs.Heads.{HeadAt}
use Rattle.reading.specs.Needs.{Need}
use Rattle.reading.proofs.Places.{need_node, need_parts, need_no_parts, need_bind, need_call, need_no_call}
use Rattle.reading.proofs.needs.Needs.need_of_head.Goals as goal

pub returns-in-Node-clause-need : goal.returns-in-Node-clause-need
returns-in-Node-clause-need c p h d = need_node p c.args.self.now.expressions.bytes.now c.args.at _ (subst (λ (k : Head). HeadAt c.args.self.now.expressions.bytes.now c.args.at (Some k)) c.in-Node.is c.requires.stands) (c.need_of_two.ensures.need p d)

pub returns-in_err-both-in-Parts-clause-need : goal.returns-in_err-both-in-Parts-clause-need
returns-in_err-both-in-Parts-clause-need c = rw c.from_residual.ensures (λ p h d. need_no_parts p c.args.self.now.expressions.bytes.now c.args.at c.in-Parts.i (subst (λ (k : Head). HeadAt c.args.self.now.expressions.bytes.now c.args.at (Some k)) c.in-Parts.is c.requires.stands) (c.in_err-both-in-Parts.ensures.need p (λ j l. d j (omega arith))))

pub returns-in_ok-both-in-Parts-clause-need : goal.returns-in_ok-both-in-Parts-clause-need
returns-in_ok-both-in-Parts-clause-need c p h d = subst (λ (k : ℕ). Need p c.args.self.now.expressions.bytes.now c.args.at (Some k)) (sym c.max.ensures) (need_parts p c.args.self.now.expressions.bytes.now c.args.at c.in-Parts.i c.in_ok-both-in-Parts.both (subst (λ (k : Head). HeadAt c.args.self.now.expressions.bytes.now c.args.at (Some k)) c.in-Parts.is c.requires.stands) (c.in_ok-both-in-Parts.ensures.need p (λ j l. d j (omega arith))))

pub returns-in-Bind-clause-need : goal.returns-in-Bind-clause-need
returns-in-Bind-clause-need c p h d = need_bind p c.args.self.now.expressions.bytes.now c.args.at _ (subst (λ (k : Head). HeadAt c.args.self.now.expressions.bytes.now c.args.at (Some k)) c.in-Bind.is c.requires.stands) (c.need_of_two-in-Bind.ensures.need p d)

pub returns-then-takes_args-clause-need : goal.returns-then-takes_args-clause-need
returns-then-takes_args-clause-need c p h d = need_call p c.args.self.now.expressions.bytes.now c.args.at c.in-Call.f c.in-Call.n _ (subst (λ (k : Head). HeadAt c.args.self.now.expressions.bytes.now c.args.at (Some k)) c.in-Call.is c.requires.stands) (sym c.if-takes_args.true ∙ c.takes_args.ensures p h) (c.need_of_all.ensures.need p (λ j l. d j (omega arith)))

pub returns-else-takes_args-clause-need : goal.returns-else-takes_args-clause-need
returns-else-takes_args-clause-need c p h d = need_no_call p c.args.self.now.expressions.bytes.now c.args.at c.in-Call.f c.in-Call.n (subst (λ (k : Head). HeadAt c.args.self.now.expressions.bytes.now c.args.at (Some k)) c.in-Call.is c.requires.stands) (sym c.if-takes_args.false ∙ c.takes_args.ensures p h)

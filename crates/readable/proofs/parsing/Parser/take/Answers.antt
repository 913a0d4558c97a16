use Rattle.std.proofs.Common.{◌∷◌, refl, ap, ◌∙◌, arith}
use Rattle.std.proofs.lemmas.Result.{MatchResult-weaker, err_from_is_err_and}
use Rattle.readable.specs.declared.parsing.Parser.{Parser}
use Rattle.readable.specs.declared.parsing.Symbol.TheVariants.{Item, First, Second, Shut}
use Rattle.readable.proofs.Turns.{same_refl, topped, item_taken, item_not_taken, off, shut_taken, not_shut, end_taken, end_not_taken, more_taken, more_not_taken, no_more}
use Rattle.readable.proofs.parsing.Parser.take.Goals as goal

pub returns-in_err-put-in-End : goal.returns-in_err-put-in-End
returns-in_err-put-in-End c =
    let σ = c.pop.new.self.items in
    let top = topped c.in-Some.ensures.items c.in-Rest.is in
    let e = err_from_is_err_and c.from_residual.result c.from_residual.ensures.1 in
    rw (e.1, e.2) (end_not_taken c.args.self.now σ top c.args.token c.in-End.is c.in_err-put-in-End.ensures.bytes)

pub returns-in_err-put-in_default-token-2 : goal.returns-in_err-put-in_default-token-2
returns-in_err-put-in_default-token-2 c =
    let σ = c.pop.new.self.items in
    let top = topped c.in-Some.ensures.items c.in-Rest.is in
    let e = err_from_is_err_and c.from_residual-in_err-put-in_default-token-2.result c.from_residual-in_err-put-in_default-token-2.ensures.1 in
    rw (e.1, e.2) (no_more c.args.self.now σ top c.args.token c.in_default-token-2.not-End c.in_err-put-in_default-token-2.ensures.bytes)

pub returns-in-Item : goal.returns-in-Item
returns-in-Item c =
    let p = c.args.self.now in
    let q : Parser = record { stack = record { ref_ptr = p.stack.ref_ptr; ghost_name = p.stack.ghost_name; now = c.pop.new.self }; out = p.out; number = p.number } in
    let σ = c.pop.new.self.items in
    let top = topped c.in-Some.ensures.items c.in-Item.is in
    let o = off p q σ refl refl c.pop.ensures.capacity Item σ top refl (omega arith) (same_refl _) in
    MatchResult-weaker c.item.result c.item.ensures (λ x m. item_taken p m o) (λ stop h. item_not_taken p q c.args.token stop h o)

pub returns-in-First : goal.returns-in-First
returns-in-First c =
    let p = c.args.self.now in
    let q : Parser = record { stack = record { ref_ptr = p.stack.ref_ptr; ghost_name = p.stack.ghost_name; now = c.push.new.self }; out = p.out; number = p.number } in
    let σ = c.pop.new.self.items in
    let top = topped c.in-Some.ensures.items c.in-First.is in
    let o = off p q σ refl refl (c.push.ensures.capacity ∙ c.pop.ensures.capacity) First (Second ∷ σ) top c.push.ensures.items (omega arith) (same_refl _) in
    MatchResult-weaker c.item-in-First.result c.item-in-First.ensures (λ x m. item_taken p m o) (λ stop h. item_not_taken p q c.args.token stop h o)

pub returns-in-Second : goal.returns-in-Second
returns-in-Second c =
    let p = c.args.self.now in
    let q : Parser = record { stack = record { ref_ptr = p.stack.ref_ptr; ghost_name = p.stack.ghost_name; now = c.push-in-Second.new.self }; out = p.out; number = p.number } in
    let σ = c.pop.new.self.items in
    let top = topped c.in-Some.ensures.items c.in-Second.is in
    let o = off p q σ refl refl (c.push-in-Second.ensures.capacity ∙ c.pop.ensures.capacity) Second (Shut ∷ σ) top c.push-in-Second.ensures.items (omega arith) (same_refl _) in
    MatchResult-weaker c.item-in-Second.result c.item-in-Second.ensures (λ x m. item_taken p m o) (λ stop h. item_not_taken p q c.args.token stop h o)

pub returns-in-Close : goal.returns-in-Close
returns-in-Close c =
    let σ = c.pop.new.self.items in
    let top = topped c.in-Some.ensures.items c.in-Shut.is in
    shut_taken c.args.self.now _ σ refl refl c.pop.ensures.capacity c.args.token top refl c.in-Close.is

pub returns-in_default-token : goal.returns-in_default-token
returns-in_default-token c =
    let σ = c.pop.new.self.items in
    let top = topped c.in-Some.ensures.items c.in-Shut.is in
    not_shut c.args.self.now σ top c.args.token c.in_default-token.not-Close

pub returns-in_ok-put-in-End : goal.returns-in_ok-put-in-End
returns-in_ok-put-in-End c =
    let σ = c.pop.new.self.items in
    let top = topped c.in-Some.ensures.items c.in-Rest.is in
    end_taken c.args.self.now σ top c.args.token _ c.in-End.is c.in_ok-put-in-End.ensures.bytes refl refl refl c.pop.ensures.capacity

pub returns-in_ok-put-in_default-token-2 : goal.returns-in_ok-put-in_default-token-2
returns-in_ok-put-in_default-token-2 c =
    let p = c.args.self.now in
    let q : Parser = record { stack = record { ref_ptr = p.stack.ref_ptr; ghost_name = p.stack.ghost_name; now = c.push-in_default-token-2.new.self }; out = record { ref_ptr = p.out.ref_ptr; ghost_name = p.out.ghost_name; now = c.put-in_default-token-2.new.self }; number = p.number } in
    let σ = c.pop.new.self.items in
    let top = topped c.in-Some.ensures.items c.in-Rest.is in
    let put = c.in_ok-put-in_default-token-2.ensures.bytes in
    let push = c.push-in_default-token-2.ensures in
    let room = push.capacity ∙ c.pop.ensures.capacity in
    MatchResult-weaker c.item-in_default-token-2.result c.item-in_default-token-2.ensures
    (λ x m. more_taken p σ top c.args.token q c.in_default-token-2.not-End put refl refl push.items room _ m)
    (λ stop h. more_not_taken p σ top c.args.token q c.in_default-token-2.not-End put refl refl push.items room stop h)

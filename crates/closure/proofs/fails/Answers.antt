use Rattle.std.proofs.lemmas.Bool.{not-true, not-false}
use Rattle.std.proofs.lemmas.Bool.Decides.{not_from_Decides}
use Rattle.closure.proofs.fails.Goals as goal

pub returns-then-is_idempotent : goal.returns-then-is_idempotent
returns-then-is_idempotent c =
    record {
      fails = λ t. record { loop = c.if-e.false; idempotent = λ as₁ w. (c.is_idempotent.ensures as₁ w).0 c.if-is_idempotent.true; none = λ as₁ w i s. not_from_Decides c.shrinks.result (c.shrinks.ensures as₁ w) (not-true c.shrinks.result t) (i, s) };
      sound = λ t loop as₁ w idem. (c.shrinks.ensures as₁ w).0 (not-false c.shrinks.result t);
    }

pub returns-else-is_idempotent-clause-sound : goal.returns-else-is_idempotent-clause-sound
returns-else-is_idempotent-clause-sound c = λ t loop as₁ w idem. absurd (not_from_Decides c.is_idempotent.result (c.is_idempotent.ensures as₁ w) t idem)

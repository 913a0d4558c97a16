-- The worked facts about Ackermann's function, as derivations.
use Rattle.std.proofs.Common.{ℕ, suc, [], ◌∷◌, refl}
use Rattle.lang.specs.Program.{leaf}
use Rattle.lang.specs.Eval.{val, Eval, tail, e_var, e_leaf, e_node, e_parts1, e_parts2, e_tail, e_call, e_call0, e_call1, a_nil, a_cons, a_bad, a_rest, is_deep}
use Rattle.lang.specs.Ackermann.{ack, ack_program, n0, n1, n2, Worked}

-- the body of ack(1, 0), with two nodes of room or more
one_zero_body : (d q : ℕ) → Eval ack_program tail d (n1 ∷ n0 ∷ []) ack.body (suc (suc q)) (val n2 q)
one_zero_body d q = e_parts2 leaf leaf refl (e_parts1 refl (e_tail ack (a_cons (e_var refl) (a_cons (e_node e_leaf e_leaf) a_nil)) refl refl (e_parts1 refl (e_node e_leaf (e_var refl)))))

pub worked : Worked
worked = record {
  program = record { bytes = refl; fine = tt };
  steps = refl;
  zero_zero = record { fun = ack; is = refl; fits = refl; does = e_parts1 refl (e_node e_leaf (e_var refl)) };
  zero_zero_full = record { fun = ack; is = refl; fits = refl; does = e_parts1 refl (e_node e_leaf (e_var refl)) };
  one_zero = record { fun = ack; is = refl; fits = refl; does = one_zero_body 0 0 };
  one_one_deep = record { fun = ack; is = refl; fits = refl; does = e_parts2 leaf leaf refl (e_parts2 leaf leaf refl (e_call1 (a_rest (e_var refl) (a_bad (e_call0 (a_cons (e_var refl) (a_cons (e_var refl) a_nil))) is_deep)))) };
  one_one = record { fun = ack; is = refl; fits = refl; does = e_parts2 leaf leaf refl (e_parts2 leaf leaf refl (e_tail ack (a_cons (e_var refl) (a_cons (e_call ack (a_cons (e_var refl) (a_cons (e_var refl) a_nil)) refl refl (one_zero_body 0 1)) a_nil)) refl refl (e_parts1 refl (e_node e_leaf (e_var refl))))) };
}

-- The number of rules in a derivation: each counts as one, so a part of a derivation has fewer.
use Rattle.std.specs.Prelude.{ℕ, ◌+◌, List}
use Rattle.lang.specs.Program.{Tree, Expr, Exprs, Prog}
use Rattle.lang.specs.Eval.{Outcome, Outcomes, Mode, Eval, EvalAll, e_var, e_leaf, e_node, e_node1, e_node2, e_parts1, e_parts2, e_bind, e_bind1, e_tail, e_call, e_call0, e_call1, a_nil, a_cons, a_bad, a_rest}

abbrev mutual
  pub rules : {p : Prog} {m : Mode} {d : ℕ} {ρ : List Tree} {e : Expr} {r : ℕ} {o : Outcome} → Eval p m d ρ e r o → ℕ
  rules (e_var is) = 1
  rules e_leaf = 1
  rules (e_node x y) = 1 + (rules x + rules y)
  rules (e_node1 x bad) = 1 + rules x
  rules (e_node2 x y bad) = 1 + (rules x + rules y)
  rules (e_parts1 is x) = 1 + rules x
  rules (e_parts2 t u is x) = 1 + rules x
  rules (e_bind x y) = 1 + (rules x + rules y)
  rules (e_bind1 x bad) = 1 + rules x
  rules (e_tail g xs is fits x) = 1 + (rules_all xs + rules x)
  rules (e_call g xs is fits x) = 1 + (rules_all xs + rules x)
  rules (e_call0 xs) = 1 + rules_all xs
  rules (e_call1 xs) = 1 + rules_all xs

  pub rules_all : {p : Prog} {d : ℕ} {ρ : List Tree} {es : Exprs} {r : ℕ} {o : Outcomes} → EvalAll p d ρ es r o → ℕ
  rules_all a_nil = 1
  rules_all (a_cons x xs) = 1 + (rules x + rules_all xs)
  rules_all (a_bad x bad) = 1 + rules x
  rules_all (a_rest x xs) = 1 + (rules x + rules_all xs)

-- Two derivations of the same expression have the same outcome and the same number of rules.
-- The induction hypothesis is carried over from one value to an equal one, never a derivation, so that rules are counted as they stand.
use Rattle.std.proofs.Common.{◌≡◌, ℕ, List, ◌∷◌, sym, refl, subst, subst₂, arith}
use mathlib.Core.Path.{subst₃}
use mathlib.Core.Option.{Option, some}
use Rattle.lang.specs.Program.{Tree, leaf, node, Expr, Exprs, Fun, Prog}
use Rattle.lang.specs.Eval.{Outcome, Outcomes, val, vals, no_vals, Bad, is_full, is_deep, Mode, Eval, EvalAll, e_var, e_leaf, e_node, e_node1, e_node2, e_parts1, e_parts2, e_bind, e_bind1, e_tail, e_call, e_call0, e_call1, a_nil, a_cons, a_bad, a_rest}
use Rattle.lang.specs.Rules.{rules, rules_all}
use Rattle.lang.specs.Theorems.{OneDerivation, OneOutcome}

-- every derivation here has outcome o and n rules
abbrev Only : Prog → Mode → ℕ → List Tree → Expr → ℕ → Outcome → ℕ → Type 0
Only p m d ρ e r o n = (q : Outcome) (y : Eval p m d ρ e r q) → (o ≡ q) × (n ≡ rules y)

abbrev OnlyAll : Prog → ℕ → List Tree → Exprs → ℕ → Outcomes → ℕ → Type 0
OnlyAll p d ρ es r o n = (q : Outcomes) (y : EvalAll p d ρ es r q) → (o ≡ q) × (n ≡ rules_all y)

-- what is the only one after one value is the only one after an equal value
only_next : {p : Prog} {m : Mode} {d n q q' : ℕ} {ρ : List Tree} {e : Expr} {o : Outcome} {t t' : Tree} → val t q ≡ val t' q' → Only p m d ρ e q o n → Only p m d ρ e q' o n
only_next {p} {m} {d} {n} {q} {q'} {ρ} {e} {o} is = let c : q ≡ q' = cc in subst (λ r. Only p m d ρ e r o n) c

only_bind : {p : Prog} {m : Mode} {d n q q' : ℕ} {ρ : List Tree} {e : Expr} {o : Outcome} {t t' : Tree} → val t q ≡ val t' q' → Only p m d (t ∷ ρ) e q o n → Only p m d (t' ∷ ρ) e q' o n
only_bind {p} {m} {d} {n} {q} {q'} {ρ} {e} {o} {t} {t'} is = let a : t ≡ t' = cc in let c : q ≡ q' = cc in subst₂ (λ v r. Only p m d (v ∷ ρ) e r o n) a c

only_parts : {p : Prog} {m : Mode} {d n r : ℕ} {ρ : List Tree} {e : Expr} {o : Outcome} {t u t' u' : Tree} {x : Option Tree} → x ≡ some (node t u) → x ≡ some (node t' u') → Only p m d (u ∷ t ∷ ρ) e r o n → Only p m d (u' ∷ t' ∷ ρ) e r o n
only_parts {p} {m} {d} {n} {r} {ρ} {e} {o} {t} {u} {t'} {u'} is is' = let a : t ≡ t' = cc in let c : u ≡ u' = cc in subst₂ (λ v w. Only p m d (w ∷ v ∷ ρ) e r o n) a c

only_body : {p : Prog} {m : Mode} {d n q q' : ℕ} {o : Outcome} {ts ts' : List Tree} {g g' : Fun} {x : Option Fun} → vals ts q ≡ vals ts' q' → x ≡ some g → x ≡ some g' → Only p m d ts g.body q o n → Only p m d ts' g'.body q' o n
only_body {p} {m} {d} {n} {q} {q'} {o} {ts} {ts'} {g} {g'} are is is' = let a : ts ≡ ts' = cc in let b : g ≡ g' = cc in let c : q ≡ q' = cc in subst₃ (λ us f r. Only p m d us f.body r o n) a b c

only_rest : {p : Prog} {d n q q' : ℕ} {ρ : List Tree} {es : Exprs} {o : Outcomes} {t t' : Tree} → val t q ≡ val t' q' → OnlyAll p d ρ es q o n → OnlyAll p d ρ es q' o n
only_rest {p} {d} {n} {q} {q'} {ρ} {es} {o} is = let c : q ≡ q' = cc in subst (λ r. OnlyAll p d ρ es r o n) c

-- a value is not bad; values are not no values; a leaf is not a node
val_bad : {t : Tree} {q : ℕ} {o : Outcome} → val t q ≡ o → Bad o → ⊥
val_bad e is_full = let z : ◌≡◌ {A = ℕ} 0 1 = cc in omega arith
val_bad e is_deep = let z : ◌≡◌ {A = ℕ} 0 1 = cc in omega arith

vals_none : {ts : List Tree} {q : ℕ} {o : Outcome} → vals ts q ≡ no_vals o → ⊥
vals_none e = let z : ◌≡◌ {A = ℕ} 0 1 = cc in omega arith

leaf_node : {x : Option Tree} {t u : Tree} → x ≡ some leaf → x ≡ some (node t u) → ⊥
leaf_node a b = let z : ◌≡◌ {A = ℕ} 0 1 = cc in omega arith

mutual
  pub one_eval : {p : Prog} {m : Mode} {d : ℕ} {ρ : List Tree} {e : Expr} {r : ℕ} {o q : Outcome} (x : Eval p m d ρ e r o) (y : Eval p m d ρ e r q) → (o ≡ q) × (rules x ≡ rules y)
  one_eval (e_var {t = t} is) (e_var {t = t'} is') = (let e : t ≡ t' = cc in cc, refl)
  one_eval e_leaf e_leaf = (refl, refl)
  one_eval (e_node x y) (e_node x' y') = let h = one_eval x x' in let k = only_next h.0 (λ _ z. one_eval y z) _ y' in (cc, omega arith)
  one_eval (e_node x y) (e_node1 x' b') = absurd (val_bad (one_eval x x').0 b')
  one_eval (e_node x y) (e_node2 x' y' b') = absurd (val_bad (only_next (one_eval x x').0 (λ _ z. one_eval y z) _ y').0 b')
  one_eval (e_node1 x b) (e_node x' y') = absurd (val_bad (sym (one_eval x x').0) b)
  one_eval (e_node1 x b) (e_node1 x' b') = let h = one_eval x x' in (h.0, omega arith)
  one_eval (e_node1 x b) (e_node2 x' y' b') = absurd (val_bad (sym (one_eval x x').0) b)
  one_eval (e_node2 x y b) (e_node x' y') = absurd (val_bad (sym (only_next (one_eval x x').0 (λ _ z. one_eval y z) _ y').0) b)
  one_eval (e_node2 x y b) (e_node1 x' b') = absurd (val_bad (one_eval x x').0 b')
  one_eval (e_node2 x y b) (e_node2 x' y' b') = let h = one_eval x x' in let k = only_next h.0 (λ _ z. one_eval y z) _ y' in (k.0, omega arith)
  one_eval (e_parts1 is x) (e_parts1 is' x') = let h = one_eval x x' in (h.0, omega arith)
  one_eval (e_parts1 is x) (e_parts2 t' u' is' x') = absurd (leaf_node is is')
  one_eval (e_parts2 t u is x) (e_parts1 is' x') = absurd (leaf_node is' is)
  one_eval (e_parts2 t u is x) (e_parts2 t' u' is' x') = let h = only_parts is is' (λ _ z. one_eval x z) _ x' in (h.0, omega arith)
  one_eval (e_bind x y) (e_bind x' y') = let h = one_eval x x' in let k = only_bind h.0 (λ _ z. one_eval y z) _ y' in (k.0, omega arith)
  one_eval (e_bind x y) (e_bind1 x' b') = absurd (val_bad (one_eval x x').0 b')
  one_eval (e_bind1 x b) (e_bind x' y') = absurd (val_bad (sym (one_eval x x').0) b)
  one_eval (e_bind1 x b) (e_bind1 x' b') = let h = one_eval x x' in (h.0, omega arith)
  one_eval (e_tail g xs is fits x) (e_tail g' xs' is' fits' x') = let h = one_all xs xs' in let k = only_body h.0 is is' (λ _ z. one_eval x z) _ x' in (k.0, omega arith)
  one_eval (e_tail g xs is fits x) (e_call1 xs') = absurd (vals_none (one_all xs xs').0)
  one_eval (e_call g xs is fits x) (e_call g' xs' is' fits' x') = let h = one_all xs xs' in let k = only_body h.0 is is' (λ _ z. one_eval x z) _ x' in (k.0, omega arith)
  one_eval (e_call g xs is fits x) (e_call1 xs') = absurd (vals_none (one_all xs xs').0)
  one_eval (e_call0 xs) (e_call0 xs') = let h = one_all xs xs' in (refl, omega arith)
  one_eval (e_call0 xs) (e_call1 xs') = absurd (vals_none (one_all xs xs').0)
  one_eval (e_call1 xs) (e_tail g' xs' is' fits' x') = absurd (vals_none (sym (one_all xs xs').0))
  one_eval (e_call1 xs) (e_call g' xs' is' fits' x') = absurd (vals_none (sym (one_all xs xs').0))
  one_eval (e_call1 xs) (e_call0 xs') = absurd (vals_none (sym (one_all xs xs').0))
  one_eval (e_call1 xs) (e_call1 xs') = let h = one_all xs xs' in (cc, omega arith)

  pub one_all : {p : Prog} {d : ℕ} {ρ : List Tree} {es : Exprs} {r : ℕ} {o q : Outcomes} (x : EvalAll p d ρ es r o) (y : EvalAll p d ρ es r q) → (o ≡ q) × (rules_all x ≡ rules_all y)
  one_all a_nil a_nil = (refl, refl)
  one_all (a_cons x xs) (a_cons x' xs') = let h = one_eval x x' in let k = only_rest h.0 (λ _ z. one_all xs z) _ xs' in (cc, omega arith)
  one_all (a_cons x xs) (a_bad x' b') = absurd (val_bad (one_eval x x').0 b')
  one_all (a_cons x xs) (a_rest x' xs') = absurd (vals_none (only_rest (one_eval x x').0 (λ _ z. one_all xs z) _ xs').0)
  one_all (a_bad x b) (a_cons x' xs') = absurd (val_bad (sym (one_eval x x').0) b)
  one_all (a_bad x b) (a_bad x' b') = let h = one_eval x x' in (cc, omega arith)
  one_all (a_bad x b) (a_rest x' xs') = absurd (val_bad (sym (one_eval x x').0) b)
  one_all (a_rest x xs) (a_cons x' xs') = absurd (vals_none (sym (only_rest (one_eval x x').0 (λ _ z. one_all xs z) _ xs').0))
  one_all (a_rest x xs) (a_bad x' b') = absurd (val_bad (one_eval x x').0 b')
  one_all (a_rest x xs) (a_rest x' xs') = let h = one_eval x x' in let k = only_rest h.0 (λ _ z. one_all xs z) _ xs' in (cc, omega arith)

pub one_derivation : OneDerivation
one_derivation p m d ρ e r o q x y = one_eval x y

pub one_outcome : OneOutcome
one_outcome p f ts d r o q x y = (only_body {q = r} {ts = ts} refl x.is y.is (λ _ z. one_eval x.does z) _ y.does).0

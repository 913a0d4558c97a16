-- From a value without limits to an outcome within any limits, and to the value itself within enough.
use Rattle.std.proofs.Common.{◌≡◌, ℕ, zero, suc, ◌+◌, ◌≤◌, max, List, length, refl, arith}
use mathlib.Core.Option.{some}
use Rattle.sizechange.specs.Graph.{nth}
use Rattle.lang.specs.Program.{Tree, Expr, call, Exprs, Fun, Prog}
use Rattle.lang.specs.Eval.{Outcome, val, full, deep, vals, no_vals, Bad, is_full, is_deep, made, Mode, tail, inner, Eval, EvalAll, e_var, e_leaf, e_node, e_node1, e_node2, e_parts1, e_parts2, e_bind, e_bind1, e_tail, e_call, e_call0, e_call1, a_nil, a_cons, a_bad, a_rest}
use Rattle.lang.proofs.Values.{Value, Values, v_var, v_leaf, v_node, v_parts1, v_parts2, v_bind, v_call, v_nil, v_cons}

-- within limits: the value t, with some room left, or a bad outcome
pub data Ends (p : Prog) (m : Mode) (d : ℕ) (ρ : List Tree) (e : Expr) (r : ℕ) (t : Tree) : Type 0 where
  comes : (q : ℕ) → Eval p m d ρ e r (val t q) → Ends p m d ρ e r t
  stops : (o : Outcome) → Bad o → Eval p m d ρ e r o → Ends p m d ρ e r t

pub data EndsAll (p : Prog) (d : ℕ) (ρ : List Tree) (es : Exprs) (r : ℕ) (ts : List Tree) : Type 0 where
  comes_all : (q : ℕ) → EvalAll p d ρ es r (vals ts q) → EndsAll p d ρ es r ts
  stops_all : (o : Outcome) → Bad o → EvalAll p d ρ es r (no_vals o) → EndsAll p d ρ es r ts

ends_node : {p : Prog} {m : Mode} {d r : ℕ} {ρ : List Tree} {e : Expr} {t : Tree} (s : ℕ) → Eval p m d ρ e r (made t s) → Ends p m d ρ e r t
ends_node zero x = stops full is_full x
ends_node (suc s) x = comes s x

ends_call : {p : Prog} {r q f : ℕ} {ρ : List Tree} {es : Exprs} {ts : List Tree} {t : Tree} (g : Fun) (m : Mode) (d : ℕ) → nth p f ≡ some g → length ts ≡ g.args → ((d' : ℕ) → Ends p tail d' ts g.body q t) → EvalAll p d ρ es r (vals ts q) → Ends p m d ρ (call f es) r t
ends_call g tail d is fits x xs = elim (x d) [ comes s y ↦ comes s (e_tail g xs is fits y) | stops o b y ↦ stops o b (e_tail g xs is fits y) ]
ends_call g inner zero is fits x xs = stops deep is_deep (e_call0 xs)
ends_call g inner (suc d) is fits x xs = elim (x d) [ comes s y ↦ comes s (e_call g xs is fits y) | stops o b y ↦ stops o b (e_call g xs is fits y) ]

mutual
  pub ends : {p : Prog} {ρ : List Tree} {e : Expr} {t : Tree} → Value p ρ e t → (m : Mode) (d r : ℕ) → Ends p m d ρ e r t
  ends (v_var is) m d r = comes r (e_var is)
  ends v_leaf m d r = comes r e_leaf
  ends (v_node x y) m d r = elim (ends x inner d r) [
    | stops o b a ↦ stops o b (e_node1 a b)
    | comes q a ↦ elim (ends y inner d q) [ stops o b c ↦ stops o b (e_node2 a c b) | comes s c ↦ ends_node s (e_node a c) ]
  ]
  ends (v_parts1 is x) m d r = elim (ends x m d r) [ stops o b a ↦ stops o b (e_parts1 is a) | comes q a ↦ comes q (e_parts1 is a) ]
  ends (v_parts2 t u is x) m d r = elim (ends x m d r) [ stops o b a ↦ stops o b (e_parts2 t u is a) | comes q a ↦ comes q (e_parts2 t u is a) ]
  ends (v_bind x y) m d r = elim (ends x inner d r) [
    | stops o b a ↦ stops o b (e_bind1 a b)
    | comes q a ↦ elim (ends y m d q) [ stops o b c ↦ stops o b (e_bind a c) | comes s c ↦ comes s (e_bind a c) ]
  ]
  ends (v_call g xs is fits x) m d r = elim (ends_all xs d r) [ stops_all o b as₁ ↦ stops o b (e_call1 as₁) | comes_all q as₁ ↦ ends_call g m d is fits (λ d'. ends x tail d' q) as₁ ]

  pub ends_all : {p : Prog} {ρ : List Tree} {es : Exprs} {ts : List Tree} → Values p ρ es ts → (d r : ℕ) → EndsAll p d ρ es r ts
  ends_all v_nil d r = comes_all r a_nil
  ends_all (v_cons x xs) d r = elim (ends x inner d r) [
    | stops o b a ↦ stops_all o b (a_bad a b)
    | comes q a ↦ elim (ends_all xs d q) [ stops_all o b as₁ ↦ stops_all o b (a_rest a as₁) | comes_all s as₁ ↦ comes_all s (a_cons a as₁) ]
  ]

-- with depth d or more, and room r, the value t; with q more room, q is left
abbrev pub Enough : Prog → List Tree → Expr → Tree → ℕ → ℕ → Type 0
Enough p ρ e t d r = (m : Mode) (d' r' q : ℕ) → d ≤ d' → r' ≡ r + q → Eval p m d' ρ e r' (val t q)

abbrev EnoughAll : Prog → List Tree → Exprs → List Tree → ℕ → ℕ → Type 0
EnoughAll p ρ es ts d r = (d' r' q : ℕ) → d ≤ d' → r' ≡ r + q → EvalAll p d' ρ es r' (vals ts q)

enough_call : {p : Prog} {d₂ r q s f : ℕ} {ρ : List Tree} {es : Exprs} {ts : List Tree} {t : Tree} (g : Fun) (m : Mode) (d' : ℕ) → nth p f ≡ some g → length ts ≡ g.args → suc d₂ ≤ d' → EvalAll p d' ρ es r (vals ts q) → ((d'' : ℕ) → d₂ ≤ d'' → Eval p tail d'' ts g.body q (val t s)) → Eval p m d' ρ (call f es) r (val t s)
enough_call g tail d' is fits h xs x = e_tail g xs is fits (x d' (omega arith))
enough_call g inner zero is fits h xs x = absurd (omega arith)
enough_call g inner (suc d') is fits h xs x = e_call g xs is fits (x d' (omega arith))

mutual
  pub enough : {p : Prog} {ρ : List Tree} {e : Expr} {t : Tree} → Value p ρ e t → (d r : ℕ) × Enough p ρ e t d r
  enough (v_var is) = (0, 0, λ m d' r' q _ z. let same : r' ≡ q = omega arith in rw same (e_var is))
  enough v_leaf = (0, 0, λ m d' r' q _ z. let same : r' ≡ q = omega arith in rw same e_leaf)
  enough (v_node x y) =
      let h = enough x in
      let k = enough y in
      (max h.0 k.0, (h.1 + k.1) + 1, λ m d' r' q l z. e_node (h.2 inner d' r' (k.1 + suc q) (omega arith) (omega arith)) (k.2 inner d' (k.1 + suc q) (suc q) (omega arith) refl))
  enough (v_parts1 is x) = let h = enough x in (h.0, h.1, λ m d' r' q l z. e_parts1 is (h.2 m d' r' q l z))
  enough (v_parts2 t u is x) = let h = enough x in (h.0, h.1, λ m d' r' q l z. e_parts2 t u is (h.2 m d' r' q l z))
  enough (v_bind x y) =
      let h = enough x in
      let k = enough y in
      (max h.0 k.0, h.1 + k.1, λ m d' r' q l z. e_bind (h.2 inner d' r' (k.1 + q) (omega arith) (omega arith)) (k.2 m d' (k.1 + q) q (omega arith) refl))
  enough (v_call g xs is fits x) =
      let h = enough_all xs in
      let k = enough x in
      (max h.0 (suc k.0), h.1 + k.1, λ m d' r' q l z. enough_call {d₂ = k.0} g m d' is fits (omega arith) (h.2 d' r' (k.1 + q) (omega arith) (omega arith)) (λ d'' l'. k.2 tail d'' (k.1 + q) q l' refl))

  enough_all : {p : Prog} {ρ : List Tree} {es : Exprs} {ts : List Tree} → Values p ρ es ts → (d r : ℕ) × EnoughAll p ρ es ts d r
  enough_all v_nil = (0, 0, λ d' r' q _ z. let same : r' ≡ q = omega arith in rw same a_nil)
  enough_all (v_cons x xs) =
      let h = enough x in
      let k = enough_all xs in
      (max h.0 k.0, h.1 + k.1, λ d' r' q l z. a_cons (h.2 inner d' r' (k.1 + q) (omega arith) (omega arith)) (k.2 d' (k.1 + q) q (omega arith) refl))

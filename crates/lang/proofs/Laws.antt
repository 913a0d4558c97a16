-- The laws, by derivations and by plain inductions.
use Rattle.std.proofs.Common.{◌≡◌, ℕ, zero, suc, ◌+◌, ◌<◌, ◌≤◌, max, Bool, true, false, cond, ◌⊎◌, List, [], ◌∷◌, length, sym, refl, ap, subst, inl, inr, arith, length-append}
use mathlib.Core.Option.{Option, some}
use Rattle.sizechange.specs.Graph.{Arc, Step, In, here, nth, leads, compose, Way, one, more, Idempotent}
use Rattle.sizechange.proofs.Arcs.{in_cons}
use Rattle.lang.specs.Program.{Tree, leaf, node, Expr, var, a_leaf, a_node, parts, bind, call, Exprs, nil, cons, Fun, Prog}
use Rattle.lang.specs.Eval.{Outcome, val, full, deep, vals, no_vals, Bad, is_full, is_deep, made, Mode, tail, inner, Eval, EvalAll, e_var, e_leaf, e_node, e_node1, e_node2, e_parts1, e_parts2, e_bind, e_bind1, e_tail, e_call, e_call0, e_call1, a_nil, a_cons, a_bad, a_rest}
use Rattle.lang.specs.Steps.{From, known, part, origin, steps, steps_all, given, all_steps, call_graph, EndsForAReason}
use Rattle.lang.specs.Laws.{first, passes, firsts, makes, opens, FromLeftToRight, LastPlace, Views, Written, turned, exchanged, JudgedByHand, Forward, calls, calls_all, all_calls, MoreIsEnough, Laws}

-- the two leaves that a call is given; a node where there is no room; a call where none may be opened
leaves : {d r : ℕ} {ρ : List Tree} → EvalAll firsts d ρ (cons a_leaf (cons a_leaf nil)) r (vals (leaf ∷ leaf ∷ []) r)
leaves = a_cons e_leaf (a_cons e_leaf a_nil)

no_room : {m : Mode} {d : ℕ} {ρ : List Tree} → Eval firsts m d ρ makes 0 full
no_room = e_node e_leaf e_leaf

no_call : {r : ℕ} {ρ : List Tree} → Eval firsts inner 0 ρ opens r deep
no_call = e_call0 leaves

opened : {d r : ℕ} {ρ : List Tree} → Eval firsts inner (suc d) ρ opens r (val leaf r)
opened = e_call first leaves refl refl (e_var refl)

last : {d r : ℕ} {ρ : List Tree} → Eval firsts tail d ρ opens r (val leaf r)
last = e_tail first leaves refl refl (e_var refl)

-- the body of h, and of g in its place, and of f
passed : {t u : Tree} {d r : ℕ} → Eval firsts tail d (t ∷ u ∷ []) (passes 1).body r (val t r)
passed = e_tail (passes 0) both refl refl (e_tail first both refl refl (e_var refl))
  where
    both : {t u : Tree} {d r : ℕ} → EvalAll firsts d (t ∷ u ∷ []) (cons (var 0) (cons (var 1) nil)) r (vals (t ∷ u ∷ []) r)
    both = a_cons (e_var refl) (a_cons (e_var refl) a_nil)

from_left_to_right : FromLeftToRight
from_left_to_right = record {
  node_full = e_node1 no_room is_full;
  node_deep = e_node1 no_call is_deep;
  bind_full = e_bind1 no_room is_full;
  bind_deep = e_bind1 no_call is_deep;
  given_full = a_bad no_room is_full;
  given_deep = a_bad no_call is_deep;
  before = e_call1 (a_bad no_room is_full);
  over = e_call first (a_cons opened (a_cons opened a_nil)) refl refl (e_var refl);
  three = e_node (e_node e_leaf e_leaf) (e_node e_leaf e_leaf);
  two = e_node (e_node e_leaf e_leaf) (e_node e_leaf e_leaf);
}

last_place : LastPlace
last_place = record {
  alone = λ t u. record { fun = passes 1; is = refl; fits = refl; does = passed };
  inside = e_call (passes 1) leaves refl refl passed;
  bound = e_bind e_leaf last;
  of_a_leaf = e_parts1 refl last;
  of_a_node = λ t u. e_parts2 t u refl last;
  not_bound = e_bind1 no_call is_deep;
  not_node = e_node1 no_call is_deep;
  not_given = e_call1 (a_bad no_call is_deep);
}

views : Views
views = record {
  of_parts = λ t u v. e_parts2 t u refl (e_node (e_var refl) (e_node (e_var refl) (e_var refl)));
  of_bind = λ t. e_bind e_leaf (e_node (e_var refl) (e_var refl));
  of_call = λ t u. record { fun = first; is = refl; fits = refl; does = e_var refl };
}

written : Written
written = record { program = record { bytes = refl; fine = tt }; none = record { bytes = refl; fine = tt }; trees = refl; steps = refl }

-- two places: arcs across, from 1 to 0 and from 0 to 1; and arcs from each to itself
abbrev cross : ℕ → ℕ → List Arc
cross h k = record { from = 1; to = 0; how = h } ∷ record { from = 0; to = 1; how = k } ∷ []

abbrev stay : ℕ → List Arc
stay h = record { from = 1; to = 1; how = h } ∷ record { from = 0; to = 0; how = h } ∷ []

-- every way of the turned program is one of three: turned once, twice, three times
abbrev Turns : List Arc → Type 0
Turns as₁ = (as₁ ≡ cross 1 2) ⊎ ((as₁ ≡ stay 2) ⊎ (as₁ ≡ cross 2 2))

turn : (as₁ bs : List Arc) → bs ≡ cross 1 2 → Turns as₁ → Turns (compose as₁ bs)
turn as₁ bs z (inl e) = inr (inl (let k : compose as₁ bs ≡ compose (cross 1 2) (cross 1 2) = cc in k))
turn as₁ bs z (inr (inl e)) = inr (inr (let k : compose as₁ bs ≡ compose (stay 2) (cross 1 2) = cc in k))
turn as₁ bs z (inr (inr e)) = inr (inl (let k : compose as₁ bs ≡ compose (cross 2 2) (cross 1 2) = cc in k))

step_turned : (s : Step) → In s (call_graph turned) → s.arcs ≡ cross 1 2
step_turned s i = elim (in_cons i) [ inl e ↦ ap (λ (t : Step). t.arcs) e | inr j ↦ elim j [ ] ]

turns : {f g : ℕ} {as₁ : List Arc} → Way (call_graph turned) f g as₁ → Turns as₁
turns (one s i) = inl (step_turned s i)
turns (more {as₁ = as₁} s w i z) = turn as₁ s.arcs (step_turned s i) (turns w)

turned_shrinks : (as₁ : List Arc) → Turns as₁ → Idempotent as₁ → (i : ℕ) × (leads as₁ i i ≡ 2)
turned_shrinks as₁ (inl e) h = let k : ◌≡◌ {A = ℕ} 2 0 = subst (λ (bs : List Arc). leads (compose bs bs) 0 0 ≡ leads bs 0 0) e (h 0 0) in absurd (omega arith)
turned_shrinks as₁ (inr (inl e)) h = (0, subst (λ (bs : List Arc). leads bs 0 0 ≡ 2) (sym e) refl)
turned_shrinks as₁ (inr (inr e)) h = let k : ◌≡◌ {A = ℕ} 2 0 = subst (λ (bs : List Arc). leads (compose bs bs) 0 0 ≡ leads bs 0 0) e (h 0 0) in absurd (omega arith)

-- no arc of how 1 is a part
same_only : (a b : Bool) → max (cond a 1 0) (max (cond b 1 0) 0) ≡ 2 → ⊥
same_only true true e = omega arith
same_only true false e = omega arith
same_only false true e = omega arith
same_only false false e = omega arith

exchanged_none : EndsForAReason exchanged → ⊥
exchanged_none why =
    let k = why 0 (stay 1) (more _ (one _ here) here refl) (λ i j. refl) in
    same_only _ _ k.1

judged : JudgedByHand
judged = record { has = λ f as₁ w h. turned_shrinks as₁ (turns w) h; none = exchanged_none }

-- where steps lead only upwards, ways do
up : {ss : List Step} {f g : ℕ} {as₁ : List Arc} → ((s : Step) → In s ss → s.caller < s.callee) → Way ss f g as₁ → f < g
up h (one s i) = h s i
up h (more s w i z) = let a = up h w in let b = h s i in omega arith

forward : Forward
forward p h f as₁ w i = absurd (omega (arith, up h w))

mutual
  steps_calls : (f : ℕ) (ks : List (Option From)) (e : Expr) → length (steps f ks e) ≡ calls e
  steps_calls f ks (var i) = refl
  steps_calls f ks a_leaf = refl
  steps_calls f ks (a_node a b) = omega (arith, length-append (steps f ks a) (steps f ks b), steps_calls f ks a, steps_calls f ks b)
  steps_calls f ks (parts i a b) =
      let ls = part (known ks i) ∷ part (known ks i) ∷ ks in
      omega (arith, length-append (steps f ks a) (steps f ls b), steps_calls f ks a, steps_calls f ls b)
  steps_calls f ks (bind a b) =
      let ls = origin ks a ∷ ks in
      omega (arith, length-append (steps f ks a) (steps f ls b), steps_calls f ks a, steps_calls f ls b)
  steps_calls f ks (call g es) = omega (arith, steps_calls_all f ks es)

  steps_calls_all : (f : ℕ) (ks : List (Option From)) (es : Exprs) → length (steps_all f ks es) ≡ calls_all es
  steps_calls_all f ks nil = refl
  steps_calls_all f ks (cons e es) = omega (arith, length-append (steps f ks e) (steps_all f ks es), steps_calls f ks e, steps_calls_all f ks es)

all_steps_calls : (f : ℕ) (gs : List Fun) → length (all_steps f gs) ≡ all_calls gs
all_steps_calls f [] = refl
all_steps_calls f (g ∷ gs) =
    let ks = given 0 g.args in
    omega (arith, length-append (steps f ks g.body) (all_steps (f + 1) gs), steps_calls f ks g.body, all_steps_calls (f + 1) gs)

-- the same value with k more left, or no value
data Lifted (p : Prog) (m : Mode) (d : ℕ) (ρ : List Tree) (e : Expr) (r k : ℕ) : Outcome → Type 0 where
  stays : {t : Tree} {q : ℕ} → Eval p m d ρ e r (val t (q + k)) → Lifted p m d ρ e r k (val t q)
  none : {o : Outcome} → Bad o → Lifted p m d ρ e r k o

stayed : {p : Prog} {m : Mode} {d r k q : ℕ} {ρ : List Tree} {e : Expr} {t : Tree} → Lifted p m d ρ e r k (val t q) → Eval p m d ρ e r (val t (q + k))
stayed (stays x) = x
stayed (none b) = elim b [ ]

lifted_by : {p : Prog} {m m' : Mode} {d d' r r' k : ℕ} {ρ ρ' : List Tree} {e e' : Expr} {o : Outcome} → ((t : Tree) (q : ℕ) → Eval p m d ρ e r (val t q) → Eval p m' d' ρ' e' r' (val t q)) → Lifted p m d ρ e r k o → Lifted p m' d' ρ' e' r' k o
lifted_by f (stays x) = stays (f _ _ x)
lifted_by f (none b) = none b

lifted_node : {p : Prog} {m : Mode} {d r : ℕ} {ρ : List Tree} {e : Expr} (t : Tree) (s k : ℕ) → Eval p m d ρ e r (made t (s + k)) → Lifted p m d ρ e r k (made t s)
lifted_node t zero k x = none is_full
lifted_node {p} {m} {d} {r} {ρ} {e} t (suc s) k x = let z : suc s + k ≡ suc (s + k) = omega arith in stays (subst (λ (n : ℕ). Eval p m d ρ e r (made t n)) z x)

bad_all : {p : Prog} {d r : ℕ} {ρ : List Tree} {es : Exprs} {o : Outcome} → EvalAll p d ρ es r (no_vals o) → Bad o
bad_all (a_bad x b) = b
bad_all (a_rest x xs) = bad_all xs

lifted_call : {p : Prog} {d r q f k : ℕ} {ρ : List Tree} {es : Exprs} {ts : List Tree} {o : Outcome} (g : Fun) (d' : ℕ) → suc d ≤ d' → EvalAll p d' ρ es r (vals ts q) → nth p f ≡ some g → length ts ≡ g.args → ((d'' : ℕ) → d ≤ d'' → Lifted p tail d'' ts g.body q k o) → Lifted p inner d' ρ (call f es) r k o
lifted_call g zero l xs is fits x = absurd (omega arith)
lifted_call g (suc d'') l xs is fits x = lifted_by (λ t s y. e_call g xs is fits y) (x d'' (omega arith))

mutual
  lifted : {p : Prog} {m : Mode} {d r : ℕ} {ρ : List Tree} {e : Expr} {o : Outcome} → Eval p m d ρ e r o → (d' k : ℕ) → d ≤ d' → Lifted p m d' ρ e (r + k) k o
  lifted (e_var is) d' k l = stays (e_var is)
  lifted e_leaf d' k l = stays e_leaf
  lifted (e_node {s = s} {t = t} {u = u} x y) d' k l = lifted_node (node t u) s k (e_node (stayed (lifted x d' k l)) (stayed (lifted y d' k l)))
  lifted (e_node1 x b) d' k l = none b
  lifted (e_node2 x y b) d' k l = none b
  lifted (e_parts1 is x) d' k l = lifted_by (λ t q y. e_parts1 is y) (lifted x d' k l)
  lifted (e_parts2 t u is x) d' k l = lifted_by (λ v q y. e_parts2 t u is y) (lifted x d' k l)
  lifted (e_bind x y) d' k l = let h = stayed (lifted x d' k l) in lifted_by (λ v s z. e_bind h z) (lifted y d' k l)
  lifted (e_bind1 x b) d' k l = none b
  lifted (e_tail g xs is fits x) d' k l = let hs = lifted_all xs d' k l in lifted_by (λ v s z. e_tail g hs is fits z) (lifted x d' k l)
  lifted (e_call g xs is fits x) d' k l = lifted_call g d' l (lifted_all xs d' k l) is fits (λ d'' h. lifted x d'' k h)
  lifted (e_call0 xs) d' k l = none is_deep
  lifted (e_call1 xs) d' k l = none (bad_all xs)

  lifted_all : {p : Prog} {d r q : ℕ} {ρ : List Tree} {es : Exprs} {ts : List Tree} → EvalAll p d ρ es r (vals ts q) → (d' k : ℕ) → d ≤ d' → EvalAll p d' ρ es (r + k) (vals ts (q + k))
  lifted_all a_nil d' k l = a_nil
  lifted_all (a_cons x xs) d' k l = a_cons (stayed (lifted x d' k l)) (lifted_all xs d' k l)

more_is_enough : MoreIsEnough
more_is_enough p f ts d r t q x d' k l = record { fun = x.fun; is = x.is; fits = x.fits; does = stayed (lifted x.does d' k l) }

pub laws : Laws
laws = record { from_left_to_right = from_left_to_right; last_place = last_place; views = views; written = written; judged = judged; forward = forward; as_many_steps = all_steps_calls 0; more_is_enough = more_is_enough }

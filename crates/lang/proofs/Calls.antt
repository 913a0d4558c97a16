-- The calls of a program in the order of its call graph.
use Rattle.std.proofs.Common.{◌≡◌, ℕ, zero, suc, ◌+◌, ◌-◌, ◌<◌, ◌≤◌, ◌⊎◌, List, [], ◌∷◌, ◌++◌, length, sym, refl, ap, ◌∙◌, subst, inl, inr, arith}
use mathlib.Core.Option.{Option, some}
use Rattle.std.proofs.lemmas.Bool.{cases_lt, cases_eq}
use Rattle.sizechange.specs.Graph.{Step, nth}
use Rattle.sizechange.proofs.Lists.{nth_in, nth_below, nth_some}
use Rattle.sizechange.proofs.Circles.{one_first}
use Rattle.lang.specs.Program.{Expr, var, a_leaf, a_node, parts, bind, call, Exprs, nil, cons, Fun, Prog}
use Rattle.lang.specs.Steps.{From, known, part, origin, steps, steps_all, given, all_steps, call_graph}
use Rattle.lang.specs.Circle.{Call, Makes, Sooner}
use Rattle.lang.specs.Theorems.{OneCircle}
use Rattle.lang.proofs.Lists.{Each, each_none, each_cons, each_append}

-- Places in two lists, one after the other.

pub nth_left : {A : Type 0} (xs ys : List A) (i : ℕ) {x : A} → nth xs i ≡ some x → nth (xs ++ ys) i ≡ some x
nth_left [] ys i e = let z : ◌≡◌ {A = ℕ} 0 1 = cc in absurd (omega arith)
nth_left (y ∷ xs) ys zero e = e
nth_left (y ∷ xs) ys (suc i) e = nth_left xs ys i e

pub nth_right : {A : Type 0} (xs ys : List A) (i j : ℕ) → j ≡ length xs + i → nth (xs ++ ys) j ≡ nth ys i
nth_right [] ys i j e = let z : j ≡ i = omega arith in ap (λ (k : ℕ). nth ys k) z
nth_right (x ∷ xs) ys i zero e = absurd (omega arith)
nth_right (x ∷ xs) ys i (suc j) e = nth_right xs ys i j (omega arith)

nth_either : {A : Type 0} (xs ys : List A) (i : ℕ) {x : A} → nth (xs ++ ys) i ≡ some x → (nth xs i ≡ some x) ⊎ ((j : ℕ) × (i ≡ length xs + j) × (nth ys j ≡ some x))
nth_either [] ys i e = let z : i ≡ 0 + i = omega arith in inr (i, z, e)
nth_either (y ∷ xs) ys zero e = inl e
nth_either (y ∷ xs) ys (suc i) e = elim (nth_either xs ys i e) [ inl h ↦ inl h | inr h ↦ let z : suc i ≡ suc (length xs) + h.0 = omega (arith, h.1) in inr (h.0, z, h.2) ]

-- The steps of a body are its function's.

mutual
  steps_caller : (f : ℕ) (e : Expr) (ks : List (Option From)) → Each (λ (s : Step). s.caller ≡ f) (steps f ks e)
  steps_caller f (var i) ks = each_none _
  steps_caller f a_leaf ks = each_none _
  steps_caller f (a_node a b) ks = each_append (steps f ks a) (steps_caller f a ks) (steps_caller f b ks)
  steps_caller f (parts i a b) ks = each_append (steps f ks a) (steps_caller f a ks) (steps_caller f b (part (known ks i) ∷ part (known ks i) ∷ ks))
  steps_caller f (bind a b) ks = each_append (steps f ks a) (steps_caller f a ks) (steps_caller f b (origin ks a ∷ ks))
  steps_caller f (call g es) ks = each_cons refl (steps_all_caller f es ks)

  steps_all_caller : (f : ℕ) (es : Exprs) (ks : List (Option From)) → Each (λ (s : Step). s.caller ≡ f) (steps_all f ks es)
  steps_all_caller f nil ks = each_none _
  steps_all_caller f (cons e es) ks = each_append (steps f ks e) (steps_caller f e ks) (steps_all_caller f es ks)

abbrev own : ℕ → Fun → List Step
own f g = steps f (given 0 g.args) g.body

-- how many steps functions have before the one with number k, the first being function f
abbrev before : ℕ → List Fun → ℕ → ℕ
before f [] k = 0
before f (g ∷ gs) zero = 0
before f (g ∷ gs) (suc k) = length (own f g) + before (f + 1) gs k

in_place : (f : ℕ) (fs : List Fun) (k n : ℕ) (g : Fun) (s : Step) → nth fs k ≡ some g → nth (own (f + k) g) n ≡ some s → nth (all_steps f fs) (before f fs k + n) ≡ some s
in_place f [] k n g s e h = let z : ◌≡◌ {A = ℕ} 0 1 = cc in absurd (omega arith)
in_place f (g₀ ∷ gs) zero n g s e h =
    let z : f + 0 ≡ f = omega arith in
    let q : g ≡ g₀ = cc in
    let y : n ≡ 0 + n = omega arith in
    subst (λ (x : ℕ). nth (all_steps f (g₀ ∷ gs)) x ≡ some s) y (nth_left (own f g₀) (all_steps (f + 1) gs) n (subst (λ (x : Fun). nth (own f x) n ≡ some s) q (subst (λ (x : ℕ). nth (own x g) n ≡ some s) z h)))
in_place f (g₀ ∷ gs) (suc k) n g s e h =
    let z : f + suc k ≡ (f + 1) + k = omega arith in
    nth_right (own f g₀) (all_steps (f + 1) gs) (before (f + 1) gs k + n) _ (omega arith) ∙ in_place (f + 1) gs k n g s e (subst (λ (x : ℕ). nth (own x g) n ≡ some s) z h)

pub record Placed (f : ℕ) (fs : List Fun) (i : ℕ) (s : Step) : Type 0 where
  pub at : ℕ
  pub function : Fun
  pub there : nth fs at ≡ some function
  pub number : ℕ
  pub step : nth (own (f + at) function) number ≡ some s
  pub place : before f fs at + number ≡ i

placed : (f : ℕ) (fs : List Fun) (i : ℕ) (s : Step) → nth (all_steps f fs) i ≡ some s → Placed f fs i s
placed f [] i s e = let z : ◌≡◌ {A = ℕ} 0 1 = cc in absurd (omega arith)
placed f (g ∷ gs) i s e = elim (nth_either (own f g) (all_steps (f + 1) gs) i e) [
  | inl h ↦ let z : f ≡ f + 0 = omega arith in record { at = 0; function = g; there = refl; number = i; step = subst (λ (x : ℕ). nth (own x g) i ≡ some s) z h; place = omega arith }
  | inr h ↦
      let q = placed (f + 1) gs h.0 s h.2 in
      let z : (f + 1) + q.at ≡ f + suc q.at = omega arith in
      record { at = suc q.at; function = q.function; there = q.there; number = q.number; step = subst (λ (x : ℕ). nth (own x q.function) q.number ≡ some s) z q.step; place = omega (arith, q.place, h.1) }
]

in_order : (f : ℕ) (fs : List Fun) (k l n : ℕ) (g : Fun) → k < l → nth fs k ≡ some g → n < length (own (f + k) g) → before f fs k + n < before f fs l
in_order f [] k l n g lt e b = let z : ◌≡◌ {A = ℕ} 0 1 = cc in absurd (omega arith)
in_order f (g₀ ∷ gs) zero zero n g lt e b = absurd (omega arith)
in_order f (g₀ ∷ gs) zero (suc l) n g lt e b =
    let z : f + 0 ≡ f = omega arith in
    let q : g ≡ g₀ = cc in
    let y = subst (λ (x : Fun). n < length (own f x)) q (subst (λ (x : ℕ). n < length (own x g)) z b) in
    omega arith
in_order f (g₀ ∷ gs) (suc k) zero n g lt e b = absurd (omega arith)
in_order f (g₀ ∷ gs) (suc k) (suc l) n g lt e b =
    let z : f + suc k ≡ (f + 1) + k = omega arith in
    let y = in_order (f + 1) gs k l n g (omega arith) e (subst (λ (x : ℕ). n < length (own x g)) z b) in
    omega arith

-- The place of a call in the call graph.

abbrev pub index : Prog → Call → ℕ
index p c = before 0 p c.function + c.number

pub makes_at : {p : Prog} {c : Call} {s : Step} → Makes p c s → nth (call_graph p) (index p c) ≡ some s
makes_at {p} {c} {s} m = let z : c.function ≡ 0 + c.function = omega arith in in_place 0 p c.function c.number m.caller s m.there (subst (λ (x : ℕ). nth (own x m.caller) c.number ≡ some s) z m.step)

pub makes_caller : {p : Prog} {c : Call} {s : Step} → Makes p c s → s.caller ≡ c.function
makes_caller {p} {c} {s} m = steps_caller c.function m.caller.body (given 0 m.caller.args) s (nth_in _ c.number m.step)

pub call_at : {p : Prog} {s : Step} (i : ℕ) → nth (call_graph p) i ≡ some s → (c : Call) × Makes p c s × (index p c ≡ i)
call_at {p} {s} i e =
    let q = placed 0 p i s e in
    let z : 0 + q.at ≡ q.at = omega arith in
    (record { function = q.at; number = q.number }, record { caller = q.function; there = q.there; step = subst (λ (x : ℕ). nth (own x q.function) q.number ≡ some s) z q.step }, q.place)

pub sooner_before : {p : Prog} {c : Call} {s : Step} (d : Call) → Makes p c s → Sooner c d → index p c < index p d
sooner_before {p} {c} {s} d m (inl l) =
    let z : c.function ≡ 0 + c.function = omega arith in
    let q = in_order 0 p c.function d.function c.number m.caller l m.there (subst (λ (x : ℕ). c.number < length (own x m.caller)) z (nth_below _ c.number m.step)) in
    omega arith
sooner_before {p} {c} {s} d m (inr e) = let q = ap (λ (k : ℕ). before 0 p k) e.0 in omega (arith, e.1)

pub call_path : (c d : Call) → c.function ≡ d.function → c.number ≡ d.number → c ≡ d
call_path c d e f = ap (λ (n : ℕ). record { function = n; number = c.number }) e ∙ ap (λ (n : ℕ). record { function = d.function; number = n }) f

-- of two calls one is sooner, or they are the same
sooner_any : (c d : Call) → Sooner c d ⊎ (Sooner d c ⊎ (c ≡ d))
sooner_any c d = elim (cases_eq c.function d.function) [
  | inl e ↦ elim (cases_eq c.number d.number) [ inl f ↦ inr (inr (call_path c d e f)) | inr n ↦ elim (cases_lt c.number d.number) [ inl l ↦ inl (inr (e, l)) | inr l ↦ inr (inl (inr (sym e, omega arith))) ] ]
  | inr n ↦ elim (cases_lt c.function d.function) [ inl l ↦ inl (inl l) | inr l ↦ inr (inl (inl (omega arith))) ]
]

pub one_circle : OneCircle
one_circle p cs ds = one_first sooner_any cs ds

-- the place says the number, within one function
pub index_number : (p : Prog) (c d : Call) → c.function ≡ d.function → index p c ≡ index p d → c.number ≡ d.number
index_number p c d e i = let q = ap (λ (k : ℕ). before 0 p k) e in omega arith

-- A call's number is how many steps of the same function stand right before it.

pub run_number : {p : Prog} {s : Step} (i r : ℕ) → nth (call_graph p) i ≡ some s → r ≤ i → ((j : ℕ) (t : Step) → i ≤ j + r → j < i → nth (call_graph p) j ≡ some t → t.caller ≡ s.caller) → ((j : ℕ) (t : Step) → j + suc r ≡ i → nth (call_graph p) j ≡ some t → t.caller ≡ s.caller → ⊥) → Makes p (record { function = s.caller; number = r }) s × (index p (record { function = s.caller; number = r }) ≡ i)
run_number {p} {s} i r e le same stop = go (call_at i e)
  where
    go : (c : Call) × Makes p c s × (index p c ≡ i) → Makes p (record { function = s.caller; number = r }) s × (index p (record { function = s.caller; number = r }) ≡ i)
    go (c, m, at) = subst (λ (d : Call). Makes p d s × (index p d ≡ i)) q (m, at)
      where
        f : s.caller ≡ c.function
        f = makes_caller m

        less : r < c.number → ⊥
        less l =
            let (t, is) = nth_some (own c.function m.caller) (c.number - suc r) (omega (arith, nth_below _ c.number m.step)) in
            let d : Call = record { function = c.function; number = c.number - suc r } in
            let k : Makes p d t = record { caller = m.caller; there = m.there; step = is } in
            stop (index p d) t (omega arith) (makes_at k) (makes_caller k ∙ sym f)

        more : c.number < r → ⊥
        more l =
            let (t, is) = nth_some (call_graph p) (i - suc c.number) (omega (arith, nth_below _ i e)) in
            let x = call_at {p = p} {s = t} (i - suc c.number) is in
            let g : x.0.function ≡ c.function = sym (makes_caller x.1) ∙ (same (i - suc c.number) t (omega arith) (omega arith) is ∙ f) in
            let h : before 0 p x.0.function ≡ before 0 p c.function = ap (λ (y : ℕ). before 0 p y) g in
            omega (arith, x.2)

        number : c.number ≡ r
        number = elim (cases_lt r c.number) [ inl l ↦ absurd (less l) | inr l ↦ elim (cases_lt c.number r) [ inl m ↦ absurd (more m) | inr m ↦ omega arith ] ]

        q : c ≡ record { function = s.caller; number = r }
        q = call_path c (record { function = s.caller; number = r }) (sym f) number

-- Evaluation without limits, and why it always comes to a value in a program with the reason.
use Rattle.std.proofs.Common.{◌≡◌, ℕ, zero, suc, ◌+◌, ◌<◌, List, [], ◌∷◌, length, sym, refl, subst, arith}
use mathlib.Core.Option.{Option, some, none}
use mathlib.Core.WellFounded.{Acc}
use Rattle.sizechange.specs.Graph.{Arc, Step, nth, In}
use Rattle.sizechange.specs.Theorems.{State, Fits, Holds, Next}
use Rattle.lang.specs.Program.{Tree, leaf, node, Expr, var, a_leaf, a_node, parts, bind, call, Exprs, nil, cons, Fun, Prog, count}
use Rattle.lang.specs.Steps.{From, known, part, origin, arc, arcs, steps, steps_all, given, call_graph}
use Rattle.sizechange.proofs.Lists.{nth_below, nth_some}
use Rattle.lang.proofs.Lists.{Each, each_none, each_cons, each_head, each_tail, each_append, each_left, each_right}
use Rattle.lang.proofs.Well.{Well, Wells, WellProg}
use Rattle.lang.proofs.Fine.{body_in_call_graph}

-- Value p ρ e t: without limits, e comes to t
mutual
  pub data Value (p : Prog) : List Tree → Expr → Tree → Type 0 where
    v_var : {ρ : List Tree} {i : ℕ} {t : Tree} → nth ρ i ≡ some t → Value p ρ (var i) t
    v_leaf : {ρ : List Tree} → Value p ρ a_leaf leaf
    v_node : {ρ : List Tree} {a b : Expr} {t u : Tree} → Value p ρ a t → Value p ρ b u → Value p ρ (a_node a b) (node t u)
    v_parts1 : {ρ : List Tree} {i : ℕ} {a b : Expr} {t : Tree} → nth ρ i ≡ some leaf → Value p ρ a t → Value p ρ (parts i a b) t
    v_parts2 : {ρ : List Tree} {i : ℕ} {a b : Expr} {v : Tree} (t u : Tree) → nth ρ i ≡ some (node t u) → Value p (u ∷ t ∷ ρ) b v → Value p ρ (parts i a b) v
    v_bind : {ρ : List Tree} {a b : Expr} {t u : Tree} → Value p ρ a t → Value p (t ∷ ρ) b u → Value p ρ (bind a b) u
    v_call : {ρ : List Tree} {f : ℕ} {es : Exprs} {ts : List Tree} {t : Tree} (g : Fun) → Values p ρ es ts → nth p f ≡ some g → length ts ≡ g.args → Value p ts g.body t → Value p ρ (call f es) t

  pub data Values (p : Prog) : List Tree → Exprs → List Tree → Type 0 where
    v_nil : {ρ : List Tree} → Values p ρ nil []
    v_cons : {ρ : List Tree} {e : Expr} {es : Exprs} {t : Tree} {ts : List Tree} → Value p ρ e t → Values p ρ es ts → Values p ρ (cons e es) (t ∷ ts)

abbrev pub HasValue : Prog → List Tree → Expr → Type 0
HasValue p ρ e = (t : Tree) × Value p ρ e t

-- the size of a tree: its nodes
abbrev pub size : Tree → ℕ
size leaf = 0
size (node t u) = 1 + (size t + size u)

-- the sizes of arguments by their places
abbrev pub sizes : List Tree → ℕ → ℕ
sizes [] j = 0
sizes (t ∷ ts) zero = size t
sizes (t ∷ ts) (suc j) = sizes ts j

-- function f called with ts
abbrev pub state : ℕ → List Tree → State
state f ts = record { point = f; size = sizes ts }

-- what is known of a variable fits a tree of n nodes
abbrev Fit : (ℕ → ℕ) → ℕ → Option From → Type 0
Fit before n none = Unit
Fit before n (some k) = Fits k.how n (before k.arg)

-- each variable's tree fits what is known of it
abbrev Fitting : (ℕ → ℕ) → List (Option From) → List Tree → Type 0
Fitting before ks ρ = (i : ℕ) (t : Tree) → nth ρ i ≡ some t → Fit before (size t) (known ks i)

fit_part : (before : ℕ → ℕ) (m n : ℕ) (k : Option From) → m < n → Fit before n k → Fit before m (part k)
fit_part before m n none h f = tt
fit_part before m n (some k) h f = let l = f.no_larger in record { no_larger = omega arith; smaller = λ _. omega arith }

fitting_cons : (before : ℕ → ℕ) (k : Option From) (t : Tree) (ks : List (Option From)) (ρ : List Tree) → Fit before (size t) k → Fitting before ks ρ → Fitting before (k ∷ ks) (t ∷ ρ)
fitting_cons before k t ks ρ h hs zero u e = let is : t ≡ u = cc in subst (λ v. Fit before (size v) k) is h
fitting_cons before k t ks ρ h hs (suc i) u e = hs i u e

fitting_parts : (before : ℕ → ℕ) (i : ℕ) (t u : Tree) (ks : List (Option From)) (ρ : List Tree) → nth ρ i ≡ some (node t u) → Fitting before ks ρ → Fitting before (part (known ks i) ∷ part (known ks i) ∷ ks) (u ∷ t ∷ ρ)
fitting_parts before i t u ks ρ is h =
    let k = h i (node t u) is in
    fitting_cons before _ u (part (known ks i) ∷ ks) (t ∷ ρ) (fit_part before (size u) (size (node t u)) (known ks i) (omega arith) k)
    (fitting_cons before _ t ks ρ (fit_part before (size t) (size (node t u)) (known ks i) (omega arith) k) h)

-- from place j on, the sizes are those of ts
abbrev Sized : (ℕ → ℕ) → ℕ → List Tree → Type 0
Sized at j ts = (i : ℕ) → at (j + i) ≡ sizes ts i

sized_head : (at : ℕ → ℕ) (j : ℕ) (t : Tree) (ts : List Tree) → Sized at j (t ∷ ts) → at j ≡ size t
sized_head at j t ts h =
    let k = h 0 in
    let z : j + 0 ≡ j = omega arith in
    cc

sized_tail : (at : ℕ → ℕ) (j : ℕ) (t : Tree) (ts : List Tree) → Sized at j (t ∷ ts) → Sized at (j + 1) ts
sized_tail at j t ts h i =
    let k = h (suc i) in
    let z : j + suc i ≡ (j + 1) + i = omega arith in
    cc

sized_all : (ts : List Tree) → Sized (sizes ts) 0 ts
sized_all ts i = let z : 0 + i ≡ i = omega arith in cc

fitting_given : (before : ℕ → ℕ) (i n : ℕ) (ts : List Tree) → Sized before i ts → Fitting before (given i n) ts
fitting_given before i zero ts h j t e = tt
fitting_given before i (suc n) [] h j t e = absurd (omega (arith, nth_below [] j e))
fitting_given before i (suc n) (v ∷ ts) h zero t e =
    let k = sized_head before i v ts h in
    let is : v ≡ t = cc in
    let z : before i ≡ size t = cc in
    record { no_larger = omega arith; smaller = λ l. absurd (omega arith) }
fitting_given before i (suc n) (v ∷ ts) h (suc j) t e = fitting_given before (i + 1) n ts (sized_tail before i v ts h) j t e

fit_origin : {p : Prog} {ρ : List Tree} {e : Expr} {t : Tree} (before : ℕ → ℕ) (ks : List (Option From)) → Fitting before ks ρ → Value p ρ e t → Fit before (size t) (origin ks e)
fit_origin before ks h (v_var {i = i} {t = t} is) = h i t is
fit_origin before ks h v_leaf = tt
fit_origin before ks h (v_node x y) = tt
fit_origin before ks h (v_parts1 is x) = tt
fit_origin before ks h (v_parts2 t u is x) = tt
fit_origin before ks h (v_bind x y) = tt
fit_origin before ks h (v_call g xs is fits x) = tt

holds_arc : (before after : ℕ → ℕ) (j n : ℕ) (k : Option From) → after j ≡ n → Fit before n k → Holds before after (arc j k)
holds_arc before after j n none z h = each_none _
holds_arc before after j n (some k) z h = each_cons (subst (λ m. Fits k.how m (before k.arg)) (sym z) h) (each_none _)

-- the arcs of a call hold from the caller's arguments to those given
holds_arcs : {p : Prog} {ρ : List Tree} {es : Exprs} {ts : List Tree} (before after : ℕ → ℕ) (ks : List (Option From)) (j : ℕ) → Fitting before ks ρ → Values p ρ es ts → Sized after j ts → Holds before after (arcs ks j es)
holds_arcs before after ks j h v_nil s = each_none _
holds_arcs before after ks j h (v_cons {e = e} {t = t} {ts = ts} x xs) s =
    each_append (arc j (origin ks e)) (holds_arc before after j (size t) (origin ks e) (sized_head after j t ts s) (fit_origin before ks h x))
    (holds_arcs before after ks (j + 1) h xs (sized_tail after j t ts s))

value_parts : {p : Prog} {ρ : List Tree} {i : ℕ} {a b : Expr} (x : Tree) → nth ρ i ≡ some x → HasValue p ρ a → ((t u : Tree) → nth ρ i ≡ some (node t u) → HasValue p (u ∷ t ∷ ρ) b) → HasValue p ρ (parts i a b)
value_parts leaf is h k = (h.0, v_parts1 is h.1)
value_parts (node t u) is h k = let x = k t u is in (x.0, v_parts2 t u is x.1)

-- An expression of function f, called with arguments of sizes `before`, has a value, if each call in it has one: a call whose step is allowed, with arguments between which and those of f the step's arcs hold.
module _ (p : Prog) (f : ℕ) (before : ℕ → ℕ) (Allowed : Step → Type 0) (call_value : (f' : ℕ) (g : Fun) (ts : List Tree) (as₁ : List Arc) → Allowed (record { caller = f; callee = f'; arcs = as₁ }) → Holds before (sizes ts) as₁ → nth p f' ≡ some g → length ts ≡ g.args → HasValue p ts g.body) where
  mutual
    value : (e : Expr) (n : ℕ) (ρ : List Tree) (ks : List (Option From)) → n ≡ length ρ → Well p n e → Fitting before ks ρ → Each Allowed (steps f ks e) → HasValue p ρ e
    value (var i) n ρ ks z w h s = let x = nth_some ρ i (omega (arith, w)) in (x.0, v_var x.1)
    value a_leaf n ρ ks z w h s = (leaf, v_leaf)
    value (a_node a b) n ρ ks z w h s =
        let x = value a n ρ ks z w.0 h (each_left (steps f ks a) _ s) in
        let y = value b n ρ ks z w.1 h (each_right (steps f ks a) _ s) in
        (node x.0 y.0, v_node x.1 y.1)
    value (parts i a b) n ρ ks z w h s =
        let x = nth_some ρ i (omega (arith, w.0)) in
        value_parts x.0 x.1 (value a n ρ ks z w.1 h (each_left (steps f ks a) _ s))
        (λ t u is. value b (n + 2) (u ∷ t ∷ ρ) (part (known ks i) ∷ part (known ks i) ∷ ks) (omega arith) w.2 (fitting_parts before i t u ks ρ is h) (each_right (steps f ks a) _ s))
    value (bind a b) n ρ ks z w h s =
        let x = value a n ρ ks z w.0 h (each_left (steps f ks a) _ s) in
        let y = value b (n + 1) (x.0 ∷ ρ) (origin ks a ∷ ks) (omega arith) w.1 (fitting_cons before (origin ks a) x.0 ks ρ (fit_origin before ks h x.1) h) (each_right (steps f ks a) _ s) in
        (y.0, v_bind x.1 y.1)
    value (call f' es) n ρ ks z w h s =
        let xs = values es n ρ ks z w.3 h (each_tail s) in
        let fits : length xs.0 ≡ w.0.args = omega (arith, xs.2, w.2) in
        let y = call_value f' w.0 xs.0 (arcs ks 0 es) (each_head s) (holds_arcs before (sizes xs.0) ks 0 h xs.1 (sized_all xs.0)) w.1 fits in
        (y.0, v_call w.0 xs.1 w.1 fits y.1)

    values : (es : Exprs) (n : ℕ) (ρ : List Tree) (ks : List (Option From)) → n ≡ length ρ → Wells p n es → Fitting before ks ρ → Each Allowed (steps_all f ks es) → (ts : List Tree) × Values p ρ es ts × (length ts ≡ count es)
    values nil n ρ ks z w h s = ([], v_nil, refl)
    values (cons e es) n ρ ks z w h s =
        let x = value e n ρ ks z w.0 h (each_left (steps f ks e) _ s) in
        let xs = values es n ρ ks z w.1 h (each_right (steps f ks e) _ s) in
        (x.0 ∷ xs.0, v_cons x.1 xs.1, omega (arith, xs.2))

-- a step whose arcs hold leads to a state that comes next
step_next : {ss : List Step} {as₁ : List Arc} (x y : State) → In (record { caller = x.point; callee = y.point; arcs = as₁ }) ss → Holds x.size y.size as₁ → Next ss y x
step_next {as₁ = as₁} x y i h = record { step = record { caller = x.point; callee = y.point; arcs = as₁ }; is_step = i; leaves = refl; enters = refl; holds = h }

-- a call in an accessible state has a value, since the calls in its body are states that come next
body_value : (p : Prog) → WellProg p → (x : State) → Acc (Next (call_graph p)) x → (f : ℕ) (g : Fun) (ts : List Tree) → state f ts ≡ x → nth p f ≡ some g → length ts ≡ g.args → HasValue p ts g.body
body_value p w x (Acc.intro _ later) f g ts here is fits =
    value p f (sizes ts) (λ s. In s (call_graph p))
    (λ f' g' ts' as₁ i h. body_value p w (state f' ts') (later _ (subst (Next (call_graph p) (state f' ts')) here (step_next (state f ts) (state f' ts') i h))) f' g' ts' refl)
    g.body g.args ts (given 0 g.args) (sym fits) (w f g is).1 (fitting_given (sizes ts) 0 g.args ts (sized_all ts)) (body_in_call_graph p f g is)

-- where every state is accessible, every well-formed expression has a value, in every environment
module _ (p : Prog) (w : WellProg p) (acc : (x : State) → Acc (Next (call_graph p)) x) where
  pub call_has_value : (f : ℕ) (g : Fun) (ts : List Tree) → nth p f ≡ some g → length ts ≡ g.args → HasValue p ts g.body
  call_has_value f g ts = body_value p w (state f ts) (acc (state f ts)) f g ts refl

  -- nothing is known of the variables, and every step is allowed
  pub has_value : (ρ : List Tree) (e : Expr) → Well p (length ρ) e → HasValue p ρ e
  has_value ρ e h = value p 0 (λ _. 0) (λ _. Unit) (λ f g ts as₁ _ _. call_has_value f g ts) e (length ρ) ρ [] refl h (λ i t is. tt) (λ s i. tt)

  pub has_values : (ρ : List Tree) (es : Exprs) → Wells p (length ρ) es → (ts : List Tree) × Values p ρ es ts
  has_values ρ es h = let x = values p 0 (λ _. 0) (λ _. Unit) (λ f g ts as₁ _ _. call_has_value f g ts) es (length ρ) ρ [] refl h (λ i t is. tt) (λ s i. tt) in (x.0, x.1)

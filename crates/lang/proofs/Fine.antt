-- The call graph of a well-formed program is fine: its points are the program's functions, its places their arguments.
use Rattle.std.proofs.Common.{◌≡◌, ℕ, zero, suc, ◌+◌, ◌<◌, ◌≤◌, List, [], ◌∷◌, length, refl, subst, subst₂, arith}
use mathlib.Core.Option.{Option, some, none}
use Rattle.sizechange.specs.Graph.{Step, nth, In}
use Rattle.sizechange.specs.Theorems.{FineArc, Fine}
use Rattle.lang.specs.Program.{Expr, var, a_leaf, a_node, parts, bind, call, Exprs, nil, cons, Fun, Prog, count, max_args}
use Rattle.lang.specs.Steps.{From, known, part, origin, arc, arcs, steps, steps_all, given, all_steps, call_graph}
use Rattle.sizechange.proofs.Lists.{nth_below}
use Rattle.lang.proofs.Lists.{Each, each_none, each_cons, each_append, each_left, each_right}
use Rattle.lang.proofs.Well.{Well, Wells, WellProg}

-- what is known of a variable is an argument, the same or a part
record Sound (k : From) : Type 0 where
  below : k.arg < max_args
  some_how : 1 ≤ k.how
  how_most : k.how ≤ 2

abbrev Sound? : Option From → Type 0
Sound? none = Unit
Sound? (some k) = Sound k

abbrev Sounds : List (Option From) → Type 0
Sounds ks = (i : ℕ) → Sound? (known ks i)

sound_part : (k : Option From) → Sound? k → Sound? (part k)
sound_part none h = tt
sound_part (some k) h = record { below = h.below; some_how = omega arith; how_most = omega arith }

sounds_cons : (k : Option From) (ks : List (Option From)) → Sound? k → Sounds ks → Sounds (k ∷ ks)
sounds_cons k ks h hs zero = h
sounds_cons k ks h hs (suc i) = hs i

sound_origin : (ks : List (Option From)) (e : Expr) → Sounds ks → Sound? (origin ks e)
sound_origin ks (var i) hs = hs i
sound_origin ks a_leaf hs = tt
sound_origin ks (a_node a b) hs = tt
sound_origin ks (parts i a b) hs = tt
sound_origin ks (bind a b) hs = tt
sound_origin ks (call f es) hs = tt

sounds_given : (i n : ℕ) → i + n ≤ max_args → Sounds (given i n)
sounds_given i zero h j = tt
sounds_given i (suc n) h zero = record { below = omega arith; some_how = omega arith; how_most = omega arith }
sounds_given i (suc n) h (suc j) = sounds_given (i + 1) n (omega arith) j

fine_arc : (j : ℕ) (k : Option From) → j < max_args → Sound? k → Each (FineArc max_args) (arc j k)
fine_arc j none h s = each_none _
fine_arc j (some k) h s = each_cons (record { from_below = s.below; to_below = h; some_how = s.some_how; how_most = s.how_most }) (each_none _)

fine_arcs : (ks : List (Option From)) (j : ℕ) (es : Exprs) → j + count es ≤ max_args → Sounds ks → Each (FineArc max_args) (arcs ks j es)
fine_arcs ks j nil h s = each_none _
fine_arcs ks j (cons e es) h s = each_append (arc j (origin ks e)) (fine_arc j (origin ks e) (omega arith) (sound_origin ks e s)) (fine_arcs ks (j + 1) es (omega arith) s)

-- the steps in an expression of function f
module _ (p : Prog) (w : WellProg p) (f : ℕ) (f< : f < length p) where
  mutual
    fine_steps : (e : Expr) (n : ℕ) (ks : List (Option From)) → Well p n e → Sounds ks → Fine (length p) max_args (steps f ks e)
    fine_steps (var i) n ks h s = each_none _
    fine_steps a_leaf n ks h s = each_none _
    fine_steps (a_node a b) n ks h s = each_append (steps f ks a) (fine_steps a n ks h.0 s) (fine_steps b n ks h.1 s)
    fine_steps (parts i a b) n ks h s =
        let k = sound_part (known ks i) (s i) in
        each_append (steps f ks a) (fine_steps a n ks h.1 s) (fine_steps b (n + 2) _ h.2 (sounds_cons _ (part (known ks i) ∷ ks) k (sounds_cons _ ks k s)))
    fine_steps (bind a b) n ks h s = each_append (steps f ks a) (fine_steps a n ks h.0 s) (fine_steps b (n + 1) _ h.1 (sounds_cons _ ks (sound_origin ks a s) s))
    fine_steps (call g es) n ks h s =
        let few = (w g h.0 h.1).0 in
        each_cons (record { caller_below = f<; callee_below = nth_below p g h.1; arcs_fine = fine_arcs ks 0 es (omega (arith, h.2)) s }) (fine_steps_all es n ks h.3 s)

    fine_steps_all : (es : Exprs) (n : ℕ) (ks : List (Option From)) → Wells p n es → Sounds ks → Fine (length p) max_args (steps_all f ks es)
    fine_steps_all nil n ks h s = each_none _
    fine_steps_all (cons e es) n ks h s = each_append (steps f ks e) (fine_steps e n ks h.0 s) (fine_steps_all es n ks h.1 s)

-- the call graph is made of the steps of each body, and has them all
abbrev body_steps : ℕ → Fun → List Step
body_steps f g = steps f (given 0 g.args) g.body

module _ {P : Step → Type 0} where
  each_all_steps : (f : ℕ) (gs : List Fun) → ((i : ℕ) (g : Fun) → nth gs i ≡ some g → Each P (body_steps (f + i) g)) → Each P (all_steps f gs)
  each_all_steps f [] h = each_none _
  each_all_steps f (g ∷ gs) h =
      each_append (body_steps f g)
      (let z : f + 0 ≡ f = omega arith in subst (λ j. Each P (body_steps j g)) z (h 0 g refl))
      (each_all_steps (f + 1) gs λ i x e. let z : f + suc i ≡ (f + 1) + i = omega arith in subst (λ j. Each P (body_steps j x)) z (h (suc i) x e))

  each_body : (f : ℕ) (gs : List Fun) → Each P (all_steps f gs) → (i : ℕ) (g : Fun) → nth gs i ≡ some g → Each P (body_steps (f + i) g)
  each_body f [] h i g e = absurd (omega (arith, nth_below [] i e))
  each_body f (x ∷ gs) h zero g e =
      let z : f ≡ f + 0 = omega arith in
      let is : x ≡ g = cc in
      subst₂ (λ j y. Each P (body_steps j y)) z is (each_left (body_steps f x) _ h)
  each_body f (x ∷ gs) h (suc i) g e =
      let z : (f + 1) + i ≡ f + suc i = omega arith in
      subst (λ j. Each P (body_steps j g)) z (each_body (f + 1) gs (each_right (body_steps f x) _ h) i g e)

pub fine_call_graph : (p : Prog) → WellProg p → Fine (length p) max_args (call_graph p)
fine_call_graph p w = each_all_steps 0 p λ f g e.
    let z : f ≡ 0 + f = omega arith in
    let k = w f g e in
    subst (λ j. Fine (length p) max_args (body_steps j g)) z (fine_steps p w f (nth_below p f e) g.body g.args (given 0 g.args) k.1 (sounds_given 0 g.args (omega arith)))

pub body_in_call_graph : (p : Prog) (f : ℕ) (g : Fun) → nth p f ≡ some g → Each (λ s. In s (call_graph p)) (steps f (given 0 g.args) g.body)
body_in_call_graph p f g e =
    let z : 0 + f ≡ f = omega arith in
    subst (λ j. Each (λ s. In s (call_graph p)) (body_steps j g)) z (each_body 0 p (λ s i. i) f g e)

-- Expressions that wait, while notes and words change elsewhere.
use Rattle.std.proofs.Common.{◌≡◌, ℕ, ◌+◌, ◌<◌, ◌≤◌, List, [], ◌++◌, get_or, sym, refl, subst, arith}
use mathlib.Core.Option.{Option}
use Rattle.sizechange.specs.Graph.{Step}
use Rattle.lang.specs.Program.{Expr, var, a_leaf, a_node, parts, bind, call, Prog}
use Rattle.lang.specs.Steps.{From, steps}
use Rattle.origins.specs.Origins.{in_view}
use Rattle.origins.specs.Views.{outer_at, new_at, Noted, SameNote, newer, seen}
use Rattle.origins.proofs.Origins.{view_same}
use Rattle.callgraph.specs.Standing.{Standing}
use Rattle.callgraph.specs.Pending.{own, inner, Waits, Pending, p_none, p_more}

seen_same : (known known₁ views views₁ : List ℕ) (j b : ℕ) → outer_at views j ≤ b → SameNote views views₁ j → ((i : ℕ) → i < b → get_or known₁ i 0 ≡ get_or known i 0) → seen known₁ views₁ j ≡ seen known views j
seen_same known known₁ views views₁ j b l h k =
    let a = h.outer_is in
    let n = h.new_is in
    let w = h.word_is in
    let v = view_same known known₁ (outer_at views j) (λ i m. k i (omega arith)) in
    cc

waits_same : (p : Prog) (s views views₁ : List ℕ) (b at : ℕ) (e : Expr) (k : ℕ) → SameNote views views₁ at → Waits p s views b at e k → Waits p s views₁ b at e k
waits_same p s views views₁ b at e k h w =
    let a = h.outer_is in
    let n = h.new_is in
    let v : outer_at views at + new_at views at ≡ outer_at views₁ at + new_at views₁ at = omega arith in
    let x = w.around in
    let y = w.few in
    let z = w.room in
    record { stands = subst (λ (m : ℕ). Standing p s m at e k) v w.stands; around = omega arith; few = omega arith; room = omega arith }

pub pending_same : (p : Prog) (s views views₁ known known₁ : List ℕ) (f end : ℕ) {b at : ℕ} {ss : List Step} → ((j : ℕ) → at ≤ j → SameNote views views₁ j) → ((i : ℕ) → i < b → get_or known₁ i 0 ≡ get_or known i 0) → Pending p s views known f end b at ss → Pending p s views₁ known₁ f end b at ss
pending_same p s views views₁ known known₁ f end n w p_none = p_none
pending_same p s views views₁ known known₁ f end n w (p_more {b = b} {at = at} {k = k} {e = e} {ss = ss} x r) =
    let here = n at (omega arith) in
    let l = x.stands.forward in
    let m = x.around in
    let rest = pending_same p s views views₁ known known₁ f end (λ j h. n j (omega arith)) (λ i h. w i (omega arith)) r in
    subst (λ (ks : List (Option From)). Pending p s views₁ known₁ f end b at (steps f ks e ++ ss)) (seen_same known known₁ views views₁ at b m here w)
    (p_more (waits_same p s views views₁ b at e k here x) (subst (λ (o : ℕ). Pending p s views₁ known₁ f end o k ss) (sym here.outer_is) rest))

pub pending_under : (p : Prog) (s views known : List ℕ) (f end : ℕ) {b at : ℕ} {ss : List Step} (d : ℕ) → b ≤ d → Pending p s views known f end b at ss → Pending p s views known f end d at ss
pending_under p s views known f end d l p_none = p_none
pending_under p s views known f end d l (p_more x r) = let m = x.around in p_more (record { stands = x.stands; around = omega arith; few = x.few; room = x.room }) r

pub pending_before : (p : Prog) (s views known : List ℕ) (f end : ℕ) {b at : ℕ} {ss : List Step} → Pending p s views known f end b at ss → at ≤ end
pending_before p s views known f end p_none = omega arith
pending_before p s views known f end (p_more x r) = let l = x.stands.forward in let m = pending_before p s views known f end r in omega arith

-- at the end nothing waits
pub pending_done : (p : Prog) (s views known : List ℕ) (f end : ℕ) {b at : ℕ} {ss : List Step} → end ≤ at → Pending p s views known f end b at ss → ss ≡ []
pending_done p s views known f end l p_none = refl
pending_done p s views known f end l (p_more x r) = let m = x.stands.forward in let q = pending_before p s views known f end r in absurd (omega arith)

-- before it, an expression waits here
pub record Next (p : Prog) (s views known : List ℕ) (f end b at : ℕ) (ss : List Step) : Type 0 where
  pub expression : Expr
  pub after : ℕ
  pub later : List Step
  pub waits : Waits p s views b at expression after
  pub rest : Pending p s views known f end (outer_at views at) after later
  pub are : ss ≡ steps f (seen known views at) expression ++ later

pub pending_next : (p : Prog) (s views known : List ℕ) (f end : ℕ) {b at : ℕ} {ss : List Step} → at < end → Pending p s views known f end b at ss → Next p s views known f end b at ss
pending_next p s views known f end l p_none = absurd (omega arith)
pending_next p s views known f end l (p_more {k = k} {e = e} {ss = ss} x r) = record { expression = e; after = k; later = ss; waits = x; rest = r; are = refl }

-- one more waits before the others
pub pending_more : (p : Prog) (s views known : List ℕ) (f end b at : ℕ) (e : Expr) (k : ℕ) (ss : List Step) (o n : ℕ) (w : Option From) → Noted views at o n w → Standing p s (o + n) at e k → o ≤ b → n ≤ 2 → o + n ≤ 8 + at → Pending p s views known f end o k ss → Pending p s views known f end b at (steps f (newer n w (in_view known o)) e ++ ss)
pending_more p s views known f end b at e k ss o n w h x l m r q =
    let a = h.outer_is in
    let c = h.new_is in
    let d = h.origin_is in
    let v : o + n ≡ outer_at views at + new_at views at = omega arith in
    let z : seen known views at ≡ newer n w (in_view known o) = cc in
    subst (λ (ks : List (Option From)). Pending p s views known f end b at (steps f ks e ++ ss)) z
    (p_more (record { stands = subst (λ (y : ℕ). Standing p s y at e k) v x; around = omega arith; few = omega arith; room = omega arith }) (subst (λ (y : ℕ). Pending p s views known f end y k ss) (sym a) q))

-- an expression's steps are its own, if it is a call, and those in its parts
pub own_inner : (f : ℕ) (ks : List (Option From)) (e : Expr) → steps f ks e ≡ own f ks e ++ inner f ks e
own_inner f ks (var i) = refl
own_inner f ks a_leaf = refl
own_inner f ks (a_node a b) = refl
own_inner f ks (parts i a b) = refl
own_inner f ks (bind a b) = refl
own_inner f ks (call g es) = refl

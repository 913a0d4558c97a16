-- What the first bytes of an expression say about it.
use Rattle.std.proofs.Common.{◌≡◌, ℕ, ◌+◌, ◌-◌, ◌<◌, ◌≤◌, List, ◌∷◌, ◌++◌, length, get_or, drop, Some, None, Option, sym, refl, ap, ◌∙◌, subst, subst₂, add-zero, arith, lit≤, length-drop}
use Rattle.std.proofs.lemmas.List.{get_or-drop, drop_more}
use Rattle.lang.specs.Program.{Expr, var, a_leaf, a_node, parts, bind, call, Exprs, nil, cons, max_args}
use Rattle.lang.specs.Reads.{Reads, ReadsAll, r_var, r_leaf, r_node, r_parts, r_bind, r_call, r_nil, r_cons}
use Rattle.reading.specs.declared.head.Head.{Head}
use Rattle.reading.specs.declared.head.Head.TheVariants.{Var, Leaf, Node, Parts, Bind, Call}
use Rattle.reading.specs.Ends.{EndOf, EndOfAll}
use Rattle.reading.specs.Heads.{bytes_of_head, width_of, arity_of, HeadAt}

-- how an expression with a head goes on after it
pub data Goes : Head → List ℕ → Expr → List ℕ → Type 0 where
  g_var : {i : ℕ} {xs : List ℕ} → Goes (Var i) xs (var i) xs
  g_leaf : {xs : List ℕ} → Goes Leaf xs a_leaf xs
  g_node : {xs zs : List ℕ} {a b : Expr} → ReadsAll 2 xs (cons a (cons b nil)) zs → Goes Node xs (a_node a b) zs
  g_parts : {i : ℕ} {xs zs : List ℕ} {a b : Expr} → ReadsAll 2 xs (cons a (cons b nil)) zs → Goes (Parts i) xs (parts i a b) zs
  g_bind : {xs zs : List ℕ} {a b : Expr} → ReadsAll 2 xs (cons a (cons b nil)) zs → Goes Bind xs (bind a b) zs
  g_call : {f n : ℕ} {xs zs : List ℕ} {es : Exprs} → n ≤ max_args → ReadsAll n xs es zs → Goes (Call f n) xs (call f es) zs

two : {xs ys zs : List ℕ} {a b : Expr} → Reads xs a ys → Reads ys b zs → ReadsAll 2 xs (cons a (cons b nil)) zs
two h k = r_cons h (r_cons k r_nil)

pub goes : (h : Head) (xs : List ℕ) {e : Expr} {zs : List ℕ} → Reads (bytes_of_head h ++ xs) e zs → Goes h xs e zs
goes (Var i) xs r_var = g_var
goes Leaf xs r_leaf = g_leaf
goes Node xs (r_node h k) = g_node (two h k)
goes (Parts i) xs (r_parts h k) = g_parts (two h k)
goes Bind xs (r_bind h k) = g_bind (two h k)
goes (Call f n) xs (r_call l h) = g_call l h

pub came : {h : Head} {xs zs : List ℕ} {e : Expr} → Goes h xs e zs → Reads (bytes_of_head h ++ xs) e zs
came g_var = r_var
came g_leaf = r_leaf
came (g_node (r_cons h (r_cons k r_nil))) = r_node h k
came (g_parts (r_cons h (r_cons k r_nil))) = r_parts h k
came (g_bind (r_cons h (r_cons k r_nil))) = r_bind h k
came (g_call l h) = r_call l h

-- an expression is its head and so many expressions after it
pub goes_all : {h : Head} {xs zs : List ℕ} {e : Expr} → Goes h xs e zs → (arity_of h ≤ max_args) × (es : Exprs) × ReadsAll (arity_of h) xs es zs
goes_all g_var = (lit≤ tt, nil, r_nil)
goes_all g_leaf = (lit≤ tt, nil, r_nil)
goes_all (g_node {a = a} {b = b} h) = (lit≤ tt, cons a (cons b nil), h)
goes_all (g_parts {a = a} {b = b} h) = (lit≤ tt, cons a (cons b nil), h)
goes_all (g_bind {a = a} {b = b} h) = (lit≤ tt, cons a (cons b nil), h)
goes_all (g_call {es = es} l h) = (l, es, h)

pub all_goes : (h : Head) {xs zs : List ℕ} {es : Exprs} → arity_of h ≤ max_args → ReadsAll (arity_of h) xs es zs → (e : Expr) × Goes h xs e zs
all_goes (Var i) l r_nil = (var i, g_var)
all_goes Leaf l r_nil = (a_leaf, g_leaf)
all_goes Node l (r_cons {e = a} h (r_cons {e = b} k r_nil)) = (a_node a b, g_node (two h k))
all_goes (Parts i) l (r_cons {e = a} h (r_cons {e = b} k r_nil)) = (parts i a b, g_parts (two h k))
all_goes Bind l (r_cons {e = a} h (r_cons {e = b} k r_nil)) = (bind a b, g_bind (two h k))
all_goes (Call f n) {es = es} l h = (call f es, g_call l h)

pub goes_at : (s : List ℕ) (at : ℕ) (h : Head) → HeadAt s at (Some h) → {e : Expr} {x : List ℕ} → Reads (drop at s) e x → Goes h (drop (at + width_of h) s) e x
goes_at s at h a {e} {x} r = goes h (drop (at + width_of h) s) (subst (λ (xs : List ℕ). Reads xs e x) a.1 r)

pub wide : (h : Head) → 1 ≤ width_of h
wide (Var i) = lit≤ tt
wide Leaf = lit≤ tt
wide Node = lit≤ tt
wide (Parts i) = lit≤ tt
wide Bind = lit≤ tt
wide (Call f n) = lit≤ tt

-- so an expression ends where those after its head end
pub end_of_head : (s : List ℕ) (at : ℕ) (h : Head) → HeadAt s at (Some h) → arity_of h ≤ max_args → (r : Option ℕ) → EndOfAll s (arity_of h) (at + width_of h) r → EndOf s at r
end_of_head s at h a l (Some k) q = let w = wide h in let f = q.1 in let g = all_goes h l q.3 in (q.0, omega arith, g.0, subst (λ (xs : List ℕ). Reads xs g.0 (drop k s)) (sym a.1) (came g.1))
end_of_head s at h a l None q = λ e x r. let g = goes_all (goes_at s at h a r) in q g.1 x g.2

pub end_by : (s : List ℕ) (at : ℕ) (h : Head) (n w : ℕ) → n ≡ arity_of h → w ≡ width_of h → n ≤ max_args → HeadAt s at (Some h) → (r : Option ℕ) → EndOfAll s n (at + w) r → EndOf s at r
end_by s at h n w en ew l a r q = end_of_head s at h a (omega arith) r (subst₂ (λ (m k : ℕ). EndOfAll s m (at + k) r) en ew q)

-- the first byte of an expression, and how many there are at least
pub record Starting (b n : ℕ) : Type 0 where
  pub known : b ≤ 5
  pub one : 1 ≤ n
  pub var_two : b ≡ 0 → 2 ≤ n
  pub parts_two : b ≡ 3 → 2 ≤ n
  pub call_three : b ≡ 5 → 3 ≤ n

starting_list : {xs ys : List ℕ} {e : Expr} → Reads xs e ys → Starting (get_or xs 0 0) (length xs)
starting_list (r_var {xs = xs}) = omega arith
starting_list r_leaf = omega arith
starting_list (r_node h k) = omega arith
starting_list (r_parts h k) = omega arith
starting_list (r_bind h k) = omega arith
starting_list (r_call l h) = omega arith

pub starting : (s : List ℕ) (at : ℕ) {e : Expr} {x : List ℕ} → Reads (drop at s) e x → Starting (get_or s at 0) (length s - at)
starting s at h = let i = starting_list h in let e : get_or (drop at s) 0 0 ≡ get_or s at 0 = rw get_or-drop (rw add-zero refl) in let l = length-drop at s in omega arith

-- one, two or three bytes at a place
pub bytes1 : (s : List ℕ) (at b : ℕ) → at < length s → get_or s at 0 ≡ b → drop at s ≡ b ∷ drop (at + 1) s
bytes1 s at b l e = drop_more s at 0 l ∙ ap (λ z. z ∷ drop (at + 1) s) e

pub bytes2 : (s : List ℕ) (at b : ℕ) → at + 2 ≤ length s → get_or s at 0 ≡ b → drop at s ≡ b ∷ get_or s (at + 1) 0 ∷ drop (at + 2) s
bytes2 s at b l e = bytes1 s at b (omega arith) e ∙ ap (λ z. b ∷ z) (bytes1 s (at + 1) (get_or s (at + 1) 0) (omega arith) refl ∙ ap (λ k. get_or s (at + 1) 0 ∷ drop k s) (omega arith))

pub bytes3 : (s : List ℕ) (at b : ℕ) → at + 3 ≤ length s → get_or s at 0 ≡ b → drop at s ≡ b ∷ get_or s (at + 1) 0 ∷ get_or s (at + 2) 0 ∷ drop (at + 3) s
bytes3 s at b l e = bytes2 s at b (omega arith) e ∙ ap (λ z. b ∷ get_or s (at + 1) 0 ∷ z) (bytes1 s (at + 2) (get_or s (at + 2) 0) (omega arith) refl ∙ ap (λ k. get_or s (at + 2) 0 ∷ drop k s) (omega arith))

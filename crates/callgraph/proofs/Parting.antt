-- From an expression that is visited to its parts that wait.
use Rattle.std.proofs.Common.{◌≡◌, ℕ, zero, suc, ◌+◌, ◌<◌, ◌≤◌, ◌&&◌, T, ltb, List, ◌∷◌, ◌++◌, length, get_or, drop, Some, sym, refl, ap, ◌∙◌, subst, append_assoc, arith, length-drop}
use mathlib.Core.Option.{Option, none}
use Rattle.sizechange.specs.Graph.{Step, nth}
use Rattle.lang.specs.Program.{Expr, var, a_leaf, a_node, parts, bind, call, Exprs, nil, cons, Prog, count, max_args}
use Rattle.lang.specs.Bytes.{ok, oks, takes}
use Rattle.lang.specs.Reads.{Reads, ReadsAll, r_nil, r_cons}
use Rattle.lang.specs.Steps.{From, known as of_variable, part, origin, steps, steps_all}
use Rattle.lang.proofs.Lists.{both}
use Rattle.lang.proofs.Reading.{reads_all_bytes}
use Rattle.reading.specs.declared.head.Head.{Head}
use Rattle.reading.specs.declared.head.Head.TheVariants.{Var, Leaf, Node, Parts, Bind, Call}
use Rattle.reading.specs.Heads.{HeadAt, width_of, arity_of}
use Rattle.reading.specs.Saying.{SaysEnds}
use Rattle.reading.proofs.Heading.{Goes, g_var, g_leaf, g_node, g_parts, g_bind, g_call, goes_at, goes_all, starting}
use Rattle.reading.proofs.Passing.{first_of}
use Rattle.origins.specs.Origins.{in_view}
use Rattle.origins.specs.Views.{Noted, SameNote, newer}
use Rattle.callgraph.specs.Standing.{Standing, StandingAll, Stands, hop}
use Rattle.callgraph.specs.Pending.{inner, Pending, PartsWait}
use Rattle.callgraph.proofs.Standing.{ended, first_of_all}
use Rattle.callgraph.proofs.Waiting.{pending_same, pending_more}

-- two expressions, the second with n variables more in view
record Two (p : Prog) (s : List ℕ) (vars n at : ℕ) (a b : Expr) (w k : ℕ) : Type 0 where
  pub first : Standing p s vars at a w
  pub second : Standing p s (vars + n) w b k

drop_one : (s : List ℕ) (i j : ℕ) → i ≤ length s → j ≤ length s → drop i s ≡ drop j s → i ≡ j
drop_one s i j l m e = let a = length-drop i s in let b = length-drop j s in let c = ap length e in omega arith

-- an expression that is written at a place up to k stands there
stand : (p : Prog) (s ends : List ℕ) → SaysEnds s ends → (vars at : ℕ) (e : Expr) (k : ℕ) → k ≤ length s → Reads (drop at s) e (drop k s) → T (ok p vars e) → Standing p s vars at e k
stand p s ends t vars at e k l r o = let h = ended s ends t at r in let q = drop_one s k (get_or ends at 0) l h.within h.rest in let f = h.forward in record { reads = r; forward = omega arith; within = l; well = o }

two_read : (p : Prog) (s ends : List ℕ) → SaysEnds s ends → (vars n at : ℕ) {xs : List ℕ} (a b : Expr) (k : ℕ) → xs ≡ drop at s → k ≤ length s → ReadsAll 2 xs (cons a (cons b nil)) (drop k s) → T (ok p vars a) → T (ok p (vars + n) b) → Two p s vars n at a b (get_or ends at 0) k
two_read p s ends t vars n at a b k e l (r_cons {ys = ys} h (r_cons i r_nil)) x y =
    let h₁ = subst (λ (u : List ℕ). Reads u a ys) e h in
    let q = ended s ends t at h₁ in
    record {
      first = record { reads = subst (λ (u : List ℕ). Reads (drop at s) a u) q.rest h₁; forward = q.forward; within = q.within; well = x };
      second = stand p s ends t (vars + n) (get_or ends at 0) b k l (subst (λ (u : List ℕ). Reads u b (drop k s)) q.rest i) y;
    }

-- notes at the starts of two expressions
pub record NotedTwo (ends views views₁ : List ℕ) (at vars n : ℕ) (w : Option From) : Type 0 where
  pub first : Noted views₁ at vars 0 none
  pub next : Noted views₁ (get_or ends at 0) vars n w
  pub others : (j : ℕ) → get_or ends at 0 < j → SameNote views views₁ j

two_wait : (p : Prog) (s ends views views₁ known : List ℕ) (f end vars n : ℕ) (w : Option From) (at : ℕ) (a b : Expr) (k : ℕ) (ss : List Step) → Two p s vars n at a b (get_or ends at 0) k → NotedTwo ends views views₁ at vars n w → n ≤ 2 → vars + n ≤ 8 + at → Pending p s views known f end vars k ss → Pending p s views₁ known f end vars at ((steps f (in_view known vars) a ++ steps f (newer n w (in_view known vars)) b) ++ ss)
two_wait p s ends views views₁ known f end vars n w at a b k ss t q l m r =
    let e : vars ≡ vars + 0 = omega arith in
    let g = t.first.forward in
    let i = t.second.forward in
    let rest = pending_same p s views views₁ known known f end (λ j h. q.others j (omega arith)) (λ j h. refl) r in
    let second = pending_more p s views₁ known f end vars (get_or ends at 0) b k ss vars n w q.next t.second (omega arith) l (omega arith) rest in
    rw append_assoc (pending_more p s views₁ known f end vars at a (get_or ends at 0) _ vars 0 none q.first (subst (λ (v : ℕ). Standing p s v at a (get_or ends at 0)) e t.first) (omega arith) (omega arith) (omega arith) second)

-- an expression by its head
by_var : {i : ℕ} {xs zs : List ℕ} {e : Expr} → Goes (Var i) xs e zs → (e ≡ var i) × (zs ≡ xs)
by_var g_var = (refl, refl)

by_leaf : {xs zs : List ℕ} {e : Expr} → Goes Leaf xs e zs → (e ≡ a_leaf) × (zs ≡ xs)
by_leaf g_leaf = (refl, refl)

by_node : {xs zs : List ℕ} {e : Expr} → Goes Node xs e zs → (a : Expr) × (b : Expr) × (e ≡ a_node a b) × ReadsAll 2 xs (cons a (cons b nil)) zs
by_node (g_node {a = a} {b = b} r) = (a, b, refl, r)

by_parts : {i : ℕ} {xs zs : List ℕ} {e : Expr} → Goes (Parts i) xs e zs → (a : Expr) × (b : Expr) × (e ≡ parts i a b) × ReadsAll 2 xs (cons a (cons b nil)) zs
by_parts (g_parts {a = a} {b = b} r) = (a, b, refl, r)

by_bind : {xs zs : List ℕ} {e : Expr} → Goes Bind xs e zs → (a : Expr) × (b : Expr) × (e ≡ bind a b) × ReadsAll 2 xs (cons a (cons b nil)) zs
by_bind (g_bind {a = a} {b = b} r) = (a, b, refl, r)

by_call : {g n : ℕ} {xs zs : List ℕ} {e : Expr} → Goes (Call g n) xs e zs → (es : Exprs) × (e ≡ call g es) × (n ≤ max_args) × ReadsAll n xs es zs
by_call (g_call {es = es} l r) = (es, refl, l, r)

-- an expression without parts
pub var_wait : (s views known : List ℕ) (vars at i : ℕ) → HeadAt s at (Some (Var i)) → PartsWait s vars at (at + 2) known views views
var_wait s views known vars at i a p f end e k ss h r =
    let g = by_var (goes_at s at (Var i) a h.reads) in
    subst (λ (d : Expr). Pending p s views known f end vars (at + 2) (inner f (in_view known vars) d ++ ss)) (sym g.0) (subst (λ (j : ℕ). Pending p s views known f end vars j ss) (drop_one s k (at + 2) h.within a.0 g.1) r)

pub leaf_wait : (s views known : List ℕ) (vars at : ℕ) → HeadAt s at (Some Leaf) → PartsWait s vars at (at + 1) known views views
leaf_wait s views known vars at a p f end e k ss h r =
    let g = by_leaf (goes_at s at Leaf a h.reads) in
    subst (λ (d : Expr). Pending p s views known f end vars (at + 1) (inner f (in_view known vars) d ++ ss)) (sym g.0) (subst (λ (j : ℕ). Pending p s views known f end vars j ss) (drop_one s k (at + 1) h.within a.0 g.1) r)

-- two parts
pub node_wait : (s ends views views₁ known : List ℕ) → SaysEnds s ends → (vars at : ℕ) → HeadAt s at (Some Node) → vars ≤ 8 + at → NotedTwo ends views views₁ (at + 1) vars 0 none → PartsWait s vars at (at + 1) known views views₁
node_wait s ends views views₁ known t vars at a m q p f end e k ss h r =
    let g = by_node (goes_at s at Node a h.reads) in
    let o = both (ok p vars g.0) (ok p vars g.1) (subst (λ (d : Expr). T (ok p vars d)) g.2 h.well) in
    let z : vars ≡ vars + 0 = omega arith in
    let two = two_read p s ends t vars 0 (at + 1) g.0 g.1 k refl h.within g.3 o.0 (subst (λ (v : ℕ). T (ok p v g.1)) z o.1) in
    subst (λ (d : Expr). Pending p s views₁ known f end vars (at + 1) (inner f (in_view known vars) d ++ ss)) (sym g.2) (two_wait p s ends views views₁ known f end vars 0 none (at + 1) g.0 g.1 k ss two q (omega arith) (omega arith) r)

pub parts_wait : (s ends views views₁ known : List ℕ) → SaysEnds s ends → (vars at i : ℕ) (w : Option From) → HeadAt s at (Some (Parts i)) → vars ≤ 8 + at → w ≡ part (of_variable (in_view known vars) i) → NotedTwo ends views views₁ (at + 2) vars 2 w → PartsWait s vars at (at + 2) known views views₁
parts_wait s ends views views₁ known t vars at i w a m u q p f end e k ss h r =
    let g = by_parts (goes_at s at (Parts i) a h.reads) in
    let o = both (ok p vars g.0) (ok p (vars + 2) g.1) (both (ltb i vars) (ok p vars g.0 && ok p (vars + 2) g.1) (subst (λ (d : Expr). T (ok p vars d)) g.2 h.well)).1 in
    let two = two_read p s ends t vars 2 (at + 2) g.0 g.1 k refl h.within g.3 o.0 o.1 in
    subst (λ (d : Expr). Pending p s views₁ known f end vars (at + 2) (inner f (in_view known vars) d ++ ss)) (sym g.2)
    (subst (λ (x : Option From). Pending p s views₁ known f end vars (at + 2) ((steps f (in_view known vars) g.0 ++ steps f (x ∷ x ∷ in_view known vars) g.1) ++ ss)) u (two_wait p s ends views views₁ known f end vars 2 w (at + 2) g.0 g.1 k ss two q (omega arith) (omega arith) r))

pub bind_wait : (s ends views views₁ known : List ℕ) → SaysEnds s ends → (vars at : ℕ) (w : Option From) → HeadAt s at (Some Bind) → vars ≤ 8 + at → ((e : Expr) (x : List ℕ) → Reads (drop (at + 1) s) e x → w ≡ origin (in_view known vars) e) → NotedTwo ends views views₁ (at + 1) vars 1 w → PartsWait s vars at (at + 1) known views views₁
bind_wait s ends views views₁ known t vars at w a m u q p f end e k ss h r =
    let g = by_bind (goes_at s at Bind a h.reads) in
    let o = both (ok p vars g.0) (ok p (vars + 1) g.1) (subst (λ (d : Expr). T (ok p vars d)) g.2 h.well) in
    let two = two_read p s ends t vars 1 (at + 1) g.0 g.1 k refl h.within g.3 o.0 o.1 in
    subst (λ (d : Expr). Pending p s views₁ known f end vars (at + 1) (inner f (in_view known vars) d ++ ss)) (sym g.2)
    (subst (λ (x : Option From). Pending p s views₁ known f end vars (at + 1) ((steps f (in_view known vars) g.0 ++ steps f (x ∷ in_view known vars) g.1) ++ ss)) (u g.0 _ two.first.reads) (two_wait p s ends views views₁ known f end vars 1 w (at + 1) g.0 g.1 k ss two q (omega arith) (omega arith) r))

-- the arguments of a call
all_wait : (p : Prog) (s ends views known : List ℕ) → SaysEnds s ends → (f end vars n at : ℕ) (es : Exprs) (k : ℕ) (ss : List Step) → StandingAll p s vars at n es k → vars ≤ 8 + at → ((i : ℕ) → i < n → Noted views (hop ends at i) vars 0 none) → Pending p s views known f end vars (hop ends at n) ss → Pending p s views known f end vars at (steps_all f (in_view known vars) es ++ ss)
all_wait p s ends views known t f end vars zero at nil k ss h m q r = r
all_wait p s ends views known t f end vars zero at (cons e es) k ss h m q r = let z = (reads_all_bytes h.reads).1 in absurd (omega arith)
all_wait p s ends views known t f end vars (suc n) at es k ss h m q r =
    let g = first_of_all p s ends t vars at n es k h in
    let l = g.stands.forward in
    let e : vars ≡ vars + 0 = omega arith in
    let rest = all_wait p s ends views known t f end vars n (get_or ends at 0) g.others k ss g.stand (omega arith) (λ i j. q (suc i) (omega arith)) r in
    let all = pending_more p s views known f end vars at g.first (get_or ends at 0) _ vars 0 none (q 0 (omega arith)) (subst (λ (v : ℕ). Standing p s v at g.first (get_or ends at 0)) e g.stands) (omega arith) (omega arith) (omega arith) rest in
    subst (λ (d : Exprs). Pending p s views known f end vars at (steps_all f (in_view known vars) d ++ ss)) (sym g.are) (rw append_assoc all)

-- where they end
all_end : (p : Prog) (s ends : List ℕ) → SaysEnds s ends → (vars at n : ℕ) (es : Exprs) (k : ℕ) → at ≤ length s → StandingAll p s vars at n es k → hop ends at n ≡ k
all_end p s ends t vars at zero nil k l h = drop_one s at k l h.within (nil_end h.reads)
  where
    nil_end : {xs ys : List ℕ} → ReadsAll 0 xs nil ys → xs ≡ ys
    nil_end r_nil = refl
all_end p s ends t vars at zero (cons e es) k l h = let z = (reads_all_bytes h.reads).1 in absurd (omega arith)
all_end p s ends t vars at (suc n) es k l h = let g = first_of_all p s ends t vars at n es k h in all_end p s ends t vars (get_or ends at 0) n g.others k g.stands.within g.stand

pub call_all : (p : Prog) (s : List ℕ) (vars at g n : ℕ) → HeadAt s at (Some (Call g n)) → (e : Expr) (k : ℕ) → Standing p s vars at e k → (es : Exprs) × (e ≡ call g es) × (n ≤ max_args) × StandingAll p s vars (at + 3) n es k
call_all p s vars at g n a e k h =
    let q = by_call (goes_at s at (Call g n) a h.reads) in
    let o = both (takes (nth p g) (count q.0)) (oks p vars q.0) (subst (λ (d : Expr). T (ok p vars d)) q.1 h.well) in
    (q.0, q.1, q.2, record { reads = q.3; within = h.within; well = o.1 })

pub call_wait : (s ends views views₁ known : List ℕ) → SaysEnds s ends → (vars at g n : ℕ) → HeadAt s at (Some (Call g n)) → vars ≤ 8 + at → ((i : ℕ) → i < n → Noted views₁ (hop ends (at + 3) i) vars 0 none) → ((j : ℕ) → hop ends (at + 3) n ≤ j → SameNote views views₁ j) → PartsWait s vars at (at + 3) known views views₁
call_wait s ends views views₁ known t vars at g n a m q o p f end e k ss h r =
    let c = call_all p s vars at g n a e k h in
    let x = all_end p s ends t vars (at + 3) n c.0 k a.0 c.3 in
    let rest = pending_same p s views views₁ known known f end (λ j l. o j (omega arith)) (λ j l. refl) r in
    subst (λ (d : Expr). Pending p s views₁ known f end vars (at + 3) (inner f (in_view known vars) d ++ ss)) (sym c.1)
    (all_wait p s ends views₁ known t f end vars n (at + 3) c.0 k ss c.3 (omega arith) q (subst (λ (j : ℕ). Pending p s views₁ known f end vars j ss) (sym x) rest))

-- where two parts start
pub record TwoPlaces (s ends : List ℕ) (at : ℕ) : Type 0 where
  pub there : at < length s
  pub forward : at < get_or ends at 0
  pub second : get_or ends at 0 < length s

two_at : (s ends : List ℕ) → SaysEnds s ends → (at n : ℕ) (es : Exprs) (x : List ℕ) → n ≡ 2 → ReadsAll n (drop at s) es x → TwoPlaces s ends at
two_at s ends t at n es x e r =
    let f = first_of (subst (λ (m : ℕ). ReadsAll m (drop at s) es x) e r) in
    let g = first_of f.4 in
    let h = ended s ends t at f.3 in
    let k = (starting s (get_or ends at 0) (subst (λ (u : List ℕ). Reads u g.0 g.2) h.rest g.3)).one in
    let a = h.forward in
    let b = h.within in
    record { there = omega arith; forward = a; second = omega arith }

pub two_places : (s ends : List ℕ) → SaysEnds s ends → (vars at w : ℕ) (h : Head) → HeadAt s at (Some h) → arity_of h ≡ 2 → w ≡ width_of h → Stands s vars at → TwoPlaces s ends (at + w)
two_places s ends t vars at w h a e f q =
    let g = goes_all (goes_at s at h a q.there.reads) in
    subst (λ (k : ℕ). TwoPlaces s ends (at + k)) (sym f) (two_at s ends t (at + width_of h) (arity_of h) g.1 _ e g.2)

-- the head that is known by a match
pub by_head : (s ends views views₁ known : List ℕ) (vars at w n : ℕ) (word : Option From) (h g : Head) → h ≡ g → w ≡ width_of h → HeadAt s at (Some h) → (HeadAt s at (Some g) → NotedTwo ends views views₁ (at + width_of g) vars n word → PartsWait s vars at (at + width_of g) known views views₁) → NotedTwo ends views views₁ (at + w) vars n word → PartsWait s vars at (at + width_of h) known views views₁
by_head s ends views views₁ known vars at w n word h g e f a k q =
    subst (λ (j : Head). PartsWait s vars at (at + width_of j) known views views₁) (sym e)
    (k (subst (λ (j : Head). HeadAt s at (Some j)) e a) (subst (λ (j : ℕ). NotedTwo ends views views₁ (at + j) vars n word) (f ∙ ap width_of e) q))

-- what is bound stands there
pub bind_stands : (s ends : List ℕ) → SaysEnds s ends → (vars at : ℕ) → HeadAt s at (Some Bind) → Stands s vars at → Stands s vars (at + 1)
bind_stands s ends t vars at a h =
    let p = h.program in
    let g = by_bind (goes_at s at Bind a h.there.reads) in
    let o = both (ok p vars g.0) (ok p (vars + 1) g.1) (subst (λ (d : Expr). T (ok p vars d)) g.2 h.there.well) in
    let two = two_read p s ends t vars 1 (at + 1) g.0 g.1 h.end refl h.there.within g.3 o.0 o.1 in
    record { program = p; few = h.few; expression = g.0; end = get_or ends (at + 1) 0; there = two.first }

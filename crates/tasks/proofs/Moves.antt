-- How an expression's task goes on, by its head: one lemma for each rule.
use Rattle.std.proofs.Common.{◌≡◌, ℕ, zero, suc, ◌+◌, ◌<◌, ◌≤◌, ◌&&◌, T, ltb, List, [], ◌∷◌, ◌++◌, length, drop, Some, sym, refl, ◌∙◌, subst, arith, eqb→eq}
use mathlib.Core.Option.{Option, some, none}
use Rattle.sizechange.specs.Graph.{nth}
use Rattle.lang.specs.Program.{Tree, leaf, node, Expr, a_node, bind, call, Exprs, cons, Fun, Prog, count}
use Rattle.lang.specs.Eval.{Outcome, Outcomes, val, deep, vals, no_vals, Bad, is_full, is_deep, made, Mode, tail, inner, Eval, EvalAll, e_var, e_leaf, e_node, e_node1, e_node2, e_parts1, e_parts2, e_bind, e_bind1, e_tail, e_call, e_call0, e_call1, a_nil, a_cons, a_bad, a_rest}
use Rattle.lang.specs.Rules.{rules, rules_all}
use Rattle.lang.specs.Bytes.{bytes_of_expr, takes, ok, oks, all_ok, Program}
use Rattle.lang.specs.Reads.{Reads, ReadsAll, r_nil, r_cons}
use Rattle.lang.proofs.Rules.{one_eval}
use Rattle.lang.proofs.Lists.{both}
use Rattle.lang.proofs.Reading.{reads_ok, body_ok, fine_parts}
use Rattle.reading.specs.declared.head.Head.TheVariants.{Var, Leaf, Node, Parts, Bind, Call}
use Rattle.reading.specs.Heads.{HeadAt}
use Rattle.reading.proofs.Heading.{Goes, g_var, g_leaf, g_node, g_parts, g_bind, g_call, goes_at}
use Rattle.tasks.specs.Tasks.{expr, list, Here, Says, Within, Leads}
use Rattle.tasks.specs.Texts.{EndsAt, Body}

val_bad : {t : Tree} {q : ℕ} {o : Outcome} → val t q ≡ o → Bad o → ⊥
val_bad e is_full = let z : ◌≡◌ {A = ℕ} 0 1 = cc in omega arith
val_bad e is_deep = let z : ◌≡◌ {A = ℕ} 0 1 = cc in omega arith

-- the derivation of a part in that of the whole
node_first : {p : Prog} {m : Mode} {d r : ℕ} {ρ : List Tree} {a b : Expr} {o : Outcome} (x : Eval p m d ρ (a_node a b) r o) → (q : Outcome) × (y : Eval p inner d ρ a r q) × (rules y < rules x)
node_first (e_node {q = q} {t = t} x y) = (val t q, x, omega arith)
node_first (e_node1 {o = o} x bad) = (o, x, omega arith)
node_first (e_node2 {q = q} {t = t} x y bad) = (val t q, x, omega arith)

-- after the first part's value, the second's derivation is there too
node_second : {p : Prog} {m : Mode} {d r q : ℕ} {ρ : List Tree} {a b : Expr} {o : Outcome} {v : Tree} → Eval p inner d ρ a r (val v q) → (x : Eval p m d ρ (a_node a b) r o) → (u : Outcome) × (y : Eval p inner d ρ b q u) × (rules y < rules x)
node_second {p} {m} {d} {r} {q} {ρ} {a} {b} {v = v} y (e_node {q = q'} {s = l} {t = t'} {u = u} x z) = let e = (one_eval x y).0 in let i : q' ≡ q = cc in let n = rules (e_node {m = m} x z) in
    let c : rules z < n = omega arith in subst (λ (j : ℕ). (u : Outcome) × (y : Eval p inner d ρ b j u) × (rules y < n)) i (val u l, z, c)
node_second {p} {m} {d} {r} {q} {ρ} {a} {b} {v = v} y (e_node1 {o = o} x bad) = absurd (val_bad (one_eval y x).0 bad)
node_second {p} {m} {d} {r} {q} {ρ} {a} {b} {v = v} y (e_node2 {q = q'} {t = t'} {o = o} x z bad) = let e = (one_eval x y).0 in let i : q' ≡ q = cc in let n = rules (e_node2 {m = m} x z bad) in
    let c : rules z < n = omega arith in subst (λ (j : ℕ). (u : Outcome) × (y : Eval p inner d ρ b j u) × (rules y < n)) i (o, z, c)

bind_first : {p : Prog} {m : Mode} {d r : ℕ} {ρ : List Tree} {a b : Expr} {o : Outcome} (x : Eval p m d ρ (bind a b) r o) → (q : Outcome) × (y : Eval p inner d ρ a r q) × (rules y < rules x)
bind_first (e_bind {q = q} {t = t} x y) = (val t q, x, omega arith)
bind_first (e_bind1 {o = o} x bad) = (o, x, omega arith)

call_first : {p : Prog} {m : Mode} {d r f : ℕ} {ρ : List Tree} {es : Exprs} {o : Outcome} (x : Eval p m d ρ (call f es) r o) → (q : Outcomes) × (y : EvalAll p d ρ es r q) × (rules_all y < rules x)
call_first (e_tail {q = q} {ts = ts} g xs is fits x) = (vals ts q, xs, omega arith)
call_first (e_call {q = q} {ts = ts} g xs is fits x) = (vals ts q, xs, omega arith)
call_first (e_call0 {q = q} {ts = ts} xs) = (vals ts q, xs, omega arith)
call_first (e_call1 {o = o} xs) = (no_vals o, xs, omega arith)

list_first : {p : Prog} {d r : ℕ} {ρ : List Tree} {e : Expr} {es : Exprs} {o : Outcomes} (x : EvalAll p d ρ (cons e es) r o) → (q : Outcome) × (y : Eval p inner d ρ e r q) × (rules y < rules_all x)
list_first (a_cons {q = q} {t = t} x xs) = (val t q, x, omega arith)
list_first (a_bad {o = o} x bad) = (o, x, omega arith)
list_first (a_rest {q = q} {t = t} x xs) = (val t q, x, omega arith)

module _ (s : List ℕ) (at : ℕ) (m : Mode) (d : ℕ) (ρ : List Tree) (r : ℕ) where
  pub says_var : (i : ℕ) (v : Tree) → HeadAt s at (Some (Var i)) → nth ρ i ≡ some v → Says s (expr at m d ρ r) (val v r)
  says_var i v a is p e q k = go (goes_at s at (Var i) a k.reads)
    where
      go : {e : Expr} {x : List ℕ} → Goes (Var i) (drop (at + 2) s) e x → Eval p m d ρ e r (val v r)
      go g_var = e_var is

  pub says_leaf : HeadAt s at (Some Leaf) → Says s (expr at m d ρ r) (val leaf r)
  says_leaf a p e q k = go (goes_at s at Leaf a k.reads)
    where
      go : {e : Expr} {x : List ℕ} → Goes Leaf (drop (at + 1) s) e x → Eval p m d ρ e r (val leaf r)
      go g_leaf = e_leaf

  pub node_left : HeadAt s at (Some Node) → Within s (expr (at + 1) inner d ρ r) (expr at m d ρ r)
  node_left a p e q k = go (goes_at s at Node a k.reads) k.fine
    where
      go : {e : Expr} {x : List ℕ} → Goes Node (drop (at + 1) s) e x → T (ok p (length ρ) e) → (f : Expr) × Here s p (expr (at + 1) inner d ρ r) f × ((o : Outcome) (x : Eval p m d ρ e r o) → (q : Outcome) × (y : Eval p inner d ρ f r q) × (rules y < rules x))
      go (g_node {a = a} {b = b} (r_cons {ys = ys} h (r_cons k r_nil))) fine = (a, record { rest = ys; reads = h; fine = (both (ok p (length ρ) a) (ok p (length ρ) b) fine).0 }, λ o x. node_first x)

  pub node_right : (k q : ℕ) (v : Tree) → HeadAt s at (Some Node) → EndsAt s (at + 1) k → Says s (expr (at + 1) inner d ρ r) (val v q) → Within s (expr k inner d ρ q) (expr at m d ρ r)
  node_right k q v a z says p e w h = go (goes_at s at Node a h.reads) h.fine
    where
      second : (a b : Expr) → Eval p inner d ρ a r (val v q) → (o : Outcome) (x : Eval p m d ρ (a_node a b) r o) → (u : Outcome) × (y : Eval p inner d ρ b q u) × (rules y < rules x)
      second a b y o x = node_second y x

      go : {e : Expr} {x : List ℕ} → Goes Node (drop (at + 1) s) e x → T (ok p (length ρ) e) → (f : Expr) × Here s p (expr k inner d ρ q) f × ((o : Outcome) (x : Eval p m d ρ e r o) → (u : Outcome) × (y : Eval p inner d ρ f q u) × (rules y < rules x))
      go (g_node {a = a} {b = b} (r_cons {ys = ys} h (r_cons {ys = zs} l r_nil))) fine =
          let f = both (ok p (length ρ) a) (ok p (length ρ) b) fine in
          let y = says p a w (record { rest = ys; reads = h; fine = f.0 }) in
          (b, record { rest = zs; reads = subst (λ (u : List ℕ). Reads u b zs) (z.ends a ys h) l; fine = f.1 }, second a b y)

  pub says_node1 : (o : Outcome) → HeadAt s at (Some Node) → Bad o → Says s (expr (at + 1) inner d ρ r) o → Says s (expr at m d ρ r) o
  says_node1 o a bad says p e w h = go (goes_at s at Node a h.reads) h.fine
    where
      go : {e : Expr} {x : List ℕ} → Goes Node (drop (at + 1) s) e x → T (ok p (length ρ) e) → Eval p m d ρ e r o
      go (g_node {a = a} {b = b} (r_cons {ys = ys} h (r_cons l r_nil))) fine = e_node1 (says p a w (record { rest = ys; reads = h; fine = (both (ok p (length ρ) a) (ok p (length ρ) b) fine).0 })) bad

  -- both parts of a node, where each is said to come to something
  both_parts : (k q : ℕ) (v : Tree) (o u : Outcome) → EndsAt s (at + 1) k → Says s (expr (at + 1) inner d ρ r) (val v q) → Says s (expr k inner d ρ q) u → ((p : Prog) (a b : Expr) → Eval p inner d ρ a r (val v q) → Eval p inner d ρ b q u → Eval p m d ρ (a_node a b) r o) → HeadAt s at (Some Node) → Says s (expr at m d ρ r) o
  both_parts k q v o u z says says2 make a p e w h = go (goes_at s at Node a h.reads) h.fine
    where
      go : {e : Expr} {x : List ℕ} → Goes Node (drop (at + 1) s) e x → T (ok p (length ρ) e) → Eval p m d ρ e r o
      go (g_node {a = a} {b = b} (r_cons {ys = ys} h (r_cons {ys = zs} l r_nil))) fine =
          let f = both (ok p (length ρ) a) (ok p (length ρ) b) fine in
          make p a b (says p a w (record { rest = ys; reads = h; fine = f.0 })) (says2 p b w (record { rest = zs; reads = subst (λ (u : List ℕ). Reads u b zs) (z.ends a ys h) l; fine = f.1 }))

  pub says_node2 : (k q : ℕ) (v : Tree) (o : Outcome) → HeadAt s at (Some Node) → EndsAt s (at + 1) k → Bad o → Says s (expr (at + 1) inner d ρ r) (val v q) → Says s (expr k inner d ρ q) o → Says s (expr at m d ρ r) o
  says_node2 k q v o a z bad says says2 = both_parts k q v o o z says says2 (λ p a b x y. e_node2 x y bad) a

  pub says_node : (k q l : ℕ) (v u : Tree) → HeadAt s at (Some Node) → EndsAt s (at + 1) k → Says s (expr (at + 1) inner d ρ r) (val v q) → Says s (expr k inner d ρ q) (val u l) → Says s (expr at m d ρ r) (made (node v u) l)
  says_node k q l v u a z says says2 = both_parts k q v (made (node v u) l) (val u l) z says says2 (λ p a b x y. e_node x y) a

  pub parts_leaf : (i : ℕ) → HeadAt s at (Some (Parts i)) → nth ρ i ≡ some leaf → Leads s 1 (expr (at + 2) m d ρ r) (expr at m d ρ r) (λ o. o)
  parts_leaf i a is p e w h = go (goes_at s at (Parts i) a h.reads) h.fine
    where
      go : {e : Expr} {x : List ℕ} → Goes (Parts i) (drop (at + 2) s) e x → T (ok p (length ρ) e) → (f : Expr) × Here s p (expr (at + 2) m d ρ r) f × ((o : Outcome) (y : Eval p m d ρ f r o) → (x : Eval p m d ρ e r o) × (rules y + 1 ≤ rules x))
      go (g_parts {a = a} {b = b} (r_cons {ys = ys} h (r_cons l r_nil))) fine =
          let f = (both (ltb i (length ρ)) (ok p (length ρ) a && ok p (length ρ + 2) b) fine).1 in
          (a, record { rest = ys; reads = h; fine = (both (ok p (length ρ) a) (ok p (length ρ + 2) b) f).0 }, λ o y. (e_parts1 is y, omega arith))

  pub parts_node : (i k : ℕ) (v u : Tree) → HeadAt s at (Some (Parts i)) → EndsAt s (at + 2) k → nth ρ i ≡ some (node v u) → Leads s 1 (expr k m d (u ∷ v ∷ ρ) r) (expr at m d ρ r) (λ o. o)
  parts_node i k v u a z is p e w h = go (goes_at s at (Parts i) a h.reads) h.fine
    where
      go : {e : Expr} {x : List ℕ} → Goes (Parts i) (drop (at + 2) s) e x → T (ok p (length ρ) e) → (f : Expr) × Here s p (expr k m d (u ∷ v ∷ ρ) r) f × ((o : Outcome) (y : Eval p m d (u ∷ v ∷ ρ) f r o) → (x : Eval p m d ρ e r o) × (rules y + 1 ≤ rules x))
      go (g_parts {a = a} {b = b} (r_cons {ys = ys} h (r_cons {ys = zs} l r_nil))) fine =
          let f = (both (ltb i (length ρ)) (ok p (length ρ) a && ok p (length ρ + 2) b) fine).1 in
          let n : length ρ + 2 ≡ suc (suc (length ρ)) = omega arith in
          (b, record { rest = zs; reads = subst (λ (u : List ℕ). Reads u b zs) (z.ends a ys h) l; fine = subst (λ (n : ℕ). T (ok p n b)) n (both (ok p (length ρ) a) (ok p (length ρ + 2) b) f).1 }, λ o y. (e_parts2 v u is y, omega arith))

  pub bind_value : HeadAt s at (Some Bind) → Within s (expr (at + 1) inner d ρ r) (expr at m d ρ r)
  bind_value a p e q k = go (goes_at s at Bind a k.reads) k.fine
    where
      go : {e : Expr} {x : List ℕ} → Goes Bind (drop (at + 1) s) e x → T (ok p (length ρ) e) → (f : Expr) × Here s p (expr (at + 1) inner d ρ r) f × ((o : Outcome) (x : Eval p m d ρ e r o) → (q : Outcome) × (y : Eval p inner d ρ f r q) × (rules y < rules x))
      go (g_bind {a = a} {b = b} (r_cons {ys = ys} h (r_cons k r_nil))) fine = (a, record { rest = ys; reads = h; fine = (both (ok p (length ρ) a) (ok p (length ρ + 1) b) fine).0 }, λ o x. bind_first x)

  pub says_bind1 : (o : Outcome) → HeadAt s at (Some Bind) → Bad o → Says s (expr (at + 1) inner d ρ r) o → Says s (expr at m d ρ r) o
  says_bind1 o a bad says p e w h = go (goes_at s at Bind a h.reads) h.fine
    where
      go : {e : Expr} {x : List ℕ} → Goes Bind (drop (at + 1) s) e x → T (ok p (length ρ) e) → Eval p m d ρ e r o
      go (g_bind {a = a} {b = b} (r_cons {ys = ys} h (r_cons l r_nil))) fine = e_bind1 (says p a w (record { rest = ys; reads = h; fine = (both (ok p (length ρ) a) (ok p (length ρ + 1) b) fine).0 })) bad

  pub bind_rest : (k q : ℕ) (v : Tree) → HeadAt s at (Some Bind) → EndsAt s (at + 1) k → Says s (expr (at + 1) inner d ρ r) (val v q) → Leads s 1 (expr k m d (v ∷ ρ) q) (expr at m d ρ r) (λ o. o)
  bind_rest k q v a z says p e w h = go (goes_at s at Bind a h.reads) h.fine
    where
      go : {e : Expr} {x : List ℕ} → Goes Bind (drop (at + 1) s) e x → T (ok p (length ρ) e) → (f : Expr) × Here s p (expr k m d (v ∷ ρ) q) f × ((o : Outcome) (y : Eval p m d (v ∷ ρ) f q o) → (x : Eval p m d ρ e r o) × (rules y + 1 ≤ rules x))
      go (g_bind {a = a} {b = b} (r_cons {ys = ys} h (r_cons {ys = zs} l r_nil))) fine =
          let f = both (ok p (length ρ) a) (ok p (length ρ + 1) b) fine in
          let n : length ρ + 1 ≡ suc (length ρ) = omega arith in
          let x = says p a w (record { rest = ys; reads = h; fine = f.0 }) in
          (b, record { rest = zs; reads = subst (λ (u : List ℕ). Reads u b zs) (z.ends a ys h) l; fine = subst (λ (n : ℕ). T (ok p n b)) n f.1 }, λ o y. (e_bind x y, omega arith))

  pub call_args : (f n : ℕ) → HeadAt s at (Some (Call f n)) → Within s (list (at + 3) n d ρ r) (expr at m d ρ r)
  call_args f n a p e w h = go (goes_at s at (Call f n) a h.reads) h.fine
    where
      go : {e : Expr} {x : List ℕ} → Goes (Call f n) (drop (at + 3) s) e x → T (ok p (length ρ) e) → (es : Exprs) × Here s p (list (at + 3) n d ρ r) es × ((o : Outcome) (x : Eval p m d ρ e r o) → (q : Outcomes) × (y : EvalAll p d ρ es r q) × (rules_all y < rules x))
      go (g_call {zs = zs} {es = es} few h) fine = (es, record { rest = zs; reads = h; fine = (both (takes (nth p f) (count es)) (oks p (length ρ) es) fine).1 }, λ o x. call_first x)

  pub says_call1 : (f n : ℕ) (o : Outcome) → HeadAt s at (Some (Call f n)) → Says s (list (at + 3) n d ρ r) (no_vals o) → Says s (expr at m d ρ r) o
  says_call1 f n o a says p e w h = go (goes_at s at (Call f n) a h.reads) h.fine
    where
      go : {e : Expr} {x : List ℕ} → Goes (Call f n) (drop (at + 3) s) e x → T (ok p (length ρ) e) → Eval p m d ρ e r o
      go (g_call {zs = zs} {es = es} few h) fine = e_call1 (says p es w (record { rest = zs; reads = h; fine = (both (takes (nth p f) (count es)) (oks p (length ρ) es) fine).1 }))

-- a call's function, its body, and that the arguments are as many as it takes
pub taken : (p : Prog) (f n : ℕ) → T (takes (nth p f) n) → (g : Fun) × (nth p f ≡ some g) × (g.args ≡ n)
taken p f n h = go (nth p f) refl h
  where
    go : (o : Option Fun) → nth p f ≡ o → T (takes o n) → (g : Fun) × (nth p f ≡ some g) × (g.args ≡ n)
    go none e h = elim h [ ]
    go (some g) e h = (g, e, eqb→eq g.args n h)

body_fine : (p gs : List Fun) (f : ℕ) (g : Fun) → T (all_ok p gs) → nth gs f ≡ some g → T (ok p g.args g.body)
body_fine p [] f g h e = let z : ◌≡◌ {A = ℕ} 0 1 = cc in absurd (omega arith)
body_fine p (k ∷ gs) zero g h e = let i : k ≡ g = cc in subst (λ (k : Fun). T (ok p k.args k.body)) i (body_ok p k gs h).1
body_fine p (k ∷ gs) (suc f) g h e = body_fine p gs f g (body_ok p k gs h).2 e

all_length : {p : Prog} {d r q : ℕ} {ρ : List Tree} {es : Exprs} {ts : List Tree} → EvalAll p d ρ es r (vals ts q) → length ts ≡ count es
all_length a_nil = refl
all_length (a_cons x xs) = let e = all_length xs in omega arith

pub body_here : (s : List ℕ) (f k d q : ℕ) (ts : List Tree) → Body s f k → (p : Prog) (g : Fun) → Program s p → nth p f ≡ some g → length ts ≡ g.args → Here s p (expr k tail d ts q) g.body
body_here s f k d q ts b p g w is fits =
    let fine = (fine_parts s p w).2 in
    let o = body_fine p p f g fine is in
    let rest = drop (length (bytes_of_expr g.body)) (drop k s) in
    record { rest = rest; reads = subst (λ (u : List ℕ). Reads u g.body rest) (b p g w is) (reads_ok p fine g.args g.body rest o); fine = subst (λ (n : ℕ). T (ok p n g.body)) (sym fits) o }

module _ (s : List ℕ) (at d : ℕ) (ρ : List Tree) (r f n q : ℕ) (ts : List Tree) (a : HeadAt s at (Some (Call f n))) where
  pub says_call0 : Says s (list (at + 3) n 0 ρ r) (vals ts q) → Says s (expr at inner 0 ρ r) deep
  says_call0 says p e w h = go (goes_at s at (Call f n) a h.reads) h.fine
    where
      go : {e : Expr} {x : List ℕ} → Goes (Call f n) (drop (at + 3) s) e x → T (ok p (length ρ) e) → Eval p inner 0 ρ e r deep
      go (g_call {zs = zs} {es = es} few h) fine = e_call0 (says p es w (record { rest = zs; reads = h; fine = (both (takes (nth p f) (count es)) (oks p (length ρ) es) fine).1 }))

  pub call_tail : (k : ℕ) → Body s f k → Says s (list (at + 3) n d ρ r) (vals ts q) → Leads s 1 (expr k tail d ts q) (expr at tail d ρ r) (λ o. o)
  call_tail k b says p e w h = go (goes_at s at (Call f n) a h.reads) h.fine
    where
      go : {e : Expr} {x : List ℕ} → Goes (Call f n) (drop (at + 3) s) e x → T (ok p (length ρ) e) → (c : Expr) × Here s p (expr k tail d ts q) c × ((o : Outcome) (y : Eval p tail d ts c q o) → (x : Eval p tail d ρ e r o) × (rules y + 1 ≤ rules x))
      go (g_call {zs = zs} {es = es} few h) fine =
          let i = both (takes (nth p f) (count es)) (oks p (length ρ) es) fine in
          let xs = says p es w (record { rest = zs; reads = h; fine = i.1 }) in
          let g = taken p f (count es) i.0 in
          let fits : length ts ≡ g.0.args = all_length xs ∙ sym g.2 in
          (g.0.body, body_here s f k d q ts b p g.0 w g.1 fits, λ o y. (e_tail g.0 xs g.1 fits y, omega arith))

  pub call_inner : (k : ℕ) → Body s f k → Says s (list (at + 3) n (suc d) ρ r) (vals ts q) → Leads s 1 (expr k tail d ts q) (expr at inner (suc d) ρ r) (λ o. o)
  call_inner k b says p e w h = go (goes_at s at (Call f n) a h.reads) h.fine
    where
      go : {e : Expr} {x : List ℕ} → Goes (Call f n) (drop (at + 3) s) e x → T (ok p (length ρ) e) → (c : Expr) × Here s p (expr k tail d ts q) c × ((o : Outcome) (y : Eval p tail d ts c q o) → (x : Eval p inner (suc d) ρ e r o) × (rules y + 1 ≤ rules x))
      go (g_call {zs = zs} {es = es} few h) fine =
          let i = both (takes (nth p f) (count es)) (oks p (length ρ) es) fine in
          let xs = says p es w (record { rest = zs; reads = h; fine = i.1 }) in
          let g = taken p f (count es) i.0 in
          let fits : length ts ≡ g.0.args = all_length xs ∙ sym g.2 in
          (g.0.body, body_here s f k d q ts b p g.0 w g.1 fits, λ o y. (e_call g.0 xs g.1 fits y, omega arith))

-- a value before the others
abbrev pub prepend : List Tree → Outcomes → Outcomes
prepend vs (vals ts q) = vals (vs ++ ts) q
prepend vs (no_vals o) = no_vals o

module _ (s : List ℕ) (at d : ℕ) (ρ : List Tree) (r : ℕ) where
  pub says_none : Says s (list at 0 d ρ r) (vals [] r)
  says_none p es w h = go h.reads
    where
      go : {xs x : List ℕ} {es : Exprs} → ReadsAll 0 xs es x → EvalAll p d ρ es r (vals [] r)
      go r_nil = a_nil

  pub list_one : (n : ℕ) → Within s (expr at inner d ρ r) (list at (suc n) d ρ r)
  list_one n p es w h = go h.reads h.fine
    where
      go : {x : List ℕ} {es : Exprs} → ReadsAll (suc n) (drop at s) es x → T (oks p (length ρ) es) → (f : Expr) × Here s p (expr at inner d ρ r) f × ((o : Outcomes) (x : EvalAll p d ρ es r o) → (q : Outcome) × (y : Eval p inner d ρ f r q) × (rules y < rules_all x))
      go (r_cons {ys = ys} {e = e} {es = es} h k) fine = (e, record { rest = ys; reads = h; fine = (both (ok p (length ρ) e) (oks p (length ρ) es) fine).0 }, λ o x. list_first x)

  pub says_bad : (n : ℕ) (o : Outcome) → Bad o → Says s (expr at inner d ρ r) o → Says s (list at (suc n) d ρ r) (no_vals o)
  says_bad n o bad says p es w h = go h.reads h.fine
    where
      go : {x : List ℕ} {es : Exprs} → ReadsAll (suc n) (drop at s) es x → T (oks p (length ρ) es) → EvalAll p d ρ es r (no_vals o)
      go (r_cons {ys = ys} {e = e} {es = es} h k) fine = a_bad (says p e w (record { rest = ys; reads = h; fine = (both (ok p (length ρ) e) (oks p (length ρ) es) fine).0 })) bad

  pub list_rest : (n k q : ℕ) (v : Tree) → EndsAt s at k → Says s (expr at inner d ρ r) (val v q) → Leads s 1 (list k n d ρ q) (list at (suc n) d ρ r) (prepend (v ∷ []))
  list_rest n k q v z says p es w h = go h.reads h.fine
    where
      after : (e : Expr) (es : Exprs) → Eval p inner d ρ e r (val v q) → (o : Outcomes) (y : EvalAll p d ρ es q o) → (x : EvalAll p d ρ (cons e es) r (prepend (v ∷ []) o)) × (rules_all y + 1 ≤ rules_all x)
      after e es x (vals ts l) y = (a_cons x y, omega arith)
      after e es x (no_vals o) y = (a_rest x y, omega arith)

      go : {x : List ℕ} {es : Exprs} → ReadsAll (suc n) (drop at s) es x → T (oks p (length ρ) es) → (fs : Exprs) × Here s p (list k n d ρ q) fs × ((o : Outcomes) (y : EvalAll p d ρ fs q o) → (x : EvalAll p d ρ es r (prepend (v ∷ []) o)) × (rules_all y + 1 ≤ rules_all x))
      go (r_cons {ys = ys} {zs = zs} {e = e} {es = es} h l) fine =
          let f = both (ok p (length ρ) e) (oks p (length ρ) es) fine in
          let x = says p e w (record { rest = ys; reads = h; fine = f.0 }) in
          (es, record { rest = zs; reads = subst (λ (u : List ℕ). ReadsAll n u es zs) (z.ends e ys h) l; fine = f.1 }, after e es x)

-- a node is worked out alike inside and last
node_alike : {p : Prog} {m : Mode} {d r : ℕ} {ρ : List Tree} {a b : Expr} {o : Outcome} (m' : Mode) (x : Eval p m d ρ (a_node a b) r o) → (y : Eval p m' d ρ (a_node a b) r o) × (rules x + 0 ≤ rules y)
node_alike m' (e_node x y) = (e_node x y, omega arith)
node_alike m' (e_node1 x bad) = (e_node1 x bad, omega arith)
node_alike m' (e_node2 x y bad) = (e_node2 x y bad, omega arith)

pub node_mode : (s : List ℕ) (at : ℕ) (m m' : Mode) (d : ℕ) (ρ : List Tree) (r : ℕ) → HeadAt s at (Some Node) → Leads s 0 (expr at m d ρ r) (expr at m' d ρ r) (λ o. o)
node_mode s at m m' d ρ r a p e w h = go (goes_at s at Node a h.reads) h.reads h.fine
  where
    go : {e : Expr} {x : List ℕ} → Goes Node (drop (at + 1) s) e x → Reads (drop at s) e x → T (ok p (length ρ) e) → (f : Expr) × Here s p (expr at m d ρ r) f × ((o : Outcome) (y : Eval p m d ρ f r o) → (x : Eval p m' d ρ e r o) × (rules y + 0 ≤ rules x))
    go {x = x} (g_node {a = a} {b = b} l) reads fine = (a_node a b, record { rest = x; reads = reads; fine = fine }, λ o y. node_alike m' y)

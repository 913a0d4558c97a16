-- Bytes are the writing of one program at most, and of one list of trees at most.
use Rattle.std.proofs.Common.{◌≡◌, ℕ, zero, suc, ◌+◌, ◌≤◌, ◌&&◌, T, ltb, leb, List, [], ◌∷◌, ◌++◌, length, sym, refl, ap, ◌∙◌, subst, append_assoc, one-add, arith, eqb→eq, leb→le}
use Rattle.sizechange.specs.Graph.{nth}
use Rattle.lang.specs.Program.{Tree, leaf, node, Expr, var, a_leaf, a_node, parts, bind, call, Exprs, nil, cons, Fun, Prog, count, max_args, max_functions, max_bytes}
use Rattle.lang.specs.Bytes.{bytes_of_expr, bytes_of_exprs, bytes_of_prog, bytes_of_tree, bytes_of_trees, takes, ok, oks, all_ok, Program}
use Rattle.lang.specs.Reads.{Reads, ReadsAll, r_var, r_leaf, r_node, r_parts, r_bind, r_call, r_nil, r_cons}
use Rattle.lang.specs.Theorems.{OneProgram, OneList}
use Rattle.lang.proofs.Lists.{both}

-- reading is unambiguous
mutual
  pub reads_one : {xs ys zs : List ℕ} {e d : Expr} → Reads xs e ys → Reads xs d zs → (e ≡ d) × (ys ≡ zs)
  reads_one r_var r_var = (refl, refl)
  reads_one r_leaf r_leaf = (refl, refl)
  reads_one (r_node a b) (r_node {zs = zs} {b = v} c d) =
      let i = reads_one a c in
      let j = reads_one b (subst (λ u. Reads u v zs) (sym i.1) d) in
      (cc, j.1)
  reads_one (r_parts a b) (r_parts {zs = zs} {b = v} c d) =
      let i = reads_one a c in
      let j = reads_one b (subst (λ u. Reads u v zs) (sym i.1) d) in
      (cc, j.1)
  reads_one (r_bind a b) (r_bind {zs = zs} {b = v} c d) =
      let i = reads_one a c in
      let j = reads_one b (subst (λ u. Reads u v zs) (sym i.1) d) in
      (cc, j.1)
  reads_one (r_call h a) (r_call k c) = let i = reads_all_one a c in (cc, i.1)

  pub reads_all_one : {n : ℕ} {xs ys zs : List ℕ} {es ds : Exprs} → ReadsAll n xs es ys → ReadsAll n xs ds zs → (es ≡ ds) × (ys ≡ zs)
  reads_all_one r_nil r_nil = (refl, refl)
  reads_all_one (r_cons a b) (r_cons {k = n} {zs = zs} {es = v} c d) =
      let i = reads_one a c in
      let j = reads_all_one b (subst (λ u. ReadsAll n u v zs) (sym i.1) d) in
      (cc, j.1)

-- a function of a program takes at most max_args arguments
pub few_args : (p gs : List Fun) (f n : ℕ) → T (all_ok p gs) → T (takes (nth gs f) n) → n ≤ max_args
few_args p [] f n h t = elim t [ ]
few_args p (g ∷ gs) zero n h t = let e : g.args ≡ n = eqb→eq g.args n t in let l : g.args ≤ max_args = leb→le g.args max_args (both (leb g.args max_args) (ok p g.args g.body && all_ok p gs) h).0 in omega arith
few_args p (g ∷ gs) (suc f) n h t = few_args p gs f n (both (ok p g.args g.body) (all_ok p gs) (both (leb g.args max_args) (ok p g.args g.body && all_ok p gs) h).1).1 t

-- well-formed expressions are read back from their bytes
mutual
  pub reads_ok : (p : Prog) → T (all_ok p p) → (n : ℕ) (e : Expr) (x : List ℕ) → T (ok p n e) → Reads (bytes_of_expr e ++ x) e x
  reads_ok p h n (var i) x o = r_var
  reads_ok p h n a_leaf x o = r_leaf
  reads_ok p h n (a_node a b) x o = let oo = both (ok p n a) (ok p n b) o in rw append_assoc (r_node (reads_ok p h n a (bytes_of_expr b ++ x) oo.0) (reads_ok p h n b x oo.1))
  reads_ok p h n (parts i a b) x o = let o1 = both (ltb i n) (ok p n a && ok p (n + 2) b) o in let o2 = both (ok p n a) (ok p (n + 2) b) o1.1 in rw append_assoc (r_parts (reads_ok p h n a (bytes_of_expr b ++ x) o2.0) (reads_ok p h (n + 2) b x o2.1))
  reads_ok p h n (bind a b) x o = let oo = both (ok p n a) (ok p (n + 1) b) o in rw append_assoc (r_bind (reads_ok p h n a (bytes_of_expr b ++ x) oo.0) (reads_ok p h (n + 1) b x oo.1))
  reads_ok p h n (call f es) x o = let oo = both (takes (nth p f) (count es)) (oks p n es) o in r_call (few_args p p f (count es) h oo.0) (reads_all_ok p h n es x oo.1)

  pub reads_all_ok : (p : Prog) → T (all_ok p p) → (n : ℕ) (es : Exprs) (x : List ℕ) → T (oks p n es) → ReadsAll (count es) (bytes_of_exprs es ++ x) es x
  reads_all_ok p h n nil x o = r_nil
  reads_all_ok p h n (cons e es) x o = let oo = both (ok p n e) (oks p n es) o in rw (one-add, append_assoc) (r_cons (reads_ok p h n e (bytes_of_exprs es ++ x) oo.0) (reads_all_ok p h n es x oo.1))

-- what is read is what the bytes begin with
mutual
  pub reads_bytes : {xs ys : List ℕ} {e : Expr} → Reads xs e ys → bytes_of_expr e ++ ys ≡ xs
  reads_bytes r_var = refl
  reads_bytes r_leaf = refl
  reads_bytes (r_node {ys = ys} {zs = zs} {a = a} {b = b} h k) = let i = reads_bytes h in let j = reads_bytes k in rw append_assoc cc
  reads_bytes (r_parts {ys = ys} {zs = zs} {a = a} {b = b} h k) = let i = reads_bytes h in let j = reads_bytes k in rw append_assoc cc
  reads_bytes (r_bind {ys = ys} {zs = zs} {a = a} {b = b} h k) = let i = reads_bytes h in let j = reads_bytes k in rw append_assoc cc
  reads_bytes (r_call l h) = let i = reads_all_bytes h in cc (i.0, i.1)

  pub reads_all_bytes : {n : ℕ} {xs ys : List ℕ} {es : Exprs} → ReadsAll n xs es ys → (bytes_of_exprs es ++ ys ≡ xs) × (count es ≡ n)
  reads_all_bytes r_nil = (refl, refl)
  reads_all_bytes (r_cons h k) = let i = reads_bytes h in let j = reads_all_bytes k in (rw append_assoc (cc j.0), rw one-add (ap suc j.1))

-- expressions with the same bytes before something
pub same_start : (p q : Prog) → T (all_ok p p) → T (all_ok q q) → (m n : ℕ) (e d : Expr) (x y : List ℕ) → T (ok p m e) → T (ok q n d) → bytes_of_expr e ++ x ≡ bytes_of_expr d ++ y → (e ≡ d) × (x ≡ y)
same_start p q hp hq m n e d x y oe od eq = reads_one (reads_ok p hp m e x oe) (subst (λ u. Reads u d y) (sym eq) (reads_ok q hq n d y od))

pub body_ok : (p : Prog) (g : Fun) (gs : List Fun) → T (all_ok p (g ∷ gs)) → T (leb g.args max_args) × T (ok p g.args g.body) × T (all_ok p gs)
body_ok p g gs h = let a = both (leb g.args max_args) (ok p g.args g.body && all_ok p gs) h in let b = both (ok p g.args g.body) (all_ok p gs) a.1 in (a.0, b.0, b.1)

functions_one : (p q : Prog) → T (all_ok p p) → T (all_ok q q) → (gs ks : List Fun) → T (all_ok p gs) → T (all_ok q ks) → bytes_of_prog gs ≡ bytes_of_prog ks → gs ≡ ks
functions_one p q hp hq [] [] h k eq = refl
functions_one p q hp hq [] (l ∷ ks) h k eq = let z : ◌≡◌ {A = ℕ} 0 1 = cc in absurd (omega arith)
functions_one p q hp hq (g ∷ gs) [] h k eq = let z : ◌≡◌ {A = ℕ} 0 1 = cc in absurd (omega arith)
functions_one p q hp hq (g ∷ gs) (l ∷ ks) h k eq =
    let hg = body_ok p g gs h in
    let hl = body_ok q l ks k in
    let a : g.args ≡ l.args = cc in
    let t : bytes_of_expr g.body ++ bytes_of_prog gs ≡ bytes_of_expr l.body ++ bytes_of_prog ks = cc in
    let s = same_start p q hp hq g.args l.args g.body l.body (bytes_of_prog gs) (bytes_of_prog ks) hg.1 hl.1 t in
    let r = functions_one p q hp hq gs ks hg.2 hl.2 s.1 in
    let f : g ≡ l = λ i. record { args = a i; body = s.0 i } in
    cc

pub fine_parts : (s : List ℕ) (p : Prog) → Program s p → (length s ≤ max_bytes) × (length p ≤ max_functions) × T (all_ok p p)
fine_parts s p h = let a = both (leb (length s) max_bytes) (leb (length p) max_functions && all_ok p p) h.fine in let b = both (leb (length p) max_functions) (all_ok p p) a.1 in (leb→le (length s) max_bytes a.0, leb→le (length p) max_functions b.0, b.1)

pub one_program : OneProgram
one_program s p q h k = let a = (fine_parts s p h).2 in let b = (fine_parts s q k).2 in functions_one p q a b p q a b (let i = h.bytes in let j = k.bytes in cc)

tree_one : (t u : Tree) (x y : List ℕ) → bytes_of_tree t ++ x ≡ bytes_of_tree u ++ y → (t ≡ u) × (x ≡ y)
tree_one leaf leaf x y eq = (refl, cc)
tree_one leaf (node u v) x y eq = let z : ◌≡◌ {A = ℕ} 0 1 = cc in absurd (omega arith)
tree_one (node t s) leaf x y eq = let z : ◌≡◌ {A = ℕ} 0 1 = cc in absurd (omega arith)
tree_one (node t s) (node u v) x y eq =
    let e : (bytes_of_tree t ++ bytes_of_tree s) ++ x ≡ (bytes_of_tree u ++ bytes_of_tree v) ++ y = cc in
    let a = tree_one t u (bytes_of_tree s ++ x) (bytes_of_tree v ++ y) (sym (append_assoc (bytes_of_tree t) (bytes_of_tree s) x) ∙ e ∙ append_assoc (bytes_of_tree u) (bytes_of_tree v) y) in
    let b = tree_one s v x y a.1 in
    (cc (a.0, b.0), b.1)

pub one_list : OneList
one_list [] [] eq = refl
one_list [] (leaf ∷ us) eq = let z : ◌≡◌ {A = ℕ} 0 1 = cc in absurd (omega arith)
one_list [] (node u v ∷ us) eq = let z : ◌≡◌ {A = ℕ} 0 1 = cc in absurd (omega arith)
one_list (leaf ∷ ts) [] eq = let z : ◌≡◌ {A = ℕ} 0 1 = cc in absurd (omega arith)
one_list (node t s ∷ ts) [] eq = let z : ◌≡◌ {A = ℕ} 0 1 = cc in absurd (omega arith)
one_list (t ∷ ts) (u ∷ us) eq = let a = tree_one t u (bytes_of_trees ts) (bytes_of_trees us) eq in let b = one_list ts us a.1 in cc (a.0, b)

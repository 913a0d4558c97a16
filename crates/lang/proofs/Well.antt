-- The Boolean test of well-formedness, as the facts that it stands for.
use Rattle.std.proofs.Common.{◌≡◌, ℕ, zero, suc, ◌+◌, ◌<◌, ◌≤◌, ◌&&◌, T, ltb, leb, List, [], ◌∷◌, length, refl, subst, arith, eqb→eq, ltb→lt, leb→le}
use mathlib.Core.Option.{Option, some, none}
use Rattle.sizechange.specs.Graph.{nth}
use Rattle.lang.specs.Program.{Expr, var, a_leaf, a_node, parts, bind, call, Exprs, nil, cons, Fun, Prog, count, max_args}
use Rattle.lang.specs.Bytes.{takes, ok, oks, all_ok, Program}
use Rattle.sizechange.proofs.Lists.{nth_below}
use Rattle.lang.proofs.Lists.{both}

-- with n variables in view, every variable is in view, and every call is of a function that is there with as many arguments as it takes
abbrev mutual
  pub Well : Prog → ℕ → Expr → Type 0
  Well p n (var i) = i < n
  Well p n a_leaf = Unit
  Well p n (a_node a b) = Well p n a × Well p n b
  Well p n (parts i a b) = (i < n) × Well p n a × Well p (n + 2) b
  Well p n (bind a b) = Well p n a × Well p (n + 1) b
  Well p n (call f es) = (g : Fun) × (nth p f ≡ some g) × (g.args ≡ count es) × Wells p n es

  pub Wells : Prog → ℕ → Exprs → Type 0
  Wells p n nil = Unit
  Wells p n (cons e es) = Well p n e × Wells p n es

abbrev WellFun : Prog → Fun → Type 0
WellFun p g = (g.args ≤ max_args) × Well p g.args g.body

-- every function has a well-formed body and not too many arguments
abbrev pub WellProg : Prog → Type 0
WellProg p = (f : ℕ) (g : Fun) → nth p f ≡ some g → WellFun p g

taken : (x : Option Fun) (n : ℕ) → T (takes x n) → (g : Fun) × (x ≡ some g) × (g.args ≡ n)
taken none n h = absurd h
taken (some g) n h = (g, refl, eqb→eq g.args n h)

mutual
  pub well : (p : Prog) (n : ℕ) (e : Expr) → T (ok p n e) → Well p n e
  well p n (var i) h = ltb→lt i n h
  well p n a_leaf h = tt
  well p n (a_node a b) h = let k = both (ok p n a) (ok p n b) h in (well p n a k.0, well p n b k.1)
  well p n (parts i a b) h =
      let k = both (ltb i n) (ok p n a && ok p (n + 2) b) h in
      let l = both (ok p n a) (ok p (n + 2) b) k.1 in
      (ltb→lt i n k.0, well p n a l.0, well p (n + 2) b l.1)
  well p n (bind a b) h = let k = both (ok p n a) (ok p (n + 1) b) h in (well p n a k.0, well p (n + 1) b k.1)
  well p n (call f es) h =
      let k = both (takes (nth p f) (count es)) (oks p n es) h in
      let g = taken (nth p f) (count es) k.0 in
      (g.0, g.1, g.2, wells p n es k.1)

  pub wells : (p : Prog) (n : ℕ) (es : Exprs) → T (oks p n es) → Wells p n es
  wells p n nil h = tt
  wells p n (cons e es) h = let k = both (ok p n e) (oks p n es) h in (well p n e k.0, wells p n es k.1)

well_nth : (p gs : Prog) → T (all_ok p gs) → (f : ℕ) (g : Fun) → nth gs f ≡ some g → WellFun p g
well_nth p [] h f g e = absurd (omega (arith, nth_below [] f e))
well_nth p (x ∷ gs) h f g e =
    let k = both (leb x.args 8) (ok p x.args x.body && all_ok p gs) h in
    let l = both (ok p x.args x.body) (all_ok p gs) k.1 in
    go f e (leb→le x.args 8 k.0, well p x.args x.body l.0) (well_nth p gs l.1)
  where
    go : (i : ℕ) → nth (x ∷ gs) i ≡ some g → WellFun p x → ((j : ℕ) (y : Fun) → nth gs j ≡ some y → WellFun p y) → WellFun p g
    go zero e here rest = let is : x ≡ g = cc in subst (WellFun p) is here
    go (suc i) e here rest = rest i g e

pub well_program : (s : List ℕ) (p : Prog) → Program s p → WellProg p
well_program s p q =
    let k = both (leb (length s) 4096) (leb (length p) 64 && all_ok p p) q.fine in
    well_nth p p (both (leb (length p) 64) (all_ok p p) k.1).1

-- Expressions read from the left, one head at a time.
use Rattle.std.specs.Prelude.{ℕ, zero, suc, ◌≤◌, List, ◌∷◌}
use Rattle.lang.specs.Program.{Expr, var, a_leaf, a_node, parts, bind, call, Exprs, nil, cons, max_args}

-- Reads xs e ys: xs begins with the bytes of e, in which no call has more arguments than a function can take, and goes on with ys
mutual
  pub data Reads : List ℕ → Expr → List ℕ → Type 0 where
    r_var : {i : ℕ} {xs : List ℕ} → Reads (0 ∷ i ∷ xs) (var i) xs
    r_leaf : {xs : List ℕ} → Reads (1 ∷ xs) a_leaf xs
    r_node : {xs ys zs : List ℕ} {a b : Expr} → Reads xs a ys → Reads ys b zs → Reads (2 ∷ xs) (a_node a b) zs
    r_parts : {i : ℕ} {xs ys zs : List ℕ} {a b : Expr} → Reads xs a ys → Reads ys b zs → Reads (3 ∷ i ∷ xs) (parts i a b) zs
    r_bind : {xs ys zs : List ℕ} {a b : Expr} → Reads xs a ys → Reads ys b zs → Reads (4 ∷ xs) (bind a b) zs
    r_call : {f k : ℕ} {xs zs : List ℕ} {es : Exprs} → k ≤ max_args → ReadsAll k xs es zs → Reads (5 ∷ f ∷ k ∷ xs) (call f es) zs

  pub data ReadsAll : ℕ → List ℕ → Exprs → List ℕ → Type 0 where
    r_nil : {xs : List ℕ} → ReadsAll zero xs nil xs
    r_cons : {k : ℕ} {xs ys zs : List ℕ} {e : Expr} {es : Exprs} → Reads xs e ys → ReadsAll k ys es zs → ReadsAll (suc k) xs (cons e es) zs

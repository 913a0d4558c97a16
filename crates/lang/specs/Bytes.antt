-- Programs and trees as bytes, and which bytes are a program.
use Rattle.std.specs.Prelude.{◌≡◌, ℕ, ◌+◌, Bool, true, false, ◌&&◌, T, List, [], ◌∷◌, ◌++◌, length, ◌==◌, nat_le, nat_lt}
use Rattle.std.proofs.Math.Option.{Option, some, none}
use Rattle.sizechange.specs.Graph.{nth}
use Rattle.lang.specs.Program.{Tree, leaf, node, Expr, var, a_leaf, a_node, parts, bind, call, Exprs, nil, cons, Fun, Prog, count, max_args, max_functions, max_bytes}

-- an expression in prefix order
abbrev mutual
  pub bytes_of_expr : Expr → List ℕ
  bytes_of_expr (var i) = 0 ∷ i ∷ []
  bytes_of_expr a_leaf = 1 ∷ []
  bytes_of_expr (a_node a b) = 2 ∷ (bytes_of_expr a ++ bytes_of_expr b)
  bytes_of_expr (parts i a b) = 3 ∷ i ∷ (bytes_of_expr a ++ bytes_of_expr b)
  bytes_of_expr (bind a b) = 4 ∷ (bytes_of_expr a ++ bytes_of_expr b)
  bytes_of_expr (call f es) = 5 ∷ f ∷ count es ∷ bytes_of_exprs es

  pub bytes_of_exprs : Exprs → List ℕ
  bytes_of_exprs nil = []
  bytes_of_exprs (cons e es) = bytes_of_expr e ++ bytes_of_exprs es

-- functions one after the other, each its number of arguments and its body
abbrev pub bytes_of_prog : Prog → List ℕ
bytes_of_prog [] = []
bytes_of_prog (g ∷ gs) = g.args ∷ (bytes_of_expr g.body ++ bytes_of_prog gs)

-- a leaf is 0; a node is 1 and its two trees
abbrev pub bytes_of_tree : Tree → List ℕ
bytes_of_tree leaf = 0 ∷ []
bytes_of_tree (node t u) = 1 ∷ (bytes_of_tree t ++ bytes_of_tree u)

abbrev pub bytes_of_trees : List Tree → List ℕ
bytes_of_trees [] = []
bytes_of_trees (t ∷ ts) = bytes_of_tree t ++ bytes_of_trees ts

-- function f is there and takes n arguments
abbrev pub takes : Option Fun → ℕ → Bool
takes none n = false
takes (some g) n = g.args == n

-- with n variables in view, every variable is in view, and every call is of a function that is there with as many arguments as it takes
abbrev mutual
  pub ok : Prog → ℕ → Expr → Bool
  ok p n (var i) = nat_lt i n
  ok p n a_leaf = true
  ok p n (a_node a b) = ok p n a && ok p n b
  ok p n (parts i a b) = nat_lt i n && (ok p n a && ok p (n + 2) b)
  ok p n (bind a b) = ok p n a && ok p (n + 1) b
  ok p n (call f es) = takes (nth p f) (count es) && oks p n es

  pub oks : Prog → ℕ → Exprs → Bool
  oks p n nil = true
  oks p n (cons e es) = ok p n e && oks p n es

-- functions of at most 8 arguments whose bodies are well-formed in p
abbrev pub all_ok : Prog → List Fun → Bool
all_ok p [] = true
all_ok p (g ∷ gs) = nat_le g.args max_args && (ok p g.args g.body && all_ok p gs)

-- the bytes s are the program p: at most 4,096 bytes and 64 functions
pub record Program (s : List ℕ) (p : Prog) : Type 0 where
  pub bytes : bytes_of_prog p ≡ s
  pub fine : T (nat_le (length s) max_bytes && (nat_le (length p) max_functions && all_ok p p))

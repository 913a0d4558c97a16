-- First-order functions over binary trees.
use Rattle.std.specs.Prelude.{ℕ, ◌+◌, List}

pub data Tree : Type 0 where
  leaf : Tree
  node : Tree → Tree → Tree

-- An expression; variables are counted from the newest, 0.
-- parts x a b: a if x is a leaf; else b, in which variable 0 is the right part of x, 1 its left part, and the others are counted two further
-- bind a b: b, in which variable 0 is the value of a, and the others are counted one further
mutual
  pub data Expr : Type 0 where
    var : ℕ → Expr
    a_leaf : Expr
    a_node : Expr → Expr → Expr
    parts : ℕ → Expr → Expr → Expr
    bind : Expr → Expr → Expr
    call : ℕ → Exprs → Expr

  pub data Exprs : Type 0 where
    nil : Exprs
    cons : Expr → Exprs → Exprs

-- a function; at the start of its body variable 0 is the first argument, 1 the second, and so on
pub record Fun : Type 0 where
  pub args : ℕ
  pub body : Expr

-- functions are numbered from 0
abbrev pub Prog : Type 0
Prog = List Fun

abbrev pub count : Exprs → ℕ
count nil = 0
count (cons e es) = 1 + count es

-- the limits of a program
abbrev pub max_args : ℕ
max_args = 8

abbrev pub max_functions : ℕ
max_functions = 64

abbrev pub max_bytes : ℕ
max_bytes = 4096

-- What a tree is written as: `.` a leaf, `(l r)` a node, `[a b c]` a list, a decimal number that many nodes with a leaf to the left.
use Rattle.std.specs.Prelude.{ℕ, zero, suc, List, ◌∷◌}
use Rattle.lang.specs.Program.{Tree, leaf, node}
use Rattle.readable.specs.declared.tokens.Token.{Token}
use Rattle.readable.specs.declared.tokens.Token.TheVariants.{Dot, Open, Close, Begin, End, Number}

mutual
  pub data Syntax : Type 0 where
    dot : Syntax
    number : ℕ → Syntax
    pair : Syntax → Syntax → Syntax
    list : Items → Syntax

  pub data Items : Type 0 where
    empty : Items
    item : Syntax → Items → Items

-- n nodes that lean to the right, each with a leaf to the left
abbrev pub numeral : ℕ → Tree
numeral zero = leaf
numeral (suc n) = node leaf (numeral n)

-- the tree meant: a list's nodes have its elements to the left, and it ends in a leaf
abbrev mutual
  pub tree_of : Syntax → Tree
  tree_of dot = leaf
  tree_of (number n) = numeral n
  tree_of (pair a b) = node (tree_of a) (tree_of b)
  tree_of (list is) = tree_of_all is

  pub tree_of_all : Items → Tree
  tree_of_all empty = leaf
  tree_of_all (item a is) = node (tree_of a) (tree_of_all is)

-- the tokens that it is written with, and then others
abbrev mutual
  pub tokens : Syntax → List Token → List Token
  tokens dot ks = Dot ∷ ks
  tokens (number n) ks = Number n ∷ ks
  tokens (pair a b) ks = Open ∷ tokens a (tokens b (Close ∷ ks))
  tokens (list is) ks = Begin ∷ tokens_all is ks

  pub tokens_all : Items → List Token → List Token
  tokens_all empty ks = End ∷ ks
  tokens_all (item a is) ks = tokens a (tokens_all is ks)

-- What a tree is shown as.
use Rattle.std.specs.Prelude.{◌≡◌, ℕ, zero, suc, ◌+◌, ◌<◌, ◌≤◌, ◌⊎◌, List, [], ◌∷◌, ◌++◌, map, length, take, Some, None, Option}
use Rattle.std.specs.Int.Digits.{digits_of}
use Rattle.lang.specs.Program.{Tree, leaf, node}
use Rattle.lang.specs.Bytes.{bytes_of_tree}
use Rattle.readable.specs.Text.{Stands}
use Rattle.readable.specs.Syntax.{Syntax, dot, number, pair, list, Items, empty, item}

-- the number that a tree is, if it is one
abbrev pub after : Option ℕ → Option ℕ
after None = None
after (Some n) = Some (suc n)

abbrev pub as_number : Tree → Option ℕ
as_number leaf = Some 0
as_number (node leaf r) = after (as_number r)
as_number (node (node a b) r) = None

-- a number; a pair whose second is a number from 2 on; or else a list: whether the node is a number, whether its right part is, its left part, and the list of its right part
abbrev pub pick_node : Option ℕ → Option ℕ → Syntax → Items → Syntax
pick_node (Some n) m a is = number n
pick_node None None a is = list (item a is)
pick_node None (Some zero) a is = list (item a is)
pick_node None (Some (suc zero)) a is = list (item a is)
pick_node None (Some (suc (suc m))) a is = pair a (number (suc (suc m)))

abbrev mutual
  pub pick : Tree → Syntax
  pick leaf = dot
  pick (node l r) = pick_node (as_number (node l r)) (as_number r) (pick l) (pick_all r)

  pub pick_all : Tree → Items
  pick_all leaf = empty
  pick_all (node l r) = item (pick l) (pick_all r)

-- the decimal digits of a number
abbrev pub decimal : ℕ → List ℕ
decimal zero = 48 ∷ []
decimal (suc n) = map (λ d. 48 + d) (digits_of 10 (suc n))

-- the text of a syntax, one space between items, and then another text
abbrev mutual
  pub text : Syntax → List ℕ → List ℕ
  text dot x = 46 ∷ x
  text (number n) x = decimal n ++ x
  text (pair a b) x = 40 ∷ text a (32 ∷ text b (41 ∷ x))
  text (list is) x = 91 ∷ text_all is x

  pub text_all : Items → List ℕ → List ℕ
  text_all empty x = 93 ∷ x
  text_all (item a is) x = text a (text_rest is x)

  pub text_rest : Items → List ℕ → List ℕ
  text_rest empty x = 93 ∷ x
  text_rest (item a is) x = 32 ∷ text a (text_rest is x)

abbrev pub shown : Tree → List ℕ
shown t = text (pick t) []

-- the first k bytes are what the tree is shown as, a text that stands for it and for no other
pub record Shows (t : Tree) (out : List ℕ) (k : ℕ) : Type 0 where
  pub within : k ≤ length out
  pub text_is : take k out ≡ shown t
  pub stands : Stands (take k out) t
  pub only : (u : Tree) → Stands (take k out) u → u ≡ t

-- the memory for the tree's text, for what reading that text needs, or for the tree's bytes is too short
abbrev pub TooShort : Tree → ℕ → ℕ → ℕ → Type 0
TooShort t text symbols out = (text < length (shown t)) ⊎ ((symbols < length (shown t) + 2) ⊎ (out < length (bytes_of_tree t)))

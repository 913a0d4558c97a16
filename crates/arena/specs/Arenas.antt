-- An arena: nodes in lent words, of which some are used, and a limit to how many are.
use Rattle.std.specs.Prelude.{◌≡◌, ℕ, ◌+◌, ◌<◌, List}
use Rattle.lang.specs.Program.{node}
use Rattle.arena.specs.Nodes.{tree, Grown}
use Rattle.arena.specs.declared.nodes.Arena.{Arena}

abbrev pub words : Arena → List ℕ
words a = a.nodes.now

-- no node was made: all the room is used, and nothing has changed
pub record Full (a a' : Arena) : Type 0 where
  pub full : a.used ≡ a.limit
  pub used : a'.used ≡ a.used
  pub same : words a' ≡ words a

-- number n, the newest, is a node of the trees of l and r
pub record Made (a a' : Arena) (l r n : ℕ) : Type 0 where
  pub room : a.used < a.limit
  pub number : n ≡ a.used + 1
  pub used : a'.used ≡ a.used + 1
  pub grown : Grown (words a) a.used (words a') a'.used
  pub made : tree (words a') n ≡ node (tree (words a) l) (tree (words a) r)

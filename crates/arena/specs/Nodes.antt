-- Trees in words: node n ≥ 1 has the number of its left part at 2(n - 1) and that of its right part at 2(n - 1) + 1; number 0 is the leaf.
use Rattle.std.specs.Prelude.{◌≡◌, ℕ, zero, suc, ◌+◌, ◌*◌, ◌^◌, ◌<◌, ◌≤◌, List, [], ◌∷◌, length, slice_index}
use Rattle.lang.specs.Program.{Tree, leaf, node}

-- the tree of number n down to a depth, below which all is leaves
unfoldable pub tree_within : List ℕ → ℕ → ℕ → Tree
tree_within ws zero n = leaf
tree_within ws (suc d) zero = leaf
tree_within ws (suc d) (suc k) = node (tree_within ws d (slice_index ws (2 * k))) (tree_within ws d (slice_index ws (2 * k + 1)))

-- the tree of number n: where the parts of every node have smaller numbers than it, no tree is deeper than its number
unfoldable pub tree : List ℕ → ℕ → Tree
tree ws n = tree_within ws n n

-- nodes 1 to used stand in the words, and the parts of each have smaller numbers than it
pub record Sound (ws : List ℕ) (used : ℕ) : Type 0 where
  pub there : 2 * used ≤ length ws
  pub left : (k : ℕ) → k < used → slice_index ws (2 * k) ≤ k
  pub right : (k : ℕ) → k < used → slice_index ws (2 * k + 1) ≤ k

-- number n is a node, and these are the numbers of its parts
pub record Parts (ws : List ℕ) (n l r : ℕ) : Type 0 where
  pub whole : tree ws n ≡ node (tree ws l) (tree ws r)
  pub left : l < n
  pub right : r < n

-- the nodes have grown, and every older number keeps its tree
pub record Grown (ws : List ℕ) (used : ℕ) (ws' : List ℕ) (used' : ℕ) : Type 0 where
  pub long : length ws' ≡ length ws
  pub more : used ≤ used'
  pub sound : Sound ws' used'
  pub kept : (n : ℕ) → n ≤ used → tree ws' n ≡ tree ws n

-- the trees of the first n numbers of a stack, the newest, which is the last, first
unfoldable pub env : List ℕ → List ℕ → ℕ → List Tree
env ws st zero = []
env ws st (suc n) = tree ws (slice_index st n) ∷ env ws st n

-- the trees of a stack of n numbers whose newest is held apart
unfoldable pub forest : List ℕ → List ℕ → ℕ → ℕ → List Tree
forest ws st top zero = []
forest ws st top (suc n) = tree ws top ∷ env ws st n

-- the parts of a tree; a leaf has none, and stands for them
abbrev pub left_of : Tree → Tree
left_of leaf = leaf
left_of (node t u) = t

abbrev pub right_of : Tree → Tree
right_of leaf = leaf
right_of (node t u) = u

abbrev pub IsNode : Tree → Type 0
IsNode t = t ≡ node (left_of t) (right_of t)

-- some nodes are used, and there are words and numbers for as many as the limit says
pub record Well (ws : List ℕ) (used limit : ℕ) : Type 0 where
  pub sound : Sound ws used
  pub under : used ≤ limit
  pub room : 2 * limit ≤ length ws
  pub numbered : limit < 2 ^ 32

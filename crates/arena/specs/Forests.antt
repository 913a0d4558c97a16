-- What it is to read trees from bytes, and to write one as bytes.
use Rattle.std.specs.Prelude.{◌≡◌, ℕ, ◌<◌, ◌≤◌, List, length, take, drop, ◌≢◌, slice_index}
use Rattle.lang.specs.Program.{Tree}
use Rattle.lang.specs.Bytes.{bytes_of_tree, bytes_of_trees}
use Rattle.arena.specs.Nodes.{Sound, env}

-- the bytes are those of the trees whose numbers stand at the beginning of a stack
pub record Read (bytes : List ℕ) (wanted : ℕ) (ws : List ℕ) (used : ℕ) (st : List ℕ) : Type 0 where
  pub sound : Sound ws used
  pub few : used ≤ length bytes
  pub fits : wanted ≤ length bytes
  pub there : (j : ℕ) → j < wanted → slice_index st j ≤ used
  pub trees : bytes_of_trees (env ws st wanted) ≡ bytes

-- the bytes are not those of so many trees
abbrev pub NoTrees : List ℕ → ℕ → Type 0
NoTrees bytes wanted = (ts : List Tree) → length ts ≡ wanted → bytes_of_trees ts ≢ bytes

-- the first k bytes of out are now those of the tree, and the others are as they were
pub record Written (t : Tree) (out out' : List ℕ) (k : ℕ) : Type 0 where
  pub size : k ≡ length (bytes_of_tree t)
  pub bytes : take k out' ≡ bytes_of_tree t
  pub others : drop k out' ≡ drop k out

-- the tree's bytes do not fit, and nothing was written
pub record Unwritten (t : Tree) (out out' : List ℕ) : Type 0 where
  pub small : length out < length (bytes_of_tree t)
  pub same : out' ≡ out

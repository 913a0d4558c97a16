-- Counting the nodes of trees: one node, from the trees whose numbers are on a stack.
use Rattle.std.proofs.Common.{◌≡◌, ℕ, zero, suc, ◌+◌, ◌-◌, ◌*◌, ◌<◌, ◌≤◌, min, ◌≢◌, List, [], ◌∷◌, length, get_or, set, sym, refl, ap, ◌∙◌, ⊎_elim, arith, length-append, get_or-set_other, get_or-set_same}
use Rattle.std.proofs.lemmas.Bool.{cases_eq}
use Rattle.lang.specs.Program.{Tree, leaf, node}
use Rattle.lang.specs.Bytes.{bytes_of_tree}
use Rattle.arena.specs.Nodes.{tree, Sound, Parts, env, forest}
use Rattle.arena.proofs.Trees.{leaf_zero, tree_parts}
use Rattle.arena.proofs.Stacks.{env_above, env_more}

abbrev pub nodes_of_tree : Tree → ℕ
nodes_of_tree leaf = 0
nodes_of_tree (node t u) = 1 + (nodes_of_tree t + nodes_of_tree u)

abbrev pub nodes_of_trees : List Tree → ℕ
nodes_of_trees [] = 0
nodes_of_trees (t ∷ ts) = nodes_of_tree t + nodes_of_trees ts

-- a tree has a byte for each node, and one more leaf than nodes
pub two_each : (t : Tree) → length (bytes_of_tree t) ≡ 2 * nodes_of_tree t + 1
two_each leaf = refl
two_each (node t u) = omega (arith, length-append (bytes_of_tree t) (bytes_of_tree u), two_each t, two_each u)

-- the numbers to come are nodes', and the higher they stand the smaller they are
pub record Counting (st : List ℕ) (high top height : ℕ) : Type 0 where
  pub node : 0 < height → 0 < top
  pub room : 0 < height → top + height ≤ high + 1
  pub nodes : (j : ℕ) → j + 1 < height → 0 < get_or st j 0
  pub rooms : (j : ℕ) → j + 1 < height → get_or st j 0 + j ≤ high

pub counting : (st : List ℕ) (n : ℕ) → 0 < n → Counting st n n 1
counting st n some = record { node = λ _. some; room = λ _. omega arith; nodes = λ j h. absurd (omega arith); rooms = λ j h. absurd (omega arith) }

forest_nodes : (ws st : List ℕ) (top height : ℕ) → 0 < height → nodes_of_trees (forest ws st top height) ≡ nodes_of_tree (tree ws top) + nodes_of_trees (env ws st (height - 1))
unfolding forest
forest_nodes ws st top zero h = absurd (omega arith)
forest_nodes ws st top (suc n) h = let e : suc n - 1 ≡ n = omega arith in ap (λ k. nodes_of_tree (tree ws top) + nodes_of_trees (env ws st k)) (sym e)

env_nodes : (ws st : List ℕ) (n : ℕ) → 0 < n → nodes_of_trees (env ws st n) ≡ nodes_of_tree (tree ws (get_or st (n - 1) 0)) + nodes_of_trees (env ws st (n - 1))
unfolding env
env_nodes ws st zero h = absurd (omega arith)
env_nodes ws st (suc n) h = let e : suc n - 1 ≡ n = omega arith in ap (λ k. nodes_of_tree (tree ws (get_or st k 0)) + nodes_of_trees (env ws st k)) (sym e)

env_none : (ws st : List ℕ) → nodes_of_trees (env ws st (1 - 1)) ≡ 0
unfolding env
env_none ws st = refl

kept_nodes : (ws st : List ℕ) (n r : ℕ) → n < length st → nodes_of_trees (env ws (set st n r) (suc n)) ≡ nodes_of_tree (tree ws r) + nodes_of_trees (env ws st n)
unfolding forest
kept_nodes ws st n r fits = ap nodes_of_trees (env_more ws st n r fits)

pub none : (ws st : List ℕ) (top height : ℕ) → height ≤ 0 → nodes_of_trees (forest ws st top height) ≡ 0
unfolding forest
none ws st top height h = let e : height ≡ 0 = omega arith in ap (λ n. nodes_of_trees (forest ws st top n)) e

pub leaf_nodes : (ws : List ℕ) (n : ℕ) → n ≡ 0 → nodes_of_tree (tree ws n) ≡ 0
leaf_nodes ws n e = ap (λ k. nodes_of_tree (tree ws k)) e ∙ ap nodes_of_tree (leaf_zero ws)

pub start_nodes : (ws st : List ℕ) (n : ℕ) → nodes_of_trees (forest ws st n 1) ≡ nodes_of_tree (tree ws n)
unfolding forest env
start_nodes ws st n = omega arith

pub some_nodes : (ws st : List ℕ) (high top height : ℕ) → Sound ws high → Counting st high top height → 0 < height → 0 < nodes_of_trees (forest ws st top height)
some_nodes ws st high top height sound c some =
    let p = tree_parts ws high sound top (c.node some) (omega (arith, c.room some)) in
    omega (arith, forest_nodes ws st top height some, ap nodes_of_tree p.whole)

-- a node is counted, and the rest is to come
abbrev Counted : List ℕ → List ℕ → ℕ → ℕ → ℕ → List ℕ → ℕ → ℕ → Type 0
Counted ws st high top height st' top' height' = record { counting : Counting st' high top' height'; less : nodes_of_trees (forest ws st top height) ≡ 1 + nodes_of_trees (forest ws st' top' height') }

module _ (ws st : List ℕ) (high top height : ℕ) (long : high ≤ length st) (c : Counting st high top height) (some : 0 < height) (l r : ℕ) (p : Parts ws top l r) where
  abbrev kept : List ℕ
  kept = set st (height - 1) r

  whole : nodes_of_trees (forest ws st top height) ≡ 1 + (nodes_of_tree (tree ws l) + nodes_of_tree (tree ws r)) + nodes_of_trees (env ws st (height - 1))
  whole = forest_nodes ws st top height some ∙ ap (λ t. nodes_of_tree t + nodes_of_trees (env ws st (height - 1))) p.whole

  other : (j : ℕ) → j + 1 < height → get_or kept j 0 ≡ get_or st j 0
  other j h = let n : j ≢ height - 1 = omega arith in get_or-set_other st (height - 1) j r 0 n

  -- both parts are nodes: the right one is kept for later
  two_parts : (top' height' : ℕ) → 0 < l → 0 < r → top' ≡ l → height' ≡ height + 1 → Counted ws st high top height kept top' height'
  two_parts top' height' some_l some_r is more =
      let fits : height - 1 < length st = omega (arith, c.room some, c.node some) in
      let here : get_or kept (height - 1) 0 ≡ r = get_or-set_same st (height - 1) r 0 fits in
      let e : height' - 1 ≡ suc (height - 1) = omega arith in
      record {
        counting = record {
          node = λ _. omega arith;
          room = λ _. omega (arith, c.room some, p.left);
          nodes = λ j h. ⊎_elim (λ same. omega (arith, ap (λ i. get_or kept i 0) same)) (λ n. omega (arith, other j (omega arith), c.nodes j (omega arith))) (cases_eq j (height - 1));
          rooms = λ j h. ⊎_elim (λ same. omega (arith, ap (λ i. get_or kept i 0) same, c.room some, p.right)) (λ n. omega (arith, other j (omega arith), c.rooms j (omega arith))) (cases_eq j (height - 1));
        };
        less = omega (arith, whole, forest_nodes ws kept top' height' (omega arith), ap (λ n. nodes_of_tree (tree ws n)) is, ap (λ n. nodes_of_trees (env ws kept n)) e, kept_nodes ws st (height - 1) r fits);
      }

  -- one part is a node
  one_part : (top' height' : ℕ) → 0 < top' → top' < top → nodes_of_tree (tree ws top') ≡ nodes_of_tree (tree ws l) + nodes_of_tree (tree ws r) → height' ≡ height → Counted ws st high top height kept top' height'
  one_part top' height' some' small is same =
      let e : height' - 1 ≡ height - 1 = omega arith in
      record {
        counting = record {
          node = λ _. some';
          room = λ _. omega (arith, c.room some);
          nodes = λ j h. omega (arith, other j (omega arith), c.nodes j (omega arith));
          rooms = λ j h. omega (arith, other j (omega arith), c.rooms j (omega arith));
        };
        less = omega (arith, whole, forest_nodes ws kept top' height' (omega arith), is, ap (λ n. nodes_of_trees (env ws kept n)) e, ap nodes_of_trees (env_above ws st (height - 1) r (height - 1) (omega arith)));
      }

  -- no part is a node: back to the newest of those kept, if there is one
  no_part : (top' height' below : ℕ) → l ≡ 0 → r ≡ 0 → (2 ≤ height → below ≡ get_or st (height - 1 - 1) 0) → top' ≡ below → height' ≡ height - 1 → Counted ws st high top height kept top' height'
  no_part top' height' below no_l no_r newest is less = record {
    counting = record {
      node = λ h. omega (arith, newest (omega arith), c.nodes (height - 1 - 1) (omega arith));
      room = λ h. omega (arith, newest (omega arith), c.rooms (height - 1 - 1) (omega arith));
      nodes = λ j h. omega (arith, other j (omega arith), c.nodes j (omega arith));
      rooms = λ j h. omega (arith, other j (omega arith), c.rooms j (omega arith));
    };
    less = ⊎_elim
        (λ e. omega (arith, whole, leaf_nodes ws l no_l, leaf_nodes ws r no_r, none ws kept top' height' (omega arith), ap (λ n. nodes_of_trees (env ws st (n - 1))) e, env_none ws st))
        (λ n. let two : 2 ≤ height = omega arith in let e : height' - 1 ≡ height - 1 - 1 = omega arith in omega (arith, whole, leaf_nodes ws l no_l, leaf_nodes ws r no_r, forest_nodes ws kept top' height' (omega arith), ap (λ n. nodes_of_tree (tree ws n)) (is ∙ newest two), ap (λ n. nodes_of_trees (env ws kept n)) e, ap nodes_of_trees (env_above ws st (height - 1) r (height - 1 - 1) (omega arith)), env_nodes ws st (height - 1) (omega arith)))
        (cases_eq height 1);
  }

  -- the next number is the left part's, the right part's or the newest of those kept: the first that is a node's
  pub counted : (next top' height' below : ℕ) → (r ≡ 0 → next ≡ below) → (0 < r → next ≡ r) → (l ≡ 0 → top' ≡ next) → (0 < l → top' ≡ l) → (2 ≤ height → below ≡ get_or st (height - 1 - 1) 0) → height' ≡ height + min l 1 + min r 1 - 1 → Counted ws st high top height kept top' height'
  counted next top' height' below no_right right no_left left newest h' =
      ⊎_elim
      (λ no_l. ⊎_elim
      (λ no_r. no_part top' height' below no_l no_r newest (no_left no_l ∙ no_right no_r) (grind arith))
      (λ some_r. let e = no_left no_l ∙ right (omega arith) in one_part top' height' (omega arith) (omega (arith, p.right)) (omega (arith, leaf_nodes ws l no_l, ap (λ n. nodes_of_tree (tree ws n)) e)) (grind arith))
      (cases_eq r 0))
      (λ some_l. let e = left (omega arith) in ⊎_elim
      (λ no_r. one_part top' height' (omega arith) (omega (arith, p.left)) (omega (arith, leaf_nodes ws r no_r, ap (λ n. nodes_of_tree (tree ws n)) e)) (grind arith))
      (λ some_r. two_parts top' height' (omega arith) (omega arith) e (grind arith))
      (cases_eq r 0))
      (cases_eq l 0)

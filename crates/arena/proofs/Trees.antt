-- The trees that numbers stand for.
use Rattle.std.proofs.Common.{◌≡◌, ℕ, zero, suc, ◌+◌, ◌-◌, ◌*◌, ◌<◌, ◌≤◌, ◌≢◌, List, length, get_or, set, sym, refl, ap, ◌∙◌, subst, ap₂, arith, length-set, get_or-set_other, get_or-set_same, below_more}
use Rattle.lang.specs.Program.{Tree, leaf, node}
use Rattle.arena.specs.Nodes.{tree_within, tree, Sound, Grown, Parts, left_of, right_of, IsNode}

pub sound_below : (ws : List ℕ) (used n : ℕ) → Sound ws used → n ≤ used → Sound ws n
sound_below ws used n s h = record { there = omega (arith, s.there); left = λ k l. s.left k (omega arith); right = λ k l. s.right k (omega arith) }

-- any depth from the number on is enough
enough : (ws : List ℕ) (used : ℕ) → Sound ws used → (d e n : ℕ) → n ≤ d → n ≤ e → n ≤ used → tree_within ws d n ≡ tree_within ws e n
unfolding tree_within
enough ws used s zero zero n hd he hu = refl
enough ws used s zero (suc e) zero hd he hu = refl
enough ws used s zero (suc e) (suc k) hd he hu = absurd (omega arith)
enough ws used s (suc d) zero zero hd he hu = refl
enough ws used s (suc d) zero (suc k) hd he hu = absurd (omega arith)
enough ws used s (suc d) (suc e) zero hd he hu = refl
enough ws used s (suc d) (suc e) (suc k) hd he hu =
    let l = s.left k (omega arith) in
    let r = s.right k (omega arith) in
    ap₂ node (enough ws used s d e (get_or ws (2 * k) 0) (omega arith) (omega arith) (omega arith)) (enough ws used s d e (get_or ws (2 * k + 1) 0) (omega arith) (omega arith) (omega arith))

pub leaf_zero : (ws : List ℕ) → tree ws 0 ≡ leaf
unfolding tree tree_within
leaf_zero ws = refl

-- a node and its parts
pub tree_node : (ws : List ℕ) (used : ℕ) → Sound ws used → (k : ℕ) → k < used → tree ws (suc k) ≡ node (tree ws (get_or ws (2 * k) 0)) (tree ws (get_or ws (2 * k + 1) 0))
unfolding tree tree_within
tree_node ws used s k h =
    let l = s.left k h in
    let r = s.right k h in
    ap₂ node (enough ws used s k (get_or ws (2 * k) 0) (get_or ws (2 * k) 0) (omega arith) (omega arith) (omega arith)) (enough ws used s k (get_or ws (2 * k + 1) 0) (get_or ws (2 * k + 1) 0) (omega arith) (omega arith) (omega arith))

-- the same by a node's number
pub tree_parts : (ws : List ℕ) (used : ℕ) → Sound ws used → (n : ℕ) → 0 < n → n ≤ used → Parts ws n (get_or ws (2 * (n - 1)) 0) (get_or ws (2 * (n - 1) + 1) 0)
tree_parts ws used s zero h le = absurd (omega arith)
tree_parts ws used s (suc k) h le =
    let e : suc k - 1 ≡ k = omega arith in
    subst (λ (i : ℕ). Parts ws (suc k) (get_or ws (2 * i) 0) (get_or ws (2 * i + 1) 0)) (sym e)
    (record { whole = tree_node ws used s k le; left = omega (arith, s.left k le); right = omega (arith, s.right k le) })

pub is_node : (t u v : Tree) → t ≡ node u v → IsNode t
is_node t u v e = e ∙ ap₂ (λ a b. node (left_of a) (right_of b)) (sym e) (sym e)

-- words that agree on the nodes have the same trees
alike : (ws ws' : List ℕ) (used : ℕ) → Sound ws used → ((i : ℕ) → i < 2 * used → get_or ws' i 0 ≡ get_or ws i 0) → (d n : ℕ) → n ≤ used → tree_within ws' d n ≡ tree_within ws d n
unfolding tree_within
alike ws ws' used s same zero n h = refl
alike ws ws' used s same (suc d) zero h = refl
alike ws ws' used s same (suc d) (suc k) h =
    let l = s.left k (omega arith) in
    let r = s.right k (omega arith) in
    ap₂ node
    (ap (tree_within ws' d) (same (2 * k) (omega arith)) ∙ alike ws ws' used s same d (get_or ws (2 * k) 0) (omega arith))
    (ap (tree_within ws' d) (same (2 * k + 1) (omega arith)) ∙ alike ws ws' used s same d (get_or ws (2 * k + 1) 0) (omega arith))

-- two words behind the nodes that are used
module _ (ws : List ℕ) (used l r : ℕ) where
  abbrev pub put : List ℕ
  put = set (set ws (2 * used) l) (2 * used + 1) r

  put_long : length put ≡ length ws
  put_long = length-set (set ws (2 * used) l) (2 * used + 1) r ∙ length-set ws (2 * used) l

  put_old : (i : ℕ) → i < 2 * used → get_or put i 0 ≡ get_or ws i 0
  put_old i h =
      let a : i ≢ 2 * used + 1 = omega arith in
      let b : i ≢ 2 * used = omega arith in
      get_or-set_other (set ws (2 * used) l) (2 * used + 1) i r 0 a ∙ get_or-set_other ws (2 * used) i l 0 b

  module _ (s : Sound ws used) where
    -- they do not matter to those nodes
    pub put_behind : Grown ws used put used
    unfolding tree
    put_behind = record {
      long = put_long;
      more = omega arith;
      sound = record {
        there = omega (arith, put_long, s.there);
        left = λ k h. omega (arith, put_old (2 * k) (omega arith), s.left k h);
        right = λ k h. omega (arith, put_old (2 * k + 1) (omega arith), s.right k h);
      };
      kept = λ n h. alike ws put used s put_old n n h;
    }

    -- and are a node more, if they are numbers of older trees
    module _ (fits : 2 * used + 2 ≤ length ws) (l≤ : l ≤ used) (r≤ : r ≤ used) where
      put_left : get_or put (2 * used) 0 ≡ l
      put_left =
          let a : 2 * used ≢ 2 * used + 1 = omega arith in
          get_or-set_other (set ws (2 * used) l) (2 * used + 1) (2 * used) r 0 a ∙ get_or-set_same ws (2 * used) l 0 (omega arith)

      put_right : get_or put (2 * used + 1) 0 ≡ r
      put_right = get_or-set_same (set ws (2 * used) l) (2 * used + 1) r 0 (omega (arith, length-set ws (2 * used) l))

      put_sound : Sound put (used + 1)
      put_sound = record {
        there = omega (arith, put_long);
        left = below_more (λ k. get_or put (2 * k) 0 ≤ k) used put_behind.sound.left (omega (arith, put_left));
        right = below_more (λ k. get_or put (2 * k + 1) 0 ≤ k) used put_behind.sound.right (omega (arith, put_right));
      }

      pub put_grown : Grown ws used put (used + 1)
      put_grown = record { long = put_long; more = omega arith; sound = put_sound; kept = put_behind.kept }

      pub put_tree : tree put (used + 1) ≡ node (tree ws l) (tree ws r)
      put_tree =
          let e : used + 1 ≡ suc used = omega arith in
          ap (tree put) e ∙ tree_node put (used + 1) put_sound used (omega arith)
          ∙ ap₂ (λ a b. node (tree put a) (tree put b)) put_left put_right
          ∙ ap₂ node (put_behind.kept l l≤) (put_behind.kept r r≤)

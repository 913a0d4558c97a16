-- Reading trees from the last byte to the first: what holds at byte i, and one byte more.
use Rattle.std.proofs.Common.{◌≡◌, ℕ, suc, ◌+◌, ◌-◌, ◌*◌, ◌<◌, ◌≤◌, ◌≢◌, List, ◌∷◌, ◌++◌, length, get_or, drop, set, reverse, sym, ap, ◌∙◌, subst, ap₂, ⊎_elim, arith, get_or-set_other, get_or-set_same, below_more}
use Rattle.std.proofs.lemmas.Bool.{cases_eq}
use Rattle.std.proofs.lemmas.List.{drop_more, drop_all, length-reverse, get_or-reverse}
use Rattle.std.proofs.lemmas.Grind.{get_or_default_zero}
use Rattle.lang.specs.Bytes.{bytes_of_tree, bytes_of_trees}
use Rattle.arena.specs.Nodes.{tree, Sound, Grown, env, forest}
use Rattle.arena.specs.Forests.{NoTrees}
use Rattle.arena.proofs.Trees.{leaf_zero, put, put_behind, put_grown, put_tree}
use Rattle.arena.proofs.Stacks.{length_env, env_grown, env_more}
use Rattle.arena.proofs.Forests.{one_forest, node_bytes, no_such_byte, no_parts}

-- the bytes from i on are those of the trees on the stack, of which the newest is held apart too
pub record Sofar (bytes : List ℕ) (i : ℕ) (ws : List ℕ) (used : ℕ) (st : List ℕ) (top height : ℕ) : Type 0 where
  pub few : used + i ≤ length bytes
  pub low : height + i ≤ length bytes
  pub sound : Sound ws used
  pub there : (j : ℕ) → j < height → get_or st j 0 ≤ used
  pub newest : 0 < height → top ≡ get_or st (height - 1) 0
  pub trees : bytes_of_trees (env ws st height) ≡ drop i bytes

byte_before : (bytes : List ℕ) (i : ℕ) → 0 < i → i ≤ length bytes → drop (i - 1) bytes ≡ get_or bytes (i - 1) 0 ∷ drop i bytes
byte_before bytes i h le = let e : i - 1 + 1 ≡ i = omega arith in drop_more bytes (i - 1) 0 (omega arith) ∙ ap (λ j. get_or bytes (i - 1) 0 ∷ drop j bytes) e

-- byte k from the end, as the loop yields it
pub yielded_byte : (bytes : List ℕ) (k b : ℕ) → (k < length (reverse bytes)) × (b ≡ get_or (reverse bytes) k b) → (k < length bytes) × (get_or bytes (length bytes - k - 1) 0 ≡ b)
yielded_byte bytes k b h =
    let l : k < length bytes = omega (arith, length-reverse {A = ℕ}) in
    let e : length bytes - 1 - k ≡ length bytes - k - 1 = omega arith in
    (l, sym (h.1 ∙ get_or-reverse bytes k b l ∙ ap (λ i. get_or bytes i b) e ∙ get_or_default_zero bytes (length bytes - k - 1) b (omega arith)))

-- nothing read: the words may be anything
pub nothing : (bytes ws st : List ℕ) → Sofar bytes (length bytes) ws 0 st 0 0
unfolding env
nothing bytes ws st = record {
  few = omega arith;
  low = omega arith;
  sound = record { there = omega arith; left = λ k h. absurd (omega arith); right = λ k h. absurd (omega arith) };
  there = λ j h. absurd (omega arith);
  newest = λ h. absurd (omega arith);
  trees = sym (drop_all (length bytes) bytes (omega arith));
}

module _ (bytes : List ℕ) (i : ℕ) (ws : List ℕ) (used : ℕ) (st : List ℕ) (top height : ℕ) (some : 0 < i) (s : Sofar bytes i ws used st top height) where
  pub bad_byte : (v : ℕ) → get_or bytes (i - 1) 0 ≡ v → 2 ≤ v → (wanted : ℕ) → NoTrees bytes wanted
  bad_byte v is big wanted ts n e =
      no_such_byte bytes (i - 1) (get_or bytes (i - 1) 0) (drop i bytes) (byte_before bytes i some (omega (arith, s.few))) (omega (arith, is)) ts e

  pub no_two : get_or bytes (i - 1) 0 ≡ 1 → height < 2 → (wanted : ℕ) → NoTrees bytes wanted
  no_two is few wanted ts n e =
      no_parts bytes (i - 1) (env ws st height)
      (byte_before bytes i some (omega (arith, s.few)) ∙ ap₂ ◌∷◌ is (sym s.trees))
      (omega (arith, length_env ws st height)) ts e

  -- the byte b, after which tree v stands on the first trees of the stack
  read_on : (ws' : List ℕ) (used' b v low : ℕ) → get_or bytes (i - 1) 0 ≡ b → Grown ws used ws' used' → used' ≤ used + 1 → v ≤ used' → low ≤ height → low < length st → bytes_of_tree (tree ws' v) ++ bytes_of_trees (env ws st low) ≡ b ∷ bytes_of_trees (env ws st height) → Sofar bytes (i - 1) ws' used' (set st low v) v (low + 1)
  unfolding forest
  read_on ws' used' b v low is grown one v≤ low≤ fits whole =
      let here : get_or (set st low v) low 0 ≡ v = get_or-set_same st low v 0 fits in
      let e : low + 1 ≡ suc low = omega arith in
      let f : low + 1 - 1 ≡ low = omega arith in
      let old = env_grown ws used ws' used' grown st low (λ j h. s.there j (omega arith)) in
      record {
        few = omega (arith, s.few);
        low = omega (arith, s.low);
        sound = grown.sound;
        there = below_more (λ j. get_or (set st low v) j 0 ≤ used') low
            (λ j h. let n : j ≢ low = omega arith in omega (arith, get_or-set_other st low j v 0 n, s.there j (omega arith), grown.more))
            (omega arith);
        newest = λ _. sym (ap (λ j. get_or (set st low v) j 0) f ∙ here);
        trees = ap (λ n. bytes_of_trees (env ws' (set st low v) n)) e
            ∙ ap bytes_of_trees (env_more ws' st low v fits)
            ∙ ap (λ ts. bytes_of_tree (tree ws' v) ++ bytes_of_trees ts) old
            ∙ whole
            ∙ ap₂ ◌∷◌ (sym is) s.trees
            ∙ sym (byte_before bytes i some (omega (arith, s.few)));
      }

  leaf_read : (l r v low used' : ℕ) → get_or bytes (i - 1) 0 ≡ 0 → v ≡ 0 → low ≡ height → used' ≡ used → low < length st → Sofar bytes (i - 1) (put ws used l r) used' (set st low v) v (low + 1)
  leaf_read l r v low used' is of_leaf same none fits =
      read_on (put ws used l r) used' 0 v low is
      (subst (Grown ws used (put ws used l r)) (sym none) (put_behind ws used l r s.sound))
      (omega arith) (omega arith) (omega arith) fits
      (ap₂ (λ t n. bytes_of_tree t ++ bytes_of_trees (env ws st n)) (ap (tree (put ws used l r)) of_leaf ∙ leaf_zero (put ws used l r)) same)

  node_read : (r v low used' : ℕ) → get_or bytes (i - 1) 0 ≡ 1 → 2 ≤ height → v ≡ used + 1 → low ≡ height - 1 - 1 → used' ≡ used + 1 → r ≡ get_or st low 0 → 2 * used + 2 ≤ length ws → low < length st → Sofar bytes (i - 1) (put ws used top r) used' (set st low v) v (low + 1)
  unfolding env
  node_read r v low used' is two number two_less one right room fits =
      let l≤ : top ≤ used = omega (arith, s.newest (omega arith), s.there (height - 1) (omega arith)) in
      let r≤ : r ≤ used = omega (arith, s.there low (omega arith)) in
      let f : suc (suc low) ≡ height = omega arith in
      let g : height - 1 ≡ suc low = omega arith in
      let l : top ≡ get_or st (suc low) 0 = s.newest (omega arith) ∙ ap (λ j. get_or st j 0) g in
      read_on (put ws used top r) used' 1 v low is
      (subst (Grown ws used (put ws used top r)) (sym one) (put_grown ws used top r s.sound room l≤ r≤))
      (omega arith) (omega arith) (omega arith) fits
      (ap (λ t. bytes_of_tree t ++ bytes_of_trees (env ws st low)) (ap (tree (put ws used top r)) number ∙ put_tree ws used top r s.sound room l≤ r≤)
      ∙ node_bytes (tree ws top) (tree ws r) (bytes_of_trees (env ws st low))
      ∙ ap₂ (λ a b. 1 ∷ (bytes_of_tree (tree ws a) ++ (bytes_of_tree (tree ws b) ++ bytes_of_trees (env ws st low)))) l right
      ∙ ap (λ h. 1 ∷ bytes_of_trees (env ws st h)) f)

  pub byte_read : (b r v low used' : ℕ) → get_or bytes (i - 1) 0 ≡ b → b ≤ 1 → 2 * b ≤ height → (b ≡ 1 → v ≡ used') → ((b ≡ 1 → ⊥) → v ≡ 0) → low ≡ height - 2 * b → used' ≡ used + b → r ≡ get_or st low 0 → 2 * used + 2 ≤ length ws → low < length st → Sofar bytes (i - 1) (put ws used top r) used' (set st low v) v (low + 1)
  byte_read b r v low used' is small two of_node of_leaf less more right room fits =
      ⊎_elim
      (λ e. node_read r v low used' (is ∙ e) (omega arith) (omega (arith, of_node e)) (omega arith) (omega arith) right room fits)
      (λ n. leaf_read top r v low used' (omega arith) (of_leaf n) (omega arith) (omega arith) fits)
      (cases_eq b 1)

-- all is read
module _ (bytes : List ℕ) (i : ℕ) (ws : List ℕ) (used : ℕ) (st : List ℕ) (top height : ℕ) (end : i ≤ 0) (s : Sofar bytes i ws used st top height) (wanted : ℕ) where
  whole : bytes_of_trees (env ws st height) ≡ bytes
  whole = let e : i ≡ 0 = omega arith in s.trees ∙ ap (λ n. drop n bytes) e

  pub other_number : (height ≡ wanted → ⊥) → NoTrees bytes wanted
  other_number other ts n e = other (sym (length_env ws st height) ∙ ap length (one_forest (env ws st height) ts (whole ∙ sym e)) ∙ n)

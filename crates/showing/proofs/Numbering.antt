-- The numbers of nodes.
use Rattle.std.proofs.Common.{◌≡◌, ℕ, zero, suc, ◌+◌, ◌-◌, ◌*◌, ◌^◌, ◌<◌, ◌≤◌, ◌≢◌, List, length, get_or, set, Some, None, Option, IfSome, unwrap_or, sym, refl, ap, ◌∙◌, arith, get_or-set_other, get_or-set_same, below_more}
use Rattle.std.specs.Fmt as fmt
use Rattle.std.specs.Int.Digits.{digits_of}
use Rattle.std.proofs.lemmas.Fmt.{decimal-digits_of}
use Rattle.std.proofs.lemmas.Int.Digits.{length-digits_of_step}
use Rattle.std.proofs.lemmas.List.{length-map}
use Rattle.lang.specs.Program.{Tree, leaf, node}
use Rattle.arena.specs.Nodes.{tree, Sound, Parts}
use Rattle.arena.proofs.Trees.{leaf_zero, tree_parts, tree_node, sound_below}
use Rattle.showing.specs.Shown.{after, as_number, decimal}
use Rattle.showing.specs.Numbers.{Numbers, word_number, number_in, number_by}

-- a node is not the number 0
after_not_zero : (o : Option ℕ) → after o ≡ Some 0 → ⊥
after_not_zero None e = cc
after_not_zero (Some n) e = let z : suc n ≡ 0 = cc in omega arith

node_not_zero : (l r : Tree) → as_number (node l r) ≡ Some 0 → ⊥
node_not_zero leaf r e = after_not_zero (as_number r) e
node_not_zero (node a b) r e = cc

pub not_zero : (ws : List ℕ) (n : ℕ) → Sound ws n → 0 < n → as_number (tree ws n) ≡ Some 0 → ⊥
not_zero ws n s h e = let p = tree_parts ws n s n h (omega arith) in node_not_zero (tree ws (get_or ws (2 * (n - 1)) 0)) (tree ws (get_or ws (2 * (n - 1) + 1) 0)) (ap as_number (sym p.whole) ∙ e)

-- the word of a node's number
word_is : (o : Option ℕ) → (o ≡ Some 0 → ⊥) → word_number (unwrap_or o 0) ≡ o
word_is None h = refl
word_is (Some zero) h = absurd (h refl)
word_is (Some (suc n)) h = refl

pub number_in_is : (ws : List ℕ) (last : ℕ) (vs : List ℕ) → Sound ws last → Numbers ws last vs → (n : ℕ) → n ≤ last → number_in vs n ≡ as_number (tree ws n)
number_in_is ws last vs s ns zero h = sym (ap as_number (leaf_zero ws))
number_in_is ws last vs s ns (suc k) h =
    ap word_number (ns k (omega arith)) ∙ word_is (as_number (tree ws (suc k))) (not_zero ws (suc k) (sound_below ws last (suc k) s h) (omega arith))

-- the number of a node by its parts
pub number_by_is : (ws : List ℕ) (l r : ℕ) → Sound ws l → number_by l (as_number (tree ws r)) ≡ as_number (node (tree ws l) (tree ws r))
number_by_is ws zero r s = ap (λ t. as_number (node t (tree ws r))) (sym (leaf_zero ws))
number_by_is ws (suc k) r s =
    let p = tree_parts ws (suc k) s (suc k) (omega arith) (omega arith) in
    ap (λ t. as_number (node t (tree ws r))) (sym p.whole)

-- no node has a larger number than it has nodes before it
after_most : (o : Option ℕ) (m n : ℕ) → unwrap_or o 0 ≤ m → m < n → unwrap_or (after o) 0 ≤ n
after_most None m n h lt = omega arith
after_most (Some k) m n h lt = omega arith

by_most : (l : ℕ) (o : Option ℕ) (m n : ℕ) → unwrap_or o 0 ≤ m → m < n → unwrap_or (number_by l o) 0 ≤ n
by_most zero o m n h lt = after_most o m n h lt
by_most (suc l) o m n h lt = omega arith

number_within : (ws : List ℕ) (d n : ℕ) → n ≤ d → Sound ws n → unwrap_or (as_number (tree ws n)) 0 ≤ n
number_within ws d zero le s = omega (arith, ap (λ t. unwrap_or (as_number t) 0) (leaf_zero ws))
number_within ws zero (suc k) le s = absurd (omega arith)
number_within ws (suc d) (suc k) le s =
    let l = get_or ws (2 * k) 0 in
    let r = get_or ws (2 * k + 1) 0 in
    let sl = s.left k (omega arith) in
    let sr = s.right k (omega arith) in
    let e = number_by_is ws l r (sound_below ws (suc k) l s (omega arith)) in
    let h = number_within ws d r (omega arith) (sound_below ws (suc k) r s (omega arith)) in
    omega (arith, by_most l (as_number (tree ws r)) r (suc k) h (omega arith), ap (λ o. unwrap_or o 0) e, ap (λ t. unwrap_or (as_number t) 0) (tree_node ws (suc k) s k (omega arith)))

fits_below : (o : Option ℕ) (n m : ℕ) → unwrap_or o 0 ≤ n → n + 1 < m → IfSome o (λ v. v + 1 < m)
fits_below None n m h lt = tt
fits_below (Some v) n m h lt = omega arith

-- node k + 1 by its parts, where the numbers of the nodes before it are found
module _ (ws : List ℕ) (last k l r : ℕ) (vs : List ℕ) (s : Sound ws last) (h : k < last) (ns : Numbers ws k vs) (p : Parts ws (k + 1) l r) where
  right_is : number_in vs r ≡ as_number (tree ws r)
  right_is = number_in_is ws k vs (sound_below ws last k s (omega arith)) ns r (omega (arith, p.right))

  pub number_fits : (m : ℕ) → last < m → IfSome (number_in vs r) (λ v. v + 1 < m)
  number_fits m lt = fits_below (number_in vs r) r m (omega (arith, ap (λ o. unwrap_or o 0) right_is, number_within ws r r (omega arith) (sound_below ws last r s (omega (arith, p.right))))) (omega (arith, p.right))

  -- the numbers found, and one more
  pub numbers_more : k < length vs → (o : Option ℕ) → o ≡ number_by l (number_in vs r) → Numbers ws (k + 1) (set vs k (unwrap_or o 0))
  numbers_more fits o e =
      let v = unwrap_or o 0 in
      let more : k + 1 ≡ suc k = omega arith in
      let is : o ≡ as_number (tree ws (suc k)) = e ∙ ap (number_by l) right_is ∙ number_by_is ws l r (sound_below ws last l s (omega (arith, p.left))) ∙ ap as_number (sym p.whole) ∙ ap (λ n. as_number (tree ws n)) more in
      below_more (λ j. get_or (set vs k v) j 0 ≡ unwrap_or (as_number (tree ws (suc j))) 0) k
      (λ j lt. let other : j ≢ k = omega arith in get_or-set_other vs k j v 0 other ∙ ns j lt)
      (get_or-set_same vs k v 0 fits ∙ ap (λ i. unwrap_or i 0) is)

-- decimal digits as the library writes them
pub decimal_is : (n : ℕ) → n < 2 ^ 64 → fmt.decimal n ≡ decimal n
unfolding fmt.digits
decimal_is zero h = refl
decimal_is (suc n) h = decimal-digits_of (suc n) (omega arith) h

pub decimal_some : (n : ℕ) → 0 < length (decimal n)
decimal_some zero = omega arith
decimal_some (suc n) = omega (arith, length-map (digits_of 10 (suc n)) (λ d. 48 + d), length-digits_of_step 10 (suc n) (omega arith) (omega arith))

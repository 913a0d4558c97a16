-- What is picked for a node, by the numbers found.
use Rattle.std.proofs.Common.{◌≡◌, ℕ, zero, suc, ◌<◌, List, [], ◌∷◌, ◌++◌, Some, None, Option, unwrap_or, sym, refl, ap, ◌∙◌, append_assoc, arith}
use Rattle.arena.specs.Nodes.{tree, Parts}
use Rattle.arena.proofs.Trees.{leaf_zero}
use Rattle.readable.specs.Syntax.{Syntax, list, Items, item}
use Rattle.showing.specs.declared.Frame.TheVariants.{Rest, Second}
use Rattle.showing.specs.Shown.{as_number, pick_node, pick, pick_all, decimal, text, text_rest}
use Rattle.showing.specs.Printers.{frame_text}

picked_list : (o : Option ℕ) (a : Syntax) (is : Items) → ((w : ℕ) → o ≡ Some w → w < 2) → pick_node None o a is ≡ list (item a is)
picked_list None a is h = refl
picked_list (Some zero) a is h = refl
picked_list (Some (suc zero)) a is h = refl
picked_list (Some (suc (suc m))) a is h = absurd (omega (arith, h (suc (suc m)) refl))

pub leaf_text : (ws : List ℕ) (n : ℕ) → n ≡ 0 → (x : List ℕ) → text (pick (tree ws n)) x ≡ 46 ∷ x
leaf_text ws n e x = ap (λ t. text (pick t) x) (ap (tree ws) e ∙ leaf_zero ws)

pub rest_end : (ws : List ℕ) (n : ℕ) → n ≡ 0 → (x : List ℕ) → text_rest (pick_all (tree ws n)) x ≡ 93 ∷ x
rest_end ws n e x = ap (λ t. text_rest (pick_all t) x) (ap (tree ws) e ∙ leaf_zero ws)

pub second_text : (ws : List ℕ) (n v : ℕ) → v ≡ unwrap_or (as_number (tree ws n)) 0 → (x : List ℕ) → frame_text ws (Second (record { 0 = n })) x ≡ (32 ∷ (decimal v ++ (41 ∷ []))) ++ x
second_text ws n v e x = ap (λ w. 32 ∷ (decimal w ++ (41 ∷ x))) (sym e) ∙ ap (λ y. 32 ∷ y) (sym (append_assoc (decimal v) (41 ∷ []) x))

module _ (ws : List ℕ) (n l r : ℕ) (p : Parts ws n l r) where
  pub rest_item : (x : List ℕ) → text_rest (pick_all (tree ws n)) x ≡ 32 ∷ text (pick (tree ws l)) (text_rest (pick_all (tree ws r)) x)
  rest_item x = ap (λ t. text_rest (pick_all t) x) p.whole

  picked : (o : Option ℕ) → as_number (tree ws n) ≡ o → pick (tree ws n) ≡ pick_node o (as_number (tree ws r)) (pick (tree ws l)) (pick_all (tree ws r))
  picked o e = ap pick p.whole ∙ ap (λ i. pick_node i (as_number (tree ws r)) (pick (tree ws l)) (pick_all (tree ws r))) (ap as_number (sym p.whole) ∙ e)

  pub number_text : (v : ℕ) → as_number (tree ws n) ≡ Some v → (x : List ℕ) → text (pick (tree ws n)) x ≡ decimal v ++ x
  number_text v e x = ap (λ s. text s x) (picked (Some v) e)

  module _ (none : as_number (tree ws n) ≡ None) where
    pub list_text : ((w : ℕ) → as_number (tree ws r) ≡ Some w → w < 2) → (x : List ℕ) → text (pick (tree ws n)) x ≡ 91 ∷ text (pick (tree ws l)) (frame_text ws (Rest (record { 0 = r })) x)
    list_text few x = ap (λ y. text y x) (picked None none ∙ picked_list (as_number (tree ws r)) (pick (tree ws l)) (pick_all (tree ws r)) few)

-- Notes at one expression after another.
use Rattle.std.proofs.Common.{◌≡◌, ℕ, ◌+◌, ◌<◌, ◌≤◌, List, get_or, ap, ◌∙◌, subst, arith, below_more}
use mathlib.Core.Option.{Option, none}
use Rattle.lang.specs.Steps.{From}
use Rattle.origins.specs.declared.origin.Origin.{Origin}
use Rattle.origins.specs.Origins.{from_of, origin_from}
use Rattle.origins.specs.Views.{Noted, SameNote}
use Rattle.callgraph.specs.Standing.{hop}
use Rattle.callgraph.proofs.Standing.{hop_on}

pub note_same : (xs ys : List ℕ) (j o n : ℕ) (w : Option From) → SameNote xs ys j → Noted xs j o n w → Noted ys j o n w
note_same xs ys j o n w h k = record { outer_is = h.outer_is ∙ k.outer_is; new_is = h.new_is ∙ k.new_is; origin_is = ap from_of h.word_is ∙ k.origin_is }

pub same_trans : (xs ys zs : List ℕ) (j : ℕ) → SameNote xs ys j → SameNote ys zs j → SameNote xs zs j
same_trans xs ys zs j h k = record { outer_is = k.outer_is ∙ h.outer_is; new_is = k.new_is ∙ h.new_is; word_is = k.word_is ∙ h.word_is }

-- the first i expressions from `at` on are noted, and the next starts at `start`
pub record Laid (ends : List ℕ) (at vars i : ℕ) (old : List ℕ) (start : ℕ) (views : List ℕ) : Type 0 where
  pub next : start ≡ hop ends at i
  pub noted : (j : ℕ) → j < i → (hop ends at j < start) × Noted views (hop ends at j) vars 0 none
  pub others : (j : ℕ) → start ≤ j → SameNote old views j

pub laid_more : (ends : List ℕ) (at vars i : ℕ) (old : List ℕ) (start : ℕ) (views : List ℕ) → Laid ends at vars i old start views → (views₁ : List ℕ) → Noted views₁ start vars 0 none → ((j : ℕ) → (j ≡ start → ⊥) → SameNote views views₁ j) → start < get_or ends start 0 → Laid ends at vars (i + 1) old (get_or ends start 0) views₁
laid_more ends at vars i old start views l views₁ n o f = record {
  next = hop_on ends at i start l.next;
  noted = below_more (λ j. (hop ends at j < get_or ends start 0) × Noted views₁ (hop ends at j) vars 0 none) i
      (λ j h. let q = l.noted j h in let b = q.0 in (omega arith, note_same views views₁ (hop ends at j) vars 0 none (o (hop ends at j) (λ e. omega arith)) q.1))
      (subst (λ (k : ℕ). (k < get_or ends start 0) × Noted views₁ k vars 0 none) l.next (f, n));
  others = λ j h. same_trans old views views₁ j (l.others j (omega arith)) (o j (λ e. omega arith));
}

-- by the fields of a view
pub note_as : (xs : List ℕ) (j o n : ℕ) (k : Origin) (o₁ n₁ : ℕ) (k₁ : Origin) → o ≡ o₁ → n ≡ n₁ → k ≡ k₁ → Noted xs j o n (origin_from k) → Noted xs j o₁ n₁ (origin_from k₁)
note_as xs j o n k o₁ n₁ k₁ a b d h = record { outer_is = h.outer_is ∙ a; new_is = h.new_is ∙ b; origin_is = h.origin_is ∙ ap origin_from d }

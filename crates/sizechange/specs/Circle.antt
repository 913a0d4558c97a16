-- Ways by the steps along them, the circles that show that there is no reason, and the first of these.
-- Steps go by names of any kind: `Named x s` says that x names step s, and `Sooner x y` that x stands before y.
use Rattle.std.specs.Prelude.{◌≡◌, ℕ, ◌<◌, ◌⊎◌, List, [], ◌∷◌, ◌++◌, length, ◌≢◌}
use Rattle.sizechange.specs.Graph.{Arc, Step, compose, leads, Idempotent}

-- the way along steps, each beginning where the one before ends
pub data Along {A : Type 0} (Named : A → Step → Type 0) : List A → ℕ → ℕ → List Arc → Type 0 where
  one : {x : A} {s : Step} → Named x s → Along Named (x ∷ []) s.caller s.callee s.arcs
  more : {xs : List A} {x : A} {s : Step} {f g : ℕ} {as₁ : List Arc} → Along Named xs f g as₁ → Named x s → s.caller ≡ g → Along Named (xs ++ x ∷ []) f s.callee (compose as₁ s.arcs)

-- a circle: the way along the steps leads from a point to itself, leads alike when gone twice, and makes no place a part of itself
pub record Circle {A : Type 0} (Named : A → Step → Type 0) (xs : List A) : Type 0 where
  pub point : ℕ
  pub arcs : List Arc
  pub along : Along Named xs point point arcs
  pub idempotent : Idempotent arcs
  pub no_part : (i : ℕ) → leads arcs i i ≢ 2

-- lists of one length, where they first differ
pub data Lex {A : Type 0} (Sooner : A → A → Type 0) : List A → List A → Type 0 where
  differ : {x y : A} {xs ys : List A} → Sooner x y → length xs ≡ length ys → Lex Sooner (x ∷ xs) (y ∷ ys)
  agree : {x : A} {xs ys : List A} → Lex Sooner xs ys → Lex Sooner (x ∷ xs) (x ∷ ys)

-- the shorter comes first, and of one length the one that is sooner where they first differ
abbrev pub Shortlex : {A : Type 0} → (A → A → Type 0) → List A → List A → Type 0
Shortlex Sooner xs ys = (length xs < length ys) ⊎ Lex Sooner xs ys

-- the first circle: of all circles none comes before it
pub record FirstCircle {A : Type 0} (Named : A → Step → Type 0) (Sooner : A → A → Type 0) (xs : List A) : Type 0 where
  pub circle : Circle Named xs
  pub first : (ys : List A) → Circle Named ys → Shortlex Sooner ys xs → ⊥

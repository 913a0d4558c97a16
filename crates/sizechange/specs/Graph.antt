-- Call graphs whose edges carry size-change graphs, the ways along them, and the reason for ending.
use Rattle.std.specs.Prelude.{◌≡◌, ℕ, zero, suc, max, cond, ◌&&◌, List, [], ◌∷◌, ◌++◌, ◌==◌}
use Rattle.std.proofs.Math.Option.{Option, some, none}

-- an arc of a size-change graph: place `to` after the call holds what place `from` held before it (how is 1: the same) or a part of that (how is 2)
pub record Arc : Type 0 where
  pub from : ℕ
  pub to : ℕ
  pub how : ℕ

-- an edge of the call graph, from point to point, with its size-change graph
pub record Step : Type 0 where
  pub caller : ℕ
  pub callee : ℕ
  pub arcs : List Arc

abbrev pub nth : {A : Type 0} → List A → ℕ → Option A
nth [] n = none
nth (x ∷ xs) zero = some x
nth (x ∷ xs) (suc n) = nth xs n

pub data In {A : Type 0} (a : A) : List A → Type 0 where
  here : {xs : List A} → In a (a ∷ xs)
  there : {x : A} {xs : List A} → In a xs → In a (x ∷ xs)

-- how place i leads to place j: not (0), the same (1), a part (2)
abbrev pub leads : List Arc → ℕ → ℕ → ℕ
leads [] i j = 0
leads (a ∷ as₁) i j = max (cond (i == a.from && j == a.to) a.how 0) (leads as₁ i j)

-- composition: every arc followed by every arc that begins where it ends; a part if either is
abbrev pub compose1 : Arc → List Arc → List Arc
compose1 a [] = []
compose1 a (b ∷ bs) = cond (a.to == b.from) (record { from = a.from; to = b.to; how = max a.how b.how } ∷ compose1 a bs) (compose1 a bs)

abbrev pub compose : List Arc → List Arc → List Arc
compose [] bs = []
compose (a ∷ as₁) bs = compose1 a bs ++ compose as₁ bs

-- the ways that calls may go: one step, or several, each beginning where the one before ends
pub data Way (ss : List Step) : ℕ → ℕ → List Arc → Type 0 where
  one : (s : Step) → In s ss → Way ss s.caller s.callee s.arcs
  more : {f g : ℕ} {as₁ : List Arc} (s : Step) → Way ss f g as₁ → In s ss → s.caller ≡ g → Way ss f s.callee (compose as₁ s.arcs)

-- two graphs lead alike
abbrev pub Alike : List Arc → List Arc → Type 0
Alike as₁ bs = (i j : ℕ) → leads as₁ i j ≡ leads bs i j

-- a graph is idempotent: gone twice, it leads alike
abbrev pub Idempotent : List Arc → Type 0
Idempotent as₁ = Alike (compose as₁ as₁) as₁

-- the reason: on every way from a point to itself that is idempotent, some place becomes a part of itself
abbrev pub HasReason : List Step → Type 0
HasReason ss = (f : ℕ) (as₁ : List Arc) → Way ss f f as₁ → Idempotent as₁ → (i : ℕ) × (leads as₁ i i ≡ 2)

-- a way by its ends and its graph
pub record Way1 : Type 0 where
  pub caller : ℕ
  pub callee : ℕ
  pub arcs : List Arc

-- a list has a way from f to g that leads like as₁
abbrev pub Listed : List Way1 → ℕ → ℕ → List Arc → Type 0
Listed ws f g as₁ = (i : ℕ) × (w : Way1) × (nth ws i ≡ some w) × (w.caller ≡ f) × (w.callee ≡ g) × Alike w.arcs as₁

-- a list of ways, no two of which lead alike
pub record Different (ss : List Step) (ws : List Way1) : Type 0 where
  pub are : (i : ℕ) (w : Way1) → nth ws i ≡ some w → Way ss w.caller w.callee w.arcs
  pub differ : (i j : ℕ) (w v : Way1) → nth ws i ≡ some w → nth ws j ≡ some v → w.caller ≡ v.caller → w.callee ≡ v.callee → Alike w.arcs v.arcs → i ≡ j

-- all the ways, those that lead alike counted once
pub record Ways (ss : List Step) (ws : List Way1) : Type 0 where
  pub different : Different ss ws
  pub all : (f g : ℕ) (as₁ : List Arc) → Way ss f g as₁ → Listed ws f g as₁

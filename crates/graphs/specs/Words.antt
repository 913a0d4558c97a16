-- What a graph in two words stands for.
use Rattle.std.specs.Prelude.{◌≡◌, ℕ, ◌+◌, ◌*◌, ◌^◌, ◌<◌, ◌≤◌, min, List}
use Rattle.std.specs.Int.{bit_at}
use Rattle.sizechange.specs.Graph.{Arc, In, leads}
use Rattle.sizechange.specs.Theorems.{FineArc}
use Rattle.sizechange.proofs.Arcs.{sup}
use Rattle.graphs.specs.declared.Graph.{Graph}

-- how many places there are
abbrev pub places : ℕ
places = 8

-- bit places * i + j of `any` says that place i leads to place j, and of `part` that it leads to a part
pub record Words (g : Graph) (as₁ : List Arc) : Type 0 where
  pub fine : (a : Arc) → In a as₁ → FineArc places a
  pub any_fits : g.any < 2 ^ (places * places)
  pub part_fits : g.part < 2 ^ (places * places)
  pub lead : (i j : ℕ) → i < places → j < places → leads as₁ i j ≡ bit_at g.any (places * i + j) + bit_at g.part (places * i + j)
  pub within : (i j : ℕ) → i < places → j < places → bit_at g.part (places * i + j) ≤ bit_at g.any (places * i + j)

-- the product of two words as relations: from i to j through one of the first n places
abbrev pub Through : ℕ → ℕ → ℕ → ℕ → Type 0
Through n x y r = (i j : ℕ) → i < places → j < places → bit_at r (places * i + j) ≡ sup n (λ k. min (bit_at x (places * i + k)) (bit_at y (places * k + j)))

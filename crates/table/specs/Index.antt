-- Rows found by hash chains.
use Rattle.std.specs.Prelude.{◌≡◌, ℕ, suc, ◌+◌, ◌*◌, ◌/◌, ◌%◌, ◌^◌, ◌<◌, ◌≤◌, ◌⊎◌, List, [], ◌∷◌, ◌++◌, length, ◌≢◌, slice_index}
use Rattle.sizechange.specs.Graph.{In}
use Rattle.table.specs.declared.Edge.{Edge}
use Rattle.table.specs.declared.row.Row.{Row}
use Rattle.table.specs.Ends.{points}
use Rattle.table.specs.Rows.{edge_of, link_at}

-- the chain of an edge among n: any function of both would do; this one spreads the edges well
unfoldable pub bucket_of : Edge → ℕ → ℕ
bucket_of e n = ((e.graph.any * 0x9E37_79B9_7F4A_7C15 % 2 ^ 64 + e.graph.part * 0xC2B2_AE3D_27D4_EB4F % 2 ^ 64) % 2 ^ 64 + (e.caller * points + e.callee) * 0x1656_67B1_9E37_79F9 % 2 ^ 64) % 2 ^ 64 / 2 ^ 32 * n / 2 ^ 32

-- h is one more than the last of the first n that f takes to b, or 0 where there is none
pub record Last (f : ℕ → ℕ) (n b h : ℕ) : Type 0 where
  pub most : h ≤ n
  pub here : (j : ℕ) → h ≡ suc j → f j ≡ b
  pub after : (j : ℕ) → h ≤ j → j < n → f j ≢ b

-- the first n rows are in h chains: each begins at its last row, and a row links to the last before it of its chain
abbrev pub bucket : List ℕ → ℕ → ℕ → ℕ
bucket xs h j = bucket_of (edge_of xs j) h

pub record Chained (xs heads : List ℕ) (h n : ℕ) : Type 0 where
  pub some_heads : 0 < h
  pub few_heads : h ≤ 2 ^ 32
  pub within : h ≤ length heads
  pub heads_last : (b : ℕ) → b < h → Last (bucket xs h) n b (slice_index heads b)
  pub links_last : (j : ℕ) → j < n → Last (bucket xs h) j (bucket xs h j) (link_at xs j)

-- a list of rows has an edge
abbrev pub Has : List Row → Edge → Type 0
Has vs e = (r : Row) × In r vs × (r.edge ≡ e)

-- a row is added at the end, unless its edge is there
abbrev pub Added : List Row → Row → List Row → Type 0
Added vs r us = (Has vs r.edge × (us ≡ vs)) ⊎ ((Has vs r.edge → ⊥) × (us ≡ vs ++ r ∷ []))

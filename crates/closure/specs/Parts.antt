-- What the parts of the closure promise each other.
use Rattle.std.specs.Prelude.{◌≡◌, ℕ, ◌+◌, ◌*◌, ◌^◌, ◌<◌, ◌≤◌, List, length, ◌≢◌, slice_index}
use Rattle.std.proofs.Math.Option.{some}
use Rattle.sizechange.specs.Graph.{In, nth}
use Rattle.table.specs.declared.row.Row.{Row}
use Rattle.table.specs.declared.Table.{Table}
use Rattle.table.specs.Tables.{IsChained, IsSameMemory}
use Rattle.closure.specs.declared.Links.{Links}
use Rattle.table.specs.Ends.{points}
use Rattle.table.specs.Rows.{edge_of, row_at, rows, width}
use Rattle.closure.specs.Ways.{Upto, Grown, GoesOn}

-- room for one way more than allowed, by which too many are seen
pub record Room (limit words : ℕ) : Type 0 where
  pub words_enough : width * limit + width ≤ words
  pub limit_small : limit < 2 ^ 32

-- the first i of the steps are in the table, or there are too many ways
pub record Entered (ts : List Row) (i limit : ℕ) (xs : List ℕ) (count : ℕ) : Type 0 where
  pub grown : Grown ts (rows xs count)
  pub most : count ≤ limit + 1
  pub few : count ≤ i
  pub are_steps : (q : Row) → In q (rows xs count) → (q.from ≡ 0) × (q.step < i)
  pub has : count ≤ limit → (j : ℕ) (t : Row) → j < i → nth ts j ≡ some t → (r : Row) × In r (rows xs count) × (r.edge ≡ t.edge) × Upto 0 j r

-- h is the first from a up to n that f takes to b, or n where there is none
pub record First (f : ℕ → ℕ) (a n b h : ℕ) : Type 0 where
  pub least : a ≤ h
  pub most : h ≤ n
  pub here : h < n → f h ≡ b
  pub before : (j : ℕ) → a ≤ j → j < h → f j ≢ b

-- the steps from row i up to n, by caller: the first of each point, and after each the next of the same
abbrev pub caller : List ℕ → ℕ → ℕ
caller xs j = (edge_of xs j).caller

pub record Linked (i n : ℕ) (xs starts nexts : List ℕ) : Type 0 where
  pub starts_first : (g : ℕ) → g < points → First (caller xs) i n g (slice_index starts g)
  pub nexts_first : (j : ℕ) → i ≤ j → j < n → First (caller xs) (j + 1) n (caller xs j) (slice_index nexts j)

-- of the ways those below k have been followed by each of the `first` steps that fits, or there are too many
pub record Followed (ts : List Row) (first k limit : ℕ) (xs : List ℕ) (count : ℕ) : Type 0 where
  pub grown : Grown ts (rows xs count)
  pub most : count ≤ limit + 1
  pub few : first ≤ count
  pub are_steps : (j : ℕ) → j < first → (row_at xs j).from ≡ 0
  pub none_later : (q : Row) → In q (rows xs count) → q.from ≤ k
  pub has : count ≤ limit → (i j : ℕ) → i < k → j < first → caller xs j ≡ (edge_of xs i).callee → GoesOn (rows xs count) (edge_of xs i) (edge_of xs j) i (row_at xs j).step

-- the first n rows are as they were
abbrev pub Kept : List ℕ → ℕ → List ℕ → Type 0
Kept xs n ys = (j : ℕ) → j < n → row_at ys j ≡ row_at xs j

-- a table of no more ways than allowed, and room for one more than that
pub record Open (t : Table) (limit : ℕ) : Type 0 where
  pub room : Room limit (length t.rows.now)
  pub heads : length t.heads.now ≤ 2 ^ 32
  pub chained : IsChained t
  pub fits : t.count ≤ limit

-- its ways can be followed by linked steps
pub record Ready (t : Table) (l : Links) (limit : ℕ) : Type 0 where
  pub is_open : Open t limit
  pub points : length l.starts.now ≡ points
  pub few : length l.nexts.now ≤ t.count
  pub linked : Linked 0 (length l.nexts.now) t.rows.now l.starts.now l.nexts.now

-- those from way k up to way k' have been followed
pub record Advanced (l : Links) (limit k k' : ℕ) (t t' : Table) : Type 0 where
  pub memory : IsSameMemory t t'
  pub kept : Kept t.rows.now t.count t'.rows.now
  pub more : t.count ≤ t'.count
  pub followed : (ts : List Row) → Followed ts (length l.nexts.now) k limit t.rows.now t.count → Followed ts (length l.nexts.now) k' limit t'.rows.now t'.count

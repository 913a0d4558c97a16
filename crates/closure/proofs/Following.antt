-- A way is followed by the steps that fit, one by one.
use Rattle.std.proofs.Common.{◌≡◌, ℕ, suc, ◌+◌, ◌<◌, ◌≤◌, ◌⊎◌, List, length, get_or, sym, refl, ap, ◌∙◌, subst, subst₂, inl, inr, add-one, arith}
use mathlib.Core.Option.{some}
use Rattle.std.proofs.lemmas.Bool.{cases_eq, cases_order}
use Rattle.sizechange.specs.Graph.{In, nth}
use Rattle.table.specs.declared.Edge.{Edge}
use Rattle.table.specs.declared.row.Row.{Row}
use Rattle.table.specs.declared.Table.{Table}
use Rattle.table.specs.Rows.{edge_of, row_at, rows}
use Rattle.table.specs.Index.{Added}
use Rattle.table.specs.Tables.{IsSameMemory, list_of}
use Rattle.closure.specs.declared.Links.{Links}
use Rattle.closure.specs.Ways.{Then, Made, gone_on, Before, Grown, GoesOn}
use Rattle.closure.specs.Parts.{First, Linked, Followed, Kept, caller, Open, Ready, Advanced}
use Rattle.closure.proofs.Linking.{linked_kept}
use Rattle.table.proofs.Rows.{nth_rows, rows_same}
use Rattle.closure.proofs.Growing.{grown_added, grown_before, grown_step, added_in, in_added, added_has}

-- Rows that are kept go on as they did.

goes_kept : (xs ys : List ℕ) (count : ℕ) (vs : List Row) → Kept xs count ys → (i j : ℕ) → i < count → j < count → GoesOn vs (edge_of xs i) (edge_of xs j) i (row_at xs j).step → GoesOn vs (edge_of ys i) (edge_of ys j) i (row_at ys j).step
goes_kept xs ys count vs kept i j li lj = subst₂ (λ (w v : Row). GoesOn vs w.edge v.edge i v.step) (sym (kept i li)) (sym (kept j lj))

meets_kept : (xs ys : List ℕ) (count : ℕ) → Kept xs count ys → (i j : ℕ) → i < count → j < count → caller ys j ≡ (edge_of ys i).callee → caller xs j ≡ (edge_of xs i).callee
meets_kept xs ys count kept i j li lj e = sym (ap (λ (z : Row). z.edge.caller) (kept j lj)) ∙ e ∙ ap (λ (z : Row). z.edge.callee) (kept i li)

followed_kept : (ts : List Row) (first k limit : ℕ) (xs ys : List ℕ) (count : ℕ) → k ≤ count → Kept xs count ys → Followed ts first k limit xs count → Followed ts first k limit ys count
followed_kept ts first k limit xs ys count here kept f =
    record { grown = subst (Grown ts) same f.grown; most = f.most; few = f.few; are_steps = λ j l. ap (λ (q : Row). q.from) (kept j (omega (arith, f.few))) ∙ f.are_steps j l; none_later = λ q i. f.none_later q (subst (In q) (sym same) i); has = has }
  where
    same : rows xs count ≡ rows ys count
    same = sym (rows_same xs ys count kept)

    has : count ≤ limit → (i j : ℕ) → i < k → j < first → caller ys j ≡ (edge_of ys i).callee → GoesOn (rows ys count) (edge_of ys i) (edge_of ys j) i (row_at ys j).step
    has le i j li lj e =
        let lc : i < count = omega arith in
        let ld : j < count = omega (arith, f.few) in
        goes_kept xs ys count (rows ys count) kept i j lc ld (subst (λ (vs : List Row). GoesOn vs (edge_of xs i) (edge_of xs j) i (row_at xs j).step) same (f.has le i j li lj (meets_kept xs ys count kept i j lc ld e)))

-- way k has been followed by the steps below s
pub record Following (ts : List Row) (first k s limit : ℕ) (xs : List ℕ) (count : ℕ) : Type 0 where
  pub grown : Grown ts (rows xs count)
  pub are_steps : (j : ℕ) → j < first → (row_at xs j).from ≡ 0
  pub none_later : (q : Row) → In q (rows xs count) → (q.from ≤ k) ⊎ ((q.from ≡ suc k) × ((j : ℕ) → s ≤ j → j < first → q.step < (row_at xs j).step))
  pub has : count ≤ limit → (i j : ℕ) → (i < k) ⊎ ((i ≡ k) × (j < s)) → j < first → caller xs j ≡ (edge_of xs i).callee → GoesOn (rows xs count) (edge_of xs i) (edge_of xs j) i (row_at xs j).step

pub following_all : (ts : List Row) (first k s limit : ℕ) (xs : List ℕ) (count : ℕ) → Following ts first k s limit xs count → first ≤ count → count ≤ limit + 1 → (count ≤ limit → first ≤ s) → Followed ts first (k + 1) limit xs count
following_all ts first k s limit xs count f few most over = record { grown = f.grown; most = most; few = few; are_steps = f.are_steps; none_later = none_later; has = has }
  where
    none_later : (q : Row) → In q (rows xs count) → q.from ≤ k + 1
    none_later q i = elim (f.none_later q i) [ inl l ↦ omega arith | inr h ↦ omega (arith, h.0) ]

    has : count ≤ limit → (i j : ℕ) → i < k + 1 → j < first → caller xs j ≡ (edge_of xs i).callee → GoesOn (rows xs count) (edge_of xs i) (edge_of xs j) i (row_at xs j).step
    has le i j li lj e = f.has le i j (elim (cases_eq i k) [ inl z ↦ inr (z, omega (arith, over le)) | inr z ↦ inl (omega arith) ]) lj e

-- no step has been taken yet
following_none : (ts : List Row) (first k s limit : ℕ) (xs : List ℕ) (count : ℕ) → Followed ts first k limit xs count → First (caller xs) 0 first (edge_of xs k).callee s → Following ts first k s limit xs count
following_none ts first k s limit xs count f x = record { grown = f.grown; are_steps = f.are_steps; none_later = λ q i. inl (f.none_later q i); has = has }
  where
    has : count ≤ limit → (i j : ℕ) → (i < k) ⊎ ((i ≡ k) × (j < s)) → j < first → caller xs j ≡ (edge_of xs i).callee → GoesOn (rows xs count) (edge_of xs i) (edge_of xs j) i (row_at xs j).step
    has le i j (inl l) lj e = f.has le i j l lj e
    has le i j (inr (p, l)) lj e = absurd (x.before j (omega arith) l (e ∙ ap (λ (m : ℕ). (edge_of xs m).callee) p))

-- step s is taken: `row` is way k and then step s
pub following_more : (ts : List Row) (first k s s' limit : ℕ) (xs ys : List ℕ) (count r : ℕ) (row : Row) → Following ts first k s limit xs count → k < count → first ≤ count → count ≤ limit → s < first → caller xs s ≡ (edge_of xs k).callee → Then (edge_of xs k) (edge_of xs s) row.edge → row.from ≡ k + 1 → row.step ≡ (row_at xs s).step → Added (rows xs count) row (rows ys r) → Kept xs count ys → First (caller xs) (s + 1) first (caller xs s) s' → Following ts first k s' limit ys r
following_more ts first k s s' limit xs ys count r row f lk few fits ls meets go from step added kept next = record { grown = grown; are_steps = are_steps; none_later = none_later; has = λ le. has }
  where
    row_s : nth (rows xs count) s ≡ some (row_at xs s)
    row_s = nth_rows xs count s (omega arith)

    before : (q : Row) → In q (rows xs count) → Before q row
    before q i = elim (f.none_later q i) [ inl l ↦ inl (omega arith) | inr h ↦ inr (omega (arith, h.0, from), omega (arith, h.1 s (omega arith) ls, step)) ]

    made : Made ts (rows xs count) row
    made =
        let (t, at, e) = grown_step s f.grown row_s (f.are_steps s ls) in
        gone_on k (row_at xs k) t (from ∙ add-one k) (nth_rows xs count k lk) (ap (nth ts) step ∙ at) (ap (λ (d : Edge). d.caller) (sym e) ∙ meets) (subst (λ (d : Edge). Then (edge_of xs k) d row.edge) e go)

    grown : Grown ts (rows ys r)
    grown = grown_added row f.grown made before added

    are_steps : (j : ℕ) → j < first → (row_at ys j).from ≡ 0
    are_steps j l = ap (λ (q : Row). q.from) (kept j (omega arith)) ∙ f.are_steps j l

    step_kept : (j : ℕ) → j < first → (row_at ys j).step ≡ (row_at xs j).step
    step_kept j l = ap (λ (q : Row). q.step) (kept j (omega arith))

    -- the steps are in order
    ordered : (j : ℕ) → s < j → j < first → (row_at xs s).step < (row_at xs j).step
    ordered j l m = elim (grown_before s j f.grown row_s (nth_rows xs count j (omega arith)) l) [ inl h ↦ absurd (omega (arith, f.are_steps j m)) | inr h ↦ h.1 ]

    none_later : (q : Row) → In q (rows ys r) → (q.from ≤ k) ⊎ ((q.from ≡ suc k) × ((j : ℕ) → s' ≤ j → j < first → q.step < (row_at ys j).step))
    none_later q i = elim (in_added row added i) [
      | inl old ↦ elim (f.none_later q old) [ inl l ↦ inl l | inr h ↦ inr (h.0, λ j a b. omega (arith, h.1 j (omega (arith, next.least)) b, step_kept j b)) ]
      | inr p ↦ inr (ap (λ (z : Row). z.from) p ∙ from ∙ add-one k, λ j a b. omega (arith, ap (λ (z : Row). z.step) p, step, ordered j (omega (arith, next.least)) b, step_kept j b))
    ]

    wider : {x y : Edge} {i n : ℕ} → GoesOn (rows xs count) x y i n → GoesOn (rows ys r) x y i n
    wider (q, is, t, u) = (q, added_in row added is, t, u)

    shift : (i j : ℕ) → i < count → j < first → GoesOn (rows ys r) (edge_of xs i) (edge_of xs j) i (row_at xs j).step → GoesOn (rows ys r) (edge_of ys i) (edge_of ys j) i (row_at ys j).step
    shift i j li lj = goes_kept xs ys count (rows ys r) kept i j li (omega arith)

    new : GoesOn (rows ys r) (edge_of xs k) (edge_of xs s) k (row_at xs s).step
    new =
        let (q, i, e, w) = added_has row added in (
          q,
          i,
          subst (Then (edge_of xs k) (edge_of xs s)) (sym e) go,
          elim w [
            | inl old ↦ elim (f.none_later q old) [ inl l ↦ inl (omega arith) | inr h ↦ inr (h.0, omega (arith, h.1 s (omega arith) ls)) ]
            | inr p ↦ inr (ap (λ (z : Row). z.from) p ∙ from ∙ add-one k, omega (arith, ap (λ (z : Row). z.step) p, step))
          ],
        )

    back : (i j : ℕ) → i < count → j < first → caller ys j ≡ (edge_of ys i).callee → caller xs j ≡ (edge_of xs i).callee
    back i j li lj = meets_kept xs ys count kept i j li (omega arith)

    has : (i j : ℕ) → (i < k) ⊎ ((i ≡ k) × (j < s')) → j < first → caller ys j ≡ (edge_of ys i).callee → GoesOn (rows ys r) (edge_of ys i) (edge_of ys j) i (row_at ys j).step
    has i j (inl l) lj e = let li : i < count = omega arith in shift i j li lj (wider (f.has fits i j (inl l) lj (back i j li lj e)))
    has i j (inr (p, l)) lj e = let li : i < count = omega arith in at (cases_order j s) li (back i j li lj e)
      where
        at : (j ≡ s) ⊎ ((j < s) ⊎ (s < j)) → i < count → caller xs j ≡ (edge_of xs i).callee → GoesOn (rows ys r) (edge_of ys i) (edge_of ys j) i (row_at ys j).step
        at (inl z) li m = shift i j li lj (subst₂ (λ (a b : ℕ). GoesOn (rows ys r) (edge_of xs a) (edge_of xs b) a (row_at xs b).step) (sym p) (sym z) new)
        at (inr (inl z)) li m = shift i j li lj (wider (f.has fits i j (inr (p, z)) lj m))
        at (inr (inr z)) li m = absurd (next.before j (omega arith) l (m ∙ ap (λ (a : ℕ). (edge_of xs a).callee) p ∙ sym meets))

-- A turn of the loop over the steps: t₀ is the table before the first, s the next step.
pub record Turn (l : Links) (limit k : ℕ) (way : Edge) (t₀ t : Table) (s : ℕ) : Type 0 where
  pub memory : IsSameMemory t₀ t
  pub kept : Kept t₀.rows.now t₀.count t.rows.now
  pub more : t₀.count ≤ t.count
  pub most : t.count ≤ limit + 1
  pub linked : Linked 0 (length l.nexts.now) t.rows.now l.starts.now l.nexts.now
  pub is_way : way ≡ edge_of t.rows.now k
  pub meets : s < length l.nexts.now → caller t.rows.now s ≡ way.callee
  pub following : (ts : List Row) → Followed ts (length l.nexts.now) k limit t₀.rows.now t₀.count → Following ts (length l.nexts.now) k s limit t.rows.now t.count

memory_then : {t u v : Table} → IsSameMemory t u → IsSameMemory u v → IsSameMemory t v
memory_then a b = record { rows = b.rows ∙ a.rows; heads = b.heads ∙ a.heads; words = b.words ∙ a.words; some_heads = b.some_heads ∙ a.some_heads }

pub turn_none : {l : Links} {limit k : ℕ} {t : Table} (way : Row) → Ready t l limit → way ≡ row_at t.rows.now k → Turn l limit k way.edge t t (get_or l.starts.now way.edge.callee 0)
turn_none {l} {limit} {k} {t} way r is =
    let n = length l.nexts.now in
    let s = get_or l.starts.now way.edge.callee 0 in
    let first = r.linked.starts_first way.edge.callee way.ends.callee_below in
    record {
      memory = record { rows = refl; heads = refl; words = refl; some_heads = refl };
      kept = λ j m. refl;
      more = omega arith;
      most = omega (arith, r.is_open.fits);
      linked = r.linked;
      is_way = ap (λ (q : Row). q.edge) is;
      meets = first.here;
      following = λ ts f. following_none ts n k s limit t.rows.now t.count f (subst (λ (q : Row). First (caller t.rows.now) 0 n q.edge.callee s) is first);
    }

-- `step` is what the word says
pub turn_said : {l : Links} {limit k : ℕ} {way : Edge} {t₀ t : Table} {s step : ℕ} → step ≡ s → Turn l limit k way t₀ t s → Turn l limit k way t₀ t step
turn_said {l} {limit} {k} {way} {t₀} {t} e x = subst (λ (s : ℕ). Turn l limit k way t₀ t s) (sym e) x

-- `last` is the row of the step taken
pub turn_more : {l : Links} {limit k : ℕ} {way : Edge} {t₀ t t' : Table} {s : ℕ} (last row : Row) → Turn l limit k way t₀ t s → Ready t₀ l limit → k < t₀.count → t.count ≤ limit → s < length l.nexts.now → last ≡ row_at t.rows.now s → Then way last.edge row.edge → row.from ≡ k + 1 → row.step ≡ last.step → IsSameMemory t t' → Added (list_of t) row (list_of t') → Kept t.rows.now t.count t'.rows.now → t.count ≤ t'.count → t'.count ≤ t.count + 1 → Turn l limit k way t₀ t' (get_or l.nexts.now s 0)
turn_more {l} {limit} {k} {way} {t₀} {t} {t'} {s} last row x r lk fits ls is_last go from step memory added kept more most =
    let few = r.few in
    record {
      memory = memory_then x.memory memory;
      kept = λ j m. kept j (omega (arith, x.more)) ∙ x.kept j m;
      more = omega (arith, x.more);
      most = omega arith;
      linked = linked_kept 0 n t.count t.rows.now t'.rows.now l.starts.now l.nexts.now (omega (arith, x.more)) kept x.linked;
      is_way = x.is_way ∙ ap (λ (q : Row). q.edge) (sym (kept k (omega (arith, x.more))));
      meets = λ m. ap (λ (q : Row). q.edge.caller) (kept (get_or l.nexts.now s 0) (omega (arith, x.more))) ∙ next.here m ∙ x.meets ls;
      following = λ ts f. following_more ts n k s (get_or l.nexts.now s 0) limit t.rows.now t'.rows.now t.count t'.count row (x.following ts f) (omega (arith, x.more)) (omega (arith, x.more)) fits ls (x.meets ls ∙ ap (λ (e : Edge). e.callee) x.is_way) goes from (step ∙ ap (λ (q : Row). q.step) is_last) added kept next;
    }
  where
    n : ℕ
    n = length l.nexts.now

    next : First (caller t.rows.now) (s + 1) n (caller t.rows.now s) (get_or l.nexts.now s 0)
    next = x.linked.nexts_first s (omega arith) ls

    goes : Then (edge_of t.rows.now k) (edge_of t.rows.now s) row.edge
    goes = subst₂ (λ (v w : Edge). Then v w row.edge) x.is_way (ap (λ (q : Row). q.edge) is_last) go

-- all the steps have been taken, or there are too many ways
pub turn_all : {l : Links} {limit k : ℕ} {way : Edge} {t₀ t : Table} {s : ℕ} → Turn l limit k way t₀ t s → Ready t₀ l limit → (t.count ≤ limit → length l.nexts.now ≤ s) → Advanced l limit k (k + 1) t₀ t
turn_all {l} {limit} {k} {t = t} {s = s} x r over =
    let few = r.few in
    record { memory = x.memory; kept = x.kept; more = x.more; followed = λ ts f. following_all ts (length l.nexts.now) k s limit t.rows.now t.count (x.following ts f) (omega (arith, x.more)) x.most over }

-- From way to way.

pub advanced_then : {l : Links} {limit k k' k'' : ℕ} {t t' t'' : Table} → Advanced l limit k k' t t' → Advanced l limit k' k'' t' t'' → Advanced l limit k k'' t t''
advanced_then a b = record { memory = memory_then a.memory b.memory; kept = λ j m. b.kept j (omega (arith, a.more)) ∙ a.kept j m; more = omega (arith, a.more, b.more); followed = λ ts f. b.followed ts (a.followed ts f) }

-- chained anew
pub ready_chained : {l : Links} {limit : ℕ} {t t' : Table} → Ready t l limit → Open t' limit → t'.count ≡ t.count → ((j : ℕ) → row_at t'.rows.now j ≡ row_at t.rows.now j) → Ready t' l limit
ready_chained {l} {t = t} {t' = t'} r is_open count kept = record { is_open = is_open; points = r.points; few = omega (arith, r.few); linked = linked_kept 0 (length l.nexts.now) t.count t.rows.now t'.rows.now l.starts.now l.nexts.now r.few (λ j m. kept j) r.linked }

pub advanced_chained : {l : Links} {limit k : ℕ} {t t' : Table} → k ≤ t.count → IsSameMemory t t' → t'.count ≡ t.count → ((j : ℕ) → row_at t'.rows.now j ≡ row_at t.rows.now j) → Advanced l limit k k t t'
advanced_chained {l} {limit} {k} {t} {t'} here memory count kept =
    record { memory = memory; kept = λ j m. kept j; more = omega arith; followed = λ ts f. subst (λ (c : ℕ). Followed ts (length l.nexts.now) k limit t'.rows.now c) (sym count) (followed_kept ts (length l.nexts.now) k limit t.rows.now t'.rows.now t.count here (λ j m. kept j) f) }

followed_all : (ts : List Row) (first k limit : ℕ) (xs : List ℕ) (count : ℕ) → Followed ts first k limit xs count → k ≤ count → (count ≤ limit → count ≤ k) → Followed ts first count limit xs count
followed_all ts first k limit xs count f here over = record { grown = f.grown; most = f.most; few = f.few; are_steps = f.are_steps; none_later = λ q i. omega (arith, f.none_later q i); has = λ le i j l. f.has le i j (omega (arith, over le)) }

-- all ways have been followed, or there are too many
pub advanced_all : {l : Links} {limit k k' : ℕ} {t t' : Table} → Advanced l limit k k' t t' → k' ≤ t'.count → (t'.count ≤ limit → t'.count ≤ k') → Advanced l limit k t'.count t t'
advanced_all {l} {limit} {k' = k'} {t' = t'} a here over = record { memory = a.memory; kept = a.kept; more = a.more; followed = λ ts f. followed_all ts (length l.nexts.now) k' limit t'.rows.now t'.count (a.followed ts f) here over }

-- The steps of the ways of a table that has grown, in the order of the table.
use Rattle.std.proofs.Common.{◌≡◌, ℕ, zero, suc, ◌<◌, ◌≤◌, ◌⊎◌, List, [], ◌∷◌, ◌++◌, length, refl, ap, ◌∙◌, subst, inl, inr, arith}
use mathlib.Core.Option.{some}
use Rattle.sizechange.specs.Graph.{nth}
use Rattle.sizechange.specs.Circle.{Lex, Shortlex}
use Rattle.sizechange.proofs.Lists.{nth_below}
use Rattle.sizechange.proofs.Circles.{length_push, lex_last, shortlex_push}
use Rattle.lang.proofs.Calls.{nth_left}
use Rattle.table.specs.declared.row.Row.{Row}
use Rattle.table.specs.Rows.{row_at, rows}
use Rattle.table.proofs.Rows.{nth_push, nth_rows}
use Rattle.closure.specs.Ways.{Made, begun, gone_on, Grown, nothing, grow}
use Rattle.closure.proofs.Growing.{grown_before}
use Rattle.circles.specs.Paths.{Path, start, on}

-- how a row of a grown table came about, and that it came from an earlier one
made_wider : {ts : List Row} {r : Row} (vs us : List Row) → Made ts vs r → Made ts (vs ++ us) r
made_wider vs us (begun t from at e) = begun t from at e
made_wider vs us (gone_on k w t from way at e go) = gone_on k w t from (nth_left vs us k way) at e go

made_from : {ts vs : List Row} {r : Row} → Made ts vs r → r.from ≤ length vs
made_from (begun t from at e) = omega arith
made_from {vs = vs} (gone_on k w t from way at e go) = omega (arith, nth_below vs k way)

pub grown_made : {ts vs : List Row} (i : ℕ) (r : Row) → Grown ts vs → nth vs i ≡ some r → Made ts vs r × (r.from ≤ i)
grown_made i r nothing e = let z : ◌≡◌ {A = ℕ} 0 1 = cc in absurd (omega arith)
grown_made {ts} i r (grow {vs = vs} q g made new before) e = go (nth_push vs q i e) (λ h. grown_made i r g h)
  where
    go : (nth vs i ≡ some r) ⊎ ((i ≡ length vs) × (q ≡ r)) → (nth vs i ≡ some r → Made ts vs r × (r.from ≤ i)) → Made ts (vs ++ q ∷ []) r × (r.from ≤ i)
    go (inl h) f = let x = f h in (made_wider vs (q ∷ []) x.0, x.1)
    go (inr h) f = subst (λ (x : Row). Made ts (vs ++ q ∷ []) x × (x.from ≤ i)) h.1 (made_wider vs (q ∷ []) made, omega (arith, h.0, made_from made))

-- each way has its steps, and they are one list
pub path_some : {ts : List Row} (xs : List ℕ) (count : ℕ) → Grown ts (rows xs count) → (limit n : ℕ) → n ≤ limit → n ≤ count → (is : List ℕ) × Path xs n is
path_some xs count g limit zero l b = ([], start)
path_some xs count g zero (suc n) l b = absurd (omega arith)
path_some xs count g (suc limit) (suc n) l b =
    let m = (grown_made n (row_at xs n) g (nth_rows xs count n (omega arith))).1 in
    let y = path_some xs count g limit (row_at xs n).from (omega arith) (omega arith) in
    (y.0 ++ (row_at xs n).step ∷ [], on y.1)

pub path_one : {xs : List ℕ} {m n : ℕ} {is js : List ℕ} → Path xs m is → Path xs n js → m ≡ n → is ≡ js
path_one start start e = refl
path_one start (on p) e = absurd (omega arith)
path_one (on p) start e = absurd (omega arith)
path_one {xs} (on {k = k} {is = is} p) (on {k = l} {is = js} o) e =
    let z : k ≡ l = omega arith in
    let w : is ≡ js = path_one p o (ap (λ (j : ℕ). (row_at xs j).from) z) in
    ap (λ (j : ℕ). is ++ (row_at xs j).step ∷ []) z ∙ ap (λ (us : List ℕ). us ++ (row_at xs l).step ∷ []) w

pub path_none : {xs : List ℕ} {n : ℕ} {is : List ℕ} → Path xs n is → n ≡ 0 → is ≡ []
path_none p e = path_one p start e

-- the last step, and the steps before it
pub path_last : {xs : List ℕ} {n : ℕ} {is : List ℕ} (k : ℕ) → Path xs n is → n ≡ suc k → (us : List ℕ) × Path xs (row_at xs k).from us × (is ≡ us ++ (row_at xs k).step ∷ [])
path_last k start e = absurd (omega arith)
path_last {xs} k (on {k = l} {is = is} p) e =
    let z : l ≡ k = omega arith in
    (is, subst (λ (j : ℕ). Path xs (row_at xs j).from is) z p, ap (λ (j : ℕ). is ++ (row_at xs j).step ∷ []) z)

-- the steps of a later way come later
pub path_order : {ts : List Row} (xs : List ℕ) (count : ℕ) {m n : ℕ} {is js : List ℕ} → Grown ts (rows xs count) → n ≤ count → Path xs m is → Path xs n js → m < n → Shortlex ◌<◌ is js
path_order xs count g b start start l = absurd (omega arith)
path_order xs count g b (on p) start l = absurd (omega arith)
path_order xs count g b start (on {k = j} {is = js} o) l = inl (omega (arith, length_push js (row_at xs j).step))
path_order xs count g b (on {k = k} {is = is} p) (on {k = j} {is = js} o) l =
    let a = nth_rows xs count j (omega arith) in
    elim (grown_before k j g (nth_rows xs count k (omega arith)) a (omega arith)) [
      | inl h ↦ shortlex_push is js (row_at xs k).step (row_at xs j).step (path_order xs count g (omega (arith, (grown_made j (row_at xs j) g a).1)) p o h)
      | inr h ↦ inr (subst (λ (us : List ℕ). Lex ◌<◌ (is ++ (row_at xs k).step ∷ []) (us ++ (row_at xs j).step ∷ [])) (path_one p o h.0) (lex_last is (row_at xs k).step (row_at xs j).step h.1))
    ]

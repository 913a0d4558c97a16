-- The steps are entered one by one.
use Rattle.std.proofs.Common.{◌≡◌, ℕ, zero, suc, ◌+◌, ◌<◌, ◌≤◌, ◌⊎◌, List, sym, ap, ◌∙◌, inl, inr, arith}
use mathlib.Core.Option.{some}
use Rattle.std.proofs.lemmas.Bool.{cases_eq}
use Rattle.sizechange.specs.Graph.{In, nth}
use Rattle.table.specs.declared.row.Row.{Row}
use Rattle.table.specs.Rows.{rows}
use Rattle.table.specs.Index.{Added}
use Rattle.closure.specs.Ways.{begun, Before, Upto, nothing}
use Rattle.closure.specs.Parts.{Entered}
use Rattle.closure.proofs.Growing.{grown_added, added_in, in_added, added_has}

pub entered_none : (ts : List Row) (limit : ℕ) (xs : List ℕ) (count : ℕ) → count ≡ 0 → Entered ts 0 limit xs count
entered_none ts limit xs (suc count) e = absurd (omega arith)
entered_none ts limit xs zero e = record { grown = nothing; most = omega arith; few = omega arith; are_steps = λ q i. elim i [ ]; has = λ le j t l. absurd (omega arith) }

pub entered_over : {ts : List Row} {i n limit : ℕ} {xs : List ℕ} {count : ℕ} → Entered ts i limit xs count → i ≤ n → limit < count → Entered ts n limit xs count
entered_over e le over =
    record { grown = e.grown; most = e.most; few = omega (arith, e.few); are_steps = λ q k. ((e.are_steps q k).0, omega (arith, (e.are_steps q k).1)); has = λ fits. absurd (omega arith) }

pub entered_more : {ts : List Row} {i limit : ℕ} {xs : List ℕ} {count : ℕ} (ys : List ℕ) (r : ℕ) (t row : Row) → Entered ts i limit xs count → count ≤ limit → nth ts i ≡ some t → row.edge ≡ t.edge → row.from ≡ 0 → row.step ≡ i → Added (rows xs count) row (rows ys r) → r ≤ count + 1 → Entered ts (i + 1) limit ys r
entered_more {ts} {i} {xs = xs} {count = count} ys r t row e fits at edge from step added most =
    record { grown = grown_added row e.grown (begun t from (ap (nth ts) step ∙ at) edge) before added; most = omega arith; few = omega (arith, e.few); are_steps = are_steps; has = λ le. has }
  where
    before : (q : Row) → In q (rows xs count) → Before q row
    before q k = let h = e.are_steps q k in inr (h.0 ∙ sym from, omega (arith, h.1, step))

    are_steps : (q : Row) → In q (rows ys r) → (q.from ≡ 0) × (q.step < i + 1)
    are_steps q k = elim (in_added row added k) [ inl old ↦ let h = e.are_steps q old in (h.0, omega (arith, h.1)) | inr p ↦ (ap (λ (z : Row). z.from) p ∙ from, omega (arith, ap (λ (z : Row). z.step) p, step)) ]

    has : (j : ℕ) (s : Row) → j < i + 1 → nth ts j ≡ some s → (q : Row) × In q (rows ys r) × (q.edge ≡ s.edge) × Upto 0 j q
    has j s l sat = go (cases_eq j i)
      where
        go : (j ≡ i) ⊎ (j ≡ i → ⊥) → (q : Row) × In q (rows ys r) × (q.edge ≡ s.edge) × Upto 0 j q
        go (inl p) =
            let (q, k, same, w) = added_has row added in
            let tat : nth ts i ≡ some s = ap (nth ts) (sym p) ∙ sat in
            let ts₁ : t ≡ s = cc in
            let h = are_steps q k in
            (q, k, same ∙ edge ∙ ap (λ (z : Row). z.edge) ts₁, inr (h.0, omega (arith, h.1, p)))
        go (inr ne) = let (q, k, same, u) = e.has fits j s (omega arith) sat in (q, added_in row added k, same, u)

-- The table is all the ways, and what it shows of them.
use Rattle.std.proofs.Common.{◌≡◌, ℕ, ◌<◌, ◌≤◌, List, length, sym, ap, ◌∙◌, subst, subst₂, inl, inr, arith}
use mathlib.Core.Option.{some}
use Rattle.sizechange.specs.Graph.{Step, In, nth, HasReason, Way1, Ways}
use Rattle.sizechange.specs.Theorems.{Fine}
use Rattle.table.specs.declared.Edge.{Edge}
use Rattle.table.specs.declared.row.Row.{Row}
use Rattle.table.specs.Rows.{edge_of, row_at, rows}
use Rattle.table.proofs.Rows.{length_rows, in_rows, rows_in, nth_rows, rows_nth}
use Rattle.closure.specs.Ways.{Then, Upto, Grown, GoesOn, Complete, RowsOfSteps, RowsOfWays, Sound, Fails}
use Rattle.closure.specs.Parts.{Entered, Followed, Kept}
use Rattle.closure.specs.Answers.{Whole}
use Rattle.closure.proofs.Ways.{all_ways, many, each_length, sound_reason, fails_no_reason}

-- m is the number of the steps that are kept
pub entered_followed : {ts : List Row} {n limit : ℕ} {xs : List ℕ} {first m : ℕ} → m ≡ first → Entered ts n limit xs first → Followed ts m 0 limit xs first
entered_followed {xs = xs} {first = first} p e = record { grown = e.grown; most = e.most; few = omega arith; are_steps = λ j l. (e.are_steps (row_at xs j) (in_rows xs first j (omega arith))).0; none_later = λ q i. omega (arith, (e.are_steps q i).0); has = λ le i j l. absurd (omega arith) }

complete : (st : List ℕ) (n limit : ℕ) (xs : List ℕ) (first : ℕ) (ys : List ℕ) (r : ℕ) → Entered (rows st n) n limit xs first → first ≤ limit → Followed (rows st n) first r limit ys r → r ≤ limit → Kept xs first ys → Complete (rows st n) (rows ys r)
complete st n limit xs first ys r e le f lr kept = record { steps = steps; ways = ways }
  where
    -- the row of a step that leads alike and comes no later
    found : (i : ℕ) (t : Row) → nth (rows st n) i ≡ some t → (j : ℕ) × (j < first) × (edge_of ys j ≡ t.edge) × ((row_at ys j).from ≡ 0) × ((row_at ys j).step ≤ i)
    found i t at =
        let (q, qi, same, u) = e.has le i t (rows_nth st n i at).0 at in
        let (j, l, is) = rows_in xs first qi in
        let p : row_at ys j ≡ q = kept j l ∙ is in
        let from = (e.are_steps q qi).0 in
        (j, l, ap (λ (z : Row). z.edge) p ∙ same, ap (λ (z : Row). z.from) p ∙ from, elim u [ inl z ↦ absurd (omega arith) | inr z ↦ omega (arith, ap (λ (y : Row). y.step) p, z.1) ])

    steps : (i : ℕ) (t : Row) → nth (rows st n) i ≡ some t → (q : Row) × In q (rows ys r) × (q.edge ≡ t.edge) × Upto 0 i q
    steps i t at = let (j, l, same, from, step) = found i t at in (row_at ys j, in_rows ys r j (omega (arith, f.few)), same, inr (from, step))

    ways : (k i : ℕ) (w t : Row) → nth (rows ys r) k ≡ some w → nth (rows st n) i ≡ some t → t.edge.caller ≡ w.edge.callee → GoesOn (rows ys r) w.edge t.edge k i
    ways k i w t wk at meets =
        let (j, l, same, from, step) = found i t at in
        let (lk, is) = rows_nth ys r k wk in
        let (q, qi, go, u) = f.has lr k j lk l (ap (λ (d : Edge). d.caller) same ∙ meets ∙ ap (λ (z : Row). z.edge.callee) (sym is)) in
        (q, qi, subst₂ (λ (x y : Edge). Then x y q.edge) (ap (λ (z : Row). z.edge) is) same go, elim u [ inl z ↦ inl z | inr z ↦ inr (z.0, omega (arith, z.1, step)) ])

-- zs are the same words as ys
pub whole : (st : List ℕ) (n limit : ℕ) (xs : List ℕ) (first m : ℕ) (ys zs : List ℕ) (r : ℕ) → ys ≡ zs → m ≡ first → Entered (rows st n) n limit xs first → first ≤ limit → Followed (rows st n) m r limit ys r → r ≤ limit → Kept xs first ys → Whole (rows st n) limit zs r
whole st n limit xs first m ys zs r q p e le f lr kept =
    let c = complete st n limit xs first ys r e le (subst (λ (k : ℕ). Followed (rows st n) k r limit ys r) p f) lr kept in
    subst (λ (us : List ℕ). Whole (rows st n) limit us r) q (record { fits = lr; grown = f.grown; complete = c; ways = λ ss steps. let (ws, all, stand) = all_ways steps f.grown c in (ws, all, sym (each_length stand) ∙ length_rows ys r, stand) })

pub over : (st : List ℕ) (n limit : ℕ) (xs : List ℕ) (r : ℕ) → Grown (rows st n) (rows xs r) → limit < r → (ss : List Step) → RowsOfSteps (rows st n) ss → (ws : List Way1) × Ways ss ws × (limit < length ws)
over st n limit xs r g l ss steps = let (ws, all, le) = many steps g in (ws, all, omega (arith, le, length_rows xs r))

-- The reason, from the rows.

pub table_sound : (xs : List ℕ) (n : ℕ) (ss : List Step) (ws : List Way1) → Fine 64 8 ss → Ways ss ws → RowsOfWays (rows xs n) ws → ((j : ℕ) → j < n → Sound (edge_of xs j)) → HasReason ss
table_sound xs n ss ws fine all stand sound = sound_reason fine all stand (λ j r at. let (l, is) = rows_nth xs n j at in subst (λ (q : Row). Sound q.edge) is (sound j l))

pub table_fails : (xs : List ℕ) (n k : ℕ) (ss : List Step) (ws : List Way1) → Fine 64 8 ss → Ways ss ws → RowsOfWays (rows xs n) ws → k < n → Fails (edge_of xs k) → HasReason ss → ⊥
table_fails xs n k ss ws fine all stand l f = fails_no_reason k (row_at xs k) fine all stand (nth_rows xs n k l) f

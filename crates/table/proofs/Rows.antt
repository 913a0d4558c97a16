-- Reading and writing rows.
use Rattle.std.proofs.Common.{◌≡◌, ℕ, zero, suc, ◌+◌, ◌*◌, ◌/◌, ◌%◌, ◌^◌, ◌<◌, ◌≤◌, ◌≢◌, ◌⊎◌, List, [], ◌∷◌, ◌++◌, length, get_or, set, sym, refl, ap, ◌∙◌, ap₂, inl, inr, add-one, arith, lit<}
use Rattle.std.proofs.lemmas.List.{length-set, get_or-set_same, get_or-set_other, length_push}
use mathlib.Core.Option.{some}
use mathlib.Core.HLevel.{is_prop→PathP}
use native.Mathlib.Bridge.{le_prop}
use Rattle.sizechange.specs.Graph.{In, nth}
use Rattle.sizechange.proofs.Lists.{nth_below}
use Rattle.sizechange.proofs.Arcs.{in_cons, in_at, in_left, in_right, in_append}
use Rattle.std.proofs.lemmas.Bool.{cases_lt, cases_eq}
use Rattle.table.specs.declared.Edge.{Edge}
use Rattle.table.specs.declared.row.Row.{Row}
use Rattle.table.specs.Ends.{Ends}
use Rattle.table.specs.Rows.{SameRow, cell, edge_of, row_at, rows}

pub edge_path : (e d : Edge) → e.caller ≡ d.caller → e.callee ≡ d.callee → e.graph.any ≡ d.graph.any → e.graph.part ≡ d.graph.part → e ≡ d
edge_path e d p q r s = λ i. record { caller = p i; callee = q i; graph = record { any = r i; part = s i } }

ends_prop : (e : Edge) → IsProp (Ends e)
ends_prop e a b = λ i. record { caller_below = le_prop a.caller_below b.caller_below i; callee_below = le_prop a.callee_below b.callee_below i }

pub row_path : (q r : Row) → q.edge ≡ r.edge → q.from ≡ r.from → q.step ≡ r.step → q ≡ r
row_path q r e f s = λ i. record { edge = e i; from = f i; step = s i; ends = is_prop→PathP (λ i. Ends (e i)) (λ i. ends_prop (e i)) q.ends r.ends i }

-- words written one after another, the first at `at + n`
abbrev write : List ℕ → ℕ → ℕ → List ℕ → List ℕ
write xs at n [] = xs
write xs at n (w ∷ ws) = write (set xs (at + n) w) at (suc n) ws

write_other : (xs : List ℕ) (at n : ℕ) (ws : List ℕ) (q : ℕ) → (q < at + n) ⊎ (at + n + length ws ≤ q) → get_or (write xs at n ws) q 0 ≡ get_or xs q 0
write_other xs at n [] q h = refl
write_other xs at n (w ∷ ws) q h =
    let ne : q ≢ at + n = λ e. elim h [ inl l ↦ omega arith | inr l ↦ omega arith ] in
    write_other (set xs (at + n) w) at (suc n) ws q (elim h [ inl l ↦ inl (omega arith) | inr l ↦ inr (omega arith) ]) ∙ get_or-set_other xs (at + n) q w 0 ne

write_at : (xs : List ℕ) (at n : ℕ) (ws : List ℕ) (p : ℕ) → at + n + length ws ≤ length xs → p < length ws → get_or (write xs at n ws) (at + (n + p)) 0 ≡ get_or ws p 0
write_at xs at n [] p h l = absurd (omega arith)
write_at xs at n (w ∷ ws) zero h l =
    let e : at + (n + 0) ≡ at + n = omega arith in
    let lt : at + n < length xs = omega arith in
    ap (λ (q : ℕ). get_or (write (set xs (at + n) w) at (suc n) ws) q 0) e ∙ write_other (set xs (at + n) w) at (suc n) ws (at + n) (inl (omega arith)) ∙ get_or-set_same xs (at + n) w 0 lt
write_at xs at n (w ∷ ws) (suc p) h l =
    let e : at + (n + suc p) ≡ at + (suc n + p) = omega arith in
    ap (λ (q : ℕ). get_or (write (set xs (at + n) w) at (suc n) ws) q 0) e ∙ write_at (set xs (at + n) w) at (suc n) ws p (omega (arith, length-set xs (at + n) w)) (omega arith)

-- the eight words of a row
abbrev row_words : Row → ℕ → ℕ → ℕ → ℕ → ℕ → List ℕ
row_words r a b c d l = a ∷ b ∷ c ∷ d ∷ (r.edge.caller * 64 + r.edge.callee) ∷ r.from ∷ r.step ∷ l ∷ []

abbrev pub after : List ℕ → ℕ → Row → ℕ → ℕ → ℕ → ℕ → ℕ → List ℕ
after xs k r a b c d l = write xs (8 * k) 0 (row_words r a b c d l)

module _ (xs : List ℕ) (k : ℕ) (r : Row) (a b c d l : ℕ) (h : 8 * k + 8 ≤ length xs) where
  abbrev ys : List ℕ
  ys = after xs k r a b c d l

  cell_at : (p : ℕ) → p < 8 → cell ys k (0 + p) ≡ get_or (row_words r a b c d l) p 0
  cell_at p lt = write_at xs (8 * k) 0 (row_words r a b c d l) p (omega arith) lt

  written_edge : a ≡ r.edge.graph.any % 2 ^ 32 → b ≡ r.edge.graph.any / 2 ^ 32 → c ≡ r.edge.graph.part % 2 ^ 32 → d ≡ r.edge.graph.part / 2 ^ 32 → edge_of ys k ≡ r.edge
  unfolding edge_of
  written_edge pa pb pc pd =
      let hc = r.ends.caller_below in
      let hd = r.ends.callee_below in
      edge_path (edge_of ys k) r.edge
      (ap (λ (x : ℕ). x / 64 % 64) (cell_at 4 (lit< tt)) ∙ omega arith)
      (ap (λ (x : ℕ). x % 64) (cell_at 4 (lit< tt)) ∙ omega arith)
      (omega (arith, cell_at 0 (lit< tt), cell_at 1 (lit< tt), pa, pb))
      (omega (arith, cell_at 2 (lit< tt), cell_at 3 (lit< tt), pc, pd))

  pub written_row : a ≡ r.edge.graph.any % 2 ^ 32 → b ≡ r.edge.graph.any / 2 ^ 32 → c ≡ r.edge.graph.part % 2 ^ 32 → d ≡ r.edge.graph.part / 2 ^ 32 → row_at ys k ≡ r
  written_row pa pb pc pd = row_path (row_at ys k) r (written_edge pa pb pc pd) (cell_at 5 (lit< tt)) (cell_at 6 (lit< tt))

  cell_other : (j p : ℕ) → (j ≡ k → ⊥) → p < 8 → cell ys j p ≡ cell xs j p
  cell_other j p ne lt = write_other xs (8 * k) 0 (row_words r a b c d l) (8 * j + p) (elim (cases_lt j k) [ inl m ↦ inl (omega arith) | inr m ↦ inr (omega arith) ])

  edge_other : (j : ℕ) → (j ≡ k → ⊥) → edge_of ys j ≡ edge_of xs j
  unfolding edge_of
  edge_other j ne =
      let s : (p : ℕ) → p < 8 → cell ys j p ≡ cell xs j p = λ p lt. cell_other j p ne lt in
      edge_path (edge_of ys j) (edge_of xs j)
      (ap (λ (x : ℕ). x / 64 % 64) (s 4 (lit< tt)))
      (ap (λ (x : ℕ). x % 64) (s 4 (lit< tt)))
      (ap₂ (λ (x y : ℕ). x + y * 2 ^ 32) (s 0 (lit< tt)) (s 1 (lit< tt)))
      (ap₂ (λ (x y : ℕ). x + y * 2 ^ 32) (s 2 (lit< tt)) (s 3 (lit< tt)))

  pub written_other : (j : ℕ) → (j ≡ k → ⊥) → SameRow xs ys j
  written_other j ne = record { row = row_path (row_at ys j) (row_at xs j) (edge_other j ne) (cell_other j 5 ne (lit< tt)) (cell_other j 6 ne (lit< tt)); link = cell_other j 7 ne (lit< tt) }

-- Tables as lists of rows.

pub length_rows : (xs : List ℕ) (n : ℕ) → length (rows xs n) ≡ n
length_rows xs zero = refl
length_rows xs (suc n) = length_push (rows xs n) (row_at xs n) ∙ omega (arith, length_rows xs n)

pub rows_same : (xs ys : List ℕ) (n : ℕ) → ((j : ℕ) → j < n → row_at ys j ≡ row_at xs j) → rows ys n ≡ rows xs n
rows_same xs ys zero s = refl
rows_same xs ys (suc n) s = ap₂ (λ (us : List Row) (r : Row). us ++ r ∷ []) (rows_same xs ys n (λ j l. s j (omega arith))) (s n (omega arith))

pub in_rows : (xs : List ℕ) (n j : ℕ) → j < n → In (row_at xs j) (rows xs n)
in_rows xs zero j l = absurd (omega arith)
in_rows xs (suc n) j l = go (cases_eq j n) (in_rows xs n j)
  where
    go : (j ≡ n) ⊎ (j ≡ n → ⊥) → (j < n → In (row_at xs j) (rows xs n)) → In (row_at xs j) (rows xs n ++ row_at xs n ∷ [])
    go (inl z) h = in_right (rows xs n) (in_at (ap (row_at xs) z))
    go (inr z) h = in_left (row_at xs n ∷ []) (h (omega arith))

pub rows_in : (xs : List ℕ) (n : ℕ) {r : Row} → In r (rows xs n) → (j : ℕ) × (j < n) × (row_at xs j ≡ r)
rows_in xs zero i = elim i [ ]
rows_in xs (suc n) {r} i = go (in_append (rows xs n) (row_at xs n ∷ []) i) (rows_in xs n)
  where
    go : In r (rows xs n) ⊎ In r (row_at xs n ∷ []) → (In r (rows xs n) → (j : ℕ) × (j < n) × (row_at xs j ≡ r)) → (j : ℕ) × (j < suc n) × (row_at xs j ≡ r)
    go (inl m) h = let f = h m in (f.0, omega (arith, f.1), f.2)
    go (inr m) h = elim (in_cons m) [ inl p ↦ (n, omega arith, sym p) | inr k ↦ elim k [ ] ]

pub rows_push : (xs ys : List ℕ) (n : ℕ) (r : Row) → ((j : ℕ) → (j ≡ n → ⊥) → SameRow xs ys j) → row_at ys n ≡ r → rows ys (n + 1) ≡ rows xs n ++ r ∷ []
rows_push xs ys n r s p = rw add-one (ap₂ (λ (us : List Row) (q : Row). us ++ q ∷ []) (rows_same xs ys n (λ j l. (s j (λ z. omega arith)).row)) p)

-- Rows by their places.

nth_left : {A : Type 0} (xs ys : List A) (i : ℕ) → i < length xs → nth (xs ++ ys) i ≡ nth xs i
nth_left [] ys i l = absurd (omega arith)
nth_left (x ∷ xs) ys zero l = refl
nth_left (x ∷ xs) ys (suc i) l = nth_left xs ys i (omega arith)

nth_end : {A : Type 0} (xs : List A) (x : A) → nth (xs ++ x ∷ []) (length xs) ≡ some x
nth_end [] x = refl
nth_end (y ∷ xs) x = nth_end xs x

pub nth_rows : (xs : List ℕ) (n i : ℕ) → i < n → nth (rows xs n) i ≡ some (row_at xs i)
nth_rows xs zero i l = absurd (omega arith)
nth_rows xs (suc n) i l = go (cases_eq i n) (nth_rows xs n i)
  where
    long : length (rows xs n) ≡ n
    long = length_rows xs n

    go : (i ≡ n) ⊎ (i ≡ n → ⊥) → (i < n → nth (rows xs n) i ≡ some (row_at xs i)) → nth (rows xs n ++ row_at xs n ∷ []) i ≡ some (row_at xs i)
    go (inl e) h = ap (nth (rows xs n ++ row_at xs n ∷ [])) (e ∙ sym long) ∙ nth_end (rows xs n) (row_at xs n) ∙ ap (λ (k : ℕ). some (row_at xs k)) (sym e)
    go (inr ne) h = nth_left (rows xs n) (row_at xs n ∷ []) i (omega (arith, long)) ∙ h (omega arith)

pub rows_nth : (xs : List ℕ) (n i : ℕ) {r : Row} → nth (rows xs n) i ≡ some r → (i < n) × (row_at xs i ≡ r)
rows_nth xs n i {r} e =
    let l : i < n = omega (arith, nth_below (rows xs n) i e, length_rows xs n) in
    let is = nth_rows xs n i l in
    let p : row_at xs i ≡ r = cc in
    (l, p)

-- what stands in a list with one more at its end
pub nth_push : {A : Type 0} (xs : List A) (x : A) (i : ℕ) {y : A} → nth (xs ++ x ∷ []) i ≡ some y → (nth xs i ≡ some y) ⊎ ((i ≡ length xs) × (x ≡ y))
nth_push [] x zero {y} e = let p : x ≡ y = cc in inr (refl, p)
nth_push [] x (suc i) e = let z : ◌≡◌ {A = ℕ} 0 1 = cc in absurd (omega arith)
nth_push (a ∷ xs) x zero e = inl e
nth_push (a ∷ xs) x (suc i) e = elim (nth_push xs x i e) [ inl h ↦ inl h | inr h ↦ inr (ap suc h.0, h.1) ]

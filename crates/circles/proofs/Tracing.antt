-- Following a way back to its first step.
use Rattle.std.proofs.Common.{◌≡◌, ℕ, zero, suc, ◌+◌, ◌-◌, ◌*◌, ◌<◌, ◌≤◌, ◌⊎◌, List, [], ◌∷◌, ◌++◌, length, get_or, sym, ap, ◌∙◌, subst, inl, inr, append_assoc, arith, length-append}
use mathlib.Core.Option.{some}
use Rattle.std.proofs.lemmas.Bool.{cases_eq}
use Rattle.sizechange.specs.Graph.{nth}
use Rattle.sizechange.proofs.Lists.{nth_below}
use Rattle.sizechange.proofs.Circles.{length_push}
use Rattle.lang.proofs.Calls.{nth_right}
use Rattle.table.specs.declared.row.Row.{Row}
use Rattle.table.specs.declared.slice.RowSlice.{RowSlice}
use Rattle.table.specs.Rows.{row_at}
use Rattle.table.proofs.Rows.{nth_rows, length_rows}
use Rattle.closure.specs.Ways.{Made, begun, gone_on}
use Rattle.circles.specs.Paths.{Path, Traced, Run, Names, Named}
use Rattle.circles.proofs.Paths.{grown_made, path_some, path_none, path_last}

-- Where a row of a traced table leads to.

made_step : {ts vs : List Row} {r : Row} → Made ts vs r → r.step < length ts
made_step {ts} {r = r} (begun t from at e) = nth_below ts r.step at
made_step {ts} {r = r} (gone_on k w t from way at e go) = nth_below ts r.step at

pub row_traced : {st xs : RowSlice} {way : ℕ} (t : Traced st xs way) (k : ℕ) → k ≤ way → ((row_at xs.words.now k).from ≤ k) × ((row_at xs.words.now k).step < st.count)
row_traced {st} {xs} {way} t k l =
    let b = t.there in
    let m = grown_made k (row_at xs.words.now k) t.grown (nth_rows xs.words.now xs.count k (omega arith)) in
    (m.1, omega (arith, made_step m.0, length_rows st.words.now st.count))

pub traced_path : {st xs : RowSlice} {way : ℕ} → Traced st xs way → (is : List ℕ) × Path xs.words.now (suc way) is
traced_path {st} {xs} {way} t = let b = t.there in path_some xs.words.now xs.count t.grown (suc way) (suc way) (omega arith) (omega arith)

-- so many steps come after the way from which those before are counted
pub record Counting (xs : List ℕ) (way from n : ℕ) : Type 0 where
  pub few : from + n ≤ suc way
  pub rest : (is : List ℕ) → Path xs (suc way) is → (js : List ℕ) × Path xs from js × (length is ≡ length js + n)

pub counting_none : (xs : List ℕ) (way from : ℕ) → from ≡ suc way → Counting xs way from 0
counting_none xs way from e = record { few = omega arith; rest = λ is p. (is, subst (λ (k : ℕ). Path xs k is) (sym e) p, omega arith) }

pub counting_more : {st xs : RowSlice} {way from n : ℕ} (k next : ℕ) → Traced st xs way → Counting xs.words.now way from n → from ≡ suc k → next ≡ (row_at xs.words.now k).from → Counting xs.words.now way next (n + 1)
counting_more {st} {xs} {way} {from} {n} k next t c e f =
    let a = c.few in
    let b = (row_traced t k (omega arith)).0 in
    record {
      few = omega arith;
      rest = λ is p. let x = c.rest is p in let y = path_last k x.1 e in (y.0, subst (λ (j : ℕ). Path xs.words.now j y.0) (sym f) y.1, omega (arith, x.2, ap length y.2, length_push y.0 (row_at xs.words.now k).step));
    }

pub counting_all : {xs : List ℕ} {way from n : ℕ} → Counting xs way from n → from ≡ 0 → (is : List ℕ) → Path xs (suc way) is → length is ≡ n
counting_all c e is p = let x = c.rest is p in omega (arith, x.2, ap length (path_none x.1 e))

-- the steps ks are named, from a place of the words on
abbrev Told : List ℕ → List ℕ → ℕ → List ℕ → Type 0
Told st ws place ks = (j i : ℕ) → nth ks j ≡ some i → 2 * (place + j) + 1 < length ws → Names st ws (place + j) i

names_same : {st ws us : List ℕ} {place i : ℕ} → get_or us (2 * place) 0 ≡ get_or ws (2 * place) 0 → get_or us (2 * place + 1) 0 ≡ get_or ws (2 * place + 1) 0 → Names st ws place i → Names st us place i
names_same {st} {i = i} e f h = record { function = e ∙ h.function; number = subst (λ (r : ℕ). Run st i r) (sym f) h.number }

told_more : (st ws us : List ℕ) (place next i : ℕ) (ks : List ℕ) → place ≡ suc next → length us ≡ length ws → (2 * next + 1 < length ws → Names st us next i) → ((j : ℕ) → 2 * next + 1 < j → get_or us j 0 ≡ get_or ws j 0) → Told st ws place ks → Told st us next (i ∷ ks)
told_more st ws us place next i ks e long new others told zero k at l =
    let z : next ≡ next + 0 = omega arith in
    let y : i ≡ k = cc in
    subst (λ (m : ℕ). Names st us m k) z (subst (λ (m : ℕ). Names st us next m) y (new (omega arith)))
told_more st ws us place next i ks e long new others told (suc j) k at l =
    let z : place + j ≡ next + suc j = omega arith in
    subst (λ (m : ℕ). Names st us m k) z (names_same (others _ (omega arith)) (others _ (omega arith)) (told j k at (omega arith)))

-- the last steps of the way, after the first `left`, are named
pub record Writing (st xs : List ℕ) (way at : ℕ) (ws : List ℕ) (from left : ℕ) : Type 0 where
  pub few : from ≤ suc way
  pub rest : (is : List ℕ) → Path xs (suc way) is → (js : List ℕ) × (ks : List ℕ) × Path xs from js × (is ≡ js ++ ks) × (length js ≡ left) × (left ≤ at → (at ≡ left) ⊎ (ks ≡ [])) × Told st ws (left - at) ks

-- while steps are left, there is a way to come from
pub writing_from : {st xs : RowSlice} {ws : List ℕ} {way at from left : ℕ} → Traced st xs way → Writing st.words.now xs.words.now way at ws from left → 0 < left → 0 < from
writing_from {from = from} {left = left} t w l = elim (cases_eq from 0) [ inl e ↦ let p = traced_path t in let x = w.rest p.0 p.1 in absurd (omega (arith, x.4, ap length (path_none x.2 e))) | inr d ↦ omega arith ]

pub writing_more : {st xs : RowSlice} {ws : List ℕ} {way at from left : ℕ} (us : List ℕ) (k next step new : ℕ) → Traced st xs way → Writing st.words.now xs.words.now way at ws from left → from ≡ suc k → next ≡ (row_at xs.words.now k).from → step ≡ (row_at xs.words.now k).step → left ≡ suc new → at ≤ new → length us ≡ length ws → (2 * (new - at) + 1 < length ws → Names st.words.now us (new - at) step) → ((j : ℕ) → 2 * (new - at) + 1 < j → get_or us j 0 ≡ get_or ws j 0) → Writing st.words.now xs.words.now way at us next new
writing_more {st} {xs} {ws} {way} {at} {from} {left} us k next step new t w e f s d above long here others =
    let a = w.few in
    let b = (row_traced t k (omega arith)).0 in
    record { few = omega arith; rest = rest }
  where
    rest : (is : List ℕ) → Path xs.words.now (suc way) is → (js : List ℕ) × (ks : List ℕ) × Path xs.words.now next js × (is ≡ js ++ ks) × (length js ≡ new) × (new ≤ at → (at ≡ new) ⊎ (ks ≡ [])) × Told st.words.now us (new - at) ks
    rest is p =
        let x = w.rest is p in
        let y = path_last k x.2 e in
        let z : x.0 ≡ y.0 ++ step ∷ [] = y.2 ∙ ap (λ (i : ℕ). y.0 ++ i ∷ []) (sym s) in
        (y.0, step ∷ x.1, subst (λ (j : ℕ). Path xs.words.now j y.0) (sym f) y.1, x.3 ∙ (ap (λ (vs : List ℕ). vs ++ x.1) z ∙ append_assoc y.0 (step ∷ []) x.1), omega (arith, x.4, ap length z, length_push y.0 step), (λ l. inl (omega arith)), told_more st.words.now ws us (left - at) (new - at) step x.1 (omega arith) long here others x.6)

pub writing_all : {st xs ws : List ℕ} {way at from left : ℕ} → Writing st xs way at ws from left → left ≤ at → (is : List ℕ) → Path xs (suc way) is → Named st is at ws
writing_all {st} {xs} {ws} {way} {at} {from} {left} w l is p j i e b = go (w.rest is p)
  where
    go : (js : List ℕ) × (ks : List ℕ) × Path xs from js × (is ≡ js ++ ks) × (length js ≡ left) × (left ≤ at → (at ≡ left) ⊎ (ks ≡ [])) × Told st ws (left - at) ks → Names st ws j i
    go (js, ks, path, whole, long, ended, told) = elim (ended l) [
      | inl a ↦
          let z : at + j ≡ length js + j = omega arith in
          let y : nth ks j ≡ some i = sym (nth_right js ks j (at + j) z) ∙ (ap (λ (vs : List ℕ). nth vs (at + j)) (sym whole) ∙ e) in
          let x : (left - at) + j ≡ j = omega arith in
          subst (λ (m : ℕ). Names st ws m i) x (told j i y (omega arith))
      | inr a ↦ absurd (omega (arith, nth_below is (at + j) e, ap length whole, length-append js ks, ap length a))
    ]

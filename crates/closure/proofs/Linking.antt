-- The steps are linked from the last to the first.
use Rattle.std.proofs.Common.{◌≡◌, ℕ, ◌+◌, ◌<◌, ◌≤◌, List, get_or, sym, ap, ◌∙◌, arith}
use Rattle.table.specs.declared.row.Row.{Row}
use Rattle.closure.specs.Parts.{First, Linked, Kept, caller}

-- rows that are kept are linked as they were
first_same : (f g : ℕ → ℕ) (a n b h : ℕ) → ((j : ℕ) → j < n → g j ≡ f j) → First f a n b h → First g a n b h
first_same f g a n b h s x = record { least = x.least; most = x.most; here = λ l. s h l ∙ x.here l; before = λ j l m e. x.before j l m (sym (s j (omega (arith, x.most))) ∙ e) }

pub linked_kept : (i n count : ℕ) (xs ys starts nexts : List ℕ) → n ≤ count → Kept xs count ys → Linked i n xs starts nexts → Linked i n ys starts nexts
linked_kept i n count xs ys starts nexts le kept x = record { starts_first = λ g l. first_same (caller xs) (caller ys) i n g (get_or starts g 0) same (x.starts_first g l); nexts_first = nexts_first }
  where
    same : (j : ℕ) → j < n → caller ys j ≡ caller xs j
    same j l = ap (λ (r : Row). r.edge.caller) (kept j (omega arith))

    nexts_first : (j : ℕ) → i ≤ j → j < n → First (caller ys) (j + 1) n (caller ys j) (get_or nexts j 0)
    nexts_first j l m = rw (same j m) (first_same (caller xs) (caller ys) (j + 1) n (caller xs j) (get_or nexts j 0) same (x.nexts_first j l m))

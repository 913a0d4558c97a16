-- Hash chains.
use Rattle.std.proofs.Common.{◌≡◌, ℕ, suc, ◌<◌, ◌≤◌, ◌+◌, List, set, sym, ap, ◌∙◌, subst, arith}
use Rattle.std.proofs.lemmas.List.{length-set, get_or-set_same, get_or-set_other}
use Rattle.std.proofs.lemmas.Grind.{common_steps}
use Rattle.std.specs.Prelude.{slice_index, Option, Some, None, is_some, true, false}
use Rattle.table.specs.declared.Edge.{Edge}
use Rattle.table.specs.declared.row.Row.{Row}
use Rattle.table.specs.declared.Table.{Table}
use Rattle.table.specs.Rows.{SameRow, edge_of, link_at, row_at, rows}
use Rattle.table.specs.Tables.{Found, list_of}
use Rattle.table.specs.Index.{Chained, Last, Has, bucket, bucket_of}
use Rattle.table.proofs.Rows.{in_rows, rows_in}

-- What is left of a chain on the way through it: e is not among the rows from `at` on.
pub record Left (xs : List ℕ) (h n : ℕ) (e : Edge) (at : ℕ) : Type 0 where
  pub most : at ≤ n
  pub here : (j : ℕ) → at ≡ suc j → bucket xs h j ≡ bucket_of e h
  pub after : (j : ℕ) → at ≤ j → j < n → edge_of xs j ≡ e → ⊥

-- A row more, as the first of its chain: f and g say the chains of the rows before and after, l and m the links.
head_push : (f g : ℕ → ℕ) (n b c v w : ℕ) → Last f n c v → ((j : ℕ) → j < n → g j ≡ f j) → g n ≡ b → (c ≡ b → w ≡ n + 1) → ((c ≡ b → ⊥) → w ≡ v) → Last g (n + 1) c w
head_push f g n b c v w before same is here other = grind (arith, common_steps)

links_push : (f g l m : ℕ → ℕ) (n v : ℕ) → ((j : ℕ) → j < n → Last f j (f j) (l j)) → Last f n (g n) v → ((j : ℕ) → j < n → g j ≡ f j) → ((j : ℕ) → j < n → m j ≡ l j) → m n ≡ v → (j : ℕ) → j < n + 1 → Last g j (g j) (m j)
links_push f g l m n v before first same links link j lj = grind (arith, common_steps)

pub chained_push : (xs ys heads : List ℕ) (h n b : ℕ) → Chained xs heads h n → b < h → ((j : ℕ) → (j ≡ n → ⊥) → SameRow xs ys j) → bucket ys h n ≡ b → link_at ys n ≡ slice_index heads b → Chained ys (set heads b (n + 1)) h (n + 1)
chained_push xs ys heads h n b c l same is link = record {
  some_heads = c.some_heads;
  few_heads = c.few_heads;
  within = omega (arith, length-set heads b (n + 1), c.within);
  heads_last = λ d ld. head_push (bucket xs h) (bucket ys h) n b d (slice_index heads d) (slice_index (set heads b (n + 1)) d) (c.heads_last d ld) kept is (λ e. subst (λ (k : ℕ). slice_index (set heads b (n + 1)) k ≡ n + 1) (sym e) (get_or-set_same heads b (n + 1) 0 (omega (arith, c.within)))) (get_or-set_other heads b d (n + 1) 0);
  links_last = links_push (bucket xs h) (bucket ys h) (link_at xs) (link_at ys) n (slice_index heads b) c.links_last (subst (λ (d : ℕ). Last (bucket xs h) n d (slice_index heads b)) (sym is) (c.heads_last b l)) kept (λ j lj. (same j (λ e. omega arith)).link) link;
}
  where
    kept : (j : ℕ) → j < n → bucket ys h j ≡ bucket xs h j
    kept j lj = ap (λ (r : Row). bucket_of r.edge h) (same j (λ e. omega arith)).row

has_row : (xs : List ℕ) (n : ℕ) (e : Edge) (j : ℕ) → j < n → edge_of xs j ≡ e → Has (rows xs n) e
has_row xs n e j l p = (row_at xs j, in_rows xs n j l, p)

has_no_row : (xs : List ℕ) (n : ℕ) (e : Edge) → ((j : ℕ) → j < n → edge_of xs j ≡ e → ⊥) → Has (rows xs n) e → ⊥
has_no_row xs n e none h = let r = rows_in xs n h.1 in none r.0 r.1 (ap (λ (q : Row). q.edge) r.2 ∙ h.2)

-- the edge was found, or not
pub found_some : (t : Table) (e : Edge) (o : Option ℕ) → Found t e o → is_some o ≡ true → Has (list_of t) e
found_some t e (Some k) f s = has_row t.rows.now t.count e k f.0 f.1
found_some t e None f s = cc

pub found_none : (t : Table) (e : Edge) (o : Option ℕ) → Found t e o → is_some o ≡ false → Has (list_of t) e → ⊥
found_none t e (Some k) f s = cc
found_none t e None f s = has_no_row t.rows.now t.count e f

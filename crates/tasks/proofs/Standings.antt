-- What the tables of a program that ends say of a place where an expression stands.
use Rattle.std.proofs.Common.{◌≡◌, ℕ, zero, suc, ◌+◌, ◌-◌, ◌<◌, ◌≤◌, List, [], ◌∷◌, ◌++◌, length, get_or, drop, sym, refl, ap, ◌∙◌, subst, arith}
use mathlib.Core.List.{is_set}
use mathlib.Core.Logic.{∥∥₁_elim}
use mathlib.Core.Option.{some}
use native.Mathlib.Bridge.{le_prop}
use native.Mathlib.Nat.{ℕ_set}
use Rattle.std.proofs.lemmas.List.{drop_at}
use Rattle.sizechange.specs.Graph.{nth}
use Rattle.lang.specs.Program.{Expr, Fun, Prog}
use Rattle.lang.specs.Bytes.{bytes_of_expr}
use Rattle.lang.specs.Reads.{Reads}
use Rattle.lang.proofs.Reading.{reads_one, reads_bytes, one_program, fine_parts}
use Rattle.reading.specs.Ends.{EndWord}
use Rattle.reading.proofs.Heading.{starting, Starting}
use Rattle.tasks.specs.Texts.{Ending, EndsAt, Body, Standing, Numbered}

module _ (s ends starts : List ℕ) (h : ∥ Ending s ends starts ∥₁) where
  pub few_bytes : length s ≤ 4096
  few_bytes = ∥∥₁_elim h le_prop (λ E. (fine_parts s E.prog E.tables.program).0)

  pub long_ends : length s ≤ length ends
  long_ends = ∥∥₁_elim h le_prop (λ E. E.all_ends)

  -- the first bytes of what stands there
  pub first_bytes : (at : ℕ) → Standing s at → Starting (get_or s at 0) (length s - at)
  first_bytes at st = record {
    known = ∥∥₁_elim h le_prop (λ E. (there E).known);
    one = ∥∥₁_elim h le_prop (λ E. (there E).one);
    var_two = λ e. ∥∥₁_elim h le_prop (λ E. (there E).var_two e);
    parts_two = λ e. ∥∥₁_elim h le_prop (λ E. (there E).parts_two e);
    call_three = λ e. ∥∥₁_elim h le_prop (λ E. (there E).call_three e);
  }
    where
      there : Ending s ends starts → Starting (get_or s at 0) (length s - at)
      there E = starting s at (st E.prog E.tables.program).2

  pub end_there : (at : ℕ) → Standing s at → EndsAt s at (get_or ends at 0)
  end_there at st = record {
    after = ∥∥₁_elim h le_prop (λ E. let q = st E.prog E.tables.program in after (get_or ends at 0) q.0 q.1 q.2 (word E));
    ends = λ e x r. ∥∥₁_elim h (is_set ℕ_set x (drop (get_or ends at 0) s)) (λ E. end (get_or ends at 0) e x r (word E));
  }
    where
      word : Ending s ends starts → EndWord s at (get_or ends at 0)
      word E = let q = (first_bytes at st).one in E.tables.ending at (omega arith) (omega arith)

      after : (w : ℕ) (e : Expr) (x : List ℕ) → Reads (drop at s) e x → EndWord s at w → at < w
      after zero e x r q = absurd (q.none refl e x r)
      after (suc w) e x r q = (q.some (omega arith)).1

      end : (w : ℕ) (e : Expr) (x : List ℕ) → Reads (drop at s) e x → EndWord s at w → x ≡ drop w s
      end zero e x r q = absurd (q.none refl e x r)
      end (suc w) e x r q = (reads_one r (q.some (omega arith)).3).1

  body_of : (E : Ending s ends starts) (f : ℕ) (g : Fun) → nth E.prog f ≡ some g → bytes_of_expr g.body ++ drop (length (bytes_of_expr g.body)) (drop (get_or starts f 0 + 1) s) ≡ drop (get_or starts f 0 + 1) s
  body_of E f g is =
      let q = E.tables.found.starting f g is in
      let b = reads_bytes q.body_there in
      ap (λ (xs : List ℕ). bytes_of_expr g.body ++ drop (length (bytes_of_expr g.body)) xs) (sym b) ∙ ap (λ (xs : List ℕ). bytes_of_expr g.body ++ xs) (drop_at (bytes_of_expr g.body) q.rest (length (bytes_of_expr g.body)) refl) ∙ b

  pub body_there : (f : ℕ) → Body s f (get_or starts f 0 + 1)
  body_there f p g w is = ∥∥₁_elim h (is_set ℕ_set (bytes_of_expr g.body ++ drop (length (bytes_of_expr g.body)) (drop (get_or starts f 0 + 1) s)) (drop (get_or starts f 0 + 1) s)) (λ E. body_of E f g (subst (λ (p : Prog). nth p f ≡ some g) (one_program s p E.prog w E.tables.program) is))

  -- a function that is there has a start
  pub numbered_below : (f : ℕ) → Numbered s f → f < length starts
  numbered_below f n = ∥∥₁_elim h le_prop (λ E. let g = n E.prog E.tables.program in let a = nth_below E.prog f g.0 g.1 in let b = E.all_starts in omega arith)
    where
      nth_below : (p : List Fun) (f : ℕ) (g : Fun) → nth p f ≡ some g → f < length p
      nth_below [] f g e = let z : ◌≡◌ {A = ℕ} 0 1 = cc in absurd (omega arith)
      nth_below (k ∷ p) zero g e = omega arith
      nth_below (k ∷ p) (suc f) g e = let q = nth_below p f g e in omega arith

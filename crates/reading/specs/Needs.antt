-- How many variables an expression needs in view.
use Rattle.std.specs.Prelude.{ℕ, zero, suc, ◌+◌, ◌<◌, ◌≤◌, Bool, ◌&&◌, T, List, length, drop, Some, None, Option, slice_index}
use Rattle.lang.specs.Program.{Expr, Exprs, Prog}
use Rattle.lang.specs.Bytes.{ok, oks}
use Rattle.lang.specs.Reads.{Reads, ReadsAll}
use Rattle.reading.specs.Functions.{Found}

-- k is the least number at which a test passes, as it then does at all larger ones
pub record IsLeast (Q : ℕ → Bool) (k : ℕ) : Type 0 where
  pub enough : (n : ℕ) → k ≤ n → T (Q n)
  pub needed : (n : ℕ) → T (Q n) → k ≤ n

-- the least number, or that the test passes at none
abbrev pub Least : (ℕ → Bool) → Option ℕ → Type 0
Least Q (Some k) = IsLeast Q k
Least Q None = (n : ℕ) → T (Q n) → ⊥

-- in program p: what the expression at a place needs; the two from there on, the second with so many more in view; the n from there on
abbrev pub Need : Prog → List ℕ → ℕ → Option ℕ → Type 0
Need p s at r = (e : Expr) (x : List ℕ) → Reads (drop at s) e x → Least (λ v. ok p v e) r

abbrev pub NeedOfTwo : Prog → List ℕ → ℕ → ℕ → Option ℕ → Type 0
NeedOfTwo p s at k r = (a b : Expr) (ys x : List ℕ) → Reads (drop at s) a ys → Reads ys b x → Least (λ v. ok p v a && ok p (v + k) b) r

abbrev pub NeedOfAll : Prog → List ℕ → ℕ → ℕ → Option ℕ → Type 0
NeedOfAll p s n at r = (es : Exprs) (x : List ℕ) → ReadsAll n (drop at s) es x → Least (λ v. oks p v es) r

-- a word of the table of needs: one more than the number, or 0 where there is none
abbrev pub need_of : ℕ → Option ℕ
need_of zero = None
need_of (suc k) = Some k

-- the table of needs is right from i on
abbrev pub NeedsFrom : Prog → List ℕ → List ℕ → ℕ → Type 0
NeedsFrom p s needs i = (j : ℕ) → i ≤ j → j < length s → Need p s j (need_of (slice_index needs j))

-- the functions that were found
abbrev pub Located : List ℕ → List ℕ → Prog → Type 0
Located s starts p = Found s p starts (length starts)

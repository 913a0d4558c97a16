-- The least numbers of variables in view, put together.
use Rattle.std.proofs.Common.{◌≡◌, ℕ, suc, ◌+◌, ◌-◌, ◌<◌, ◌≤◌, max, Bool, true, false, ◌&&◌, T, ltb, List, length, get_or, drop, Some, None, Option, sym, refl, ap, ◌∙◌, subst, add-zero, zero-add, arith, ltb→lt, lt→ltb}
use Rattle.lang.specs.Program.{Exprs, Prog}
use Rattle.lang.specs.Bytes.{ok, oks}
use Rattle.lang.specs.Reads.{Reads, ReadsAll, r_nil}
use Rattle.lang.proofs.Lists.{both, from_both}
use Rattle.reading.specs.Saying.{EndsAt}
use Rattle.reading.proofs.Passing.{first_of, none_past}
use Rattle.reading.specs.Needs.{IsLeast, Least, Need, NeedOfTwo, NeedOfAll, NeedsFrom, need_of}

pub least_same : {Q R : ℕ → Bool} (r : Option ℕ) → ((n : ℕ) → Q n ≡ R n) → Least Q r → Least R r
least_same (Some k) e l = record { enough = λ n h. subst T (e n) (l.enough n h); needed = λ n t. l.needed n (subst T (sym (e n)) t) }
least_same None e l = λ n t. l n (subst T (sym (e n)) t)

pub least_true : IsLeast (λ n. true) 0
least_true = record { enough = λ n k. tt; needed = λ n t. omega arith }

pub least_var : (i : ℕ) → IsLeast (λ n. ltb i n) (i + 1)
least_var i = record { enough = λ n k. lt→ltb i n (omega arith); needed = λ n t. let h = ltb→lt i n t in omega arith }

-- both tests: the larger number
pub least_max : {Q R : ℕ → Bool} (v w : ℕ) → IsLeast Q v → IsLeast R w → IsLeast (λ n. Q n && R n) (max v w)
least_max {Q} {R} v w k l = record {
  enough = λ n h. from_both (Q n) (R n) (k.enough n (omega arith)) (l.enough n (omega arith));
  needed = λ n t. let x = k.needed n (both (Q n) (R n) t).0 in let y = l.needed n (both (Q n) (R n) t).1 in omega arith;
}

-- k more in view
pub least_lower : {Q : ℕ → Bool} (w k : ℕ) → IsLeast Q w → IsLeast (λ n. Q (n + k)) (w - k)
least_lower w k l = record { enough = λ n a. l.enough (n + k) (omega arith); needed = λ n t. let y = l.needed (n + k) t in omega arith }

-- the numbers of expressions one after another: i of them have been put together, and their tests are Q
pub record Joined (p : Prog) (s : List ℕ) (j i k w : ℕ) : Type 0 where
  pub rest : (m : ℕ) (es : Exprs) (x : List ℕ) → ReadsAll (i + m) (drop j s) es x → (gs : Exprs) × (Q : ℕ → Bool) × ReadsAll m (drop k s) gs x × IsLeast Q w × ((n : ℕ) → oks p n es ≡ (Q n && oks p n gs))

pub joined_none : (p : Prog) (s : List ℕ) (j : ℕ) → Joined p s j 0 j 0
joined_none p s j = record { rest = λ m es x r. (es, (λ n. true), rw zero-add at r, least_true, λ n. refl) }

and_assoc : (a b c : Bool) → (a && (b && c)) ≡ ((a && b) && c)
and_assoc true b c = refl
and_assoc false b c = refl

and_true : (a : Bool) → (a && true) ≡ a
and_true true = refl
and_true false = refl

pub joined_more : (p : Prog) (s : List ℕ) (j i k w k' v u : ℕ) → u ≡ max w v → Joined p s j i k w → EndsAt s k (Some k') → Need p s k (Some v) → Joined p s j (i + 1) k' u
joined_more p s j i k w k' v u m q h d = subst (λ (z : ℕ). Joined p s j (i + 1) k' z) (sym m) (record { rest = λ m es x r. step m es x (q.rest (suc m) es x (subst (λ (z : ℕ). ReadsAll z (drop j s) es x) (next m) r)) })
  where
    next : (m : ℕ) → (i + 1) + m ≡ i + suc m
    next m = omega arith

    Rest : (m : ℕ) (es : Exprs) (x : List ℕ) (k w : ℕ) → Type 0
    Rest m es x k w = (gs : Exprs) × (Q : ℕ → Bool) × ReadsAll m (drop k s) gs x × IsLeast Q w × ((n : ℕ) → oks p n es ≡ (Q n && oks p n gs))

    step : (m : ℕ) (es : Exprs) (x : List ℕ) → Rest (suc m) es x k w → Rest m es x k' (max w v)
    step m es x t =
        let c = first_of t.2 in
        (c.1, (λ n. t.1 n && ok p n c.0), subst (λ (ys : List ℕ). ReadsAll m ys c.1 x) (h.2 c.0 c.2 c.3) c.4, least_max w v t.3 (d c.0 c.2 c.3), λ n. t.4 n ∙ (ap (λ (gs : Exprs). t.1 n && oks p n gs) c.5 ∙ and_assoc (t.1 n) (ok p n c.0) (oks p n c.1)))

pub joined_all : (p : Prog) (s : List ℕ) (j n k w : ℕ) → Joined p s j n k w → NeedOfAll p s n j (Some w)
joined_all p s j n k w q es x r = done (q.rest 0 es x (rw add-zero r))
  where
    none : {gs : Exprs} {xs : List ℕ} → ReadsAll 0 xs gs x → (v : ℕ) → oks p v gs ≡ true
    none r_nil v = refl

    done : (gs : Exprs) × (Q : ℕ → Bool) × ReadsAll 0 (drop k s) gs x × IsLeast Q w × ((n : ℕ) → oks p n es ≡ (Q n && oks p n gs)) → IsLeast (λ v. oks p v es) w
    done t = least_same (Some w) (λ v. sym (t.4 v ∙ (ap (λ (b : Bool). t.1 v && b) (none t.2 v) ∙ and_true (t.1 v)))) t.3

-- not all stand where one does not, and not all are well-formed where one is not
pub joined_no : (p : Prog) (s : List ℕ) (j i k w n : ℕ) → Joined p s j i k w → i < n → Need p s k None → NeedOfAll p s n j None
joined_no p s j i k w n q l h es x r =
    let e : n ≡ i + suc (n - (i + 1)) = omega arith in
    let t = q.rest (suc (n - (i + 1))) es x (subst (λ (z : ℕ). ReadsAll z (drop j s) es x) e r) in
    let c = first_of t.2 in
    λ v o. h c.0 c.2 c.3 v (both (ok p v c.0) (oks p v c.1) (subst T (ap (λ (gs : Exprs). oks p v gs) c.5) (both (t.1 v) (oks p v t.0) (subst T (t.4 v) o)).1)).0

pub need_none : (p : Prog) (s : List ℕ) (at : ℕ) → EndsAt s at None → (r : Option ℕ) → Need p s at r
need_none p s at h r e x q = absurd (h e x q)

-- what the table says of a place
pub known : (p : Prog) (s needs : List ℕ) (i j : ℕ) (r : Option ℕ) → NeedsFrom p s needs i → i ≤ j → j < length s → r ≡ need_of (get_or needs j 0) → Need p s j r
known p s needs i j r h l m e = subst (λ (q : Option ℕ). Need p s j q) (sym e) (h j l m)

pub two_second : (p : Prog) (s : List ℕ) (at k more : ℕ) → EndsAt s at (Some k) → Need p s k None → NeedOfTwo p s at more None
two_second p s at k more h d a b ys x ra rb v o = d b x (subst (λ (zs : List ℕ). Reads zs b x) (h.2 a ys ra) rb) (v + more) (both (ok p v a) (ok p (v + more) b) o).1

pub two_past : (p : Prog) (s : List ℕ) (at k more : ℕ) → EndsAt s at (Some k) → length s ≤ k → NeedOfTwo p s at more None
two_past p s at k more h l = two_second p s at k more h (need_none p s k (none_past s k l) None)

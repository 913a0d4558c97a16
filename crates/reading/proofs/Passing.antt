-- One expression after another: what is known of a place that i expressions lead to.
use Rattle.std.proofs.Common.{◌≡◌, ℕ, zero, suc, ◌+◌, ◌-◌, ◌<◌, ◌≤◌, List, length, get_or, drop, set, Some, None, Option, sym, refl, subst, ⊎_elim, add-zero, zero-add, arith}
use Rattle.std.proofs.lemmas.List.{get_or-set_same, get_or-set_other}
use Rattle.std.proofs.lemmas.Bool.{cases_eq, cases_lt}
use Rattle.lang.specs.Program.{Expr, Exprs, nil, cons}
use Rattle.lang.specs.Reads.{Reads, ReadsAll, r_nil, r_cons}
use Rattle.lang.proofs.Reading.{reads_one}
use Rattle.reading.proofs.Heading.{starting}
use Rattle.reading.specs.Ends.{EndOf, EndOfAll, EndWord, EndsFrom}
use Rattle.reading.specs.Saying.{EndsAt, Said, SaysEnd, SaysEnds}

-- the i expressions from j on end at k
pub record Passed (s : List ℕ) (j i k : ℕ) : Type 0 where
  pub within : k ≤ length s
  pub forward : j ≤ k
  pub onto : (n : ℕ) (es : Exprs) (x : List ℕ) → ReadsAll n (drop k s) es x → (fs : Exprs) × ReadsAll (i + n) (drop j s) fs x
  pub back : (n : ℕ) (es : Exprs) (x : List ℕ) → ReadsAll (i + n) (drop j s) es x → (fs : Exprs) × ReadsAll n (drop k s) fs x

pub passed_none : (s : List ℕ) (j : ℕ) → j ≤ length s → Passed s j 0 j
passed_none s j l = record { within = l; forward = omega arith; onto = λ n es x h. (es, rw zero-add h); back = λ n es x h. (es, rw zero-add at h) }

pub first_of : {n : ℕ} {xs x : List ℕ} {es : Exprs} → ReadsAll (suc n) xs es x → (e : Expr) × (fs : Exprs) × (ys : List ℕ) × Reads xs e ys × ReadsAll n ys fs x × (es ≡ cons e fs)
first_of (r_cons {ys = ys} {e = e} {es = es} h k) = (e, es, ys, h, k, refl)

pub passed_more : (s : List ℕ) (j i k w : ℕ) → Passed s j i k → EndOf s k (Some w) → Passed s j (i + 1) w
passed_more s j i k w p h = record { within = h.0; forward = let a = h.1 in let b = p.forward in omega arith; onto = onto; back = back }
  where
    onto : (n : ℕ) (es : Exprs) (x : List ℕ) → ReadsAll n (drop w s) es x → (fs : Exprs) × ReadsAll ((i + 1) + n) (drop j s) fs x
    onto n es x r = let q = p.onto (suc n) (cons h.2 es) x (r_cons h.3 r) in let e : i + suc n ≡ (i + 1) + n = omega arith in (q.0, subst (λ (m : ℕ). ReadsAll m (drop j s) q.0 x) e q.1)

    back : (n : ℕ) (es : Exprs) (x : List ℕ) → ReadsAll ((i + 1) + n) (drop j s) es x → (fs : Exprs) × ReadsAll n (drop w s) fs x
    back n es x r =
        let e : (i + 1) + n ≡ i + suc n = omega arith in
        let q = p.back (suc n) es x (subst (λ (m : ℕ). ReadsAll m (drop j s) es x) e r) in
        let f = first_of q.1 in
        let o = reads_one f.3 h.3 in
        (f.1, subst (λ (ys : List ℕ). ReadsAll n ys f.1 x) o.1 f.4)

-- past the end no expression stands
pub none_past : (s : List ℕ) (k : ℕ) → length s ≤ k → EndOf s k None
none_past s k l e x h = omega (arith, (starting s k h).one)

-- where one of them does not stand there, they are not all there
pub passed_no : (s : List ℕ) (j i k n : ℕ) → Passed s j i k → i < n → EndOf s k None → EndOfAll s n j None
passed_no s j i k n p l h es x r =
    let e : n ≡ i + suc (n - (i + 1)) = omega arith in
    let q = p.back (suc (n - (i + 1))) es x (subst (λ (m : ℕ). ReadsAll m (drop j s) es x) e r) in
    let f = first_of q.1 in
    h f.0 f.2 f.3

pub passed_all : (s : List ℕ) (j n k : ℕ) → Passed s j n k → EndOfAll s n j (Some k)
passed_all s j n k p = let q = p.onto 0 nil (drop k s) r_nil in (p.within, p.forward, q.0, rw add-zero at q.1)

-- one word more of the table of ends
pub ends_more : (s ends : List ℕ) (at w : ℕ) → at < length ends → EndsFrom s ends (at + 1) → EndWord s at w → EndsFrom s (set ends at w) at
ends_more s ends at w l h e j i k = ⊎_elim (λ q. subst (λ (n : ℕ). EndWord s n (get_or (set ends at w) n 0)) (sym q) (rw (get_or-set_same ends at w 0 l) e)) (λ q. rw (get_or-set_other ends at j w 0 q) (h j (omega arith) k)) (cases_eq j at)

-- a table that is right says where expressions end
pub says_ends : (s ends : List ℕ) → EndsFrom s ends 0 → SaysEnds s ends
says_ends s ends h j l = go (get_or ends j 0) (h j (omega arith) l)
  where
    go : (w : ℕ) → EndWord s j w → SaysEnd s j w
    go zero k = record { none = λ z. k.none refl; forward = λ z. absurd (omega arith); within = omega arith; rest = λ e x r. absurd (k.none refl e x r) }
    go (suc w) k = let q = k.some (omega arith) in record { none = λ z. absurd (omega arith); forward = λ z. q.1; within = q.0; rest = λ e x r. (reads_one r q.3).1 }

-- what a word says of a place, by a table that is right from there on
pub end_said : (s ends : List ℕ) (at : ℕ) (r : Option ℕ) → EndsFrom s ends at → Said s ends at r → EndOf s at r
end_said s ends at (Some k) h q = let e = q.1 in subst (λ (w : ℕ). EndOf s at (Some w)) (sym e) ((h at (omega arith) q.0).some (omega arith))
end_said s ends at None h q = ⊎_elim (λ l. (h at (omega arith) l).none (q l)) (λ l. none_past s at l) (cases_lt at (length s))

-- by one that says where expressions end
pub ends_said : (s ends : List ℕ) (at : ℕ) (r : Option ℕ) → SaysEnds s ends → Said s ends at r → EndsAt s at r
ends_said s ends at (Some k) h q =
    let e = q.1 in
    let w = h at q.0 in
    let f = w.forward (omega arith) in
    let i = w.within in
    (omega arith, omega arith, subst (λ (z : ℕ). (e : Expr) (x : List ℕ) → Reads (drop at s) e x → x ≡ drop z s) (sym e) w.rest)
ends_said s ends at None h q = ⊎_elim (λ l. (h at l).none (q l)) (λ l. none_past s at l) (cases_lt at (length s))

-- From an expression at a place to its parts.
use Rattle.std.proofs.Common.{◌≡◌, ℕ, zero, suc, ◌+◌, ◌-◌, ◌<◌, ◌≤◌, T, List, length, get_or, drop, Some, sym, refl, ap, ◌∙◌, subst, add-one, arith}
use Rattle.lang.specs.Program.{Expr, var, Exprs, cons, Prog}
use Rattle.lang.specs.Bytes.{ok, oks}
use Rattle.lang.specs.Reads.{Reads, ReadsAll, r_cons}
use Rattle.lang.proofs.Lists.{both}
use Rattle.reading.specs.declared.head.Head.TheVariants.{Var}
use Rattle.reading.specs.Heads.{HeadAt}
use Rattle.reading.specs.Saying.{SaysEnd, SaysEnds}
use Rattle.reading.proofs.Heading.{Goes, g_var, goes_at, starting}
use Rattle.callgraph.specs.Standing.{ReadsAt, Standing, StandingAll, Stands, StandAll, hop}

-- a variable that stands at a place is in view
goes_var : {i : ℕ} {xs zs : List ℕ} {e : Expr} → Goes (Var i) xs e zs → e ≡ var i
goes_var g_var = refl

pub var_at : (s : List ℕ) (at i : ℕ) {e : Expr} {x : List ℕ} → HeadAt s at (Some (Var i)) → Reads (drop at s) e x → e ≡ var i
var_at s at i a r = goes_var (goes_at s at (Var i) a r)

-- an expression ends where the table says
pub record Ended (s : List ℕ) (at w : ℕ) (x : List ℕ) : Type 0 where
  pub forward : at < w
  pub within : w ≤ length s
  pub rest : x ≡ drop w s

pub ended : (s ends : List ℕ) → SaysEnds s ends → (at : ℕ) {e : Expr} {x : List ℕ} → Reads (drop at s) e x → Ended s at (get_or ends at 0) x
ended s ends t at {e} {x} r = go (get_or ends at 0) (t at (omega (arith, (starting s at r).one)))
  where
    go : (w : ℕ) → SaysEnd s at w → Ended s at w x
    go zero h = absurd (h.none refl e x r)
    go (suc w) h = record { forward = h.forward (omega arith); within = h.within; rest = h.rest e x r }

-- the first of several expressions, and the others
pub record First (p : Prog) (s : List ℕ) (vars at n : ℕ) (es : Exprs) (k w : ℕ) : Type 0 where
  pub first : Expr
  pub others : Exprs
  pub are : es ≡ cons first others
  pub stands : Standing p s vars at first w
  pub stand : StandingAll p s vars w n others k

first_read : (p : Prog) (s ends : List ℕ) → SaysEnds s ends → (vars at k : ℕ) {n : ℕ} {xs : List ℕ} {es : Exprs} → xs ≡ drop at s → k ≤ length s → T (oks p vars es) → ReadsAll (suc n) xs es (drop k s) → First p s vars at n es k (get_or ends at 0)
first_read p s ends t vars at k b l o (r_cons {k = n} {ys = ys} {e = e} {es = es} h r) =
    let oo = both (ok p vars e) (oks p vars es) o in
    let h2 = subst (λ (xs : List ℕ). Reads xs e ys) b h in
    let q = ended s ends t at h2 in
    record {
      first = e;
      others = es;
      are = refl;
      stands = record { reads = subst (λ (x : List ℕ). Reads (drop at s) e x) q.rest h2; forward = q.forward; within = q.within; well = oo.0 };
      stand = record { reads = subst (λ (x : List ℕ). ReadsAll n x es (drop k s)) q.rest r; within = l; well = oo.1 };
    }

pub first_of_all : (p : Prog) (s ends : List ℕ) → SaysEnds s ends → (vars at n : ℕ) (es : Exprs) (k : ℕ) → StandingAll p s vars at (suc n) es k → First p s vars at n es k (get_or ends at 0)
first_of_all p s ends t vars at n es k h = first_read p s ends t vars at k refl h.within h.well h.reads

-- one hop further
hop_more : (ends : List ℕ) (at i : ℕ) → hop ends at (suc i) ≡ get_or ends (hop ends at i) 0
hop_more ends at zero = refl
hop_more ends at (suc i) = hop_more ends (get_or ends at 0) i

pub hop_on : (ends : List ℕ) (at i start : ℕ) → start ≡ hop ends at i → get_or ends start 0 ≡ hop ends at (i + 1)
hop_on ends at i start e = ap (λ (k : ℕ). get_or ends k 0) e ∙ (sym (hop_more ends at i) ∙ ap (λ (k : ℕ). hop ends at k) (sym (add-one i)))

-- of n expressions from a place on, those after the first i
pub stand_after : (s ends : List ℕ) → SaysEnds s ends → (vars at n i : ℕ) → StandAll s vars at (i + n) → StandAll s vars (hop ends at i) n
stand_after s ends t vars at n zero h = let e : 0 + n ≡ n = omega arith in subst (λ (m : ℕ). StandAll s vars at m) e h
stand_after s ends t vars at n (suc i) h =
    let e : suc i + n ≡ suc (i + n) = omega arith in
    let r = subst (λ (m : ℕ). StandAll s vars at m) e h in
    let f = first_of_all r.program s ends t vars at (i + n) r.expressions r.end r.there in
    stand_after s ends t vars (get_or ends at 0) n i (record { program = r.program; few = r.few; expressions = f.others; end = r.end; there = f.stand })

-- so one stands at hop i
stands_at : (s ends : List ℕ) → SaysEnds s ends → (vars at n i : ℕ) → i < n → StandAll s vars at n → Stands s vars (hop ends at i)
stands_at s ends t vars at n i l h =
    let e : n ≡ i + suc (n - (i + 1)) = omega arith in
    let r = stand_after s ends t vars at (suc (n - (i + 1))) i (subst (λ (m : ℕ). StandAll s vars at m) e h) in
    let f = first_of_all r.program s ends t vars (hop ends at i) (n - (i + 1)) r.expressions r.end r.there in
    record { program = r.program; few = r.few; expression = f.first; end = get_or ends (hop ends at i) 0; there = f.stands }

pub stands_next : (s ends : List ℕ) → SaysEnds s ends → (vars at n i start : ℕ) → start ≡ hop ends at i → i < n → StandAll s vars at n → Stands s vars start
stands_next s ends t vars at n i start e l h = subst (λ (k : ℕ). Stands s vars k) (sym e) (stands_at s ends t vars at n i l h)

pub stands_read : (s : List ℕ) (vars at : ℕ) → Stands s vars at → ReadsAt s at
stands_read s vars at h = record { expression = h.expression; rest = drop h.end s; reads = h.there.reads }

-- what the table says where an expression is written
pub reads_below : (s : List ℕ) (at : ℕ) → ReadsAt s at → at < length s
reads_below s at h = omega (arith, (starting s at h.reads).one)

pub reads_end : (s ends : List ℕ) → SaysEnds s ends → (at : ℕ) → (h : ReadsAt s at) → Ended s at (get_or ends at 0) h.rest
reads_end s ends t at h = ended s ends t at h.reads

pub stands_below : (s : List ℕ) (vars at : ℕ) → Stands s vars at → at < length s
stands_below s vars at h = reads_below s at (stands_read s vars at h)

-- The arguments of a call, one after another.
use Rattle.std.proofs.Common.{◌≡◌, ℕ, zero, suc, ◌+◌, ◌-◌, ◌<◌, List, ◌++◌, get_or, drop, sym, refl, ap, ◌∙◌, subst, ap₂, append_assoc, append-nil, add-zero, zero-add, add-one, arith}
use mathlib.Core.Option.{Option}
use Rattle.sizechange.specs.Graph.{Arc}
use Rattle.graphs.specs.declared.Graph.{Graph}
use Rattle.graphs.specs.Words.{Words}
use Rattle.lang.specs.Program.{Expr, Exprs, nil, cons, Prog, count}
use Rattle.lang.specs.Reads.{Reads}
use Rattle.lang.specs.Steps.{From, origin, arc, arcs}
use Rattle.lang.proofs.Reading.{reads_all_bytes}
use Rattle.reading.specs.Saying.{SaysEnds}
use Rattle.callgraph.specs.Standing.{StandingAll, hop}
use Rattle.callgraph.proofs.Standing.{first_of_all}

-- the first i of them
abbrev pub firsts : ℕ → Exprs → Exprs
firsts zero es = nil
firsts (suc i) nil = nil
firsts (suc i) (cons e es) = cons e (firsts i es)

pub firsts_all : (es : Exprs) (n : ℕ) → count es ≡ n → firsts n es ≡ es
firsts_all nil zero h = refl
firsts_all nil (suc n) h = refl
firsts_all (cons e es) zero h = absurd (omega arith)
firsts_all (cons e es) (suc n) h = ap (λ (fs : Exprs). cons e fs) (firsts_all es n (omega arith))

pub all_firsts : (p : Prog) (s : List ℕ) (vars at n : ℕ) (es : Exprs) (k : ℕ) → StandingAll p s vars at n es k → firsts n es ≡ es
all_firsts p s vars at n es k h = firsts_all es n (reads_all_bytes h.reads).1

-- argument i, and the arcs of those up to it
pub record Argument (ks : List (Option From)) (s ends : List ℕ) (vars at i : ℕ) (es : Exprs) : Type 0 where
  pub argument : Expr
  pub rest : List ℕ
  pub reads : Reads (drop (hop ends at i) s) argument rest
  pub arcs_more : (j : ℕ) → arcs ks j (firsts (suc i) es) ≡ arcs ks j (firsts i es) ++ arc (j + i) (origin ks argument)

arcs_push : (ks : List (Option From)) (j i : ℕ) (e : Expr) (es : Exprs) (d : Expr) → arcs ks (j + 1) (firsts (suc i) es) ≡ arcs ks (j + 1) (firsts i es) ++ arc ((j + 1) + i) (origin ks d) → arc j (origin ks e) ++ arcs ks (j + 1) (firsts (suc i) es) ≡ (arc j (origin ks e) ++ arcs ks (j + 1) (firsts i es)) ++ arc (j + suc i) (origin ks d)
arcs_push ks j i e es d h = let q : (j + 1) + i ≡ j + suc i = omega arith in rw (append_assoc, h, q)

pub argument_at : (ks : List (Option From)) (p : Prog) (s ends : List ℕ) → SaysEnds s ends → (vars at n : ℕ) (es : Exprs) (k i : ℕ) → StandingAll p s vars at (i + suc n) es k → Argument ks s ends vars at i es
argument_at ks p s ends t vars at n es k zero h =
    let e : 0 + suc n ≡ suc n = omega arith in
    let f = first_of_all p s ends t vars at n es k (subst (λ (m : ℕ). StandingAll p s vars at m es k) e h) in
    record {
      argument = f.first;
      rest = drop (get_or ends at 0) s;
      reads = f.stands.reads;
      arcs_more = λ j. subst (λ (d : Exprs). arcs ks j (firsts 1 d) ≡ arc (j + 0) (origin ks f.first)) (sym f.are) (append-nil (arc j (origin ks f.first)) ∙ ap (λ (m : ℕ). arc m (origin ks f.first)) (sym (add-zero j)));
    }
argument_at ks p s ends t vars at n es k (suc i) h =
    let e : suc i + suc n ≡ suc (i + suc n) = omega arith in
    let f = first_of_all p s ends t vars at (i + suc n) es k (subst (λ (m : ℕ). StandingAll p s vars at m es k) e h) in
    let r = argument_at ks p s ends t vars (get_or ends at 0) n f.others k i f.stand in
    record {
      argument = r.argument;
      rest = r.rest;
      reads = r.reads;
      arcs_more = λ j. subst (λ (d : Exprs). arcs ks j (firsts (suc (suc i)) d) ≡ arcs ks j (firsts (suc i) d) ++ arc (j + suc i) (origin ks r.argument)) (sym f.are) (arcs_push ks j i f.first f.others r.argument (r.arcs_more (j + 1)));
    }

-- one argument more in the graph
pub words_more : (ks : List (Option From)) (p : Prog) (s ends : List ℕ) → SaysEnds s ends → (vars at n : ℕ) (es : Exprs) (k i start : ℕ) → i < n → start ≡ hop ends at i → (w : Option From) → ((e : Expr) (x : List ℕ) → Reads (drop start s) e x → w ≡ origin ks e) → (g r : Graph) → ((as₁ : List Arc) → Words g as₁ → Words r (as₁ ++ arc i w)) → StandingAll p s vars at n es k → Words g (arcs ks 0 (firsts i es)) → Words r (arcs ks 0 (firsts (i + 1) es))
words_more ks p s ends t vars at n es k i start l a w o g r f h q =
    let e : n ≡ i + suc (n - (i + 1)) = omega arith in
    let b = argument_at ks p s ends t vars at (n - (i + 1)) es k i (subst (λ (m : ℕ). StandingAll p s vars at m es k) e h) in
    let z = o b.argument b.rest (subst (λ (m : ℕ). Reads (drop m s) b.argument b.rest) (sym a) b.reads) in
    let c : arcs ks 0 (firsts i es) ++ arc i w ≡ arcs ks 0 (firsts (i + 1) es) = ap₂ (λ (m : ℕ) (v : Option From). arcs ks 0 (firsts i es) ++ arc m v) (sym (zero-add i)) z ∙ (sym (b.arcs_more 0) ∙ ap (λ (m : ℕ). arcs ks 0 (firsts m es)) (sym (add-one i))) in
    subst (λ (as₁ : List Arc). Words r as₁) c (f (arcs ks 0 (firsts i es)) q)

-- The cost of a task: how many rules the one derivation has, by the theorem that there is one.
use Rattle.std.proofs.Common.{◌≡◌, ℕ, zero, suc, ◌+◌, ◌<◌, ◌≤◌, Bool, true, false, T, ◌⊎◌, List, length, get_or, drop, sym, refl, ◌∙◌, subst, inl, inr, arith}
use mathlib.Core.Logic.{∥∥₁_elim, ∥∥₁_prop}
use mathlib.Core.HLevel.{Σ_prop_path}
use native.Mathlib.Bridge.{le_prop}
use native.Mathlib.Decide.{dec_lt}
use native.Mathlib.Nat.{ℕ_set}
use Rattle.lang.specs.Program.{Tree, Expr, Exprs, nil, cons, Prog}
use Rattle.lang.specs.Bytes.{ok, oks, Program}
use Rattle.lang.specs.Reads.{Reads, ReadsAll, r_nil, r_cons}
use Rattle.lang.specs.Steps.{EndsForAReason}
use Rattle.lang.proofs.Reading.{reads_one, reads_all_one, one_program}
use Rattle.lang.proofs.Rules.{one_eval, one_all}
use Rattle.reading.specs.Ends.{EndWord}
use Rattle.reading.proofs.Heading.{starting}
use Rattle.reading.proofs.Passing.{first_of}
use Rattle.lang.proofs.Theorems.{every_expression_ends, every_list_ends}
use Rattle.tasks.specs.Tasks.{Kind, whole, args, Task, Syntax, Result, Read, Fine, Comes, size, Here, Does, steps, Stands, Says, Within, Leads}
use Rattle.tasks.specs.Texts.{Ending}

pub one_comes : (k : Kind) (p : Prog) (d : ℕ) (ρ : List Tree) (e : Syntax k) (r : ℕ) (o q : Result k) (x : Comes k p d ρ e r o) (y : Comes k p d ρ e r q) → (o ≡ q) × (size k p d ρ e r o x ≡ size k p d ρ e r q y)
one_comes (whole m) p d ρ e r o q x y = one_eval x y
one_comes (args n) p d ρ e r o q x y = one_all x y

all_comes : (s : List ℕ) (p : Prog) → Program s p → EndsForAReason p → (k : Kind) (d : ℕ) (ρ : List Tree) (e : Syntax k) (r : ℕ) → Fine k p (length ρ) e → (o : Result k) × Comes k p d ρ e r o
all_comes s p q why (whole m) d ρ e r fine = every_expression_ends s p q why m d ρ e r fine
all_comes s p q why (args n) d ρ e r fine = every_list_ends s p q why d ρ e r fine

read_one : (k : Kind) (xs ys zs : List ℕ) (e d : Syntax k) → Read k xs e ys → Read k xs d zs → e ≡ d
read_one (whole m) xs ys zs e d a b = (reads_one a b).0
read_one (args n) xs ys zs e d a b = (reads_all_one a b).0

-- whether something stands at a place is decided by the table
module _ (s ends starts : List ℕ) (E : Ending s ends starts) where
  one? : (at : ℕ) → ((e : Expr) × (k : ℕ) × Reads (drop at s) e (drop k s)) ⊎ ((e : Expr) (x : List ℕ) → Reads (drop at s) e x → ⊥)
  one? at = go (dec_lt at (length s))
    where
      word : (w : ℕ) → EndWord s at w → ((e : Expr) × (k : ℕ) × Reads (drop at s) e (drop k s)) ⊎ ((e : Expr) (x : List ℕ) → Reads (drop at s) e x → ⊥)
      word zero h = inr (h.none refl)
      word (suc w) h = let q = h.some (omega arith) in inl (q.2, suc w, q.3)

      go : Dec (at < length s) → ((e : Expr) × (k : ℕ) × Reads (drop at s) e (drop k s)) ⊎ ((e : Expr) (x : List ℕ) → Reads (drop at s) e x → ⊥)
      go (yes l) = word (get_or ends at 0) (E.tables.ending at (omega arith) l)
      go (no l) = inr (λ e x r. let h = (starting s at r).one in l (omega arith))

  all? : (n at : ℕ) → ((es : Exprs) × (k : ℕ) × ReadsAll n (drop at s) es (drop k s)) ⊎ ((es : Exprs) (x : List ℕ) → ReadsAll n (drop at s) es x → ⊥)
  all? zero at = inl (nil, at, r_nil)
  all? (suc n) at = first (one? at) (λ k. all? n k)
    where
      rest : (e : Expr) (k : ℕ) → Reads (drop at s) e (drop k s) → ((es : Exprs) × (l : ℕ) × ReadsAll n (drop k s) es (drop l s)) ⊎ ((es : Exprs) (x : List ℕ) → ReadsAll n (drop k s) es x → ⊥) → ((es : Exprs) × (k : ℕ) × ReadsAll (suc n) (drop at s) es (drop k s)) ⊎ ((es : Exprs) (x : List ℕ) → ReadsAll (suc n) (drop at s) es x → ⊥)
      rest e k r (inl q) = inl (cons e q.0, q.1, r_cons r q.2)
      rest e k r (inr none) = inr (λ es x h. let f = first_of h in none f.1 x (subst (λ (ys : List ℕ). ReadsAll n ys f.1 x) (reads_one f.3 r).1 f.4))

      first : ((e : Expr) × (k : ℕ) × Reads (drop at s) e (drop k s)) ⊎ ((e : Expr) (x : List ℕ) → Reads (drop at s) e x → ⊥) → ((k : ℕ) → ((es : Exprs) × (l : ℕ) × ReadsAll n (drop k s) es (drop l s)) ⊎ ((es : Exprs) (x : List ℕ) → ReadsAll n (drop k s) es x → ⊥)) → ((es : Exprs) × (k : ℕ) × ReadsAll (suc n) (drop at s) es (drop k s)) ⊎ ((es : Exprs) (x : List ℕ) → ReadsAll (suc n) (drop at s) es x → ⊥)
      first (inl q) more = rest q.0 q.1 q.2 (more q.1)
      first (inr none) more = inr (λ es x h. let f = first_of h in none f.0 f.2 f.3)

  read? : (k : Kind) (at : ℕ) → ((e : Syntax k) × (x : List ℕ) × Read k (drop at s) e x) ⊎ ((e : Syntax k) (x : List ℕ) → Read k (drop at s) e x → ⊥)
  read? (whole m) at = go (one? at)
    where
      go : ((e : Expr) × (k : ℕ) × Reads (drop at s) e (drop k s)) ⊎ ((e : Expr) (x : List ℕ) → Reads (drop at s) e x → ⊥) → ((e : Expr) × (x : List ℕ) × Reads (drop at s) e x) ⊎ ((e : Expr) (x : List ℕ) → Reads (drop at s) e x → ⊥)
      go (inl q) = inl (q.0, drop q.1 s, q.2)
      go (inr none) = inr none
  read? (args n) at = go (all? n at)
    where
      go : ((e : Exprs) × (k : ℕ) × ReadsAll n (drop at s) e (drop k s)) ⊎ ((e : Exprs) (x : List ℕ) → ReadsAll n (drop at s) e x → ⊥) → ((e : Exprs) × (x : List ℕ) × ReadsAll n (drop at s) e x) ⊎ ((e : Exprs) (x : List ℕ) → ReadsAll n (drop at s) e x → ⊥)
      go (inl q) = inl (q.0, drop q.1 s, q.2)
      go (inr none) = inr none

bool? : (b : Bool) → T b ⊎ (T b → ⊥)
bool? true = inl tt
bool? false = inr (λ h. elim h [ ])

fine? : (k : Kind) (p : Prog) (n : ℕ) (e : Syntax k) → Fine k p n e ⊎ (Fine k p n e → ⊥)
fine? (whole m) p n e = bool? (ok p n e)
fine? (args k) p n e = bool? (oks p n e)

-- n is the cost of the task: the number of rules of each of its derivations, and 0 if it has none
pub record Cost (s : List ℕ) (t : Task) (n : ℕ) : Type 0 where
  pub each : (p : Prog) (e : Syntax t.kind) → Program s p → Here s p t e → (o : Result t.kind) (x : Does p t e o) → steps p t e o x ≡ n
  pub some : (n ≡ 0) ⊎ ((p : Prog) × (e : Syntax t.kind) × Program s p × Here s p t e × (o : Result t.kind) × Does p t e o)

one_cost : (s : List ℕ) (t : Task) (n m : ℕ) → Cost s t n → Cost s t m → n ≡ m
one_cost s t n m a b = go a.some b.some
  where
    go : (n ≡ 0) ⊎ ((p : Prog) × (e : Syntax t.kind) × Program s p × Here s p t e × (o : Result t.kind) × Does p t e o) → (m ≡ 0) ⊎ ((p : Prog) × (e : Syntax t.kind) × Program s p × Here s p t e × (o : Result t.kind) × Does p t e o) → n ≡ m
    go (inl i) (inl j) = omega arith
    go (inl i) (inr j) = sym (a.each j.0 j.1 j.2 j.3 j.4 j.5) ∙ b.each j.0 j.1 j.2 j.3 j.4 j.5
    go (inr j) y = sym (a.each j.0 j.1 j.2 j.3 j.4 j.5) ∙ b.each j.0 j.1 j.2 j.3 j.4 j.5

-- there is a cost, by the theorem
has_cost : (s ends starts : List ℕ) → Ending s ends starts → (t : Task) → (n : ℕ) × Cost s t n
has_cost s ends starts E t = go (read? s ends starts E t.kind t.at)
  where
    q : Program s E.prog
    q = E.tables.program

    none : ((e : Syntax t.kind) → Here s E.prog t e → ⊥) → (n : ℕ) × Cost s t n
    none no_one = (0, record { each = λ p e w h o x. absurd (no_one e (subst (λ (r : Prog). Here s r t e) (one_program s p E.prog w q) h)); some = inl refl })

    it : (e : Syntax t.kind) (x : List ℕ) → Read t.kind (drop t.at s) e x → Fine t.kind E.prog (length t.env) e → (n : ℕ) × Cost s t n
    it e x r f =
        let h : Here s E.prog t e = record { rest = x; reads = r; fine = f } in
        let o = all_comes s E.prog q E.why t.kind t.depth t.env e t.room f in
        let n = steps E.prog t e o.0 o.1 in (
          n,
          record {
            each = λ p d w k. subst (λ (r : Prog). (d : Syntax t.kind) → Here s r t d → (u : Result t.kind) (y : Does r t d u) → steps r t d u y ≡ n) (one_program s E.prog p q w)
                (λ d k. subst (λ (d : Syntax t.kind). (u : Result t.kind) (y : Does E.prog t d u) → steps E.prog t d u y ≡ n) (read_one t.kind (drop t.at s) x k.rest e d r k.reads)
                (λ u y. (one_comes t.kind E.prog t.depth t.env e t.room u o.0 y o.1).1)) d k;
            some = inr (E.prog, e, q, h, o.0, o.1);
          },
        )

    well : (e : Syntax t.kind) (x : List ℕ) → Read t.kind (drop t.at s) e x → Fine t.kind E.prog (length t.env) e ⊎ (Fine t.kind E.prog (length t.env) e → ⊥) → (n : ℕ) × Cost s t n
    well e x r (inl f) = it e x r f
    well e x r (inr f) = none (λ d h. f (subst (λ (d : Syntax t.kind). Fine t.kind E.prog (length t.env) d) (read_one t.kind (drop t.at s) h.rest x d e h.reads r) h.fine))

    go : ((e : Syntax t.kind) × (x : List ℕ) × Read t.kind (drop t.at s) e x) ⊎ ((e : Syntax t.kind) (x : List ℕ) → Read t.kind (drop t.at s) e x → ⊥) → (n : ℕ) × Cost s t n
    go (inl a) = well a.0 a.1 a.2 (fine? t.kind E.prog (length t.env) a.0)
    go (inr no_one) = none (λ e h. no_one e h.rest h.reads)

abbrev TheCost : List ℕ → Task → Type 0
TheCost s t = (n : ℕ) × ∥ Cost s t n ∥₁

the_cost_prop : (s : List ℕ) (t : Task) → IsProp (TheCost s t)
the_cost_prop s t a b = Σ_prop_path (λ n. ∥∥₁_prop) (∥∥₁_elim a.1 (ℕ_set a.0 b.0) (λ x. ∥∥₁_elim b.1 (ℕ_set a.0 b.0) (λ y. one_cost s t a.0 b.0 x y)))

the_cost : (s ends starts : List ℕ) → ∥ Ending s ends starts ∥₁ → (t : Task) → TheCost s t
the_cost s ends starts h t = ∥∥₁_elim h (the_cost_prop s t) (λ E. let c = has_cost s ends starts E t in (c.0, ∣ c.1 ∣₁))

pub cost : (s ends starts : List ℕ) → ∥ Ending s ends starts ∥₁ → Task → ℕ
cost s ends starts h t = (the_cost s ends starts h t).0

is_cost : (s ends starts : List ℕ) (h : ∥ Ending s ends starts ∥₁) (t : Task) (p : Prog) (e : Syntax t.kind) → Program s p → Here s p t e → (o : Result t.kind) (x : Does p t e o) → steps p t e o x ≡ cost s ends starts h t
unfolding cost
is_cost s ends starts h t p e q k o x = ∥∥₁_elim (the_cost s ends starts h t).1 (ℕ_set (steps p t e o x) (the_cost s ends starts h t).0) (λ c. c.each p e q k o x)

-- a part costs less
pub within_less : (s ends starts : List ℕ) (h : ∥ Ending s ends starts ∥₁) (u t : Task) → Stands s t → Within s u t → cost s ends starts h u < cost s ends starts h t
within_less s ends starts h u t st w = ∥∥₁_elim h le_prop (λ E.
    let p = E.prog in let q = E.tables.program in
    let e = st p q in
    let f = w p e.0 q e.1 in
    let o = all_comes s p q E.why t.kind t.depth t.env e.0 t.room e.1.fine in
    let y = f.2 o.0 o.1 in
    let a = is_cost s ends starts h t p e.0 q e.1 o.0 o.1 in
    let b = is_cost s ends starts h u p f.0 q f.1 y.0 y.1 in
    let c = y.2 in
    omega arith)

-- what is left costs less
pub leads_less : (s ends starts : List ℕ) (h : ∥ Ending s ends starts ∥₁) (j : ℕ) (u t : Task) (g : Result u.kind → Result t.kind) → Stands s t → Leads s j u t g → cost s ends starts h u + j ≤ cost s ends starts h t
leads_less s ends starts h j u t g st w = ∥∥₁_elim h le_prop (λ E.
    let p = E.prog in let q = E.tables.program in
    let e = st p q in
    let f = w p e.0 q e.1 in
    let o = all_comes s p q E.why u.kind u.depth u.env f.0 u.room f.1.fine in
    let y = f.2 o.0 o.1 in
    let a = is_cost s ends starts h t p e.0 q e.1 (g o.0) y.0 in
    let b = is_cost s ends starts h u p f.0 q f.1 o.0 o.1 in
    let c = y.1 in
    omega arith)

-- both stand where the task does
pub within_stands : (s : List ℕ) (u t : Task) → Within s u t → Stands s t → Stands s u
within_stands s u t w st p q = let e = st p q in let f = w p e.0 q e.1 in (f.0, f.1)

pub leads_stands : (s : List ℕ) (j : ℕ) (u t : Task) (g : Result u.kind → Result t.kind) → Leads s j u t g → Stands s t → Stands s u
leads_stands s j u t g w st p q = let e = st p q in let f = w p e.0 q e.1 in (f.0, f.1)

-- what is left says what the task comes to
pub leads_says : (s : List ℕ) (j : ℕ) (u t : Task) (g : Result u.kind → Result t.kind) → Leads s j u t g → (o : Result u.kind) → Says s u o → Says s t (g o)
leads_says s j u t g w o h p e q k = let f = w p e q k in (f.2 o (h p f.0 q f.1)).0

pub leads_same : (s : List ℕ) (t : Task) → Leads s 0 t t (λ o. o)
leads_same s t p e q k = (e, k, λ o y. (y, omega arith))

pub leads_more : (s : List ℕ) (i j : ℕ) (u v t : Task) (f : Result u.kind → Result v.kind) (g : Result v.kind → Result t.kind) → Leads s i u v f → Leads s j v t g → Leads s 0 u t (λ o. g (f o))
leads_more s i j u v t f g a b p e q k =
    let x = b p e q k in
    let y = a p x.0 q x.1 in
    (y.0, y.1, λ o d. let m = y.2 o d in let n = x.2 (f o) m.0 in (n.0, let c = m.1 in let d = n.1 in omega arith))

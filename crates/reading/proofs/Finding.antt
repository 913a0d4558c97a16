-- Functions found one after another.
use Rattle.std.proofs.Common.{◌≡◌, ℕ, zero, suc, ◌+◌, ◌<◌, ◌≤◌, T, ◌⊎◌, List, [], ◌∷◌, ◌++◌, length, get_or, drop, set, Some, None, sym, refl, ap, ◌∙◌, subst, inl, inr, ⊎_elim, append_assoc, append-nil, arith, leb→le, length-append}
use mathlib.Core.Option as opt
use Rattle.std.proofs.lemmas.List.{drop_all, drop_more, get_or-set_same, get_or-set_other}
use Rattle.sizechange.specs.Graph.{nth}
use Rattle.sizechange.proofs.Lists.{nth_below}
use Rattle.lang.specs.Program.{Expr, Fun, Prog, max_args, max_functions}
use Rattle.lang.specs.Reads.{Reads}
use Rattle.lang.specs.Bytes.{Program, bytes_of_expr, bytes_of_prog, all_ok}
use Rattle.lang.proofs.Reading.{reads_one, reads_ok, reads_bytes, body_ok, fine_parts}
use Rattle.reading.specs.Ends.{EndOf}
use Rattle.reading.specs.Functions.{Functions, f_none, f_more, StandsAt, Starts, Found}

-- a way to say that the functions fs stand before place k
pub record Before (s : List ℕ) (fs : List Fun) (k : ℕ) (starts : List ℕ) (n : ℕ) : Type 0 where
  pub within : k ≤ length s
  pub number : length fs ≡ n
  pub few : n ≤ max_functions
  pub onto : (gs : List Fun) → Functions (drop k s) gs → Functions s (fs ++ gs)
  pub back : (gs : List Fun) → Functions s gs → (hs : List Fun) × (gs ≡ fs ++ hs) × Functions (drop k s) hs
  pub starting : Starts s fs starts

-- what comes at the end of a list
nth_push : (fs : List Fun) (x : Fun) (f : ℕ) (g : Fun) → nth (fs ++ x ∷ []) f ≡ opt.some g → (nth fs f ≡ opt.some g) ⊎ ((f ≡ length fs) × (x ≡ g))
nth_push [] x zero g e = inr (refl, cc)
nth_push [] x (suc f) g e = let z : ◌≡◌ {A = ℕ} 0 1 = cc in absurd (omega arith)
nth_push (y ∷ fs) x zero g e = inl e
nth_push (y ∷ fs) x (suc f) g e = ⊎_elim (λ h. inl h) (λ h. inr (ap suc h.0, h.1)) (nth_push fs x f g e)

-- bytes that are functions begin with a function
pub first_function : {x : ℕ} {xs : List ℕ} {gs : List Fun} → Functions (x ∷ xs) gs → (x ≤ max_args) × (e : Expr) × (ys : List ℕ) × (hs : List Fun) × Reads xs e ys × Functions ys hs × (gs ≡ record { args = x; body = e } ∷ hs)
first_function (f_more {ys = ys} {e = e} {gs = gs} l h k) = (l, e, ys, gs, h, k, refl)

-- the bytes from a place on, if it lies within
at_place : (s : List ℕ) (k : ℕ) → k < length s → drop k s ≡ get_or s k 0 ∷ drop (k + 1) s
at_place s k l = drop_more s k 0 l

-- one function more
pub before_more : (s : List ℕ) (fs : List Fun) (k : ℕ) (starts : List ℕ) (n e : ℕ) → Before s fs k starts n → k < length s → n < max_functions → n < length starts → (h : EndOf s (k + 1) (Some e)) → get_or s k 0 ≤ max_args → Before s (fs ++ record { args = get_or s k 0; body = h.2 } ∷ []) e (set starts n k) (n + 1)
before_more s fs k starts n e b l m w h a = record { within = h.0; number = number; few = omega arith; onto = onto; back = back; starting = starting }
  where
    g : Fun
    g = record { args = get_or s k 0; body = h.2 }

    number : length (fs ++ g ∷ []) ≡ n + 1
    number = let q = length-append fs (g ∷ []) in let r = b.number in omega arith

    onto : (gs : List Fun) → Functions (drop e s) gs → Functions s ((fs ++ g ∷ []) ++ gs)
    onto gs q = rw append_assoc (b.onto (g ∷ gs) (subst (λ (xs : List ℕ). Functions xs (g ∷ gs)) (sym (at_place s k l)) (f_more a h.3 q)))

    back : (gs : List Fun) → Functions s gs → (hs : List Fun) × (gs ≡ (fs ++ g ∷ []) ++ hs) × Functions (drop e s) hs
    back gs q =
        let r = b.back gs q in
        let f = first_function (subst (λ (xs : List ℕ). Functions xs r.0) (at_place s k l) r.2) in
        let o = reads_one f.4 h.3 in
        let z : record { args = get_or s k 0; body = f.1 } ≡ g = λ i. record { args = get_or s k 0; body = o.0 i } in
        (f.3, r.1 ∙ (ap (λ (x : List Fun). fs ++ x) (f.6 ∙ ap (λ (y : Fun). y ∷ f.3) z) ∙ sym (append_assoc fs (g ∷ []) f.3)), subst (λ (xs : List ℕ). Functions xs f.3) o.1 f.5)

    there : StandsAt s g k
    there = record { within = l; args_there = refl; rest = drop e s; body_there = h.3 }

    starting : Starts s (fs ++ g ∷ []) (set starts n k)
    starting f x q = ⊎_elim
        (λ r. let j = nth_below fs f r in let i = b.number in let ne : f ≡ n → ⊥ = λ z. omega arith in rw (get_or-set_other starts n f k 0 ne) (b.starting f x r))
        (λ r. let i = b.number in let z : f ≡ n = r.0 ∙ i in subst (λ (y : Fun). StandsAt s y (get_or (set starts n k) f 0)) r.1 (rw z (rw (get_or-set_same starts n k 0 w) there)))
        (nth_push fs g f x q)

-- at the end all are found
pub before_all : (s : List ℕ) (fs : List Fun) (k : ℕ) (starts : List ℕ) (n : ℕ) → Before s fs k starts n → length s ≤ k → Found s fs starts n
before_all s fs k starts n b l = record { functions = rw append-nil at (b.onto [] (rw (drop_all k s l) f_none)); number = b.number; few = b.few; starting = b.starting }

-- where no function stands, the bytes are not functions
pub before_no : (s : List ℕ) (fs : List Fun) (k : ℕ) (starts : List ℕ) (n : ℕ) → Before s fs k starts n → k < length s → (get_or s k 0 ≤ max_args → EndOf s (k + 1) None) → (p : Prog) → Functions s p → ⊥
before_no s fs k starts n b l h p q =
    let r = b.back p q in
    let f = first_function (subst (λ (xs : List ℕ). Functions xs r.0) (at_place s k l) r.2) in
    h f.0 f.1 f.2 f.4

pub before_many : (s : List ℕ) (fs : List Fun) (k : ℕ) (starts : List ℕ) (n : ℕ) → Before s fs k starts n → k < length s → max_functions ≤ n → (p : Prog) → Functions s p → max_functions < length p
before_many s fs k starts n b l m p q =
    let r = b.back p q in
    let f = first_function (subst (λ (xs : List ℕ). Functions xs r.0) (at_place s k l) r.2) in
    let a = ap length r.1 in
    let c = length-append fs r.0 in
    let d = ap length f.6 in
    let i = b.number in
    omega arith

-- a program's bytes are functions, and functions' bytes are theirs
pub functions_ok : (p : Prog) → T (all_ok p p) → (gs : List Fun) → T (all_ok p gs) → Functions (bytes_of_prog gs) gs
functions_ok p h [] k = f_none
functions_ok p h (g ∷ gs) k = let b = body_ok p g gs k in f_more (leb→le g.args max_args b.0) (reads_ok p h g.args g.body (bytes_of_prog gs) b.1) (functions_ok p h gs b.2)

pub functions_bytes : {s : List ℕ} {gs : List Fun} → Functions s gs → bytes_of_prog gs ≡ s
functions_bytes f_none = refl
functions_bytes (f_more {n = n} {e = e} {gs = gs} l h k) = let i = functions_bytes k in let j = reads_bytes h in ap (λ (xs : List ℕ). n ∷ xs) (ap (λ (ys : List ℕ). bytes_of_expr e ++ ys) i ∙ j)

pub program_functions : (s : List ℕ) (p : Prog) → Program s p → Functions s p
program_functions s p h = let a = (fine_parts s p h).2 in subst (λ (xs : List ℕ). Functions xs p) h.bytes (functions_ok p a p a)

pub functions_one : {s : List ℕ} {gs hs : List Fun} → Functions s gs → Functions s hs → gs ≡ hs
functions_one f_none f_none = refl
functions_one (f_more {n = n} l h k) (f_more {gs = gs} m i j) = let o = reads_one h i in let r = functions_one k (subst (λ (ys : List ℕ). Functions ys gs) (sym o.1) j) in let z = o.0 in cc

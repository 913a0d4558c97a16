-- What the expression at a place needs, by its head.
use Rattle.std.proofs.Common.{◌≡◌, ℕ, zero, suc, ◌+◌, ◌-◌, ◌<◌, ◌≤◌, max, Bool, true, false, ◌&&◌, T, eqb, ltb, leb, ◌⊎◌, List, [], ◌∷◌, length, get_or, take, drop, Some, None, Option, sym, refl, ap, ◌∙◌, subst, inl, inr, add-zero, arith, le→leb, length-append, length-drop}
use mathlib.Core.Option as opt
use Rattle.std.proofs.lemmas.List.{length-take-le, get_or-take, take_at}
use Rattle.sizechange.specs.Graph.{nth}
use Rattle.std.proofs.lemmas.Bool.{cases_lt}
use Rattle.sizechange.proofs.Lists.{nth_some, nth_below}
use Rattle.lang.specs.Program.{Expr, Prog, Fun, max_args, max_functions, max_bytes}
use Rattle.lang.specs.Bytes.{ok, oks, takes, all_ok, bytes_of_expr, Program}
use Rattle.lang.specs.Reads.{Reads, r_nil, r_cons}
use Rattle.lang.proofs.Lists.{both, from_both}
use Rattle.lang.proofs.Reading.{reads_all_bytes, reads_bytes, reads_one, body_ok, fine_parts}
use Rattle.reading.specs.declared.head.Head.TheVariants.{Node, Parts, Bind, Call}
use Rattle.reading.specs.Ends.{EndsFrom, EndWord}
use Rattle.reading.specs.Heads.{HeadAt}
use Rattle.reading.specs.Tables.{Tables}
use Rattle.reading.specs.Functions.{Functions, f_none, f_more, StandsAt, Found}
use Rattle.reading.specs.Needs.{Least, Located, Need, NeedOfTwo, NeedOfAll}
use Rattle.reading.proofs.Heading.{Goes, g_node, g_parts, g_bind, g_call, goes_at, starting}
use Rattle.reading.proofs.Finding.{functions_bytes, functions_one, program_functions}
use Rattle.reading.proofs.Needing.{least_same, least_var, least_max}

-- the function of a number that is there
pub function_at : (s starts : List ℕ) (p : Prog) (f : ℕ) → Located s starts p → f < length starts → (g : Fun) × (nth p f ≡ opt.some g) × StandsAt s g (get_or starts f 0)
function_at s starts p f h l = let n = h.number in let x = nth_some p f (omega arith) in (x.0, x.1, h.starting f x.0 x.1)

nth_past : {A : Type 0} (xs : List A) (i : ℕ) → length xs ≤ i → nth xs i ≡ opt.none
nth_past [] i l = refl
nth_past (x ∷ xs) zero l = absurd (omega arith)
nth_past (x ∷ xs) (suc i) l = nth_past xs i (omega arith)

pub takes_there : (s starts : List ℕ) (p : Prog) (f n : ℕ) → Located s starts p → f < length starts → eqb (get_or s (get_or starts f 0) 0) n ≡ takes (nth p f) n
takes_there s starts p f n h l = let x = function_at s starts p f h l in ap (λ (a : ℕ). eqb a n) x.2.args_there ∙ sym (ap (λ (o : opt.Option Fun). takes o n) x.1)

pub takes_none : (s starts : List ℕ) (p : Prog) (f n : ℕ) → Located s starts p → length starts ≤ f → false ≡ takes (nth p f) n
takes_none s starts p f n h l = let e = h.number in sym (ap (λ (o : opt.Option Fun). takes o n) (nth_past p f (omega arith)))

node_goes : (p : Prog) (s : List ℕ) (at : ℕ) (r : Option ℕ) {x : List ℕ} {e : Expr} → NeedOfTwo p s at 0 r → Goes Node (drop at s) e x → Least (λ v. ok p v e) r
node_goes p s at r {x} d (g_node {a = a} {b = b} (r_cons {ys = ys} h (r_cons k r_nil))) = least_same r (λ v. ap (λ (z : ℕ). ok p v a && ok p z b) (add-zero v)) (d a b ys x h k)

bind_goes : (p : Prog) (s : List ℕ) (at : ℕ) (r : Option ℕ) {x : List ℕ} {e : Expr} → NeedOfTwo p s at 1 r → Goes Bind (drop at s) e x → Least (λ v. ok p v e) r
bind_goes p s at r {x} d (g_bind {a = a} {b = b} (r_cons {ys = ys} h (r_cons k r_nil))) = d a b ys x h k

-- both parts and the variable itself
abbrev seen_too : ℕ → Option ℕ → Option ℕ
seen_too i None = None
seen_too i (Some w) = Some (max (i + 1) w)

parts_goes : (p : Prog) (s : List ℕ) (at i : ℕ) (r : Option ℕ) {x : List ℕ} {e : Expr} → NeedOfTwo p s at 2 r → Goes (Parts i) (drop at s) e x → Least (λ v. ok p v e) (seen_too i r)
parts_goes p s at i (Some w) {x} d (g_parts {a = a} {b = b} (r_cons {ys = ys} h (r_cons k r_nil))) = least_max (i + 1) w (least_var i) (d a b ys x h k)
parts_goes p s at i None {x} d (g_parts {a = a} {b = b} (r_cons {ys = ys} h (r_cons k r_nil))) = λ v o. d a b ys x h k v (both (ltb i v) (ok p v a && ok p (v + 2) b) o).1

call_goes : (p : Prog) (s : List ℕ) (at f n : ℕ) (r : Option ℕ) {x : List ℕ} {e : Expr} → true ≡ takes (nth p f) n → NeedOfAll p s n at r → Goes (Call f n) (drop at s) e x → Least (λ v. ok p v e) r
call_goes p s at f n r {x} t d (g_call {es = es} l h) = least_same r (λ v. ap (λ (b : Bool). b && oks p v es) (t ∙ ap (λ (m : ℕ). takes (nth p f) m) (sym (reads_all_bytes h).1))) (d es x h)

no_call_goes : (p : Prog) (f n : ℕ) {xs x : List ℕ} {e : Expr} → false ≡ takes (nth p f) n → Goes (Call f n) xs e x → (v : ℕ) → T (ok p v e) → ⊥
no_call_goes p f n t (g_call {es = es} l h) v o = subst T (sym (ap (λ (b : Bool). b && oks p v es) (t ∙ ap (λ (m : ℕ). takes (nth p f) m) (sym (reads_all_bytes h).1)))) o

pub need_node : (p : Prog) (s : List ℕ) (at : ℕ) (r : Option ℕ) → HeadAt s at (Some Node) → NeedOfTwo p s (at + 1) 0 r → Need p s at r
need_node p s at r a d e x q = node_goes p s (at + 1) r d (goes_at s at Node a q)

pub need_bind : (p : Prog) (s : List ℕ) (at : ℕ) (r : Option ℕ) → HeadAt s at (Some Bind) → NeedOfTwo p s (at + 1) 1 r → Need p s at r
need_bind p s at r a d e x q = bind_goes p s (at + 1) r d (goes_at s at Bind a q)

pub need_parts : (p : Prog) (s : List ℕ) (at i w : ℕ) → HeadAt s at (Some (Parts i)) → NeedOfTwo p s (at + 2) 2 (Some w) → Need p s at (Some (max (i + 1) w))
need_parts p s at i w a d e x q = parts_goes p s (at + 2) i (Some w) d (goes_at s at (Parts i) a q)

pub need_no_parts : (p : Prog) (s : List ℕ) (at i : ℕ) → HeadAt s at (Some (Parts i)) → NeedOfTwo p s (at + 2) 2 None → Need p s at None
need_no_parts p s at i a d e x q = parts_goes p s (at + 2) i None d (goes_at s at (Parts i) a q)

pub need_call : (p : Prog) (s : List ℕ) (at f n : ℕ) (r : Option ℕ) → HeadAt s at (Some (Call f n)) → true ≡ takes (nth p f) n → NeedOfAll p s n (at + 3) r → Need p s at r
need_call p s at f n r a t d e x q = call_goes p s (at + 3) f n r t d (goes_at s at (Call f n) a q)

pub need_no_call : (p : Prog) (s : List ℕ) (at f n : ℕ) → HeadAt s at (Some (Call f n)) → false ≡ takes (nth p f) n → Need p s at None
need_no_call p s at f n a t e x q = no_call_goes p f n t (goes_at s at (Call f n) a q)

-- where a body starts, a byte stands
pub body_within : (s : List ℕ) (g : Fun) (at : ℕ) → StandsAt s g at → at + 1 < length s
body_within s g at h = omega (arith, (starting s (at + 1) h.body_there).one)

pub is_true : (b : Bool) → T b → true ≡ b
is_true true t = refl
is_true false t = elim t [ ]

pub is_false : (b : Bool) → (T b → ⊥) → false ≡ b
is_false true t = absurd (t tt)
is_false false t = refl

-- a program is well-formed if each body is
pub each_ok : (p : Prog) {s : List ℕ} {gs : List Fun} → Functions s gs → ((f : ℕ) (g : Fun) → nth gs f ≡ opt.some g → T (ok p g.args g.body)) → T (all_ok p gs)
each_ok p f_none h = tt
each_ok p (f_more {n = n} {e = e} {gs = gs} l r k) h = from_both (leb n max_args) (ok p n e && all_ok p gs) (le→leb n max_args l) (from_both (ok p n e) (all_ok p gs) (h 0 (record { args = n; body = e }) refl) (each_ok p k (λ f g. h (suc f) g)))

pub ok_each : (p : Prog) (gs : List Fun) (f : ℕ) (g : Fun) → T (all_ok p gs) → nth gs f ≡ opt.some g → T (ok p g.args g.body)
ok_each p [] f g h e = let z : ◌≡◌ {A = ℕ} 0 1 = cc in absurd (omega arith)
ok_each p (k ∷ gs) zero g h e = let z : k ≡ g = cc in subst (λ (x : Fun). T (ok p x.args x.body)) z (body_ok p k gs h).1
ok_each p (k ∷ gs) (suc f) g h e = ok_each p gs f g (body_ok p k gs h).2 e

-- the starts that were found, and no others
pub located : (s starts : List ℕ) (p : Prog) (n : ℕ) → n ≤ length starts → Found s p starts n → Located s (take (n - 0) starts) p
located s starts p n l h =
    let e : n - 0 ≡ n = omega arith in
    let k : length (take n starts) ≡ n = length-take-le n starts l in
    subst (λ (m : ℕ). Located s (take m starts) p) (sym e) (record {
      functions = h.functions;
      number = h.number ∙ sym k;
      few = let f = h.few in omega arith;
      starting = λ f g q. let b = nth_below p f q in let c = h.number in subst (StandsAt s g) (sym (get_or-take n starts f 0 (omega arith))) (h.starting f g q);
    })

-- after each start a body stands
pub bodies_within : (s starts : List ℕ) (p : Prog) → Located s starts p → (f : ℕ) → f < length starts → get_or starts f 0 + 1 < length s
bodies_within s starts p h f l = let x = function_at s starts p f h l in body_within s x.0 (get_or starts f 0) x.2

-- found functions whose bodies are well-formed are a program
pub program_found : (s starts : List ℕ) (p : Prog) (n : ℕ) → length s ≤ max_bytes → Found s p starts n → T (all_ok p p) → Program s p
program_found s starts p n l h t = record { bytes = functions_bytes h.functions; fine = from_both (leb (length s) max_bytes) (leb (length p) max_functions && all_ok p p) (le→leb (length s) max_bytes l) (from_both (leb (length p) max_functions) (all_ok p p) (le→leb (length p) max_functions (let a = h.number in let b = h.few in omega arith)) t) }

-- a program's functions are those that were found
pub program_is_found : (s starts : List ℕ) (p q : Prog) (n : ℕ) → Found s p starts n → Program s q → T (all_ok p p)
program_is_found s starts p q n h k = subst (λ (x : Prog). T (all_ok x x)) (functions_one (program_functions s q k) h.functions) (fine_parts s q k).2

pub no_functions : (s : List ℕ) → ((p : Prog) → Functions s p → max_functions < length p) → (p : Prog) → Program s p → ⊥
no_functions s h p k = let a = h p (program_functions s p k) in let b = (fine_parts s p k).1 in omega arith

pub too_long : (s : List ℕ) → max_bytes < length s → (p : Prog) → Program s p → ⊥
too_long s l p k = let b = (fine_parts s p k).0 in omega arith

-- where a body ends, by the table
pub body_ends : (s ends : List ℕ) (g : Fun) (at : ℕ) → EndsFrom s ends 0 → StandsAt s g at → (get_or ends (at + 1) 0 ≤ length s) × (at + 1 < get_or ends (at + 1) 0) × Reads (drop (at + 1) s) g.body (drop (get_or ends (at + 1) 0) s)
body_ends s ends g at h k = go (h (at + 1) (omega arith) (body_within s g at k)) (cases_lt 0 (get_or ends (at + 1) 0))
  where
    go : EndWord s (at + 1) (get_or ends (at + 1) 0) → (0 < get_or ends (at + 1) 0) ⊎ (get_or ends (at + 1) 0 ≤ 0) → (get_or ends (at + 1) 0 ≤ length s) × (at + 1 < get_or ends (at + 1) 0) × Reads (drop (at + 1) s) g.body (drop (get_or ends (at + 1) 0) s)
    go w (inl l) = let e = w.some l in (e.0, e.1, subst (λ (x : Expr). Reads (drop (at + 1) s) x (drop (get_or ends (at + 1) 0) s)) (reads_one e.3 k.body_there).0 e.3)
    go w (inr l) = absurd (w.none (omega arith) g.body k.rest k.body_there)

pub body_bytes : (s : List ℕ) (g : Fun) (a b : ℕ) → a ≤ b → b ≤ length s → Reads (drop a s) g.body (drop b s) → take (b - a) (drop a s) ≡ bytes_of_expr g.body
body_bytes s g a b l m r =
    let e = reads_bytes r in
    let k = ap length e in
    let n : length (bytes_of_expr g.body) ≡ b - a = let x = length-append (bytes_of_expr g.body) (drop b s) in let y = length-drop a s in let z = length-drop b s in omega arith in
    subst (λ (xs : List ℕ). take (b - a) xs ≡ bytes_of_expr g.body) e (take_at (bytes_of_expr g.body) (drop b s) (b - a) n)

pub table_function : (s ends starts : List ℕ) (p : Prog) (n f : ℕ) → Tables s p ends starts n → f < n → (g : Fun) × (nth p f ≡ opt.some g) × StandsAt s g (get_or starts f 0)
table_function s ends starts p n f h l = let m = h.found.number in let x = nth_some p f (omega arith) in (x.0, x.1, h.found.starting f x.0 x.1)

-- what is known of function f of a program that was read
pub record Placed (s ends : List ℕ) (start : ℕ) : Type 0 where
  pub body_in : start + 1 < length s
  pub ends_in : get_or ends (start + 1) 0 ≤ length s
  pub forward : start + 1 ≤ get_or ends (start + 1) 0

pub placed : (s ends starts : List ℕ) (f : ℕ) → (p : Prog) × (n : ℕ) × Tables s p ends starts n × (f < n) → Placed s ends (get_or starts f 0)
placed s ends starts f h = let x = table_function s ends starts h.0 h.1 f h.2 h.3 in let b = body_ends s ends x.0 (get_or starts f 0) h.2.ending x.2 in let c = b.1 in record { body_in = body_within s x.0 (get_or starts f 0) x.2; ends_in = b.0; forward = omega arith }

pub function_is : (s ends starts : List ℕ) (p : Prog) (n f : ℕ) (g : Fun) → Tables s p ends starts n → nth p f ≡ opt.some g → (get_or s (get_or starts f 0) 0 ≡ g.args) × (take (get_or ends (get_or starts f 0 + 1) 0 - (get_or starts f 0 + 1)) (drop (get_or starts f 0 + 1) s) ≡ bytes_of_expr g.body)
function_is s ends starts p n f g h e = let k = h.found.starting f g e in let b = body_ends s ends g (get_or starts f 0) h.ending k in let c = b.1 in (k.args_there, body_bytes s g (get_or starts f 0 + 1) (get_or ends (get_or starts f 0 + 1) 0) (omega arith) b.0 b.2)

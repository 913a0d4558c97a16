-- One function after another.
use Rattle.std.proofs.Common.{◌≡◌, ℕ, ◌+◌, ◌*◌, ◌<◌, ◌≤◌, T, List, [], ◌∷◌, ◌++◌, length, get_or, drop, sym, refl, ap, ◌∙◌, subst, append_assoc, append-nil, arith}
use mathlib.Core.Option as opt
use Rattle.std.proofs.lemmas.List.{drop_all, drop_more}
use Rattle.sizechange.specs.Graph.{Step}
use Rattle.lang.specs.Program.{Expr, Fun, Prog, max_args, max_functions}
use Rattle.lang.specs.Bytes.{Program, all_ok}
use Rattle.lang.specs.Reads.{Reads}
use Rattle.lang.specs.Steps.{From, steps, given, all_steps, call_graph}
use Rattle.lang.proofs.Reading.{body_ok, fine_parts}
use Rattle.reading.specs.Saying.{SaysEnds}
use Rattle.reading.specs.Functions.{Functions, f_none, f_more}
use Rattle.reading.proofs.Finding.{first_function, program_functions}
use Rattle.origins.specs.Origins.{in_view}
use Rattle.origins.specs.Views.{Noted}
use Rattle.callgraph.specs.Standing.{ReadsAt, Standing}
use Rattle.callgraph.specs.Pending.{Pending, p_none, Walk}
use Rattle.callgraph.specs.StepRows.{StepRows}
use Rattle.callgraph.proofs.Standing.{ended}
use Rattle.callgraph.proofs.Waiting.{pending_more}

-- the steps of the functions before a place are in the rows; function f stands there, if any does
pub record Listed (p : Prog) (s rows : List ℕ) (at f m : ℕ) : Type 0 where
  pub past : List Step
  pub others : List Fun
  pub there : Functions (drop at s) others
  pub well : T (all_ok p others)
  pub number : f + length others ≡ length p
  pub written : StepRows rows past m
  pub whole : past ++ all_steps f others ≡ call_graph p

pub record Listing (s rows : List ℕ) (at f m : ℕ) : Type 0 where
  pub few : 3 * m ≤ at
  pub within : at ≤ length s
  pub listed : (p : Prog) → Program s p → Listed p s rows at f m

rows_none : (rows : List ℕ) → StepRows rows [] 0
rows_none rows = record { number = refl; each = λ i s e. let z : ◌≡◌ {A = ℕ} 0 1 = cc in absurd (omega arith) }

pub listing_none : (s rows : List ℕ) → Listing s rows 0 0 0
listing_none s rows = record { few = omega arith; within = omega arith; listed = λ p h. record { past = []; others = p; there = program_functions s p h; well = (fine_parts s p h).2; number = omega arith; written = rows_none rows; whole = refl } }

-- the function that stands at a place
pub record Function (p : Prog) (s ends : List ℕ) (at : ℕ) (fs : List Fun) : Type 0 where
  pub few : get_or s at 0 ≤ max_args
  pub body : Expr
  pub stands : Standing p s (get_or s at 0) (at + 1) body (get_or ends (at + 1) 0)
  pub others : List Fun
  pub are : fs ≡ record { args = get_or s at 0; body = body } ∷ others
  pub there : Functions (drop (get_or ends (at + 1) 0) s) others
  pub well : T (all_ok p others)

pub function_at : (p : Prog) (s ends : List ℕ) → SaysEnds s ends → (at : ℕ) (fs : List Fun) → at < length s → Functions (drop at s) fs → T (all_ok p fs) → Function p s ends at fs
function_at p s ends t at fs l h o =
    let q = first_function (subst (λ (xs : List ℕ). Functions xs fs) (drop_more s at 0 l) h) in
    let w = body_ok p (record { args = get_or s at 0; body = q.1 }) q.3 (subst (λ (gs : List Fun). T (all_ok p gs)) q.6 o) in
    let e = ended s ends t (at + 1) q.4 in
    record {
      few = q.0;
      body = q.1;
      stands = record { reads = subst (λ (x : List ℕ). Reads (drop (at + 1) s) q.1 x) e.rest q.4; forward = e.forward; within = e.within; well = w.1 };
      others = q.3;
      are = q.6;
      there = subst (λ (x : List ℕ). Functions x q.3) e.rest q.5;
      well = w.2;
    }

-- its body waits
pub body_waits : (p : Prog) (s ends views known : List ℕ) (f at : ℕ) (fs : List Fun) → (x : Function p s ends at fs) → (args : ℕ) → args ≡ get_or s at 0 → Noted views (at + 1) args 0 opt.none → in_view known args ≡ given 0 args → Pending p s views known f (get_or ends (at + 1) 0) args (at + 1) (steps f (given 0 (get_or s at 0)) x.body ++ [])
body_waits p s ends views known f at fs x args e n g =
    let l = x.few in
    let a : get_or s at 0 ≡ args + 0 = omega arith in
    let z : in_view known args ≡ given 0 (get_or s at 0) = g ∙ ap (λ (k : ℕ). given 0 k) e in
    subst (λ (ks : List (opt.Option From)). Pending p s views known f (get_or ends (at + 1) 0) args (at + 1) (steps f ks x.body ++ [])) z
    (pending_more p s views known f (get_or ends (at + 1) 0) args (at + 1) x.body (get_or ends (at + 1) 0) [] args 0 opt.none n (subst (λ (v : ℕ). Standing p s v (at + 1) x.body (get_or ends (at + 1) 0)) a x.stands) (omega arith) (omega arith) (omega arith) p_none)

-- what is known of the place of a turn
pub record At (s ends : List ℕ) (at f : ℕ) : Type 0 where
  pub program : Prog
  pub size : length program ≤ max_functions
  pub functions : List Fun
  pub function : Function program s ends at functions
  pub below : f < 64

pub listing_at : {s rows : List ℕ} {at f m : ℕ} (ends : List ℕ) → SaysEnds s ends → Listing s rows at f m → at < length s → (p : Prog) × Program s p → At s ends at f
listing_at {s} {rows} {at} {f} {m} ends t h l q =
    let x = h.listed q.0 q.1 in
    let y = function_at q.0 s ends t at x.others l x.there x.well in
    let a = ap length y.are in
    let b = x.number in
    let c = (fine_parts s q.0 q.1).1 in
    record { program = q.0; size = c; functions = x.others; function = y; below = omega arith }

pub listing_turn : {s rows : List ℕ} {at f m : ℕ} (ends : List ℕ) → SaysEnds s ends → Listing s rows at f m → at < length s → (views known rows₁ : List ℕ) (args m₁ : ℕ) → args ≡ get_or s at 0 → Noted views (at + 1) args 0 opt.none → in_view known args ≡ given 0 args → 3 * m₁ ≤ get_or ends (at + 1) 0 → get_or ends (at + 1) 0 ≤ length s → ((p : Prog) (b : ℕ) (ss done : List Step) → Pending p s views known f (get_or ends (at + 1) 0) b (at + 1) ss → StepRows rows done m → StepRows rows₁ (done ++ ss) m₁) → Listing s rows₁ (get_or ends (at + 1) 0) (f + 1) m₁
listing_turn {s} {rows} {at} {f} {m} ends t h l views known rows₁ args m₁ e n g few within visit = record { few = few; within = within; listed = listed }
  where
    listed : (p : Prog) → Program s p → Listed p s rows₁ (get_or ends (at + 1) 0) (f + 1) m₁
    listed p q =
        let x = h.listed p q in
        let y = function_at p s ends t at x.others l x.there x.well in
        let a = ap length y.are in
        let b = x.number in
        let mine = steps f (given 0 (get_or s at 0)) y.body in
        let w = visit p args (mine ++ []) x.past (body_waits p s ends views known f at x.others y args e n g) x.written in
        record {
          past = x.past ++ mine;
          others = y.others;
          there = y.there;
          well = y.well;
          number = omega arith;
          written = subst (λ (ts : List Step). StepRows rows₁ (x.past ++ ts) m₁) (append-nil mine) w;
          whole = append_assoc x.past mine (all_steps (f + 1) y.others) ∙ (ap (λ (fs : List Fun). x.past ++ all_steps f fs) (sym y.are) ∙ x.whole);
        }

functions_none : {xs : List ℕ} {fs : List Fun} → Functions xs fs → xs ≡ [] → fs ≡ []
functions_none f_none e = refl
functions_none (f_more l r h) e = let z : ◌≡◌ {A = ℕ} 0 1 = cc in absurd (omega arith)

pub listing_done : {s rows : List ℕ} {at f m : ℕ} → Listing s rows at f m → length s ≤ at → (p : Prog) → Program s p → StepRows rows (call_graph p) m
listing_done {s} {rows} {at} {f} {m} h l p q =
    let x = h.listed p q in
    let e = functions_none x.there (drop_all at s l) in
    let w : x.past ≡ call_graph p = sym (append-nil x.past) ∙ (ap (λ (fs : List Fun). x.past ++ all_steps f fs) (sym e) ∙ x.whole) in
    subst (λ (ts : List Step). StepRows rows ts m) w x.written

pub at_reads : {s ends : List ℕ} {at f : ℕ} → At s ends at f → ReadsAt s (at + 1)
at_reads {s} {ends} {at} x = record { expression = x.function.body; rest = drop (get_or ends (at + 1) 0) s; reads = x.function.stands.reads }

pub at_walk : {s ends : List ℕ} {at f : ℕ} (x : At s ends at f) → (views known : List ℕ) (args : ℕ) → args ≡ get_or s at 0 → Noted views (at + 1) args 0 opt.none → in_view known args ≡ given 0 args → Walk s views known f (get_or ends (at + 1) 0) (at + 1)
at_walk {s} {ends} {at} {f} x views known args e n g = record { program = x.program; few = x.size; reads = at_reads x; bound = args; their_steps = _; waiting = body_waits x.program s ends views known f at x.functions x.function args e n g }

-- the rows as they were lent
pub same_rows : (xs ys : List ℕ) (ss : List Step) (m : ℕ) → ys ≡ xs → StepRows xs ss m → StepRows ys ss m
same_rows xs ys ss m e h = subst (λ (zs : List ℕ). StepRows zs ss m) (sym e) h

-- One turn of the walk over a body.
use Rattle.std.proofs.Common.{◌≡◌, ℕ, ◌+◌, ◌*◌, ◌<◌, ◌≤◌, List, ◌++◌, length, get_or, take, Option, sym, refl, ap, ◌∙◌, subst, append_assoc, append-nil, arith}
use mathlib.Core.Option as opt
use Rattle.std.proofs.lemmas.List.{length-take-le, get_or-take}
use Rattle.sizechange.specs.Graph.{Step}
use Rattle.table.specs.declared.Edge.{Edge}
use Rattle.lang.specs.Program.{Expr, Prog}
use Rattle.lang.specs.Steps.{From, steps}
use Rattle.origins.specs.Origins.{in_view}
use Rattle.origins.proofs.Origins.{view_same}
use Rattle.origins.specs.Views.{outer_at, new_at, Noted, newer, seen}
use Rattle.callgraph.specs.Standing.{ReadsAt, Standing, Stands}
use Rattle.callgraph.specs.Pending.{own, inner, Pending, PartsWait, Walk}
use Rattle.callgraph.specs.declared.steps.StepTable.{StepTable}
use Rattle.callgraph.specs.StepRows.{OneStep, StepRows}
use Rattle.callgraph.specs.StepTables.{IsSameMemory}
use Rattle.callgraph.proofs.Waiting.{pending_next, pending_done, pending_before, pending_same, pending_under, own_inner}

-- some of the steps are in the rows, and the expressions of the others wait
pub record Going (p : Prog) (s rows₀ : List ℕ) (m₀ : ℕ) (views known rows : List ℕ) (f end at m : ℕ) (ss : List Step) : Type 0 where
  pub bound : ℕ
  pub past : List Step
  pub rest : List Step
  pub waiting : Pending p s views known f end bound at rest
  pub whole : past ++ rest ≡ ss
  pub written : (done : List Step) → StepRows rows₀ done m₀ → StepRows rows (done ++ past) m

-- so it is for whatever waited at first, and each step took three bytes
pub record Walking (s views₀ known₀ rows₀ : List ℕ) (f end at₀ m₀ : ℕ) (views known rows : List ℕ) (at m : ℕ) : Type 0 where
  pub few : 3 * m ≤ at
  pub going : (p : Prog) (b : ℕ) (ss : List Step) → Pending p s views₀ known₀ f end b at₀ ss → Going p s rows₀ m₀ views known rows f end at m ss

pub going_done : (p : Prog) (s rows₀ : List ℕ) (m₀ : ℕ) (views known rows : List ℕ) (f end at m : ℕ) (ss : List Step) → Going p s rows₀ m₀ views known rows f end at m ss → end ≤ at → (done : List Step) → StepRows rows₀ done m₀ → StepRows rows (done ++ ss) m
going_done p s rows₀ m₀ views known rows f end at m ss g l done h =
    let e = pending_done p s views known f end l g.waiting in
    let w : g.past ≡ ss = sym (append-nil g.past) ∙ (ap (λ (ts : List Step). g.past ++ ts) (sym e) ∙ g.whole) in
    subst (λ (ts : List Step). StepRows rows (done ++ ts) m) w (g.written done h)

pub going_before : (p : Prog) (s rows₀ : List ℕ) (m₀ : ℕ) (views known rows : List ℕ) (f end at m : ℕ) (ss : List Step) → Going p s rows₀ m₀ views known rows f end at m ss → at ≤ end
going_before p s rows₀ m₀ views known rows f end at m ss g = pending_before p s views known f end g.waiting

-- how the variables that an expression sees came into view
pub record Opened (views : List ℕ) (at : ℕ) (known known₁ : List ℕ) (vars o n : ℕ) (w : opt.Option From) : Type 0 where
  pub noted : Noted views at o n w
  pub number : vars ≡ o + n
  pub opened : in_view known₁ vars ≡ newer n w (in_view known o)
  pub kept : (j : ℕ) → j < o → get_or known₁ j 0 ≡ get_or known j 0

pub going_turn : (p : Prog) (s rows₀ : List ℕ) (m₀ : ℕ) (views known rows : List ℕ) (f end at m : ℕ) (ss : List Step) → Going p s rows₀ m₀ views known rows f end at m ss → at < end → (known₁ views₁ rows₁ : List ℕ) (vars o n : ℕ) (w : opt.Option From) (m₁ inside : ℕ) (step : Option Edge) → Opened views at known known₁ vars o n w → ((q : Prog) (e : Expr) (k : ℕ) → Standing q s vars at e k → OneStep (own f (in_view known₁ vars) e) step) → ((done ts : List Step) → StepRows rows done m → OneStep ts step → StepRows rows₁ (done ++ ts) m₁) → PartsWait s vars at inside known₁ views views₁ → Going p s rows₀ m₀ views₁ known₁ rows₁ f end inside m₁ ss
going_turn p s rows₀ m₀ views known rows f end at m ss g l known₁ views₁ rows₁ vars o n w m₁ inside step q one push parts =
    let x = pending_next p s views known f end l g.waiting in
    let e = x.expression in
    let k = x.after in
    let a = q.noted.outer_is in
    let b = q.noted.new_is in
    let c = q.noted.origin_is in
    let d = q.number in
    let u = q.opened in
    let v : outer_at views at + new_at views at ≡ vars = omega arith in
    let ks : seen known views at ≡ in_view known₁ vars = cc in
    let st = subst (λ (y : ℕ). Standing p s y at e k) v x.waits.stands in
    let later = pending_under p s views known₁ f end vars (omega arith) (pending_same p s views views known known₁ f end (λ j h. record { outer_is = refl; new_is = refl; word_is = refl }) (λ j h. q.kept j (omega arith)) x.rest) in
    let mine = own f (in_view known₁ vars) e in
    let theirs = inner f (in_view known₁ vars) e in
    let z : g.rest ≡ mine ++ (theirs ++ x.later) = x.are ∙ (ap (λ (y : List (opt.Option From)). steps f y e ++ x.later) ks ∙ (ap (λ (y : List Step). y ++ x.later) (own_inner f (in_view known₁ vars) e) ∙ append_assoc mine theirs x.later)) in
    record {
      bound = vars;
      past = g.past ++ mine;
      rest = theirs ++ x.later;
      waiting = parts p f end e k x.later st later;
      whole = append_assoc g.past mine (theirs ++ x.later) ∙ (ap (λ (y : List Step). g.past ++ y) (sym z) ∙ g.whole);
      written = λ done h. subst (λ (y : List Step). StepRows rows₁ y m₁) (append_assoc done g.past mine) (push (done ++ g.past) mine (g.written done h) (one p e k st));
    }

-- what is known of the place of a turn
pub record Here (s views : List ℕ) (at : ℕ) : Type 0 where
  pub reads : ReadsAt s at
  pub few : new_at views at ≤ 2
  pub room : outer_at views at + new_at views at ≤ 8 + at
  pub stands : Stands s (outer_at views at + new_at views at) at
  pub below : at < length s

pub here : {s views₀ known₀ rows₀ : List ℕ} {f end at₀ m₀ : ℕ} {views known rows : List ℕ} {at m k : ℕ} → Walking s views₀ known₀ rows₀ f end at₀ m₀ views known rows at m → at < end → end ≡ k → Walk s views₀ known₀ f k at₀ → Here s views at
here {s} {views₀} {known₀} {rows₀} {f} {end} {at₀} {m₀} {views} {known} {rows} {at} h l e w =
    let g = h.going w.program w.bound w.their_steps (subst (λ (j : ℕ). Pending w.program s views₀ known₀ f j w.bound at₀ w.their_steps) (sym e) w.waiting) in
    let x = pending_next w.program s views known f end l g.waiting in
    let y = x.waits in
    let a = y.stands.forward in
    let b = y.stands.within in
    record {
      reads = record { expression = x.expression; rest = _; reads = y.stands.reads };
      few = y.few;
      room = y.room;
      stands = record { program = w.program; few = w.few; expression = x.expression; end = x.after; there = y.stands };
      below = omega arith;
    }

pub walking_turn : {s views₀ known₀ rows₀ : List ℕ} {f end at₀ m₀ : ℕ} {views known rows : List ℕ} {at m : ℕ} → Walking s views₀ known₀ rows₀ f end at₀ m₀ views known rows at m → at < end → (known₁ views₁ rows₁ : List ℕ) (vars o n : ℕ) (w : opt.Option From) (m₁ inside : ℕ) (step : Option Edge) → Opened views at known known₁ vars o n w → ((q : Prog) (e : Expr) (k : ℕ) → Standing q s vars at e k → OneStep (own f (in_view known₁ vars) e) step) → ((done ts : List Step) → StepRows rows done m → OneStep ts step → StepRows rows₁ (done ++ ts) m₁) → PartsWait s vars at inside known₁ views views₁ → 3 * m₁ ≤ inside → Walking s views₀ known₀ rows₀ f end at₀ m₀ views₁ known₁ rows₁ inside m₁
walking_turn {s} {views₀} {known₀} {rows₀} {f} {end} {at₀} {m₀} {views} {known} {rows} {at} {m} h l known₁ views₁ rows₁ vars o n w m₁ inside step q one push parts few = record { few = few; going = λ p b ss x. going_turn p s rows₀ m₀ views known rows f end at m ss (h.going p b ss x) l known₁ views₁ rows₁ vars o n w m₁ inside step q one push parts }

-- the variables in view as a slice of the words
pub view_take : (known : List ℕ) (vars : ℕ) → vars ≤ length known → in_view (take vars known) (length (take vars known)) ≡ in_view known vars
view_take known vars h = ap (λ (n : ℕ). in_view (take vars known) n) (length-take-le vars known h) ∙ view_same known (take vars known) vars (λ j m. get_or-take vars known j 0 m)

pub parts_take : (s known views views₁ : List ℕ) (vars at inside : ℕ) → vars ≤ length known → PartsWait s (length (take vars known)) at inside (take vars known) views views₁ → PartsWait s vars at inside known views views₁
parts_take s known views views₁ vars at inside m h p f end e k ss st r =
    let l : length (take vars known) ≡ vars = length-take-le vars known m in
    let st₁ = subst (λ (v : ℕ). Standing p s v at e k) (sym l) st in
    let r₁ = subst (λ (b : ℕ). Pending p s views (take vars known) f end b k ss) (sym l) (pending_same p s views views known (take vars known) f end (λ j q. record { outer_is = refl; new_is = refl; word_is = refl }) (λ i q. get_or-take vars known i 0 q) r) in
    let q = subst (λ (b : ℕ). Pending p s views₁ (take vars known) f end b inside (inner f (in_view (take vars known) (length (take vars known))) e ++ ss)) l (h p f end e k ss st₁ r₁) in
    subst (λ (ks : List (opt.Option From)). Pending p s views₁ known f end vars inside (inner f ks e ++ ss)) (view_take known vars m)
    (pending_same p s views₁ views₁ (take vars known) known f end (λ j z. record { outer_is = refl; new_is = refl; word_is = refl }) (λ i z. sym (get_or-take vars known i 0 z)) q)

-- so the slice of those in view is known at the place of a turn
pub record Sees (s : List ℕ) (at vars : ℕ) (known : List ℕ) : Type 0 where
  pub within : vars ≤ length known
  pub few : vars ≤ 8 + at
  pub all : length (take vars known) ≡ vars
  pub stands : Stands s (length (take vars known)) at

pub sees : {s views : List ℕ} {at : ℕ} → Here s views at → (known : List ℕ) (vars o n : ℕ) (w : opt.Option From) → Noted views at o n w → vars ≡ o + n → 8 + length s + 2 ≤ length known → Sees s at vars known
sees {s} {views} {at} h known vars o n w q e m =
    let a = h.room in
    let b = h.below in
    let c = q.outer_is in
    let d = q.new_is in
    let i : vars ≤ length known = omega arith in
    let l : length (take vars known) ≡ vars = length-take-le vars known i in
    let k : outer_at views at + new_at views at ≡ length (take vars known) = omega arith in
    record { within = i; few = omega arith; all = l; stands = subst (λ (v : ℕ). Stands s v at) k h.stands }

pub same_memory : (t : StepTable) → IsSameMemory t t
same_memory t = record { rows = refl; words = refl }

pub memory_then : {t u v : StepTable} → IsSameMemory t u → IsSameMemory u v → IsSameMemory t v
memory_then h k = record { rows = k.rows ∙ h.rows; words = k.words ∙ h.words }

-- From the task at the beginning to what is left of it: each turn of the interpreter goes on with a task that leads to the first.
use Rattle.std.proofs.Common.{◌≡◌, ℕ, suc, ◌+◌, ◌-◌, ◌*◌, ◌<◌, ◌≤◌, Bool, true, false, List, map, length, take, drop, Some, sym, refl, ◌∙◌, subst, subst₂, arith}
use Rattle.lang.specs.Program.{Tree, Expr}
use Rattle.lang.specs.Reads.{Reads, r_cons}
use Rattle.reading.proofs.Heading.{Goes, g_parts, goes_at}
use Rattle.arena.specs.declared.nodes.NodeId.{NodeId}
use Rattle.lang.specs.Eval.{Outcome, vals, inner}
use Rattle.tasks.specs.declared.store.Store.{Store}
use Rattle.tasks.specs.declared.text.Text.{Text}
use Rattle.tasks.specs.Tasks.{Task, Stands, Says, Within, Leads}
use Rattle.tasks.specs.Stores.{Ready, Moved, Held, Wide, mode, task, tasks, tree_of, frame, room, floor}
use Rattle.tasks.proofs.Costs.{cost, within_less, leads_less, leads_stands, leads_says, leads_same, leads_more}
use Rattle.reading.specs.declared.head.Head.TheVariants.{Var, Node, Parts, Call}
use Rattle.reading.specs.Heads.{HeadAt}
use Rattle.tasks.specs.Texts.{Standing, Numbered, Body}
use Rattle.tasks.proofs.Standings.{first_bytes}
use Rattle.tasks.proofs.Calling.{Worked, moved_same, worked_within, standing, in_frame, var_in_view, parts_in_view, few_args, call_there, path_tail, path_inner}
use Rattle.tasks.proofs.Paths.{moved_then}
use Rattle.tasks.proofs.Moves.{prepend, node_mode}

pub record Course (s : List ℕ) (st0 : Store) (at0 base0 top0 depth0 : ℕ) (inside0 : Bool) (st : Store) (at base top depth : ℕ) (inside : Bool) : Type 0 where
  pub ready : Ready st base top
  pub wide : Wide s (length st.frames.now) at base top depth
  pub stands : Stands s (task st at base top depth inside)
  pub moved : Moved (floor inside0 base0 top0) st0 st
  pub above : floor inside0 base0 top0 ≤ floor inside base top
  pub leads : Leads s 0 (task st at base top depth inside) (task st0 at0 base0 top0 depth0 inside0) (λ o. o)

floor_below : (inside : Bool) (base top : ℕ) → base ≤ top → floor inside base top ≤ top
floor_below true base top h = omega arith
floor_below false base top h = h

floor_up : (inside : Bool) (base top top1 : ℕ) → top ≤ top1 → floor inside base top ≤ floor inside base top1
floor_up true base top top1 h = h
floor_up false base top top1 h = omega arith

pub moved_weaken : (a b : ℕ) (st st1 : Store) → a ≤ b → Moved b st st1 → Moved a st st1
moved_weaken a b st st1 l m = record { limit = m.limit; grown = m.grown; words = m.words; kept = λ j h. m.kept j (omega arith) }

module _ (s : List ℕ) (st0 : Store) (at0 base0 top0 depth0 : ℕ) (inside0 : Bool) where
  pub course_start : Ready st0 base0 top0 → Wide s (length st0.frames.now) at0 base0 top0 depth0 → Stands s (task st0 at0 base0 top0 depth0 inside0) → Course s st0 at0 base0 top0 depth0 inside0 st0 at0 base0 top0 depth0 inside0
  course_start r w h = record { ready = r; wide = w; stands = h; moved = moved_same (floor inside0 base0 top0) st0; above = omega arith; leads = leads_same s (task st0 at0 base0 top0 depth0 inside0) }

  module _ (st : Store) (at base top depth : ℕ) (inside : Bool) (c : Course s st0 at0 base0 top0 depth0 inside0 st at base top depth inside) where
    pub course_says : (o : Outcome) → Says s (task st at base top depth inside) o → Says s (task st0 at0 base0 top0 depth0 inside0) o
    course_says o h = leads_says s 0 (task st at base top depth inside) (task st0 at0 base0 top0 depth0 inside0) (λ o. o) c.leads o h

    pub course_step : (st1 : Store) (at1 base1 top1 depth1 : ℕ) (inside1 : Bool) → Ready st1 base1 top1 → Wide s (length st1.frames.now) at1 base1 top1 depth1 → Moved (floor inside base top) st st1 → floor inside base top ≤ floor inside1 base1 top1 → Leads s 1 (task st1 at1 base1 top1 depth1 inside1) (task st at base top depth inside) (λ o. o) → Course s st0 at0 base0 top0 depth0 inside0 st1 at1 base1 top1 depth1 inside1
    course_step st1 at1 base1 top1 depth1 inside1 r w m f l = record {
      ready = r;
      wide = w;
      stands = leads_stands s 1 (task st1 at1 base1 top1 depth1 inside1) (task st at base top depth inside) (λ o. o) l c.stands;
      moved = moved_then (floor inside0 base0 top0) (floor inside base top) st0 st st1 c.moved m c.above;
      above = let a = c.above in omega arith;
      leads = leads_more s 1 0 (task st1 at1 base1 top1 depth1 inside1) (task st at base top depth inside) (task st0 at0 base0 top0 depth0 inside0) (λ o. o) (λ o. o) l c.leads;
    }

    -- a step to a higher top in the same frame
    pub course_up : (st1 : Store) (at1 top1 : ℕ) → Ready st1 base top1 → Wide s (length st1.frames.now) at1 base top1 depth → Moved top st st1 → top ≤ top1 → Leads s 1 (task st1 at1 base top1 depth inside) (task st at base top depth inside) (λ o. o) → Course s st0 at0 base0 top0 depth0 inside0 st1 at1 base top1 depth inside
    course_up st1 at1 top1 r w m up l = course_step st1 at1 base top1 depth inside r w (moved_weaken (floor inside base top) top st st1 (floor_below inside base top c.ready.ordered) m) (floor_up inside base top top1 up) l

abbrev pub cost_of : Text → Task → ℕ
cost_of x t = cost x.bytes.now x.ends.now x.starts.now x.ending t

-- a part of what is left costs less than the first task
pub course_falls : (x : Text) (st0 : Store) (at0 base0 top0 depth0 : ℕ) (inside0 : Bool) (st : Store) (at base top depth : ℕ) (inside : Bool) → Stands x.bytes.now (task st0 at0 base0 top0 depth0 inside0) → Course x.bytes.now st0 at0 base0 top0 depth0 inside0 st at base top depth inside → (u : Task) → Within x.bytes.now u (task st at base top depth inside) → cost_of x u < cost_of x (task st0 at0 base0 top0 depth0 inside0)
course_falls x st0 at0 base0 top0 depth0 inside0 st at base top depth inside h c u w =
    let t = task st at base top depth inside in
    let t0 = task st0 at0 base0 top0 depth0 inside0 in
    let a = within_less x.bytes.now x.ends.now x.starts.now x.ending u t c.stands w in
    let b = leads_less x.bytes.now x.ends.now x.starts.now x.ending 0 t t0 (λ o. o) h c.leads in
    omega arith

-- and so does an argument
pub worked_falls : (x : Text) (st0 : Store) (at0 base top depth n : ℕ) (st : Store) (at j : ℕ) (vs : List NodeId) → Stands x.bytes.now (tasks st0 at0 base top depth n) → Worked x.bytes.now st0 at0 base top depth n st at j vs → j < n → cost_of x (task st at base top depth true) < cost_of x (tasks st0 at0 base top depth n)
worked_falls x st0 at0 base top depth n st at j vs h c more =
    let t = tasks st at base top depth (n - j) in
    let t0 = tasks st0 at0 base top depth n in
    let g = prepend (map (tree_of st) (take j vs)) in
    let a = within_less x.bytes.now x.ends.now x.starts.now x.ending (task st at base top depth true) t (leads_stands x.bytes.now 0 t t0 g c.leads h) (worked_within x.bytes.now st0 at0 base top depth n st at j vs c more) in
    let b = leads_less x.bytes.now x.ends.now x.starts.now x.ending 0 t t0 g h c.leads in
    omega arith

-- and what is left after a step
pub step_falls : (x : Text) (st : Store) (at base top depth : ℕ) (inside : Bool) (st1 : Store) (at1 base1 top1 depth1 : ℕ) (inside1 : Bool) → Stands x.bytes.now (task st at base top depth inside) → Leads x.bytes.now 1 (task st1 at1 base1 top1 depth1 inside1) (task st at base top depth inside) (λ o. o) → cost_of x (task st1 at1 base1 top1 depth1 inside1) < cost_of x (task st at base top depth inside)
step_falls x st at base top depth inside st1 at1 base1 top1 depth1 inside1 h l =
    let b = leads_less x.bytes.now x.ends.now x.starts.now x.ending 1 (task st1 at1 base1 top1 depth1 inside1) (task st at base top depth inside) (λ o. o) h l in
    omega arith

-- words enough at another place
module _ (s : List ℕ) (w w' at base top depth : ℕ) (wide : Wide s w at base top depth) (same : w' ≡ w) where
  pub wide_part : (k : ℕ) → at ≤ k → Wide s w' k base top depth
  wide_part k h = record { own = let o = wide.own in omega arith; bytes = wide.bytes; others = let o = wide.others in omega arith }

  pub wide_two : (k : ℕ) → at + 3 ≤ k → Wide s w' k base (top + 2) depth
  wide_two k h = record { own = let o = wide.own in omega arith; bytes = wide.bytes; others = let o = wide.others in omega arith }

  pub wide_one : (k : ℕ) → at + 2 ≤ k → Wide s w' k base (top + 1) depth
  wide_one k h = record { own = let o = wide.own in omega arith; bytes = wide.bytes; others = let o = wide.others in omega arith }

  pub wide_tail : (k n : ℕ) → n ≤ 8 → 0 < k → Wide s w' k base (base + n) depth
  wide_tail k n few h = record { own = let o = wide.bytes in omega arith; bytes = wide.bytes; others = let o = wide.others in omega arith }

  pub wide_inner : (k n d : ℕ) → n ≤ 8 → 0 < k → at < length s → depth ≡ suc d → Wide s w' k top (top + n) d
  wide_inner k n d few h l e = record { own = let o = wide.bytes in omega arith; bytes = wide.bytes; others = let a = wide.others in let o = wide.own in omega arith }

-- what is known of a task that stands in a text
module _ (x : Text) (st : Store) (at base top depth : ℕ) (inside : Bool) (h : Stands x.bytes.now (task st at base top depth inside)) where
  pub here : Standing x.bytes.now at
  here = standing x.bytes.now at (mode inside) depth (frame st base top) (room st) h

  pub below_end : at < length x.bytes.now
  below_end = let b = (first_bytes x.bytes.now x.ends.now x.starts.now x.ending at here).one in omega arith

  pub var_view : (i : ℕ) → HeadAt x.bytes.now at (Some (Var i)) → i < top - base
  var_view i a = in_frame st base top i (var_in_view x.bytes.now x.ends.now x.starts.now x.ending at (mode inside) depth (frame st base top) (room st) h i a)

  pub parts_view : (i : ℕ) → HeadAt x.bytes.now at (Some (Parts i)) → i < top - base
  parts_view i a = in_frame st base top i (parts_in_view x.bytes.now x.ends.now x.starts.now x.ending at (mode inside) depth (frame st base top) (room st) h i a)

  pub few_given : (f n : ℕ) → HeadAt x.bytes.now at (Some (Call f n)) → n ≤ 8
  few_given f n a = few_args x.bytes.now x.ends.now x.starts.now x.ending at (mode inside) depth (frame st base top) (room st) h f n a

  pub call_numbered : (f n : ℕ) → HeadAt x.bytes.now at (Some (Call f n)) → Numbered x.bytes.now f
  call_numbered f n a = call_there x.bytes.now x.ends.now x.starts.now x.ending at (mode inside) depth (frame st base top) (room st) h f n a

  -- the first part of a `parts` stands there
  pub here_parts : (i : ℕ) → HeadAt x.bytes.now at (Some (Parts i)) → Standing x.bytes.now (at + 2)
  here_parts i a p q = let e = h p q in go (goes_at x.bytes.now at (Parts i) a e.1.reads)
    where
      go : {e : Expr} {z : List ℕ} → Goes (Parts i) (drop (at + 2) x.bytes.now) e z → (f : Expr) × (y : List ℕ) × Reads (drop (at + 2) x.bytes.now) f y
      go (g_parts {a = a} (r_cons {ys = ys} l k)) = (a, ys, l)

-- where a call's body goes on: inside, one call further, in a frame above; last, in the place of the caller
pub data Enters (base top depth : ℕ) : Bool → ℕ → ℕ → Bool → Type 0 where
  opens : {base1 depth1 : ℕ} → base1 ≡ top → depth ≡ suc depth1 → Enters base top depth true base1 depth1 false
  replaces : {base1 depth1 : ℕ} → base1 ≡ base → depth1 ≡ depth → Enters base top depth false base1 depth1 false

pub opened : (base top depth : ℕ) (inside : Bool) (base1 depth1 : ℕ) (inside1 : Bool) → inside ≡ true → inside1 ≡ false → base1 ≡ top → depth ≡ suc depth1 → Enters base top depth inside base1 depth1 inside1
opened base top depth inside base1 depth1 inside1 i j b d = subst (λ (k : Bool). Enters base top depth k base1 depth1 inside1) (sym i) (subst (λ (k : Bool). Enters base top depth true base1 depth1 k) (sym j) (opens b d))

pub replaced : (base top depth : ℕ) (inside : Bool) (base1 depth1 : ℕ) (inside1 : Bool) → inside ≡ false → inside1 ≡ inside → base1 ≡ base → depth1 ≡ depth → Enters base top depth inside base1 depth1 inside1
replaced base top depth inside base1 depth1 inside1 i j b d = subst (λ (k : Bool). Enters base top depth k base1 depth1 inside1) (sym i) (subst (λ (k : Bool). Enters base top depth false base1 depth1 k) (sym (j ∙ i)) (replaces b d))

enters_floor : (base top depth : ℕ) (inside : Bool) (base1 depth1 : ℕ) (inside1 : Bool) → Enters base top depth inside base1 depth1 inside1 → base ≤ top → (floor inside base top ≡ base1) × (base1 ≤ top) × ((top1 : ℕ) → floor inside1 base1 top1 ≡ base1)
enters_floor base top depth _ base1 depth1 _ (opens b d) h = (sym b, omega arith, λ top1. refl)
enters_floor base top depth _ base1 depth1 _ (replaces b d) h = (sym b, omega arith, λ top1. refl)

module _ (x : Text) (st : Store) (at base top depth : ℕ) (inside : Bool) (base1 depth1 : ℕ) (inside1 : Bool) (h : Stands x.bytes.now (task st at base top depth inside)) (ready : Ready st base top) (wide : Wide x.bytes.now (length st.frames.now) at base top depth) (w : ℕ) (same : w ≡ length st.frames.now) where
  pub enters_wide : (k n : ℕ) → n ≤ 8 → 0 < k → Enters base top depth inside base1 depth1 inside1 → Wide x.bytes.now w k base1 (base1 + n) depth1
  enters_wide k n few p e = go inside base1 depth1 inside1 e
    where
      go : (inside : Bool) (base1 depth1 : ℕ) (inside1 : Bool) → Enters base top depth inside base1 depth1 inside1 → Wide x.bytes.now w k base1 (base1 + n) depth1
      go _ base1 depth1 _ (opens b d) = subst (λ (i : ℕ). Wide x.bytes.now w k i (i + n) depth1) (sym b) (wide_inner x.bytes.now (length st.frames.now) w at base top depth wide same k n depth1 few p below d)
        where
          below : at < length x.bytes.now
          below = below_end x st at base top depth inside h
      go _ base1 depth1 _ (replaces b d) = subst₂ (λ (i j : ℕ). Wide x.bytes.now w k i (i + n) j) (sym b) (sym d) (wide_tail x.bytes.now (length st.frames.now) w at base top depth wide same k n few p)

-- the body of a call after its arguments
module _ (s : List ℕ) (st : Store) (at base top depth : ℕ) (inside : Bool) (f n : ℕ) (a : HeadAt s at (Some (Call f n))) (st1 : Store) (vs : List NodeId) (says : Says s (tasks st (at + 3) base top depth n) (vals (map (tree_of st1) (take n vs)) (room st1))) (st2 : Store) (k : ℕ) (body : Body s f k) where
  pub enters_leads : (base1 depth1 : ℕ) (inside1 : Bool) → Enters base top depth inside base1 depth1 inside1 → Held base1 st1 st2 base1 (base1 + n) (map (tree_of st1) (take n vs)) → Leads s 1 (task st2 k base1 (base1 + n) depth1 inside1) (task st at base top depth inside) (λ o. o)
  enters_leads base1 depth1 inside1 e held = go inside base1 depth1 inside1 e refl held
    where
      go : (inside' : Bool) (base1 depth1 : ℕ) (inside1 : Bool) → Enters base top depth inside' base1 depth1 inside1 → inside ≡ inside' → Held base1 st1 st2 base1 (base1 + n) (map (tree_of st1) (take n vs)) → Leads s 1 (task st2 k base1 (base1 + n) depth1 inside1) (task st at base top depth inside) (λ o. o)
      go _ base1 depth1 _ (opens b d) i held = subst (λ (j : ℕ). Leads s 1 (task st2 k j (j + n) depth1 false) (task st at base top depth inside) (λ o. o)) (sym b)
          (path_inner s st at base top depth inside f n a st1 vs says st2 k depth1 i d body (subst (λ (j : ℕ). Held j st1 st2 j (j + n) (map (tree_of st1) (take n vs))) b held))
      go _ base1 depth1 _ (replaces b d) i held = subst₂ (λ (j l : ℕ). Leads s 1 (task st2 k j (j + n) l false) (task st at base top depth inside) (λ o. o)) (sym b) (sym d)
          (path_tail s st at base top depth inside f n a st1 vs says st2 k i body (subst (λ (j : ℕ). Held j st1 st2 j (j + n) (map (tree_of st1) (take n vs))) b held))

-- the next turn, at the body
pub course_enters : (s : List ℕ) (st0 : Store) (at0 base0 top0 depth0 : ℕ) (inside0 : Bool) (st : Store) (at base top depth : ℕ) (inside : Bool) → Course s st0 at0 base0 top0 depth0 inside0 st at base top depth inside → (st1 st2 : Store) (k base1 n depth1 : ℕ) (inside1 : Bool) (ρ : List Tree) → Enters base top depth inside base1 depth1 inside1 → Moved top st st1 → Held base1 st1 st2 base1 (base1 + n) ρ → Wide s (length st2.frames.now) k base1 (base1 + n) depth1 → Leads s 1 (task st2 k base1 (base1 + n) depth1 inside1) (task st at base top depth inside) (λ o. o) → Course s st0 at0 base0 top0 depth0 inside0 st2 k base1 (base1 + n) depth1 inside1
course_enters s st0 at0 base0 top0 depth0 inside0 st at base top depth inside c st1 st2 k base1 n depth1 inside1 ρ e m held w l =
    let fl = enters_floor base top depth inside base1 depth1 inside1 e c.ready.ordered in
    let f0 = fl.0 in let f2 = fl.2 (base1 + n) in
    course_step s st0 at0 base0 top0 depth0 inside0 st at base top depth inside c st2 k base1 (base1 + n) depth1 inside1 held.ready w
    (subst (λ (j : ℕ). Moved j st st2) (sym f0) (moved_then base1 base1 st st1 st2 (moved_weaken base1 top st st1 fl.1 m) held.moved (omega arith)))
    (omega arith) l

-- three times the cost falls by three at least, which leaves room for those that hand their own task on
pub falls_to_operand : (a b t : ℕ) → a < b → 3 * b ≡ t → 3 * a + 2 < t
falls_to_operand a b t l e = omega arith

pub falls_from_value : (a b t : ℕ) → a < b → 3 * b + 1 ≡ t → 3 * a + 2 < t
falls_from_value a b t l e = omega arith

pub falls_to_arguments : (a b t : ℕ) → a < b → 3 * b + 1 ≡ t → 3 * a < t
falls_to_arguments a b t l e = omega arith

pub part_falls : (x : Text) (u t : Task) → Stands x.bytes.now t → Within x.bytes.now u t → cost_of x u < cost_of x t
part_falls x u t h w = within_less x.bytes.now x.ends.now x.starts.now x.ending u t h w

-- a node that is left to do stands inside too, and costs no more there than the first task
module _ (x : Text) (st0 : Store) (at0 base0 top0 depth0 : ℕ) (inside0 : Bool) (st : Store) (at base top depth : ℕ) (inside : Bool) (h : Stands x.bytes.now (task st0 at0 base0 top0 depth0 inside0)) (c : Course x.bytes.now st0 at0 base0 top0 depth0 inside0 st at base top depth inside) (a : HeadAt x.bytes.now at (Some Node)) where
  node_leads : Leads x.bytes.now 0 (task st at base top depth true) (task st at base top depth inside) (λ o. o)
  node_leads = node_mode x.bytes.now at inner (mode inside) depth (frame st base top) (room st) a

  pub node_stands : Stands x.bytes.now (task st at base top depth true)
  node_stands = leads_stands x.bytes.now 0 (task st at base top depth true) (task st at base top depth inside) (λ o. o) node_leads c.stands

  pub node_falls : (t : ℕ) → 3 * cost_of x (task st0 at0 base0 top0 depth0 inside0) + 1 ≡ t → 3 * cost_of x (task st at base top depth true) < t
  node_falls t e =
      let t1 = task st at base top depth inside in
      let l = leads_less x.bytes.now x.ends.now x.starts.now x.ending 0 (task st at base top depth true) t1 (λ o. o) c.stands node_leads in
      let k = leads_less x.bytes.now x.ends.now x.starts.now x.ending 0 t1 (task st0 at0 base0 top0 depth0 inside0) (λ o. o) h c.leads in
      omega arith

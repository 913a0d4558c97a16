-- A call in memory: its arguments one after another, and its body.
use Rattle.std.proofs.Common.{◌≡◌, ℕ, zero, suc, ◌+◌, ◌-◌, ◌<◌, ◌≤◌, Bool, true, false, ◌&&◌, T, ltb, List, [], ◌∷◌, ◌++◌, map, length, take, drop, set, Some, sym, refl, ap, ◌∙◌, subst, ap₂, subst₂, append_assoc, arith, ltb→lt, length-set}
use mathlib.Core.Path.{fun_ext}
use mathlib.Core.Logic.{∥∥₁_elim}
use mathlib.Core.Option.{some}
use native.Mathlib.Bridge.{le_prop}
use Rattle.std.specs.List.{All}
use Rattle.std.proofs.lemmas.List.Elements.{All-set, All-head, All-tail}
use Rattle.std.proofs.lemmas.List.{append-nil, map-append, take_more_set}
use Rattle.sizechange.specs.Graph.{nth}
use Rattle.reading.specs.declared.head.Head.TheVariants.{Var, Parts, Call}
use Rattle.reading.specs.Heads.{HeadAt}
use Rattle.reading.proofs.Heading.{Goes, g_var, g_parts, g_call, goes_at}
use Rattle.lang.specs.Program.{Tree, Expr, Fun, Prog, count}
use Rattle.lang.specs.Bytes.{ok, oks, takes}
use Rattle.lang.specs.Eval.{Outcomes, val, deep, vals, no_vals, Mode, tail}
use Rattle.lang.proofs.Lists.{both}
use Rattle.arena.specs.Nodes.{tree}
use Rattle.arena.proofs.Stacks.{length_env}
use Rattle.arena.specs.declared.nodes.NodeId.{NodeId}
use Rattle.tasks.specs.declared.store.Store.{Store}
use Rattle.tasks.specs.declared.store.Stop.{Stop}
use Rattle.tasks.specs.Tasks.{expr, list, Stands, Says, Within, Leads}
use Rattle.tasks.specs.Texts.{Ending, EndsAt, Body, Standing, Numbered}
use Rattle.tasks.specs.Stores.{tree_of, frame, room, stopped, Ready, Moved, Held, mode, task, tasks}
use Rattle.tasks.proofs.Costs.{leads_says, leads_same, leads_more, leads_stands, within_stands}
use Rattle.tasks.proofs.Moves.{taken, call_args, says_call1, says_call0, call_tail, call_inner, prepend, says_none, list_one, says_bad, list_rest}
use Rattle.tasks.proofs.Paths.{same_frame, still, moved_then, bad}
use Rattle.tasks.proofs.Frames.{grown_same}

-- something stands where a task does; a variable that is named is in view; a call's arguments are few, and its function is there
pub standing : (s : List ℕ) (at : ℕ) (m : Mode) (d : ℕ) (ρ : List Tree) (r : ℕ) → Stands s (expr at m d ρ r) → Standing s at
standing s at m d ρ r st p q = let e = st p q in (e.0, e.1.rest, e.1.reads)

module _ (s ends starts : List ℕ) (h : ∥ Ending s ends starts ∥₁) (at : ℕ) (m : Mode) (d : ℕ) (ρ : List Tree) (r : ℕ) (st : Stands s (expr at m d ρ r)) where
  pub var_in_view : (i : ℕ) → HeadAt s at (Some (Var i)) → i < length ρ
  var_in_view i a = ∥∥₁_elim h le_prop (λ E. let e = st E.prog E.tables.program in go E.prog (goes_at s at (Var i) a e.1.reads) e.1.fine)
    where
      go : (p : Prog) {e : Expr} {x : List ℕ} → Goes (Var i) (drop (at + 2) s) e x → T (ok p (length ρ) e) → i < length ρ
      go p g_var fine = ltb→lt i (length ρ) fine

  pub parts_in_view : (i : ℕ) → HeadAt s at (Some (Parts i)) → i < length ρ
  parts_in_view i a = ∥∥₁_elim h le_prop (λ E. let e = st E.prog E.tables.program in go E.prog (goes_at s at (Parts i) a e.1.reads) e.1.fine)
    where
      go : (p : Prog) {e : Expr} {x : List ℕ} → Goes (Parts i) (drop (at + 2) s) e x → T (ok p (length ρ) e) → i < length ρ
      go p (g_parts {a = a} {b = b} l) fine = ltb→lt i (length ρ) (both (ltb i (length ρ)) (ok p (length ρ) a && ok p (length ρ + 2) b) fine).0

  pub few_args : (f n : ℕ) → HeadAt s at (Some (Call f n)) → n ≤ 8
  few_args f n a = ∥∥₁_elim h le_prop (λ E. let e = st E.prog E.tables.program in go (goes_at s at (Call f n) a e.1.reads))
    where
      go : {e : Expr} {x : List ℕ} → Goes (Call f n) (drop (at + 3) s) e x → n ≤ 8
      go (g_call few l) = few

  pub call_there : (f n : ℕ) → HeadAt s at (Some (Call f n)) → Numbered s f
  call_there f n a p q = let e = st p q in go (goes_at s at (Call f n) a e.1.reads) e.1.fine
    where
      go : {e : Expr} {x : List ℕ} → Goes (Call f n) (drop (at + 3) s) e x → T (ok p (length ρ) e) → (g : Fun) × (nth p f ≡ some g)
      go (g_call {es = es} few l) fine = let g = taken p f (count es) (both (takes (nth p f) (count es)) (oks p (length ρ) es) fine).0 in (g.0, g.1)

-- a number of the frame is in view if its place is
pub in_frame : (st : Store) (base top i : ℕ) → i < length (frame st base top) → i < top - base
in_frame st base top i h = let e = length_env st.arena.nodes.now (drop base st.frames.now) (top - base) in omega arith

module _ (s : List ℕ) (st : Store) (at base top depth : ℕ) (inside : Bool) (f n : ℕ) (a : HeadAt s at (Some (Call f n))) where
  pub path_args : Within s (tasks st (at + 3) base top depth n) (task st at base top depth inside)
  path_args = call_args s at (mode inside) depth (frame st base top) (room st) f n a

  pub path_args_stop : (e : Stop) → Says s (tasks st (at + 3) base top depth n) (no_vals (stopped e)) → Says s (task st at base top depth inside) (stopped e)
  path_args_stop e says = says_call1 s at (mode inside) depth (frame st base top) (room st) f n (stopped e) a says

  module _ (st1 : Store) (vs : List NodeId) (given : Says s (tasks st (at + 3) base top depth n) (vals (map (tree_of st1) (take n vs)) (room st1))) where
    pub path_deep : inside ≡ true → depth ≡ 0 → Says s (task st at base top depth inside) deep
    path_deep i z =
        subst₂ (λ (b : Bool) (d : ℕ). Says s (task st at base top d b) deep) (sym i) (sym z) (says_call0 s at 0 (frame st base top) (room st) f n (room st1) (map (tree_of st1) (take n vs)) a (subst (λ (d : ℕ). Says s (tasks st (at + 3) base top d n) (vals (map (tree_of st1) (take n vs)) (room st1))) z given))

    -- the body takes the place of the call
    pub path_tail : (st2 : Store) (k : ℕ) → inside ≡ false → Body s f k → Held base st1 st2 base (base + n) (map (tree_of st1) (take n vs)) → Leads s 1 (task st2 k base (base + n) depth false) (task st at base top depth inside) (λ o. o)
    path_tail st2 k i b h =
        subst₂ (λ (ρ : List Tree) (r : ℕ). Leads s 1 (expr k tail depth ρ r) (task st at base top depth inside) (λ o. o)) (sym h.holds) (sym h.same)
        (subst (λ (b : Bool). Leads s 1 (expr k tail depth (map (tree_of st1) (take n vs)) (room st1)) (task st at base top depth b) (λ o. o)) (sym i) (call_tail s at depth (frame st base top) (room st) f n (room st1) (map (tree_of st1) (take n vs)) a k b given))

    -- a call inside opens one: its frame lies above
    pub path_inner : (st2 : Store) (k d : ℕ) → inside ≡ true → depth ≡ suc d → Body s f k → Held top st1 st2 top (top + n) (map (tree_of st1) (take n vs)) → Leads s 1 (task st2 k top (top + n) d false) (task st at base top depth inside) (λ o. o)
    path_inner st2 k d i e b h =
        subst₂ (λ (ρ : List Tree) (r : ℕ). Leads s 1 (expr k tail d ρ r) (task st at base top depth inside) (λ o. o)) (sym h.holds) (sym h.same)
        (subst₂ (λ (b : Bool) (j : ℕ). Leads s 1 (expr k tail d (map (tree_of st1) (take n vs)) (room st1)) (task st at base top j b) (λ o. o)) (sym i) (sym e) (call_inner s at d (frame st base top) (room st) f n (room st1) (map (tree_of st1) (take n vs)) a k b (subst (λ (j : ℕ). Says s (tasks st (at + 3) base top j n) (vals (map (tree_of st1) (take n vs)) (room st1))) e given)))

-- the same by an equal way to give the results
leads_as : (s : List ℕ) (j : ℕ) (at n d : ℕ) (ρ : List Tree) (r : ℕ) (at' n' d' : ℕ) (ρ' : List Tree) (r' : ℕ) (f g : Outcomes → Outcomes) → ((o : Outcomes) → f o ≡ g o) → Leads s j (list at n d ρ r) (list at' n' d' ρ' r') f → Leads s j (list at n d ρ r) (list at' n' d' ρ' r') g
leads_as s j at n d ρ r at' n' d' ρ' r' f g e = subst (λ (h : Outcomes → Outcomes). Leads s j (list at n d ρ r) (list at' n' d' ρ' r') h) (fun_ext e)

prepend_more : (vs us : List Tree) (o : Outcomes) → prepend vs (prepend us o) ≡ prepend (vs ++ us) o
prepend_more vs us (vals ts q) = ap (λ xs. vals xs q) (sym (append_assoc vs us ts))
prepend_more vs us (no_vals o) = refl

map_kept : (st st1 : Store) (vs : List NodeId) → ((n : ℕ) → n ≤ st.arena.used → tree st1.arena.nodes.now n ≡ tree st.arena.nodes.now n) → All (λ v. v.0 ≤ st.arena.used) vs → (j : ℕ) → map (tree_of st1) (take j vs) ≡ map (tree_of st) (take j vs)
map_kept st st1 vs kept old zero = refl
map_kept st st1 [] kept old (suc j) = refl
map_kept st st1 (v ∷ vs) kept old (suc j) = ap₂ ◌∷◌ (kept v.0 (All-head (λ v. v.0 ≤ st.arena.used) v vs old)) (map_kept st st1 vs kept (All-tail (λ v. v.0 ≤ st.arena.used) v vs old) j)

-- arguments that are there, with one more of them
pub old_set : (vs : List NodeId) (j : ℕ) (v : NodeId) (used used' : ℕ) → used ≤ used' → v.0 ≤ used' → All (λ w. w.0 ≤ used) vs → All (λ w. w.0 ≤ used') (set vs j v)
old_set vs j v used used' g new old = All-set (λ w. w.0 ≤ used') vs j v new (λ k d h. let o = old k d h in omega arith)

-- j of n arguments are worked out, from the store st0 and the place at0 to st and at
pub record Worked (s : List ℕ) (st0 : Store) (at0 base top depth n : ℕ) (st : Store) (at j : ℕ) (vs : List NodeId) : Type 0 where
  pub ready : Ready st base top
  pub moved : Moved top st0 st
  pub long : length vs ≡ 8
  pub old : All (λ v. v.0 ≤ st.arena.used) vs
  pub leads : Leads s 0 (tasks st at base top depth (n - j)) (tasks st0 at0 base top depth n) (prepend (map (tree_of st) (take j vs)))

prepend_none : (o : Outcomes) → o ≡ prepend [] o
prepend_none (vals ts q) = refl
prepend_none (no_vals o) = refl

pub moved_same : (floor : ℕ) (st : Store) → Moved floor st st
moved_same floor st = record { limit = refl; grown = grown_same st.arena.nodes.now st.arena.used st.arena.well.sound; words = refl; kept = λ j h. refl }

module _ (s : List ℕ) (st0 : Store) (at0 base top depth n : ℕ) where
  pub worked_none : (vs : List NodeId) → Ready st0 base top → length vs ≡ 8 → All (λ v. v.0 ≤ st0.arena.used) vs → Worked s st0 at0 base top depth n st0 at0 0 vs
  worked_none vs r long old = record {
    ready = r;
    moved = moved_same top st0;
    long = long;
    old = old;
    leads = let e : n ≡ n - 0 = omega arith in
        subst (λ (k : ℕ). Leads s 0 (tasks st0 at0 base top depth k) (tasks st0 at0 base top depth n) (prepend [])) e
        (leads_as s 0 at0 n depth (frame st0 base top) (room st0) at0 n depth (frame st0 base top) (room st0) (λ o. o) (prepend []) prepend_none (leads_same s (tasks st0 at0 base top depth n)));
  }

  module _ (st : Store) (at j : ℕ) (vs : List NodeId) (w : Worked s st0 at0 base top depth n st at j vs) where
    pub worked_all : j ≡ n → Says s (tasks st0 at0 base top depth n) (vals (map (tree_of st) (take n vs)) (room st))
    worked_all e =
        let z : n - j ≡ 0 = omega arith in
        let none : Says s (tasks st at base top depth (n - j)) (vals [] (room st)) = subst (λ (k : ℕ). Says s (tasks st at base top depth k) (vals [] (room st))) (sym z) (says_none s at depth (frame st base top) (room st)) in
        let ts = map (tree_of st) (take j vs) in
        let is : vals (ts ++ []) (room st) ≡ vals (map (tree_of st) (take n vs)) (room st) = ap (λ xs. vals xs (room st)) (append-nil ts ∙ ap (λ k. map (tree_of st) (take k vs)) e) in
        subst (λ (o : Outcomes). Says s (tasks st0 at0 base top depth n) o) is
        (leads_says s 0 (tasks st at base top depth (n - j)) (tasks st0 at0 base top depth n) (prepend ts) w.leads (vals [] (room st)) none)

    module _ (more : j < n) where
      one_more : n - j ≡ suc (n - (j + 1))
      one_more = omega arith

      pub worked_within : Within s (task st at base top depth true) (tasks st at base top depth (n - j))
      worked_within = subst (λ (k : ℕ). Within s (task st at base top depth true) (tasks st at base top depth k)) (sym one_more) (list_one s at depth (frame st base top) (room st) (n - (j + 1)))

      pub worked_stop : (e : Stop) → Says s (task st at base top depth true) (stopped e) → Says s (tasks st0 at0 base top depth n) (no_vals (stopped e))
      worked_stop e says =
          let here : Says s (tasks st at base top depth (n - j)) (no_vals (stopped e)) = subst (λ (k : ℕ). Says s (tasks st at base top depth k) (no_vals (stopped e))) (sym one_more) (says_bad s at depth (frame st base top) (room st) (n - (j + 1)) (stopped e) (bad e) says) in
          leads_says s 0 (tasks st at base top depth (n - j)) (tasks st0 at0 base top depth n) (prepend (map (tree_of st) (take j vs))) w.leads (no_vals (stopped e)) here

      module _ (st1 : Store) (v : NodeId) (says : Says s (task st at base top depth true) (val (tree_of st1 v) (room st1))) where
        pub worked_more : (k : ℕ) → j < 8 → Moved top st st1 → v.0 ≤ st1.arena.used → EndsAt s at k → Worked s st0 at0 base top depth n st1 k (j + 1) (set vs j v)
        worked_more k few m there z =
            let le = w.long in
            let t1 = tree_of st1 in
            let ts = map (tree_of st) (take j vs) in
            let rest : Leads s 1 (list k (n - (j + 1)) depth (frame st base top) (room st1)) (tasks st at base top depth (n - j)) (prepend (t1 v ∷ [])) =
            subst (λ (i : ℕ). Leads s 1 (list k (n - (j + 1)) depth (frame st base top) (room st1)) (tasks st at base top depth i) (prepend (t1 v ∷ []))) (sym one_more)
            (list_rest s at depth (frame st base top) (room st) (n - (j + 1)) k (room st1) (t1 v) z says) in
            let are : map t1 (take (j + 1) (set vs j v)) ≡ ts ++ (t1 v ∷ []) =
            ap (map t1) (take_more_set vs j v (omega arith)) ∙ map-append t1 (take j vs) (v ∷ []) ∙ ap (λ xs. xs ++ (t1 v ∷ [])) (map_kept st st1 vs m.grown.kept w.old j) in
            record {
              ready = still st st1 base top w.ready m;
              moved = moved_then top top st0 st st1 w.moved m (omega arith);
              long = length-set vs j v ∙ w.long;
              old = old_set vs j v st.arena.used st1.arena.used m.grown.more there w.old;
              leads = subst (λ (ρ : List Tree). Leads s 0 (list k (n - (j + 1)) depth ρ (room st1)) (tasks st0 at0 base top depth n) (prepend (map t1 (take (j + 1) (set vs j v))))) (sym (same_frame st st1 base top w.ready m))
                  (leads_as s 0 k (n - (j + 1)) depth (frame st base top) (room st1) at0 n depth (frame st0 base top) (room st0) (λ o. prepend ts (prepend (t1 v ∷ []) o)) (prepend (map t1 (take (j + 1) (set vs j v)))) (λ o. prepend_more ts (t1 v ∷ []) o ∙ ap (λ xs. prepend xs o) (sym are))
                  (leads_more s 1 0 (list k (n - (j + 1)) depth (frame st base top) (room st1)) (tasks st at base top depth (n - j)) (tasks st0 at0 base top depth n) (prepend (t1 v ∷ [])) (prepend ts) rest w.leads));
            }

-- an argument stands where the arguments do
pub worked_stands : (s : List ℕ) (st0 : Store) (at0 base top depth n : ℕ) (st : Store) (at j : ℕ) (vs : List NodeId) → Worked s st0 at0 base top depth n st at j vs → j < n → Stands s (tasks st0 at0 base top depth n) → Stands s (task st at base top depth true)
worked_stands s st0 at0 base top depth n st at j vs w more h =
    within_stands s (task st at base top depth true) (tasks st at base top depth (n - j)) (worked_within s st0 at0 base top depth n st at j vs w more)
    (leads_stands s 0 (tasks st at base top depth (n - j)) (tasks st0 at0 base top depth n) (prepend (map (tree_of st) (take j vs))) w.leads h)

-- What is done for each head, in memory: what it says of the task here.
use Rattle.std.proofs.Common.{◌≡◌, ℕ, ◌+◌, ◌-◌, ◌<◌, ◌≤◌, Bool, true, List, ◌∷◌, get_or, drop, Some, Result, sym, ap, ◌∙◌, subst, subst₂, arith}
use mathlib.Core.Option.{some}
use Rattle.std.proofs.lemmas.List.{get_or-drop}
use Rattle.sizechange.specs.Graph.{nth}
use Rattle.reading.specs.declared.head.Head.TheVariants.{Var, Leaf, Node, Parts, Bind}
use Rattle.reading.specs.Heads.{HeadAt}
use Rattle.lang.specs.Program.{Tree, leaf, node}
use Rattle.lang.specs.Eval.{Outcome, val, Bad, is_full, is_deep, made, inner}
use Rattle.arena.specs.Nodes.{tree, left_of, right_of, IsNode}
use Rattle.arena.specs.declared.nodes.NodeId.{NodeId}
use Rattle.arena.proofs.Trees.{leaf_zero}
use Rattle.tasks.specs.declared.store.Store.{Store}
use Rattle.tasks.specs.declared.store.Stop.{Stop}
use Rattle.tasks.specs.declared.store.Stop.TheVariants.{Full, Deep}
use Rattle.tasks.specs.Tasks.{expr, Says, Within, Leads}
use Rattle.tasks.specs.Texts.{EndsAt}
use Rattle.tasks.specs.Stores.{tree_of, frame, room, stopped, comes_to, Ready, Moved, Held, mode, task}
use Rattle.tasks.proofs.Frames.{env_same}
use Rattle.tasks.proofs.Moves.{says_var, says_leaf, node_left, node_right, says_node1, says_node2, says_node, parts_leaf, parts_node, bind_value, says_bind1, bind_rest}

-- one move after another
pub moved_then : (a b : ℕ) (st st1 st2 : Store) → Moved a st st1 → Moved b st1 st2 → a ≤ b → Moved a st st2
moved_then a b st st1 st2 m n l = record {
  limit = n.limit ∙ m.limit;
  grown = record {
    long = n.grown.long ∙ m.grown.long;
    more = let x = m.grown.more in let y = n.grown.more in omega arith;
    sound = n.grown.sound;
    kept = λ k h. n.grown.kept k (let x = m.grown.more in omega arith) ∙ m.grown.kept k h;
  };
  words = n.words ∙ m.words;
  kept = λ j h. n.kept j (omega arith) ∙ m.kept j h;
}

-- a frame below the floor of a move is as it was
frame_word : (fr fr' : List ℕ) (base top j : ℕ) → ((j : ℕ) → j < top → get_or fr' j 0 ≡ get_or fr j 0) → j < top - base → get_or (drop base fr') j 0 ≡ get_or (drop base fr) j 0
frame_word fr fr' base top j kept h = get_or-drop base fr' j 0 ∙ kept (base + j) (omega arith) ∙ sym (get_or-drop base fr j 0)

pub same_frame : (st st1 : Store) (base top : ℕ) → Ready st base top → Moved top st st1 → frame st1 base top ≡ frame st base top
same_frame st st1 base top r m = env_same st.arena.nodes.now st1.arena.nodes.now (drop base st.frames.now) (drop base st1.frames.now) (top - base)
    (λ j h. ap (tree st1.arena.nodes.now) (frame_word st.frames.now st1.frames.now base top j m.kept h) ∙ m.grown.kept (get_or (drop base st.frames.now) j 0) (r.old j h))

pub still : (st st1 : Store) (base top : ℕ) → Ready st base top → Moved top st st1 → Ready st1 base top
still st st1 base top r m = record {
  ordered = r.ordered;
  old = λ j h. let w = frame_word st.frames.now st1.frames.now base top j m.kept h in let o = r.old j h in let g = m.grown.more in omega arith;
}

-- what has stopped has no value
pub bad : (e : Stop) → Bad (stopped e)
bad Full = is_full
bad Deep = is_deep

module _ (s : List ℕ) (st : Store) (at base top depth : ℕ) (inside : Bool) where
  pub path_var : (i : ℕ) (v : NodeId) → HeadAt s at (Some (Var i)) → nth (frame st base top) i ≡ some (tree_of st v) → Says s (task st at base top depth inside) (val (tree_of st v) (room st))
  path_var i v a is = says_var s at (mode inside) depth (frame st base top) (room st) i (tree_of st v) a is

  pub path_leaf : HeadAt s at (Some Leaf) → Says s (task st at base top depth inside) (val (tree st.arena.nodes.now 0) (room st))
  path_leaf a = subst (λ (t : Tree). Says s (task st at base top depth inside) (val t (room st))) (sym (leaf_zero st.arena.nodes.now)) (says_leaf s at (mode inside) depth (frame st base top) (room st) a)

  pub path_left : HeadAt s at (Some Node) → Within s (task st (at + 1) base top depth true) (task st at base top depth inside)
  path_left a = node_left s at (mode inside) depth (frame st base top) (room st) a

  pub path_left_stops : (e : Stop) → HeadAt s at (Some Node) → Says s (task st (at + 1) base top depth true) (stopped e) → Says s (task st at base top depth inside) (stopped e)
  path_left_stops e a says = says_node1 s at (mode inside) depth (frame st base top) (room st) (stopped e) a (bad e) says

  -- after the left part
  module _ (ready : Ready st base top) (st1 : Store) (v : NodeId) (k : ℕ) (m : Moved top st st1) (says : Says s (task st (at + 1) base top depth true) (val (tree_of st1 v) (room st1))) (z : EndsAt s (at + 1) k) where
    pub path_right : HeadAt s at (Some Node) → Within s (task st1 k base top depth true) (task st at base top depth inside)
    path_right a = subst (λ (ρ : List Tree). Within s (expr k inner depth ρ (room st1)) (task st at base top depth inside)) (sym (same_frame st st1 base top ready m)) (node_right s at (mode inside) depth (frame st base top) (room st) k (room st1) (tree_of st1 v) a z says)

    said2 : (o : Outcome) → Says s (task st1 k base top depth true) o → Says s (expr k inner depth (frame st base top) (room st1)) o
    said2 o = subst (λ (ρ : List Tree). Says s (expr k inner depth ρ (room st1)) o) (same_frame st st1 base top ready m)

    pub path_right_stops : (e : Stop) → HeadAt s at (Some Node) → Says s (task st1 k base top depth true) (stopped e) → Says s (task st at base top depth inside) (stopped e)
    path_right_stops e a says2 = says_node2 s at (mode inside) depth (frame st base top) (room st) k (room st1) (tree_of st1 v) (stopped e) a z (bad e) says (said2 (stopped e) says2)

    pub path_made : (st2 st3 : Store) (u : NodeId) (w : Result NodeId Stop) → HeadAt s at (Some Node) → v.0 ≤ st1.arena.used → Moved top st1 st2 → Says s (task st1 k base top depth true) (val (tree_of st2 u) (room st2)) → comes_to st3 w ≡ made (node (tree_of st2 v) (tree_of st2 u)) (room st2) → Says s (task st at base top depth inside) (comes_to st3 w)
    path_made st2 st3 u w a there m2 says2 is =
        let e : made (node (tree_of st1 v) (tree_of st2 u)) (room st2) ≡ comes_to st3 w = ap (λ t. made (node t (tree_of st2 u)) (room st2)) (sym (m2.grown.kept v.0 there)) ∙ sym is in
        subst (λ (o : Outcome). Says s (task st at base top depth inside) o) e
        (says_node s at (mode inside) depth (frame st base top) (room st) k (room st1) (room st2) (tree_of st1 v) (tree_of st2 u) a z says (said2 (val (tree_of st2 u) (room st2)) says2))

    pub path_bound : (st2 : Store) → HeadAt s at (Some Bind) → Held top st1 st2 base (top + 1) (tree_of st1 v ∷ frame st1 base top) → Leads s 1 (task st2 k base (top + 1) depth inside) (task st at base top depth inside) (λ o. o)
    path_bound st2 a h =
        subst₂ (λ (ρ : List Tree) (r : ℕ). Leads s 1 (expr k (mode inside) depth ρ r) (task st at base top depth inside) (λ o. o)) (ap (λ ρ. tree_of st1 v ∷ ρ) (sym (same_frame st st1 base top ready m)) ∙ sym h.holds) (sym h.same)
        (bind_rest s at (mode inside) depth (frame st base top) (room st) k (room st1) (tree_of st1 v) a z says)

  pub path_parts_leaf : (i : ℕ) (v : NodeId) → HeadAt s at (Some (Parts i)) → nth (frame st base top) i ≡ some (tree_of st v) → tree_of st v ≡ leaf → Leads s 1 (task st (at + 2) base top depth inside) (task st at base top depth inside) (λ o. o)
  path_parts_leaf i v a is e = parts_leaf s at (mode inside) depth (frame st base top) (room st) i a (is ∙ ap some e)

  pub path_parts_node : (i : ℕ) (v : NodeId) (k : ℕ) (st1 : Store) → HeadAt s at (Some (Parts i)) → EndsAt s (at + 2) k → nth (frame st base top) i ≡ some (tree_of st v) → IsNode (tree_of st v) → Held top st st1 base (top + 2) (right_of (tree_of st v) ∷ left_of (tree_of st v) ∷ frame st base top) → Leads s 1 (task st1 k base (top + 2) depth inside) (task st at base top depth inside) (λ o. o)
  path_parts_node i v k st1 a z is nd h =
      subst₂ (λ (ρ : List Tree) (r : ℕ). Leads s 1 (expr k (mode inside) depth ρ r) (task st at base top depth inside) (λ o. o)) (sym h.holds) (sym h.same)
      (parts_node s at (mode inside) depth (frame st base top) (room st) i k (left_of (tree_of st v)) (right_of (tree_of st v)) a z (is ∙ ap some nd))

  pub path_value : HeadAt s at (Some Bind) → Within s (task st (at + 1) base top depth true) (task st at base top depth inside)
  path_value a = bind_value s at (mode inside) depth (frame st base top) (room st) a

  pub path_value_stops : (e : Stop) → HeadAt s at (Some Bind) → Says s (task st (at + 1) base top depth true) (stopped e) → Says s (task st at base top depth inside) (stopped e)
  path_value_stops e a says = says_bind1 s at (mode inside) depth (frame st base top) (room st) (stopped e) a (bad e) says

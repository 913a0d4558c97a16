-- Laws of the language in its own words: small programs worked by hand, and facts about all programs. They hold the definitions to what is said of them.
use Rattle.std.specs.Prelude.{◌≡◌, ℕ, ◌+◌, ◌<◌, ◌≤◌, List, [], ◌∷◌, length}
use Rattle.sizechange.specs.Graph.{Step, In}
use Rattle.lang.specs.Program.{Tree, leaf, node, Expr, var, a_leaf, a_node, parts, bind, call, Exprs, nil, cons, Fun, Prog}
use Rattle.lang.specs.Eval.{val, full, deep, no_vals, tail, inner, Eval, EvalAll, Calls}
use Rattle.lang.specs.Steps.{call_graph, EndsForAReason}
use Rattle.lang.specs.Bytes.{Program, bytes_of_trees}

-- f(x, y) = x; g(x, y) = f(x, y); h(x, y) = g(x, y); an expression that takes room, and one that opens a call
abbrev pub first : Fun
first = record { args = 2; body = var 0 }

abbrev pub passes : ℕ → Fun
passes f = record { args = 2; body = call f (cons (var 0) (cons (var 1) nil)) }

abbrev pub firsts : Prog
firsts = first ∷ passes 0 ∷ passes 1 ∷ []

abbrev pub makes : Expr
makes = a_node a_leaf a_leaf

abbrev pub opens : Expr
opens = call 0 (cons a_leaf (cons a_leaf nil))

-- what stands first decides, where there is neither room nor a call to open; a node's room is taken when both its parts are there
pub record FromLeftToRight : Type 0 where
  pub node_full : Eval firsts inner 0 [] (a_node makes opens) 0 full
  pub node_deep : Eval firsts inner 0 [] (a_node opens makes) 0 deep
  pub bind_full : Eval firsts inner 0 [] (bind makes opens) 0 full
  pub bind_deep : Eval firsts inner 0 [] (bind opens makes) 0 deep
  pub given_full : EvalAll firsts 0 [] (cons makes (cons opens nil)) 0 (no_vals full)
  pub given_deep : EvalAll firsts 0 [] (cons opens (cons makes nil)) 0 (no_vals deep)
  -- arguments are worked out before the call opens, and their calls are over then
  pub before : Eval firsts inner 0 [] (call 0 (cons makes (cons a_leaf nil))) 0 full
  pub over : Eval firsts inner 1 [] (call 0 (cons opens (cons opens nil))) 0 (val leaf 0)
  -- each node takes one
  pub three : Eval firsts inner 0 [] (a_node makes makes) 3 (val (node (node leaf leaf) (node leaf leaf)) 0)
  pub two : Eval firsts inner 0 [] (a_node makes makes) 2 full

-- what stands last opens no call: under parts and in bind's second expression; in bind's first, in a node and among arguments it isn't last
pub record LastPlace : Type 0 where
  pub alone : (t u : Tree) → Calls firsts 2 (t ∷ u ∷ []) 0 0 (val t 0)
  pub inside : Eval firsts inner 1 [] (call 2 (cons a_leaf (cons a_leaf nil))) 0 (val leaf 0)
  pub bound : Eval firsts tail 0 [] (bind a_leaf opens) 0 (val leaf 0)
  pub of_a_leaf : Eval firsts tail 0 (leaf ∷ []) (parts 0 opens a_leaf) 0 (val leaf 0)
  pub of_a_node : (t u : Tree) → Eval firsts tail 0 (node t u ∷ []) (parts 0 a_leaf opens) 0 (val leaf 0)
  pub not_bound : Eval firsts tail 0 [] (bind opens a_leaf) 0 deep
  pub not_node : Eval firsts tail 0 [] (a_node opens a_leaf) 0 deep
  pub not_given : Eval firsts tail 0 [] (call 0 (cons opens (cons a_leaf nil))) 0 deep

-- which variable is which
pub record Views : Type 0 where
  pub of_parts : (t u v : Tree) → Eval firsts inner 0 (node t u ∷ v ∷ []) (parts 0 a_leaf (a_node (var 0) (a_node (var 1) (var 3)))) 2 (val (node u (node t v)) 0)
  pub of_bind : (t : Tree) → Eval firsts inner 0 (t ∷ []) (bind a_leaf (a_node (var 0) (var 1))) 1 (val (node leaf t) 0)
  pub of_call : (t u : Tree) → Calls firsts 0 (t ∷ u ∷ []) 0 0 (val t 0)

-- a program with every form. f(x, y) = bind y in parts of x: leaf, else parts of its right part: leaf, else g(y as bound, node(leaf, leaf), f(the left part of that, y)); g(x, y, z) = f(z, leaf)
abbrev pub forms : Prog
forms = record { args = 2; body = bind (var 1) (parts 1 a_leaf (parts 0 a_leaf (call 1 (cons (var 4) (cons makes (cons (call 0 (cons (var 1) (cons (var 6) nil))) nil)))))) } ∷ record { args = 3; body = call 0 (cons (var 2) (cons a_leaf nil)) } ∷ []

abbrev pub form_bytes : List ℕ
form_bytes = 2 ∷ 4 ∷ 0 ∷ 1 ∷ 3 ∷ 1 ∷ 1 ∷ 3 ∷ 0 ∷ 1 ∷ 5 ∷ 1 ∷ 3 ∷ 0 ∷ 4 ∷ 2 ∷ 1 ∷ 1 ∷ 5 ∷ 0 ∷ 2 ∷ 0 ∷ 1 ∷ 0 ∷ 6 ∷ 3 ∷ 5 ∷ 0 ∷ 2 ∷ 0 ∷ 2 ∷ 1 ∷ []

pub record Written : Type 0 where
  pub program : Program form_bytes forms
  pub none : Program [] []
  pub trees : bytes_of_trees (node leaf (node leaf leaf) ∷ node (node leaf leaf) leaf ∷ []) ≡ 1 ∷ 0 ∷ 1 ∷ 0 ∷ 0 ∷ 1 ∷ 1 ∷ 0 ∷ 0 ∷ 0 ∷ []
  -- what is bound to an argument is it, and a part of a part is a part
  pub steps : call_graph forms ≡ record { caller = 0; callee = 1; arcs = record { from = 1; to = 0; how = 1 } ∷ [] } ∷ record { caller = 0; callee = 0; arcs = record { from = 0; to = 0; how = 2 } ∷ record { from = 1; to = 1; how = 1 } ∷ [] } ∷ record { caller = 1; callee = 0; arcs = record { from = 2; to = 0; how = 1 } ∷ [] } ∷ []

-- f(x, y): if x is a leaf, leaf, else f(y, right part of x): no step makes an argument a part of itself, and two do. With f(y, x) none ever does.
abbrev pub turned : Prog
turned = record { args = 2; body = parts 0 a_leaf (call 0 (cons (var 3) (cons (var 0) nil))) } ∷ []

abbrev pub exchanged : Prog
exchanged = record { args = 2; body = parts 0 a_leaf (call 0 (cons (var 3) (cons (var 2) nil))) } ∷ []

pub record JudgedByHand : Type 0 where
  pub has : EndsForAReason turned
  pub none : EndsForAReason exchanged → ⊥

-- a program that only calls later functions has the reason, so one without calls does
abbrev pub Forward : Type 0
Forward = (p : Prog) → ((s : Step) → In s (call_graph p) → s.caller < s.callee) → EndsForAReason p

-- each call is a step: there are as many
abbrev mutual
  pub calls : Expr → ℕ
  calls (var i) = 0
  calls a_leaf = 0
  calls (a_node a b) = calls a + calls b
  calls (parts i a b) = calls a + calls b
  calls (bind a b) = calls a + calls b
  calls (call f es) = 1 + calls_all es

  pub calls_all : Exprs → ℕ
  calls_all nil = 0
  calls_all (cons e es) = calls e + calls_all es

abbrev pub all_calls : Prog → ℕ
all_calls [] = 0
all_calls (g ∷ gs) = calls g.body + all_calls gs

abbrev pub AsManySteps : Type 0
AsManySteps = (p : Prog) → length (call_graph p) ≡ all_calls p

-- with more depth and room a value stays the value, and the additional room is left, whether there is the reason or not
abbrev pub MoreIsEnough : Type 0
MoreIsEnough = (p : Prog) (f : ℕ) (ts : List Tree) (d r : ℕ) (t : Tree) (q : ℕ) → Calls p f ts d r (val t q) → (d' k : ℕ) → d ≤ d' → Calls p f ts d' (r + k) (val t (q + k))

pub record Laws : Type 0 where
  pub from_left_to_right : FromLeftToRight
  pub last_place : LastPlace
  pub views : Views
  pub written : Written
  pub judged : JudgedByHand
  pub forward : Forward
  pub as_many_steps : AsManySteps
  pub more_is_enough : MoreIsEnough

-- A worked program: Ackermann's function on numbers, where a number is a node whose right part is the number before.
-- ack(leaf, n) = node(leaf, n); ack(node(_, m), leaf) = ack(m, node(leaf, leaf)); ack(node(_, m), node(_, n)) = ack(m, ack(node(_, m), n))
use Rattle.std.specs.Prelude.{◌≡◌, ℕ, List, [], ◌∷◌}
use Rattle.lang.specs.Program.{Tree, leaf, node, var, a_leaf, a_node, parts, call, nil, cons, Fun, Prog}
use Rattle.lang.specs.Eval.{val, full, deep, Calls}
use Rattle.lang.specs.Steps.{call_graph}
use Rattle.lang.specs.Bytes.{Program}

abbrev pub ack : Fun
ack = record { args = 2; body = parts 0 (a_node a_leaf (var 1)) (parts 3 (call 0 (cons (var 0) (cons (a_node a_leaf a_leaf) nil))) (call 0 (cons (var 2) (cons (call 0 (cons (var 4) (cons (var 0) nil))) nil)))) }

abbrev pub ack_program : Prog
ack_program = ack ∷ []

abbrev pub ack_bytes : List ℕ
ack_bytes = 2 ∷ 3 ∷ 0 ∷ 2 ∷ 1 ∷ 0 ∷ 1 ∷ 3 ∷ 3 ∷ 5 ∷ 0 ∷ 2 ∷ 0 ∷ 0 ∷ 2 ∷ 1 ∷ 1 ∷ 5 ∷ 0 ∷ 2 ∷ 0 ∷ 2 ∷ 5 ∷ 0 ∷ 2 ∷ 0 ∷ 4 ∷ 0 ∷ 0 ∷ []

abbrev pub n0 : Tree
n0 = leaf

abbrev pub n1 : Tree
n1 = node leaf n0

abbrev pub n2 : Tree
n2 = node leaf n1

abbrev pub n3 : Tree
n3 = node leaf n2

pub record Worked : Type 0 where
  pub program : Program ack_bytes ack_program
  -- in the first call and in the outer one the first argument becomes a part; in the inner one it stays, and the second becomes a part
  pub steps : call_graph ack_program ≡ record { caller = 0; callee = 0; arcs = record { from = 0; to = 0; how = 2 } ∷ [] } ∷ record { caller = 0; callee = 0; arcs = record { from = 0; to = 0; how = 2 } ∷ [] } ∷ record { caller = 0; callee = 0; arcs = record { from = 0; to = 0; how = 1 } ∷ record { from = 1; to = 1; how = 2 } ∷ [] } ∷ []
  -- ack(0, 0) is 1, with one node of room; with none it is full
  pub zero_zero : Calls ack_program 0 (n0 ∷ n0 ∷ []) 0 1 (val n1 0)
  pub zero_zero_full : Calls ack_program 0 (n0 ∷ n0 ∷ []) 0 0 full
  -- ack(1, 0) is 2, by a tail call
  pub one_zero : Calls ack_program 0 (n1 ∷ n0 ∷ []) 0 2 (val n2 0)
  -- ack(1, 1) needs one call open inside, and with it is 3
  pub one_one_deep : Calls ack_program 0 (n1 ∷ n1 ∷ []) 0 9 deep
  pub one_one : Calls ack_program 0 (n1 ∷ n1 ∷ []) 1 3 (val n3 0)

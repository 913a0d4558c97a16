-- A run never has more room left than it had.
use Rattle.std.proofs.Common.{ℕ, zero, suc, ◌≤◌, List, arith}
use Rattle.lang.specs.Program.{Tree, node, Expr, Exprs, Prog}
use Rattle.lang.specs.Eval.{Outcome, val, full, deep, Outcomes, vals, no_vals, made, Mode, Eval, EvalAll, Calls, e_var, e_leaf, e_node, e_node1, e_node2, e_parts1, e_parts2, e_bind, e_bind1, e_tail, e_call, e_call0, e_call1, a_nil, a_cons, a_bad, a_rest}

abbrev left : Outcome → ℕ
left (val t q) = q
left full = 0
left deep = 0

abbrev left_all : Outcomes → ℕ
left_all (vals ts q) = q
left_all (no_vals o) = left o

left_made : (t : Tree) (s : ℕ) → left (made t s) ≤ s
left_made t zero = omega arith
left_made t (suc s) = omega arith

mutual
  room_left : {p : Prog} {m : Mode} {d : ℕ} {ρ : List Tree} {e : Expr} {r : ℕ} {o : Outcome} → Eval p m d ρ e r o → left o ≤ r
  room_left (e_var is) = omega arith
  room_left e_leaf = omega arith
  room_left (e_node {s = s} {t = t} {u = u} x y) = omega (arith, room_left x, room_left y, left_made (node t u) s)
  room_left (e_node1 x bad) = room_left x
  room_left (e_node2 x y bad) = omega (arith, room_left x, room_left y)
  room_left (e_parts1 is x) = room_left x
  room_left (e_parts2 t u is x) = room_left x
  room_left (e_bind x y) = omega (arith, room_left x, room_left y)
  room_left (e_bind1 x bad) = room_left x
  room_left (e_tail g xs is fits x) = omega (arith, room_left_all xs, room_left x)
  room_left (e_call g xs is fits x) = omega (arith, room_left_all xs, room_left x)
  room_left (e_call0 xs) = omega arith
  room_left (e_call1 xs) = room_left_all xs

  room_left_all : {p : Prog} {d : ℕ} {ρ : List Tree} {es : Exprs} {r : ℕ} {o : Outcomes} → EvalAll p d ρ es r o → left_all o ≤ r
  room_left_all a_nil = omega arith
  room_left_all (a_cons x xs) = omega (arith, room_left x, room_left_all xs)
  room_left_all (a_bad x bad) = room_left x
  room_left_all (a_rest x xs) = omega (arith, room_left x, room_left_all xs)

pub no_more_room : (p : Prog) (f : ℕ) (ts : List Tree) (d r : ℕ) (t : Tree) (q : ℕ) → Calls p f ts d r (val t q) → q ≤ r
no_more_room p f ts d r t q c = room_left c.does

-- What an expression does, with so much room for nodes and so many calls open inside at most. Nothing here says that it ends.
use Rattle.std.specs.Prelude.{◌≡◌, ℕ, zero, suc, List, [], ◌∷◌, length}
use Rattle.std.proofs.Math.Option.{some}
use Rattle.sizechange.specs.Graph.{nth}
use Rattle.lang.specs.Program.{Tree, leaf, node, Expr, var, a_leaf, a_node, parts, bind, call, Exprs, nil, cons, Fun, Prog}

-- a value and the room left; no room for a node; too many calls open
pub data Outcome : Type 0 where
  val : Tree → ℕ → Outcome
  full : Outcome
  deep : Outcome

pub data Outcomes : Type 0 where
  vals : List Tree → ℕ → Outcomes
  no_vals : Outcome → Outcomes

-- an outcome that is no value
pub data Bad : Outcome → Type 0 where
  is_full : Bad full
  is_deep : Bad deep

-- a node takes one of the room, when both its parts are there
abbrev pub made : Tree → ℕ → Outcome
made t zero = full
made t (suc r) = val t r

-- What stands last in a body is done in place of the body: a call there (a tail call) opens no further call. Everything else is done inside.
pub data Mode : Type 0 where
  tail : Mode
  inner : Mode

-- Eval p m d ρ e r o: in program p, with d further calls to open, environment ρ and room r, the expression e comes to o.
-- Everything is worked out from left to right. A call's arguments are worked out before it opens.
mutual
  pub data Eval (p : Prog) : Mode → ℕ → List Tree → Expr → ℕ → Outcome → Type 0 where
    e_var : {m : Mode} {d r i : ℕ} {ρ : List Tree} {t : Tree} → nth ρ i ≡ some t → Eval p m d ρ (var i) r (val t r)
    e_leaf : {m : Mode} {d r : ℕ} {ρ : List Tree} → Eval p m d ρ a_leaf r (val leaf r)
    e_node : {m : Mode} {d r q s : ℕ} {ρ : List Tree} {a b : Expr} {t u : Tree} → Eval p inner d ρ a r (val t q) → Eval p inner d ρ b q (val u s) → Eval p m d ρ (a_node a b) r (made (node t u) s)
    e_node1 : {m : Mode} {d r : ℕ} {ρ : List Tree} {a b : Expr} {o : Outcome} → Eval p inner d ρ a r o → Bad o → Eval p m d ρ (a_node a b) r o
    e_node2 : {m : Mode} {d r q : ℕ} {ρ : List Tree} {a b : Expr} {t : Tree} {o : Outcome} → Eval p inner d ρ a r (val t q) → Eval p inner d ρ b q o → Bad o → Eval p m d ρ (a_node a b) r o
    e_parts1 : {m : Mode} {d r i : ℕ} {ρ : List Tree} {a b : Expr} {o : Outcome} → nth ρ i ≡ some leaf → Eval p m d ρ a r o → Eval p m d ρ (parts i a b) r o
    e_parts2 : {m : Mode} {d r i : ℕ} {ρ : List Tree} {a b : Expr} {o : Outcome} (t u : Tree) → nth ρ i ≡ some (node t u) → Eval p m d (u ∷ t ∷ ρ) b r o → Eval p m d ρ (parts i a b) r o
    e_bind : {m : Mode} {d r q : ℕ} {ρ : List Tree} {a b : Expr} {t : Tree} {o : Outcome} → Eval p inner d ρ a r (val t q) → Eval p m d (t ∷ ρ) b q o → Eval p m d ρ (bind a b) r o
    e_bind1 : {m : Mode} {d r : ℕ} {ρ : List Tree} {a b : Expr} {o : Outcome} → Eval p inner d ρ a r o → Bad o → Eval p m d ρ (bind a b) r o
    e_tail : {d r q f : ℕ} {ρ : List Tree} {es : Exprs} {ts : List Tree} {o : Outcome} (g : Fun) → EvalAll p d ρ es r (vals ts q) → nth p f ≡ some g → length ts ≡ g.args → Eval p tail d ts g.body q o → Eval p tail d ρ (call f es) r o
    e_call : {d r q f : ℕ} {ρ : List Tree} {es : Exprs} {ts : List Tree} {o : Outcome} (g : Fun) → EvalAll p (suc d) ρ es r (vals ts q) → nth p f ≡ some g → length ts ≡ g.args → Eval p tail d ts g.body q o → Eval p inner (suc d) ρ (call f es) r o
    e_call0 : {r q f : ℕ} {ρ : List Tree} {es : Exprs} {ts : List Tree} → EvalAll p 0 ρ es r (vals ts q) → Eval p inner 0 ρ (call f es) r deep
    e_call1 : {m : Mode} {d r f : ℕ} {ρ : List Tree} {es : Exprs} {o : Outcome} → EvalAll p d ρ es r (no_vals o) → Eval p m d ρ (call f es) r o

  pub data EvalAll (p : Prog) : ℕ → List Tree → Exprs → ℕ → Outcomes → Type 0 where
    a_nil : {d r : ℕ} {ρ : List Tree} → EvalAll p d ρ nil r (vals [] r)
    a_cons : {d r q s : ℕ} {ρ : List Tree} {e : Expr} {es : Exprs} {t : Tree} {ts : List Tree} → Eval p inner d ρ e r (val t q) → EvalAll p d ρ es q (vals ts s) → EvalAll p d ρ (cons e es) r (vals (t ∷ ts) s)
    a_bad : {d r : ℕ} {ρ : List Tree} {e : Expr} {es : Exprs} {o : Outcome} → Eval p inner d ρ e r o → Bad o → EvalAll p d ρ (cons e es) r (no_vals o)
    a_rest : {d r q : ℕ} {ρ : List Tree} {e : Expr} {es : Exprs} {t : Tree} {o : Outcome} → Eval p inner d ρ e r (val t q) → EvalAll p d ρ es q (no_vals o) → EvalAll p d ρ (cons e es) r (no_vals o)

-- function f called with trees, with d calls open inside at most and r nodes of room
pub record Calls (p : Prog) (f : ℕ) (ts : List Tree) (d r : ℕ) (o : Outcome) : Type 0 where
  pub fun : Fun
  pub is : nth p f ≡ some fun
  pub fits : length ts ≡ fun.args
  pub does : Eval p tail d ts fun.body r o

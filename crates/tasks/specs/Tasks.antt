-- A task: an expression to be worked out, or the arguments of a call. Nothing of memory is in it.
use Rattle.std.specs.Prelude.{ℕ, ◌+◌, ◌<◌, ◌≤◌, T, List, length, drop}
use Rattle.lang.specs.Program.{Tree, Expr, Exprs, Prog}
use Rattle.lang.specs.Eval.{Outcome, Outcomes, Mode, Eval, EvalAll}
use Rattle.lang.specs.Rules.{rules, rules_all}
use Rattle.lang.specs.Bytes.{ok, oks, Program}
use Rattle.lang.specs.Reads.{Reads, ReadsAll}

-- one expression, last in its body or inside; or so many arguments
pub data Kind : Type 0 where
  whole : Mode → Kind
  args : ℕ → Kind

pub record Task : Type 0 where
  pub at : ℕ
  pub kind : Kind
  pub depth : ℕ
  pub env : List Tree
  pub room : ℕ

abbrev pub expr : ℕ → Mode → ℕ → List Tree → ℕ → Task
expr at m d ρ r = record { at = at; kind = whole m; depth = d; env = ρ; room = r }

abbrev pub list : ℕ → ℕ → ℕ → List Tree → ℕ → Task
list at n d ρ r = record { at = at; kind = args n; depth = d; env = ρ; room = r }

abbrev pub Syntax : Kind → Type 0
Syntax (whole m) = Expr
Syntax (args n) = Exprs

abbrev pub Result : Kind → Type 0
Result (whole m) = Outcome
Result (args n) = Outcomes

abbrev pub Read : (k : Kind) → List ℕ → Syntax k → List ℕ → Type 0
Read (whole m) xs e ys = Reads xs e ys
Read (args n) xs es ys = ReadsAll n xs es ys

abbrev pub Fine : (k : Kind) → Prog → ℕ → Syntax k → Type 0
Fine (whole m) p n e = T (ok p n e)
Fine (args k) p n es = T (oks p n es)

abbrev pub Comes : (k : Kind) → Prog → ℕ → List Tree → Syntax k → ℕ → Result k → Type 0
Comes (whole m) p d ρ e r o = Eval p m d ρ e r o
Comes (args n) p d ρ es r o = EvalAll p d ρ es r o

abbrev pub size : (k : Kind) (p : Prog) (d : ℕ) (ρ : List Tree) (e : Syntax k) (r : ℕ) (o : Result k) → Comes k p d ρ e r o → ℕ
size (whole m) p d ρ e r o x = rules x
size (args n) p d ρ es r o x = rules_all x

-- it stands there, well-formed, in the bytes s of the program p
pub record Here (s : List ℕ) (p : Prog) (t : Task) (e : Syntax t.kind) : Type 0 where
  pub rest : List ℕ
  pub reads : Read t.kind (drop t.at s) e rest
  pub fine : Fine t.kind p (length t.env) e

abbrev pub Does : Prog → (t : Task) → Syntax t.kind → Result t.kind → Type 0
Does p t e o = Comes t.kind p t.depth t.env e t.room o

abbrev pub steps : (p : Prog) (t : Task) (e : Syntax t.kind) (o : Result t.kind) → Does p t e o → ℕ
steps p t e o x = size t.kind p t.depth t.env e t.room o x

-- something stands there
abbrev pub Stands : List ℕ → Task → Type 0
Stands s t = (p : Prog) → Program s p → (e : Syntax t.kind) × Here s p t e

-- what stands there comes to o
abbrev pub Says : List ℕ → (t : Task) → Result t.kind → Type 0
Says s t o = (p : Prog) (e : Syntax t.kind) → Program s p → Here s p t e → Does p t e o

-- u is a part of t: where t comes to something, u does, by fewer rules
abbrev pub Within : List ℕ → Task → Task → Type 0
Within s u t = (p : Prog) (e : Syntax t.kind) → Program s p → Here s p t e → (f : Syntax u.kind) × Here s p u f × ((o : Result t.kind) (x : Does p t e o) → (q : Result u.kind) × (y : Does p u f q) × (steps p u f q y < steps p t e o x))

-- u is what is left of t: what u comes to gives what t comes to, by at least j more rules
abbrev pub Leads : List ℕ → (j : ℕ) (u t : Task) → (Result u.kind → Result t.kind) → Type 0
Leads s j u t g = (p : Prog) (e : Syntax t.kind) → Program s p → Here s p t e → (f : Syntax u.kind) × Here s p u f × ((o : Result u.kind) (y : Does p u f o) → (x : Does p t e (g o)) × (steps p u f o y + j ≤ steps p t e (g o) x))

-- The theorems about the language, as types.
use Rattle.std.specs.Prelude.{◌≡◌, ℕ, ◌+◌, T, List, length}
use Rattle.std.proofs.Math.Option.{some}
use Rattle.sizechange.specs.Graph.{nth, Way1}
use Rattle.lang.specs.Program.{Tree, Expr, Prog, Fun}
use Rattle.lang.specs.Eval.{Outcome, val, Mode, Eval, Calls}
use Rattle.lang.specs.Rules.{rules}
use Rattle.lang.specs.Steps.{EndsForAReason, WaysOf}
use Rattle.lang.specs.Circle.{Call, FirstCircle}
use Rattle.lang.specs.Bytes.{Program, bytes_of_trees, ok}

-- a program with the reason ends, whatever it is called with, whatever depth and room it has
abbrev pub AlwaysEnds : Type 0
AlwaysEnds = (s : List ℕ) (p : Prog) → Program s p → EndsForAReason p → (f : ℕ) (g : Fun) (ts : List Tree) (d r : ℕ) → nth p f ≡ some g → length ts ≡ g.args → (o : Outcome) × Calls p f ts d r o

-- and with enough of both it gives a value; with more of either the same, with just the additional room left over
abbrev pub HasAValue : Type 0
HasAValue = (s : List ℕ) (p : Prog) → Program s p → EndsForAReason p → (f : ℕ) (g : Fun) (ts : List Tree) → nth p f ≡ some g → length ts ≡ g.args →
    (t : Tree) × (d r : ℕ) × ((e q : ℕ) → Calls p f ts (d + e) (r + q) (val t q))

-- not only calls: every well-formed expression, in every environment, mode, depth and room, has an outcome
abbrev pub EveryExpressionEnds : Type 0
EveryExpressionEnds = (s : List ℕ) (p : Prog) → Program s p → EndsForAReason p → (m : Mode) (d : ℕ) (ρ : List Tree) (e : Expr) (r : ℕ) → T (ok p (length ρ) e) → (o : Outcome) × Eval p m d ρ e r o

-- bytes are the writing of one program, of one list of trees
abbrev pub OneProgram : Type 0
OneProgram = (s : List ℕ) (p q : Prog) → Program s p → Program s q → p ≡ q

abbrev pub OneList : Type 0
OneList = (ts us : List Tree) → bytes_of_trees ts ≡ bytes_of_trees us → ts ≡ us

-- a call does one thing at most
abbrev pub OneOutcome : Type 0
OneOutcome = (p : Prog) (f : ℕ) (ts : List Tree) (d r : ℕ) (o q : Outcome) → Calls p f ts d r o → Calls p f ts d r q → o ≡ q

-- nor does anything else: two derivations of the same expression have the same outcome, and the same number of rules
abbrev pub OneDerivation : Type 0
OneDerivation = (p : Prog) (m : Mode) (d : ℕ) (ρ : List Tree) (e : Expr) (r : ℕ) (o q : Outcome) (x : Eval p m d ρ e r o) (y : Eval p m d ρ e r q) → (o ≡ q) × (rules x ≡ rules y)

-- the ways are finitely many
abbrev pub Finite : Type 0
Finite = (s : List ℕ) (p : Prog) → Program s p → (ws : List Way1) × WaysOf p ws

-- a program has one first circle at most
abbrev pub OneCircle : Type 0
OneCircle = (p : Prog) (cs ds : List Call) → FirstCircle p cs → FirstCircle p ds → cs ≡ ds

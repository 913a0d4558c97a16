-- A call of function f, with the trees whose bytes are a, depth d and room r; out is o before and o' after.
use Rattle.std.specs.Prelude.{◌≡◌, ℕ, ◌<◌, ◌≤◌, List, length, take, drop, Some, None, Option, Ok, Err, Result, ◌≢◌}
use Rattle.std.proofs.Math.Option as opt
use Rattle.sizechange.specs.Graph.{nth}
use Rattle.lang.specs.Program.{Tree, Fun, Prog, max_args}
use Rattle.lang.specs.Eval.{Outcome, val, full, deep, Calls}
use Rattle.lang.specs.Steps.{EndsForAReason}
use Rattle.lang.specs.Bytes.{Program, bytes_of_tree, bytes_of_trees}
use Rattle.reading.specs.Tables.{Tables}
use Rattle.tasks.specs.Texts.{Taking}
use Rattle.calling.specs.declared.Value.{Value}
use Rattle.calling.specs.declared.error.CallError.{CallError}
use Rattle.calling.specs.declared.error.CallError.TheVariants.{Full, Deep, BadCall, OutFull}

-- the bytes s are a program that has the reason, with its tables
pub record Judged (s ends starts : List ℕ) (functions : ℕ) : Type 0 where
  pub prog : Prog
  pub why : EndsForAReason prog
  pub tables : Tables s prog ends starts functions

-- how many arguments function f takes, if it is there
abbrev pub Wants : List ℕ → ℕ → Option ℕ → Type 0
Wants s f (Some n) = Taking s f n × (n ≤ max_args)
Wants s f None = (p : Prog) (g : Fun) → Program s p → nth p f ≡ opt.some g → ⊥

-- the bytes are the trees, and the call with them comes to the outcome
pub record ComesTo (s : List ℕ) (f : ℕ) (a : List ℕ) (d r : ℕ) (o : Outcome) : Type 0 where
  pub args : List Tree
  pub are : bytes_of_trees args ≡ a
  pub calls : (p : Prog) → Program s p → Calls p f args d r o

-- no such function, or not as many trees as it takes
abbrev pub NoCall : List ℕ → ℕ → List ℕ → Type 0
NoCall s f a = (p : Prog) (g : Fun) (ts : List Tree) → Program s p → nth p f ≡ opt.some g → bytes_of_trees ts ≡ a → length ts ≢ g.args

abbrev pub CalledSays : List ℕ → ℕ → List ℕ → ℕ → ℕ → List ℕ → List ℕ → Result Value CallError → Type 0
CalledSays s f a d r o o' (Ok v) = (t : Tree) × ComesTo s f a d r (val t v.room) × (v.bytes ≡ length (bytes_of_tree t)) × (take v.bytes o' ≡ bytes_of_tree t) × (drop v.bytes o' ≡ drop v.bytes o)
CalledSays s f a d r o o' (Err Full) = ComesTo s f a d r full × (o' ≡ o)
CalledSays s f a d r o o' (Err Deep) = ComesTo s f a d r deep × (o' ≡ o)
CalledSays s f a d r o o' (Err BadCall) = NoCall s f a × (o' ≡ o)
CalledSays s f a d r o o' (Err OutFull) = (t : Tree) × (q : ℕ) × ComesTo s f a d r (val t q) × (length o < length (bytes_of_tree t)) × (o' ≡ o)

-- What `go` promises.
use Rattle.std.specs.Prelude.{◌≡◌, ℕ, ◌+◌, ◌*◌, ◌^◌, ◌<◌, ◌≤◌, ◌⊎◌, ◌↔◌, List, length, take, drop, ◌≢◌, Result, Ok, Err}
use Rattle.std.proofs.Math.Option.{some}
use Rattle.sizechange.specs.Graph.{nth, Way1}
use Rattle.lang.specs.Program.{Tree, Fun, Prog}
use Rattle.lang.specs.Eval.{Outcome, val, full, deep, Calls}
use Rattle.lang.specs.Steps.{EndsForAReason, WaysOf}
use Rattle.lang.specs.Bytes.{Program, bytes_of_tree, bytes_of_trees}
use Rattle.ends.specs.declared.judge_call.Judged.TheVariants.{NoReason, NoProgram, Many}
use Rattle.calling.specs.declared.error.CallError.{CallError}
use Rattle.calling.specs.declared.error.CallError.TheVariants as call
use Rattle.ends.specs.declared.go_call.Value.{Value}
use Rattle.ends.specs.declared.go_call.Refusal.{Refusal}
use Rattle.ends.specs.declared.go_call.Refusal.TheVariants.{Full, Deep, Unproved, BadCall, OutFull, Small}
use Rattle.ends.specs.Judging.{JudgedSays, floor, Theorems}

-- the bytes s are the program p, which has the reason and at most n ways
pub record Ready (s : List ℕ) (n : ℕ) (p : Prog) : Type 0 where
  pub program : Program s p
  pub reason : EndsForAReason p
  pub ways : (ws : List Way1) × WaysOf p ws × (length ws ≤ n)

-- function f of that program, called with the trees whose bytes are a, comes to the outcome
pub record Comes (s : List ℕ) (n f : ℕ) (a : List ℕ) (d r : ℕ) (o : Outcome) : Type 0 where
  pub prog : Prog
  pub ready : Ready s n prog
  pub args : List Tree
  pub are : bytes_of_trees args ≡ a
  pub calls : Calls prog f args d r o

-- no program with the reason and at most n ways
abbrev pub IsUnproved : List ℕ → ℕ → Type 0
IsUnproved s n = JudgedSays s n NoReason ⊎ (JudgedSays s n NoProgram ⊎ JudgedSays s n Many)

-- function f with the trees a, d further calls open and r nodes of room; out is o before and o' after. There is no number of steps.
abbrev pub GoSays : List ℕ → ℕ → ℕ → List ℕ → ℕ → ℕ → List ℕ → List ℕ → Result Value Refusal → Type 0
GoSays s n f a d r o o' (Ok v) = (t : Tree) × Comes s n f a d r (val t v.room) × (v.bytes ≡ length (bytes_of_tree t)) × (take v.bytes o' ≡ bytes_of_tree t) × (drop v.bytes o' ≡ drop v.bytes o)
GoSays s n f a d r o o' (Err Full) = Comes s n f a d r full × (o' ≡ o)
GoSays s n f a d r o o' (Err Deep) = Comes s n f a d r deep × (o' ≡ o)
GoSays s n f a d r o o' (Err Unproved) = IsUnproved s n × (o' ≡ o)
GoSays s n f a d r o o' (Err BadCall) = (p : Prog) × Ready s n p × ((g : Fun) (ts : List Tree) → nth p f ≡ some g → bytes_of_trees ts ≡ a → length ts ≢ g.args) × (o' ≡ o)
GoSays s n f a d r o o' (Err OutFull) = (t : Tree) × (q : ℕ) × Comes s n f a d r (val t q) × (length o < length (bytes_of_tree t)) × (o' ≡ o)
GoSays s n f a d r o o' (Err Small) = o' ≡ o

-- why there is no value, where the call had none for this
abbrev pub refusal_of : CallError → Refusal
refusal_of call.Full = Full
refusal_of call.Deep = Deep
refusal_of call.BadCall = BadCall
refusal_of call.OutFull = OutFull

-- the work words that a run wants; and nodes are numbered by 32-bit words
abbrev pub go_floor : List ℕ → ℕ → List ℕ → ℕ → ℕ → ℕ
go_floor s n a d r = floor s n + (4 * (length a + r) + 4096 * (d + 1))

abbrev pub TooSmall : List ℕ → ℕ → List ℕ → ℕ → ℕ → ℕ → Type 0
TooSmall s n a d r w = (w < go_floor s n a d r) ⊎ (2 ^ 32 ≤ length a + r)

pub record GoPost (s : List ℕ) (n f : ℕ) (a : List ℕ) (d r : ℕ) (o o' : List ℕ) (w : ℕ) (x : Result Value Refusal) : Type 0 where
  pub says : GoSays s n f a d r o o' x
  pub theorems : Theorems
  pub small : TooSmall s n a d r w ↔ (x ≡ Err Small)

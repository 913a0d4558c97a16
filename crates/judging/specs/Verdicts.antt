-- What is found out about a script, with the evidence.
use Rattle.std.specs.Prelude.{◌≡◌, ℕ, ◌<◌, ◌≤◌, ◌≢◌, List, length, Some, None, Option, Ok, Err, Result}
use Rattle.std.proofs.Math.Option.{some}
use Rattle.sizechange.specs.Graph.{Step, HasReason, Idempotent, Way1, Ways, leads, nth}
use Rattle.lang.specs.Program.{Prog}
use Rattle.lang.specs.Steps.{WaysOf, call_graph}
use Rattle.lang.specs.Bytes.{Program}
use Rattle.reading.specs.Tables.{Tables}
use Rattle.closure.specs.declared.TooMany.{TooMany}
use Rattle.judging.specs.declared.Closed.{Closed}
use Rattle.judging.specs.declared.Refusal.{Refusal}
use Rattle.judging.specs.declared.Refusal.TheVariants.{NoProgram, Many}
use Rattle.judging.specs.declared.Verdict.{Verdict}

-- the bytes s are the program p, read into the tables, with just so many functions; and all its ways are just so many, at most n
pub record Judgeable (s ends starts : List ℕ) (n : ℕ) (p : Prog) (functions count : ℕ) : Type 0 where
  pub tables : Tables s p ends starts functions
  pub list : List Way1
  pub ways : WaysOf p list
  pub number : length list ≡ count
  pub few : count ≤ n

-- way k is the first in the list that leads from a point to itself, is idempotent, and on which no place becomes a part of itself
pub record FirstFailing (ws : List Way1) (k : ℕ) : Type 0 where
  pub way : Way1
  pub is : nth ws k ≡ some way
  pub loop : way.caller ≡ way.callee
  pub idempotent : Idempotent way.arcs
  pub none : (i : ℕ) → leads way.arcs i i ≢ 2
  pub first : (j : ℕ) (w : Way1) → j < k → nth ws j ≡ some w → w.caller ≡ w.callee → Idempotent w.arcs → (i : ℕ) × (leads w.arcs i i ≡ 2)

-- the steps have the reason; or they do not, and that is the first of their ways on which it fails
abbrev pub Decided : List Step → List Way1 → Option ℕ → Type 0
Decided ss ws None = HasReason ss
Decided ss ws (Some k) = (HasReason ss → ⊥) × FirstFailing ws k

abbrev pub VerdictSays : List ℕ → List ℕ → List ℕ → ℕ → Result Verdict Refusal → Type 0
VerdictSays s ends starts n (Ok v) = (p : Prog) × (j : Judgeable s ends starts n p v.functions v.ways) × Decided (call_graph p) j.list v.failing
VerdictSays s ends starts n (Err NoProgram) = (p : Prog) → Program s p → ⊥
VerdictSays s ends starts n (Err Many) = (p : Prog) × (ws : List Way1) × Program s p × WaysOf p ws × (n < length ws)

-- what is found out about a call graph
abbrev pub Settles : List Step → ℕ → Result Closed TooMany → Type 0
Settles ss n (Ok c) = (ws : List Way1) × Ways ss ws × (length ws ≡ c.ways) × (c.ways ≤ n) × Decided ss ws c.failing
Settles ss n (Err _) = (ws : List Way1) × Ways ss ws × (n < length ws)

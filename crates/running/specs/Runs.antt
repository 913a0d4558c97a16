-- What a run comes to is what the definition says.
use Rattle.std.specs.Prelude.{ℕ, List, Result, Ok, Err}
use Rattle.lang.specs.Program.{Tree, Prog}
use Rattle.lang.specs.Eval.{val, Calls}
use Rattle.lang.specs.Bytes.{Program}
use Rattle.arena.specs.Nodes.{tree, Sound}
use Rattle.tasks.specs.declared.store.Stop.{Stop}
use Rattle.tasks.specs.Stores.{stopped}
use Rattle.running.specs.declared.Value.{Value}

-- function f of the program with the bytes s, called with the trees ts, depth d and room r, comes to this, the nodes then being ws
abbrev pub RunsTo : List ℕ → ℕ → List Tree → ℕ → ℕ → List ℕ → Result Value Stop → Type 0
RunsTo s f ts d r ws (Ok v) = Sound ws v.root.0 × ((p : Prog) → Program s p → Calls p f ts d r (val (tree ws v.root.0) v.room))
RunsTo s f ts d r ws (Err e) = (p : Prog) → Program s p → Calls p f ts d r (stopped e)

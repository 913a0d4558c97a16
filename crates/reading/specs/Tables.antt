-- What a script that was read leaves in memory.
use Rattle.std.specs.Prelude.{ℕ, List, Some, None, Option}
use Rattle.lang.specs.Program.{Prog}
use Rattle.lang.specs.Bytes.{Program}
use Rattle.reading.specs.Ends.{EndsFrom}
use Rattle.reading.specs.Functions.{Found}

-- the bytes s are the program p; its n functions start where `starts` says, and its expressions end where `ends` says
pub record Tables (s : List ℕ) (p : Prog) (ends starts : List ℕ) (n : ℕ) : Type 0 where
  pub program : Program s p
  pub found : Found s p starts n
  pub ending : EndsFrom s ends 0

-- a program was read; or there is none
abbrev pub ReadOr : List ℕ → List ℕ → List ℕ → Option ℕ → Type 0
ReadOr s ends starts (Some n) = (p : Prog) × Tables s p ends starts n
ReadOr s ends starts None = (p : Prog) → Program s p → ⊥

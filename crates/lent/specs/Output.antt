-- Bytes written into lent memory.
use Rattle.std.specs.Prelude.{◌≡◌, ℕ, ◌+◌, ◌<◌, List, ◌++◌, length, take}
use Rattle.lent.specs.declared.output.Output.{Output}

abbrev pub written : Output → List ℕ
written o = take o.len o.bytes.now

-- these bytes were written behind the others, into the same memory
pub record Appends (o o' : Output) (more : List ℕ) : Type 0 where
  pub same_memory : o'.bytes.ghost_name ≡ o.bytes.ghost_name
  pub same_room : length o'.bytes.now ≡ length o.bytes.now
  pub longer : o'.len ≡ o.len + length more
  pub written : written o' ≡ written o ++ more

-- or they do not fit
abbrev pub Overflows : Output → List ℕ → Type 0
Overflows o more = length o.bytes.now < o.len + length more

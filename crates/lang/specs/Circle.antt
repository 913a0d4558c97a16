-- The calls of a program, and its first circle.
use Rattle.std.specs.Prelude.{◌≡◌, ℕ, ◌<◌, ◌⊎◌, List, [], ◌∷◌}
use Rattle.std.proofs.Math.Option.{some}
use Rattle.sizechange.specs.Graph.{Step, nth}
use Rattle.sizechange.specs.Circle.{FirstCircle as FirstCircleBy}
use Rattle.lang.specs.Program.{Fun, Prog}
use Rattle.lang.specs.Steps.{steps, given}

-- a call: its function, and its number in that function's body, counted from 0 in the order of the bytes
pub record Call : Type 0 where
  pub function : ℕ
  pub number : ℕ

-- the step that a call makes
pub record Makes (p : Prog) (c : Call) (s : Step) : Type 0 where
  pub caller : Fun
  pub there : nth p c.function ≡ some caller
  pub step : nth (steps c.function (given 0 caller.args) caller.body) c.number ≡ some s

-- function first, then number
abbrev pub Sooner : Call → Call → Type 0
Sooner c d = (c.function < d.function) ⊎ ((c.function ≡ d.function) × (c.number < d.number))

-- the shortest circle of calls, and of the shortest the first
abbrev pub FirstCircle : Prog → List Call → Type 0
FirstCircle p cs = FirstCircleBy (Makes p) Sooner cs

-- calls as words: function, number, function, number, and so on
abbrev pub words : List Call → List ℕ
words [] = []
words (c ∷ cs) = c.function ∷ c.number ∷ words cs

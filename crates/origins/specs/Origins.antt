-- Where variables come from, as values and as words.
use Rattle.std.specs.Prelude.{ℕ, zero, suc, ◌+◌, ◌*◌, ◌/◌, ◌%◌, ◌==◌, if◌then◌else◌, List, [], ◌∷◌, slice_index}
use Rattle.std.proofs.Math.Option.{Option, some, none}
use Rattle.lang.specs.Program.{max_args}
use Rattle.lang.specs.Steps.{From}
use Rattle.origins.specs.declared.origin.Origin.{Origin}
use Rattle.origins.specs.declared.origin.Origin.TheVariants.{Unknown, Same, Part}

-- an origin
abbrev pub origin_from : Origin → Option From
origin_from Unknown = none
origin_from (Same i) = some (record { arg = i % max_args; how = 1 })
origin_from (Part i) = some (record { arg = i % max_args; how = 2 })

-- a word: 0 says nothing, else one more than twice the argument, and one more for a part of it
abbrev pub from_of : ℕ → Option From
from_of zero = none
from_of (suc w) = some (record { arg = w / 2 % max_args; how = 1 + w % 2 })

-- the word of an origin, and the origin of a word
abbrev pub word_of : Origin → ℕ
word_of Unknown = 0
word_of (Same i) = 2 * (i % max_args) + 1
word_of (Part i) = 2 * (i % max_args) + 2

abbrev pub origin_of : ℕ → Origin
origin_of zero = Unknown
origin_of (suc w) = if w % 2 == 0 then Same (w / 2) else Part (w / 2)

-- what is known of the variables in view, of which the newest has the last word
abbrev pub in_view : List ℕ → ℕ → List (Option From)
in_view xs zero = []
in_view xs (suc n) = from_of (slice_index xs n) ∷ in_view xs n

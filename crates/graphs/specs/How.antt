-- How an arc leads, as a number.
use Rattle.std.specs.Prelude.{ℕ}
use Rattle.graphs.specs.declared.How.{How}
use Rattle.graphs.specs.declared.How.TheVariants.{Same, Part}

-- as in sizechange's arcs: 1 for the same, 2 for a part
abbrev pub how_of : How → ℕ
how_of Same = 1
how_of Part = 2

use Rattle.std.proofs.Common.{◌+◌, ◌*◌, ◌%◌, ◌^◌, inl, inr, ap, arith}
use Rattle.std.proofs.lemmas.Nat.{one_shl}
use Rattle.graphs.specs.How.{how_of}
use Rattle.graphs.proofs.Words.{fine_arc, words_push}
use Rattle.graphs.proofs.Graph.with_arc.Goals as goal
use Rattle.graphs.proofs.Graph.with_arc.Goals.{in-Same, in-Part}

pub returns : goal.returns
returns c =
    words_push c.args.self (1 * 2 ^ (8 * c.args.from + c.args.to) % 2 ^ 64) c.match-how.part (record { from = c.args.from; to = c.args.to; how = how_of c.args.how }) (fine_arc c.args.how c.requires.from c.requires.to) (one_shl (8 * c.args.from + c.args.to) 64 (omega arith))
    (elim c.match-how.branch [ in-Same w ↦ inl (ap how_of w.in-Same.is, w.part-is) | in-Part w ↦ inr (ap how_of w.in-Part.is, w.part-is) ])

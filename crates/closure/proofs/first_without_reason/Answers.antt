use Rattle.std.proofs.Common.{ℕ, subst, arith, below_more}
use Rattle.table.specs.declared.Edge.{Edge}
use Rattle.table.specs.Rows.{edge_of}
use Rattle.closure.specs.Ways.{Sound, Fails}
use Rattle.closure.proofs.Answering.{table_sound, table_fails}
use Rattle.closure.proofs.first_without_reason.Goals as goal

pub look-preserved : goal.look-preserved
look-preserved c = below_more (λ (j : ℕ). Sound (edge_of c.args.ways.now.words.now j)) c.look.way c.look.invariant (subst (λ (e : Edge). Sound e) c.edge.ensures (c.fails.ensures.sound c.if-fails.false))

pub returns-then-way-ways : goal.returns-then-way-ways
returns-then-way-ways c =
    record { first = λ j l. c.look.invariant j (omega arith); reason = λ ss ws fine all stand. table_sound c.args.ways.now.words.now c.args.ways.now.count ss ws fine all stand (λ j l. c.look.invariant j (omega arith)) }

pub returns-then-fails-clause-reason : goal.returns-then-fails-clause-reason
returns-then-fails-clause-reason c = λ ss ws fine all stand. table_fails c.args.ways.now.words.now c.args.ways.now.count c.look.way ss ws fine all stand c.if-way-ways.false (subst Fails c.edge.ensures (c.fails.ensures.fails c.if-fails.true))

use Rattle.reading.proofs.Needing.{two_past}
use Rattle.reading.proofs.needs.Needs.need_of_two.Goals as goal

pub returns-then-second-self-clause-need : goal.returns-then-second-self-clause-need
returns-then-second-self-clause-need c p h = two_past p c.args.self.now.expressions.bytes.now c.args.at c.in_ok-second.second c.args.more c.in_ok-second.ensures c.if-second-self.true

use Rattle.graphs.proofs.Bits.{through_none, through_more}
use Rattle.graphs.proofs.product.Goals as goal

pub loop-k-init : goal.loop-k-init
loop-k-init c = through_none c.args.x c.args.y

pub loop-k-preserved : goal.loop-k-preserved
loop-k-preserved c = through_more c.args.x c.args.y c.loop-k.k c.loop-k.all c.through-all.result c.loop-k.invariant c.through-all.ensures

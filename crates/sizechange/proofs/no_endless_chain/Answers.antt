use Rattle.sizechange.proofs.Chains.{no_endless_chain}
use Rattle.sizechange.proofs.no_endless_chain.Goals as goal

pub returns : goal.returns
returns c = no_endless_chain

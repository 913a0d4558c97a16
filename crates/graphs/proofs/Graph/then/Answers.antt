use lib.Bits.{bit_or, or_lt}
use Rattle.std.proofs.Common.{refl}
use Rattle.graphs.proofs.Words.{words_compose}
use Rattle.graphs.proofs.Graph.then.Goals as goal

pub returns : goal.returns
returns c = λ as₁ bs v w. words_compose c.args.self c.args.next (record { any = c.product.result; part = bit_or c.product-2.result c.product-3.result }) c.product-2.result c.product-3.result as₁ bs c.product.type_inv (or_lt 64 c.product-2.result c.product-3.result c.product-2.type_inv c.product-3.type_inv) c.product.ensures c.product-2.ensures c.product-3.ensures refl v w

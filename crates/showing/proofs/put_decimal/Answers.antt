use Rattle.std.proofs.Common.{◌≡◌, sym, ◌∙◌, arith}
use Rattle.showing.specs.Shown.{decimal}
use Rattle.showing.proofs.Numbering.{decimal_is}
use Rattle.showing.proofs.put_decimal.Goals as goal

pub returns : goal.returns
returns c =
    let e : c.as_bytes.result.now ≡ decimal c.args.n = c.as_bytes.ensures.value ∙ c.format.ensures.text ∙ decimal_is c.args.n (omega arith) in
    rw (sym e) c.put_all.ensures.bytes

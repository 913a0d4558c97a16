use Rattle.std.proofs.Common.{◌≡◌, ◌+◌, ◌*◌, ap, arith}
use Rattle.readable.specs.Parsers.{size}
use Rattle.readable.specs.Text.{more_digits}
use Rattle.readable.proofs.Turns.{no_number, large_number}
use Rattle.readable.proofs.parsing.Parser.digit.Goals as goal

pub returns-in_default : goal.returns-in_default
returns-in_default c =
    let p = c.args.self.now in
    no_number p (c.wants_item.ensures.no c.if-wants_item.false) (more_digits p.number c.args.d)

pub returns-then-more-self : goal.returns-then-more-self
returns-then-more-self c =
    let p = c.args.self.now in
    let e : more_digits p.number c.args.d ≡ 10 * c.in-Some.n + c.args.d = ap (λ n. more_digits n c.args.d) c.in-Some.is in
    large_number p (size p) (more_digits p.number c.args.d) (grind arith)

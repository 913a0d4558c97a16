use Rattle.std.proofs.Common.{◌≡◌, ◌+◌, length, arith, rules}
use Rattle.std.proofs.lemmas.Result.{err_from_is_err_and}
use Rattle.readable.specs.declared.parsing.Fault.{Fault}
use Rattle.readable.specs.Text.{Refused}
use Rattle.readable.specs.Parsers.{size, fault_at}
use Rattle.readable.proofs.Whole.{Reading, reading_none, reading_more, byte_refused, end_parsed, end_refused, mapped}
use Rattle.readable.proofs.parsing.Parser.text.Goals as goal

pub loop-i-init : goal.loop-i-init
loop-i-init c = reading_none c.args.text.now c.args.self.now c.requires.item c.requires.no_number c.requires.none

pub byte-requires-clause-room : goal.byte-requires-clause-room
byte-requires-clause-room c = omega (arith, c.loop-i.invariant.higher, c.loop-i.invariant.kept.capacity_same)

pub returns-in_err-map_err : goal.returns-in_err-map_err
returns-in_err-map_err c =
    let text = c.args.text.now in
    let p = c.args.self.now in
    let i = c.loop-i.i-counter in
    let e = err_from_is_err_and c.from_residual.result c.from_residual.ensures.1 in
    let m = mapped {P' = λ _. Unit {0}} {Q' = λ (f : Fault). Refused f text p.stack.now.capacity (size p)} c.byte.result c.map_err.result c.byte.ensures c.map_err.ensures.cases
    (λ x s. tt)
    (λ stop f s is. let h : f ≡ fault_at i stop = search (rules, is) in rw h (byte_refused text i p c.loop-i.self c.loop-i.invariant stop p.stack.now.capacity c.loop-i-test.true s)) in
    rw (e.1, e.2) (rw c.in_err-map_err.was at m)

pub loop-i-preserved : goal.loop-i-preserved
loop-i-preserved c =
    let text = c.args.text.now in
    let p = c.args.self.now in
    let i = c.loop-i.i-counter in
    let m = mapped {P' = λ _. Reading text (i + 1) p c.byte.new.self} {Q' = λ (_ : Fault). Unit {0}} c.byte.result c.map_err.result c.byte.ensures c.map_err.ensures.cases
    (λ x s. reading_more text i p c.loop-i.self c.loop-i.invariant c.byte.new.self c.loop-i-test.true s)
    (λ stop f s is. tt) in
    rw c.in_ok-map_err.was at m

pub returns : goal.returns
returns c =
    let text = c.args.text.now in
    let p = c.args.self.now in
    let i = c.loop-i.i-counter in
    mapped c.end.result c.map_err-2.result c.end.ensures c.map_err-2.ensures.cases
    (λ k s. end_parsed text i p c.loop-i.self c.loop-i.invariant c.end.new.self k c.loop-i-test.false s)
    (λ stop f s is. let h : f ≡ fault_at (length text) stop = search (rules, is) in rw h (end_refused text i p c.loop-i.self c.loop-i.invariant stop p.stack.now.capacity c.loop-i-test.false s))

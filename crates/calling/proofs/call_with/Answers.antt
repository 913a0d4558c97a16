use Rattle.std.proofs.Common.{◌≡◌, ℕ, ◌+◌, ◌-◌, List, subst₂, arith}
use Rattle.std.proofs.lemmas.Option.{MatchOption-at_some}
use Rattle.calling.specs.Calling.{CalledSays}
use Rattle.calling.proofs.call_with.Goals as goal

pub returns : goal.returns
returns c =
    let e : (c.in_ok-used.used + c.args.limits.room) - c.in_ok-used.used ≡ c.args.limits.room = omega arith in
    let read = MatchOption-at_some _ _ c.in_ok-used.used c.in_ok-used.ensures.ok_part c.read_trees.ensures in
    subst₂ (λ (a : List ℕ) (r : ℕ). CalledSays c.args.text.now.bytes.now c.args.f a c.args.limits.depth r c.args.out.now c.evaluate.new.out c.evaluate.result) read.trees e c.evaluate.ensures

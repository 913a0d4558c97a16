use Rattle.std.proofs.Common.{◌≡◌, ℕ, ◌<◌, ◌≤◌, List, [], ◌++◌, length, take, IfSome, arith, ◌∙◌, ap, subst}
use Rattle.std.proofs.lemmas.List.{take_all, length-take}
use Rattle.std.specs.Prelude.{Option, None, Some}
use Rattle.std.specs.Option.{option_map}
use Rattle.inputs.proofs.read_within.Goals as goal

-- what was read is all of the known bytes, where it is fewer than the limit
whole : (known : Option (List ℕ)) (limit : ℕ) (before read : List ℕ) → before ≡ [] → IfSome (option_map (take limit) known) (λ xs. read ≡ before ++ xs) → length read < limit → IfSome known (λ xs. read ≡ xs)
whole None limit before read e is l = tt
whole (Some xs) limit before read e is l =
    let front : read ≡ take limit xs = subst (λ (b : List ℕ). read ≡ b ++ take limit xs) e is in
    let short : length xs ≤ limit = omega (arith, length-take limit xs, ap length front) in
    front ∙ take_all limit xs short

pub returns-clause-honest : goal.returns-clause-honest
returns-clause-honest g c =
    let vec = c.read_to_end.new.buf in
    let fits = vec.small in
    let few : length vec.items < c.take.result.limit = omega (arith, c.saturating_add.ensures, c.take.ensures.limit, fits, vec.ok) in
    let all = whole (g.R.Read.remaining c.take.result.inner) c.take.result.limit c.new-bytes.result.items vec.items c.new-bytes.ensures.items c.in_ok-read_to_end.ensures.bytes few in
    rw c.take.ensures.inner at all

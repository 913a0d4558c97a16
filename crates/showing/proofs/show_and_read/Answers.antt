use Rattle.std.proofs.lemmas.Result.{MatchResult-weaker}
use Rattle.showing.proofs.Printouts.{read_back, only_full}
use Rattle.showing.proofs.show_and_read.Goals as goal

pub returns : goal.returns
returns c =
    MatchResult-weaker c.parse.result c.parse.ensures
    (λ n p. read_back _ c.show.new.out c.in-Some.k c.in-Some.ensures c.parse.new.out n p)
    (λ f r. only_full _ c.show.new.out c.in-Some.k c.in-Some.ensures f _ _ _ r)

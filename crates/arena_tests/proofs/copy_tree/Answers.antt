use Rattle.std.proofs.Common.{◌≡◌, List, ℕ, Option, Some, None, MatchOption, IfSome, take, get_or, sym, ◌∙◌, append-nil}
use Rattle.lang.specs.Program.{Tree}
use Rattle.lang.specs.Bytes.{bytes_of_tree}
use Rattle.arena.specs.Nodes.{tree, env}
use Rattle.arena.specs.Forests.{Written, Unwritten}
use Rattle.arena_tests.proofs.copy_tree.Goals as goal

same : (r : Option ℕ) (t : Tree) (bytes out out' : List ℕ) → bytes_of_tree t ≡ bytes → MatchOption r (Unwritten t out out') (λ k. Written t out out' k) → IfSome r (λ k. take k out' ≡ bytes)
same None t bytes out out' e m = tt
same (Some k) t bytes out out' e m = m.bytes ∙ e

pub returns : goal.returns
unfolding env
returns c =
    let t = tree c.read_trees.new.nodes (get_or c.read_trees.new.stack 0 0) in
    same c.write_tree.result t c.args.bytes.now _ _ (sym (append-nil (bytes_of_tree t)) ∙ c.in_ok-_used.ensures.trees) c.write_tree.ensures

use Rattle.std.proofs.Common.{[], ◌∷◌, ◌≡◌, IfOk, subst, rules}
use Rattle.treegrowth.proofs.CommitFew.{two_commit}
use Rattle.tree_tests.proofs.growth.two_events.Goals as goal

pub returns-clause-commit : goal.returns-clause-commit
returns-clause-commit g c =
    two_commit c.args.at c.expect.result.items c.args.first c.args.second
    (subst (λ r. IfOk r (λ v. v.items ≡ c.args.first ∷ c.args.second ∷ [])) c.expect.ensures c.vec.ensures.items)
    (search rules) (search rules) (search rules)

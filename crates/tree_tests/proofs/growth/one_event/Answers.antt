use Rattle.std.proofs.Common.{[], ◌∷◌, ◌≡◌, IfOk, subst, rules}
use Rattle.treegrowth.proofs.CommitFew.{one_commit}
use Rattle.tree_tests.proofs.growth.one_event.Goals as goal

pub returns : goal.returns
returns g c = record {
  commit = one_commit c.args.at c.expect.result.items c.args.event (subst (λ r. IfOk r (λ v. v.items ≡ c.args.event ∷ [])) c.expect.ensures c.vec.ensures.items) (search rules);
}

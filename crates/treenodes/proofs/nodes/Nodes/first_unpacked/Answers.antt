use Rattle.std.proofs.Common.{ℕ, List, Option, subst, option_copied}
use Rattle.std.specs.Prelude.{MatchOption}
use Rattle.std.proofs.lemmas.Option.{slice_get_within}
use Rattle.treenodes.specs.Node.{TreeNode}
use Rattle.treenodes.specs.Backlog.{IsWaiting, IsFirstWaiting, IsFirstWaitingAt}
use Rattle.treenodes.proofs.NodeNumbers.{one_at}
use Rattle.treenodes.proofs.nodes.Nodes.first_unpacked.Goals as goal

pub returns-in-None : goal.returns-in-None
returns-in-None c =
    subst (λ (s : List TreeNode). (p : TreeNode) → IsWaiting s (option_copied c.args.after) p → ⊥) c.self.view_is
    (subst (λ (o : Option ℕ). MatchOption o ((p : TreeNode) → IsWaiting c.self.inside.slots (option_copied c.args.after) p → ⊥) (λ number. IsFirstWaitingAt c.self.inside.slots (option_copied c.args.after) number)) c.in-None.is c.first.ensures)

pub at-requires : goal.at-requires
at-requires c =
    let w = subst (λ (o : Option ℕ). MatchOption o ((p : TreeNode) → IsWaiting c.self.inside.slots (option_copied c.args.after) p → ⊥) (λ number. IsFirstWaitingAt c.self.inside.slots (option_copied c.args.after) number)) c.in-Some.is c.first.ensures in
    slice_get_within c.self.inside.slots c.in-Some.number w.node w.there

pub returns-in-Some : goal.returns-in-Some
returns-in-Some c =
    let w = subst (λ (o : Option ℕ). MatchOption o ((p : TreeNode) → IsWaiting c.self.inside.slots (option_copied c.args.after) p → ⊥) (λ number. IsFirstWaitingAt c.self.inside.slots (option_copied c.args.after) number)) c.in-Some.is c.first.ensures in
    subst (λ (s : List TreeNode). IsFirstWaiting s (option_copied c.args.after) c.at.result.now) c.self.view_is
    (subst (IsFirstWaiting c.self.inside.slots (option_copied c.args.after)) (one_at c.self.inside.slots c.in-Some.number w.node c.at.result.now w.there c.at.ensures) w.first)

use Rattle.std.proofs.Common.{◌≡◌, sym, ap, subst, ◌∙◌}
use Rattle.std.specs.Prelude.{IfOk}
use Rattle.treenodes.specs.Node.{TreeNode, IsAt, seen}
use Rattle.treenodes.specs.Tree.{IsTree}
use Rattle.treenodes.specs.Map.{HoldsMap}
use Rattle.treenodes.specs.History.{KeepsHistory}
use Rattle.treenodes.specs.Split.{AreSplit, HoldCuts, Halved, HasHalves}
use Rattle.treenodes.proofs.ReplacementParents.{parent_within, below_within, given, weaker}
use Rattle.treenodes.proofs.NodeNumbers.{one_at}
use Rattle.treenodes.proofs.replacement.with_halves.Goals as goal

pub at-requires : goal.at-requires
at-requires c = below_within c.args.nodes c.requires.tree c.args.parent c.args.number c.requires.parent

pub parent_of_halves-requires-clause-split : goal.parent_of_halves-requires-clause-split
parent_of_halves-requires-clause-split c = λ n at.
    let level = ap (λ (q : TreeNode). q.level) (one_at c.args.nodes c.args.number n c.at.result.now at c.at.ensures) ∙ sym c.level-level.ensures in
    subst (λ q. AreSplit c.args.nodes n q c.in_ok-low.high) (ap (λ l. seen l c.args.first) level ∙ sym c.in_ok-low.ensures.first)
    (subst (λ q. AreSplit c.args.nodes n (seen n.level c.args.first) q) (ap (λ l. seen l c.args.second) level ∙ sym c.in_ok-low.ensures.second)
    (c.requires.split n at))

pub place_halves-requires-clause-number : goal.place_halves-requires-clause-number
place_halves-requires-clause-number c = below_within c.args.nodes c.requires.tree c.args.parent c.args.number c.requires.parent

pub place_halves-requires-clause-parent : goal.place_halves-requires-clause-parent
place_halves-requires-clause-parent c = parent_within c.args.nodes c.requires.tree c.args.parent c.args.number c.requires.parent

facts : (c : goal.After-place_halves) → IfOk c.place_halves.result (HasHalves c.args.nodes c.args.parent c.args.number c.in_ok-low.low c.in_ok-low.high)
facts c = given c.place_halves.result _ (HasHalves c.args.nodes c.args.parent c.args.number c.in_ok-low.low c.in_ok-low.high) c.place_halves.ensures.ok c.in_ok-above.ensures.ok

-- the level is the node's
leveled : (c : goal.After-place_halves) (n : TreeNode) → IsAt c.args.nodes c.args.number n → c.level-level.result ≡ n.level
leveled c n at = c.level-level.ensures ∙ ap (λ (q : TreeNode). q.level) (one_at c.args.nodes c.args.number c.at.result.now n c.at.ensures at)

low_is : (c : goal.After-place_halves) (n : TreeNode) → IsAt c.args.nodes c.args.number n → c.in_ok-low.low ≡ seen n.level c.args.first
low_is c n at = c.in_ok-low.ensures.first ∙ ap (λ l. seen l c.args.first) (leveled c n at)

high_is : (c : goal.After-place_halves) (n : TreeNode) → IsAt c.args.nodes c.args.number n → c.in_ok-low.high ≡ seen n.level c.args.second
high_is c n at = c.in_ok-low.ensures.second ∙ ap (λ l. seen l c.args.second) (leveled c n at)

pub returns-clause-tree : goal.returns-clause-tree
returns-clause-tree c = weaker c.place_halves.result (HasHalves c.args.nodes c.args.parent c.args.number c.in_ok-low.low c.in_ok-low.high) IsTree (λ s h. h.tree) (facts c)

pub returns-clause-holds : goal.returns-clause-holds
returns-clause-holds c = λ m n holds at cuts. weaker c.place_halves.result (HasHalves c.args.nodes c.args.parent c.args.number c.in_ok-low.low c.in_ok-low.high) (λ s. HoldsMap s m)
    (λ s h. h.holds m holds (subst (λ q. HoldCuts m q c.in_ok-low.high) (sym (low_is c n at)) (subst (λ q. HoldCuts m (seen n.level c.args.first) q) (sym (high_is c n at)) cuts))) (facts c)

pub returns-clause-halved : goal.returns-clause-halved
returns-clause-halved c = λ n at. weaker c.place_halves.result (HasHalves c.args.nodes c.args.parent c.args.number c.in_ok-low.low c.in_ok-low.high)
    (λ s. Halved c.args.nodes s c.args.parent c.args.number (seen n.level c.args.first) (seen n.level c.args.second))
    (λ s h. subst (λ q. Halved c.args.nodes s c.args.parent c.args.number q (seen n.level c.args.second)) (low_is c n at)
    (subst (λ q. Halved c.args.nodes s c.args.parent c.args.number c.in_ok-low.low q) (high_is c n at) h.halved)) (facts c)

pub returns-clause-history : goal.returns-clause-history
returns-clause-history c = λ first second. weaker c.place_halves.result (HasHalves c.args.nodes c.args.parent c.args.number c.in_ok-low.low c.in_ok-low.high) (KeepsHistory c.args.nodes)
    (λ s h. h.history (ap (λ (q : TreeNode). q.packed) c.in_ok-low.ensures.first ∙ first) (ap (λ (q : TreeNode). q.packed) c.in_ok-low.ensures.second ∙ second)) (facts c)

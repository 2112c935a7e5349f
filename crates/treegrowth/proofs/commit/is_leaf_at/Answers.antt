use Rattle.std.proofs.Common.{◌≡◌, true, sym, ap, subst, ◌∙◌}
use Rattle.keyrange.specs.Rect.{has_point}
use Rattle.treenodes.specs.Node.{TreeNode}
use Rattle.treegrowth.proofs.CommitRoom.{leaf_here}
use Rattle.treegrowth.proofs.commit.is_leaf_at.Goals as goal

pub returns-then-level-eq0 : goal.returns-then-level-eq0
returns-then-level-eq0 c holds =
    let n = c.in-Some.slot.now in
    let e = c.args.event.now in
    let area : c.rect.result.now ≡ n.rect = c.rect.ensures.rect ∙ sym (ap (λ (p : TreeNode). p.rect) c.child.ensures) in
    leaf_here c.args.nodes.now c.requires e.key e.at c.args.number n c.in-Some.ensures (sym c.level.ensures ∙ c.if-level-eq0.true)
    (subst (λ r. has_point r e.key e.at ≡ true) area
    (subst (λ k. has_point c.rect.result.now k e.at ≡ true) c.key.ensures.is
    (subst (λ t. has_point c.rect.result.now c.key.result.now t ≡ true) c.at.ensures (sym c.contains.ensures ∙ holds))))

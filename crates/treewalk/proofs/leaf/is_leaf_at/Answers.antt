use Rattle.std.proofs.Common.{◌≡◌, true, sym, ap, subst, ◌∙◌}
use Rattle.keyrange.specs.Rect.{has_point}
use Rattle.treenodes.specs.Node.{TreeNode}
use Rattle.treewalk.proofs.LevelNodes.{is_listed}
use Rattle.treewalk.proofs.leaf.is_leaf_at.Goals as goal

pub returns-then-level-eq0 : goal.returns-then-level-eq0
returns-then-level-eq0 c holds =
    let n = c.in-Some.slot.now in
    let bottom : n.level ≡ 0 = sym c.level.ensures ∙ c.if-level-eq0.true in
    let area : c.rect.result.now ≡ n.rect = c.rect.ensures.rect ∙ sym (ap (λ (p : TreeNode). p.rect) c.child.ensures) in
    record {
      leaf = record {
        node = n;
        there = c.in-Some.ensures;
        bottom = bottom;
        is_data = is_listed c.args.nodes.now c.requires c.args.number n.level n.rect n.content n.packed c.in-Some.ensures bottom;
      };
      holds = subst (λ r. has_point r c.args.key.now c.args.instant ≡ true) area (sym c.contains.ensures ∙ holds);
    }

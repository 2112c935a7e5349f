-- References of one level that have a point in common are to one node.
use Rattle.std.proofs.Common.{◌≡◌, ◌+◌, sym, ap, subst, ◌∙◌, arith}
use Rattle.std.specs.Prelude.{slice_get}
use Rattle.keyrange.specs.Rect.{Common}
use Rattle.treenodes.specs.Node.{TreeNode}
use Rattle.treenodes.specs.Law.{MeetingReferencesAreOne}
use Rattle.treenodes.proofs.NodeNumbers.{one_at}

pub one_child : MeetingReferencesAreOne
one_child nodes level r s tree to_r to_s meet =
    let level_r : level ≡ to_r.node.level + 1 = to_r.below in
    let level_s : level ≡ to_s.node.level + 1 = to_s.below in
    let levels : to_r.node.level ≡ to_s.node.level = omega arith in
    let common : Common to_r.node.rect to_s.node.rect = subst (λ a. Common a to_s.node.rect) to_r.same (subst (Common r.rect) to_s.same meet) in
    let number = tree.apart r.child s.child to_r.node to_s.node to_r.there to_s.there levels common in
    let same : to_r.node ≡ to_s.node = one_at nodes s.child to_r.node to_s.node (sym (ap (slice_get nodes) number) ∙ to_r.there) to_s.there in
    (number, to_r.same ∙ ap (λ (n : TreeNode). n.rect) same ∙ sym to_s.same)

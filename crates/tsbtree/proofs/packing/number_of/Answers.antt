use Rattle.std.proofs.Common.{ap, sym, subst, ◌∙◌}
use Rattle.std.proofs.lemmas.Bool.{false≢true}
use Rattle.keyrange.specs.declared.range.KeyRange.{KeyRange}
use Rattle.keyrange.specs.declared.range.TimeRange.{TimeRange}
use Rattle.treenodes.specs.Node.{TreeNode}
use Rattle.treenodes.specs.Lookup.{IsLeafAt}
use Rattle.tsbtree.proofs.PackingFound.{not_unpacked, not_same}
use Rattle.tsbtree.proofs.packing.number_of.Goals as goal
use Rattle.tsbtree.proofs.packing.number_of.Goals.{else-is_unpacked-via-then-is_unpacked+else-is_same, else-is_unpacked-via-else-is_unpacked}

pub returns-else-is_unpacked : goal.returns-else-is_unpacked
returns-else-is_unpacked c =
    let nodes = c.args.nodes.now in
    let rect = c.args.rect.now in
    let number = c.leaf_at-number.result.0 in
    let n = c.at-slot.result.now in
    let leaf = subst (λ t. IsLeafAt nodes rect.keys.lo t number) (ap (λ (t : TimeRange). t.from) c.time-start.ensures.time)
    (subst (λ k. IsLeafAt nodes k c.time-start.result.from number) (ap (λ (k : KeyRange). k.lo) c.keys.ensures.keys) c.leaf_at-number.ensures.leaf) in
    elim c.else-is_unpacked.branch [
      | else-is_unpacked-via-then-is_unpacked+else-is_same w ↦ not_same nodes c.requires rect c.time-start.ensures.area number leaf n c.at-slot.ensures
          (λ same. false≢true (sym w.if-is_same.false ∙ w.is_same.ensures.1 (w.rect.ensures.rect ∙ sym (ap (λ (q : TreeNode). q.rect) w.child.ensures) ∙ same)))
      | else-is_unpacked-via-else-is_unpacked w ↦ not_unpacked nodes c.requires rect c.time-start.ensures.area number leaf n c.at-slot.ensures (sym c.is_unpacked.ensures ∙ w.if-is_unpacked.false)
    ]

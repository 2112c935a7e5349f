use Rattle.std.proofs.Common.{ℕ, List, ◌∷◌, ◌++◌, [], set, refl, sym, ap, subst, ◌∙◌}
use Rattle.indexnode.specs.declared.reference.Reference.{Reference}
use Rattle.indexnode.specs.Replacement.{Replaced}
use Rattle.keyrange.specs.Rect.{IsArea}
use Rattle.treenodes.specs.Node.{TreeNode, seen}
use Rattle.treenodes.specs.declared.node.Child.TheVariants.{Index}
use Rattle.treenodes.specs.Split.{HasHalves}
use Rattle.treenodes.proofs.ReplacementParents.{parent_within, below_within, is_index, halves_of, has_whole, comes, given}
use Rattle.treenodes.proofs.replacement.parent_of_halves.Goals as goal

pub at-slot-requires : goal.at-slot-requires
at-slot-requires c = below_within c.args.nodes.now c.requires.tree c.args.parent c.args.number c.requires.parent

pub at-above-requires : goal.at-above-requires
at-above-requires c = parent_within c.args.nodes.now c.requires.tree c.args.parent c.args.number c.requires.parent

pub index-requires : goal.index-requires
index-requires c = is_index c.args.nodes.now c.requires.tree c.args.parent c.args.number c.requires.parent _ c.at-above.ensures

pub with_references-requires-clause-halves : goal.with_references-requires-clause-halves
with_references-requires-clause-halves c =
    let slot = c.at-slot.result.now in
    halves_of c.args.nodes.now c.requires.tree c.args.parent c.args.number c.requires.parent slot c.at-above.result.now c.at-slot.ensures c.at-above.ensures c.index.result.now c.index.ensures c.args.first.now c.args.second.now
    (c.requires.split slot c.at-slot.ensures) c.rect.result.now c.in_ok-lower.lower.rect c.in_ok-lower.upper.rect
    (c.rect.ensures.rect ∙ sym (ap (λ (q : TreeNode). q.rect) c.child.ensures)) (λ t. (c.in_ok-lower.ensures.lower t).rect) (λ t. (c.in_ok-lower.ensures.upper t).rect)

pub with_references-requires-clause-there : goal.with_references-requires-clause-there
with_references-requires-clause-there c =
    let slot = c.at-slot.result.now in
    has_whole c.args.nodes.now c.requires.tree c.args.parent c.args.number c.requires.parent slot c.at-above.result.now c.at-slot.ensures c.at-above.ensures c.index.result.now c.index.ensures c.args.first.now c.args.second.now
    (c.requires.split slot c.at-slot.ensures) c.rect.result.now c.in_ok-lower.lower.rect c.in_ok-lower.upper.rect
    (c.rect.ensures.rect ∙ sym (ap (λ (q : TreeNode). q.rect) c.child.ensures)) (λ t. (c.in_ok-lower.ensures.lower t).rect) (λ t. (c.in_ok-lower.ensures.upper t).rect)

pub returns-clause-ok : goal.returns-clause-ok
returns-clause-ok c =
    let nodes = c.args.nodes.now in
    let slot = c.at-slot.result.now in
    let node = c.in_ok-node.node in
    given c.new.result _ (λ above. HasHalves nodes c.args.parent c.args.number c.args.first.now c.args.second.now (set (set nodes c.args.number c.args.first.now) c.args.parent above ++ c.args.second.now ∷ [])) c.new.ensures.ok
    (subst (λ l. HasHalves nodes c.args.parent c.args.number c.args.first.now c.args.second.now (set (set nodes c.args.number c.args.first.now) c.args.parent (seen l (Index node)) ++ c.args.second.now ∷ [])) (sym c.level.ensures)
    (comes nodes c.requires.tree c.args.parent c.args.number c.requires.parent slot c.at-above.result.now c.at-slot.ensures c.at-above.ensures c.index.result.now c.index.ensures c.args.first.now c.args.second.now
    (c.requires.split slot c.at-slot.ensures) c.rect.result.now c.in_ok-lower.lower.rect c.in_ok-lower.upper.rect
    (c.rect.ensures.rect ∙ sym (ap (λ (q : TreeNode). q.rect) c.child.ensures)) (λ t. (c.in_ok-lower.ensures.lower t).rect) (λ t. (c.in_ok-lower.ensures.upper t).rect)
    (subst IsArea (λ t. (c.in_ok-lower.ensures.lower t).rect) c.in_ok-lower.ensures.areas.0) (subst IsArea (λ t. (c.in_ok-lower.ensures.upper t).rect) c.in_ok-lower.ensures.areas.1)
    c.len.result c.len.ensures node.references.items
    (subst (λ (l : List (Reference ℕ)). Replaced c.rect.result.now l c.index.result.now.references.items node.references.items)
    (λ t. record { rect = c.in_ok-lower.lower.rect; child = (c.in_ok-lower.ensures.lower t).child } ∷ record { rect = c.in_ok-lower.upper.rect; child = (c.in_ok-lower.ensures.upper t).child } ∷ []) c.in_ok-node.ensures.replaced)
    c.in_ok-node.ensures.tiled c.in_ok-node.ensures.current c.in_ok-node.ensures.meet node c.in_ok-node.ensures.rect refl))

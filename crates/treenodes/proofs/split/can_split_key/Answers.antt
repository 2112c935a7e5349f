use Rattle.std.proofs.Common.{sym, ap, ◌∙◌}
use Rattle.std.specs.Prelude.{is_none, ◌&&◌}
use Rattle.std.proofs.lemmas.Bool.Decides.{Decides-at}
use Rattle.std.proofs.lemmas.Option.{slice_get_within}
use Rattle.keyrange.specs.Rect.{Area}
use Rattle.keyrange.specs.Cut.{is_key_inside}
use Rattle.treenodes.specs.Node.{TreeNode}
use Rattle.treenodes.proofs.SplitData.{key_test}
use Rattle.treenodes.proofs.split.can_split_key.Goals as goal

pub at-requires : goal.at-requires
at-requires c = slice_get_within c.args.nodes.now c.args.number c.requires.node c.requires.there

pub returns : goal.returns
returns c =
    let node = c.at.result.now in
    Decides-at c.is_key_splittable.result (is_none node.rect.time.to && is_key_inside node.rect c.args.key.now)
    (c.is_key_splittable.ensures ∙ ap (λ (r : Area). is_none r.time.to && is_key_inside r c.args.key.now) (c.rect.ensures.rect ∙ sym (ap (λ (q : TreeNode). q.rect) c.child.ensures)))
    (key_test c.args.nodes.now c.args.number node c.at.ensures c.requires c.args.key.now)

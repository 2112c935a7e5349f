use Rattle.std.proofs.Common.{sym, ap, ◌∙◌}
use Rattle.std.specs.Prelude.{is_none, nat_lt, nat_le, ◌&&◌}
use Rattle.std.proofs.lemmas.Bool.Decides.{Decides-at}
use Rattle.std.proofs.lemmas.Option.{slice_get_within}
use Rattle.values.specs.Commits.{max_instant}
use Rattle.keyrange.specs.Rect.{Area}
use Rattle.keyrange.specs.declared.range.TimeRange.{TimeRange}
use Rattle.treenodes.specs.Node.{TreeNode}
use Rattle.treenodes.proofs.SplitData.{time_test}
use Rattle.treenodes.proofs.split.can_split_time.Goals as goal

pub at-requires : goal.at-requires
at-requires c = slice_get_within c.args.nodes.now c.args.number c.requires.node c.requires.there

pub returns : goal.returns
returns c =
    let node = c.at.result.now in
    Decides-at c.is_time_splittable.result (is_none node.rect.time.to && (nat_lt node.rect.time.from c.args.instant && nat_le c.args.instant max_instant))
    (c.is_time_splittable.ensures
    ∙ ap (λ (t : TimeRange). is_none t.to && (nat_lt t.from c.args.instant && nat_le c.args.instant max_instant)) (c.time.ensures.time ∙ ap (λ (r : Area). r.time) (c.rect.ensures.rect ∙ sym (ap (λ (q : TreeNode). q.rect) c.child.ensures))))
    (time_test c.args.nodes.now c.args.number node c.at.ensures c.requires c.args.instant)

use Rattle.std.proofs.Common.{sym, ap, ◌∙◌}
use Rattle.std.specs.List.{insert}
use Rattle.treenodes.specs.Node.{TreeNode}
use Rattle.treenodes.proofs.BacklogKept.{put_in}
use Rattle.treenodes.proofs.backlog.Backlog.with.Goals as goal

pub returns-clause-ok : goal.returns-clause-ok
returns-clause-ok c =
    put_in c.args.slots.now c.args.self c.args.number c.at-slot.result.now c.at-slot.ensures (sym c.is_unpacked.ensures ∙ c.if-not-is_unpacked.false)
    c.deref.result.now (c.deref.ensures.value ∙ c.in_ok-numbers.ensures.ok) c.rect.result.now (c.rect.ensures.rect ∙ sym (ap (λ (n : TreeNode). n.rect) c.child.ensures))
    c.count_after-place.result c.count_after-place.ensures.bound c.count_after-place.ensures.parted c.requires.backlog
    c.in_ok-numbers-2.numbers.value.items (ap (λ v. v.items) c.in_ok-numbers-2.ensures.ok ∙ c.in_ok-insert.ensures.items ∙ ap (λ l. insert l c.count_after-place.result c.args.number) (sym c.deref.ensures.value))

use Rattle.std.proofs.Common.{◌<◌, sym, ap, subst, ◌∙◌}
use Rattle.std.specs.List.{remove}
use Rattle.treenodes.specs.Node.{TreeNode}
use Rattle.treenodes.proofs.BacklogKept.{stands, taken_out}
use Rattle.treenodes.proofs.backlog.Backlog.without.Goals as goal

pub remove-requires : goal.remove-requires
remove-requires c =
    subst (λ n. c.count_after-place.result < n) c.deref.ensures.len
    (stands c.args.slots.now c.args.self c.args.number c.at-slot.result.now c.at-slot.ensures (sym c.is_unpacked.ensures ∙ c.if-not-is_unpacked.false)
    c.deref.result.now (c.deref.ensures.value ∙ c.in_ok-numbers.ensures.ok) c.rect.result.now (c.rect.ensures.rect ∙ sym (ap (λ (n : TreeNode). n.rect) c.child.ensures))
    c.count_after-place.result c.count_after-place.ensures.bound c.count_after-place.ensures.parted c.requires.backlog)

pub returns-clause-ok : goal.returns-clause-ok
returns-clause-ok c =
    taken_out c.args.slots.now c.args.self c.args.number c.at-slot.result.now c.at-slot.ensures (sym c.is_unpacked.ensures ∙ c.if-not-is_unpacked.false)
    c.deref.result.now (c.deref.ensures.value ∙ c.in_ok-numbers.ensures.ok) c.rect.result.now (c.rect.ensures.rect ∙ sym (ap (λ (n : TreeNode). n.rect) c.child.ensures))
    c.count_after-place.result c.count_after-place.ensures.bound c.count_after-place.ensures.parted c.requires.backlog
    c.in_ok-numbers-2.numbers.value.items (ap (λ v. v.items) c.in_ok-numbers-2.ensures.ok ∙ c.remove.ensures.items ∙ ap (λ l. remove l c.count_after-place.result) (sym c.deref.ensures.value))

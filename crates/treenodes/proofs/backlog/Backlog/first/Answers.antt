use Rattle.std.proofs.Common.{refl, sym, ap, subst, ◌∙◌, option_copied}
use Rattle.treenodes.specs.Backlog.{IsBacklog}
use Rattle.treenodes.proofs.BacklogFirst.{nobody, somebody}
use Rattle.treenodes.proofs.backlog.Backlog.first.Goals as goal

pub returns-then-place-eq0 : goal.returns-then-place-eq0
returns-then-place-eq0 c =
    nobody c.args.slots.now c.as_slice-numbers.result.now (subst (IsBacklog c.args.slots.now) (sym (c.as_slice-numbers.ensures.value ∙ ap (λ v. v.items) c.deref.ensures ∙ c.self.view_is)) c.requires) (option_copied c.args.after) c.count_behind-place.result c.count_behind-place.ensures c.if-place-eq0.true

pub returns-else-place-eq0 : goal.returns-else-place-eq0
returns-else-place-eq0 c =
    somebody c.args.slots.now c.as_slice-numbers.result.now (subst (IsBacklog c.args.slots.now) (sym (c.as_slice-numbers.ensures.value ∙ ap (λ v. v.items) c.deref.ensures ∙ c.self.view_is)) c.requires) (option_copied c.args.after) c.count_behind-place.result c.count_behind-place.ensures c.if-place-eq0.false _ refl

use Rattle.std.proofs.Common.{sym, ap, subst, ◌∙◌}
use Rattle.std.specs.List.Sorted.{IsStrictlySortedBy}
use Rattle.values.specs.Events.{event_cmp}
use Rattle.eventlist.proofs.PutPlaced.{put_by, sorted_put}
use Rattle.staging.proofs.keyed_net.put_event.Goals as goal
use Rattle.staging.proofs.keyed_net.put_event.Goals.{then-is_there+in-Some-1, then-is_there+in-None-1, else-is_there+in_ok-insert}

pub returns-clause-ok : goal.returns-clause-ok
returns-clause-ok c =
    elim c.if-is_there.branch [
      | then-is_there+in-Some-1 w ↦ ap (λ v. v.items) w.events-is ∙ sym (put_by c.args.event c.args.events.now.items c.deref.result.now c.deref-2.result.now c.place_of-place.result c.deref.ensures.value c.deref-2.ensures.value c.place_of-place.ensures.bound c.place_of-place.ensures.first _ (sym w.if-is_there.true ∙ c.is_there.ensures))
      | then-is_there+in-None-1 w ↦ ap (λ v. v.items) w.events-is ∙ sym (put_by c.args.event c.args.events.now.items c.deref.result.now c.deref-2.result.now c.place_of-place.result c.deref.ensures.value c.deref-2.ensures.value c.place_of-place.ensures.bound c.place_of-place.ensures.first _ (sym w.if-is_there.true ∙ c.is_there.ensures))
      | else-is_there+in_ok-insert w ↦ ap (λ v. v.items) w.events-is ∙ w.in_ok-insert.ensures.items ∙ sym (put_by c.args.event c.args.events.now.items c.deref.result.now c.deref-2.result.now c.place_of-place.result c.deref.ensures.value c.deref-2.ensures.value c.place_of-place.ensures.bound c.place_of-place.ensures.first _ (sym w.if-is_there.false ∙ c.is_there.ensures))
    ]

pub returns-clause-sorted : goal.returns-clause-sorted
returns-clause-sorted c = subst (IsStrictlySortedBy event_cmp) (sym (returns-clause-ok c)) (sorted_put c.args.event c.args.events.now.items c.requires)

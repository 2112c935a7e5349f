use Rattle.std.proofs.Common.{Some, sym, ap, ◌∙◌}
use Rattle.eventlist.specs.Place.{of_key}
use Rattle.eventlist.proofs.PlaceFound.{none_at, found_at}
use Rattle.eventlist.proofs.place.event_until.Goals as goal

pub returns-then-place-eq0 : goal.returns-then-place-eq0
returns-then-place-eq0 c = sym (none_at c.args.key.now c.args.instant c.args.events.now c.place_after-place.result c.if-place-eq0.true c.place_after-place.ensures.first)

pub returns : goal.returns
returns c =
    c.of_key.ensures ∙ ap (λ e. of_key c.args.key.now (Some e)) c.event.ensures
    ∙ found_at c.args.key.now c.args.instant c.args.events.now c.place_after-place.result c.index-events-place.result c.if-place-eq0.false c.place_after-place.ensures.bound c.requires c.place_after-place.ensures.first c.index-events-place.is

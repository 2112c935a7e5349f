use Rattle.std.proofs.Common.{Some, sym, ap, ◌∙◌}
use Rattle.eventlist.specs.Place.{of_key}
use Rattle.eventlist.proofs.PlaceFound.{no_last, last_found}
use Rattle.eventlist.proofs.place.last_event.Goals as goal

pub returns-then-end-eq0 : goal.returns-then-end-eq0
returns-then-end-eq0 c = sym (no_last c.args.key.now c.args.events.now c.place_behind_key-end.result c.if-end-eq0.true c.place_behind_key-end.ensures.bound c.place_behind_key-end.ensures.first)

pub returns : goal.returns
returns c =
    c.of_key.ensures ∙ ap (λ e. of_key c.args.key.now (Some e)) c.event.ensures
    ∙ last_found c.args.key.now c.args.events.now c.place_behind_key-end.result c.index-events-end.result c.if-end-eq0.false c.place_behind_key-end.ensures.bound c.requires c.place_behind_key-end.ensures.first c.index-events-end.is

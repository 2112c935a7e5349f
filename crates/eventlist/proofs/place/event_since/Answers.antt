use Rattle.std.proofs.Common.{ap, ◌∙◌}
use Rattle.eventlist.specs.Place.{since}
use Rattle.eventlist.proofs.PlaceFound.{since_last}
use Rattle.eventlist.proofs.place.event_since.Goals as goal

pub returns : goal.returns
returns c = c.since.ensures ∙ ap (since c.args.start) c.last_event.ensures ∙ since_last c.args.events.now c.args.start c.args.key.now c.requires

use Rattle.std.proofs.Common.{◌∙◌, List, ap, sym, filter}
use Rattle.values.specs.Event.{Event}
use Rattle.keyrange.specs.Range.{is_key_in}
use Rattle.eventlist.specs.Listing.{stands_at}
use Rattle.eventlist.proofs.KeyGroupJumps.{standing_is}
use Rattle.eventlist.proofs.listing.standing.Goals as goal

pub returns-clause-ok : goal.returns-clause-ok
returns-clause-ok c =
    c.in_ok-all_standing.ensures.ok
    ∙ ap (λ (es : List Event). filter (stands_at es c.args.instant) es) c.of_range.ensures.are
    ∙ sym (standing_is (is_key_in c.args.range.now) c.args.instant c.args.events.now)

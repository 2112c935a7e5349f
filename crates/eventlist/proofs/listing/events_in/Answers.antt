use Rattle.std.proofs.Common.{◌∙◌, ◌&&◌, ap, filter, nat_le}
use Rattle.values.specs.Event.{Event}
use Rattle.keyrange.specs.Range.{is_key_in}
use Rattle.eventlist.proofs.ListingRanges.{both_tests}
use Rattle.eventlist.proofs.listing.events_in.Goals as goal

pub returns-clause-ok : goal.returns-clause-ok
returns-clause-ok c =
    c.in_ok-events_between.ensures.ok
    ∙ ap (filter (λ (e : Event). nat_le c.args.from e.at && nat_le e.at c.args.to)) c.of_range.ensures.are
    ∙ both_tests (λ e. is_key_in c.args.range.now e.key) (λ e. nat_le c.args.from e.at && nat_le e.at c.args.to) c.args.events.now

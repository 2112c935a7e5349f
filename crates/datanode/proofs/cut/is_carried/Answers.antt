use Rattle.std.proofs.Common.{◌+◌, ap, ◌∙◌, option_copied}
use Rattle.eventlist.proofs.PlaceOrder.{looked}
use Rattle.datanode.specs.Cut.{stays_to}
use Rattle.datanode.proofs.CutNext.{is_carried_by}
use Rattle.datanode.proofs.cut.is_carried.Goals as goal

pub returns : goal.returns
returns c = is_carried_by c.args.events.now c.args.place c.index-events-place.result c.args.instant (option_copied c.get.result) c.stays_to.result c.requires.map c.requires.inside c.index-events-place.is
    (looked c.args.events.now (c.args.place + 1) c.get.result c.get.ensures.lookup.0 c.get.ensures.lookup.1)
    (c.stays_to.ensures ∙ ap (λ e. stays_to e c.args.instant (option_copied c.get.result)) c.event.ensures)

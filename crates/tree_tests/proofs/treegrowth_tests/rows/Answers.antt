use Rattle.std.proofs.Common.{◌≡◌, sym, subst}
use Rattle.std.proofs.lemmas.List.Elements.{All-nil}
use Rattle.values.specs.Event.{Event}
use Rattle.values.specs.Events.{event_cmp}
use Rattle.eventlist.proofs.PlaceOrder.{sorted_none}
use Rattle.treegrowth.specs.Commit.{IsCommit}
use Rattle.tree_tests.proofs.treegrowth_tests.rows.Goals as goal

pub loop-number-init : goal.loop-number-init
loop-number-init g c =
    subst (IsCommit c.args.at) (sym c.new-events.ensures.items) (record { at_instant = All-nil (λ (e : Event). e.at ≡ c.args.at); ordered = sorted_none event_cmp })

-- Events are in a total order, by key and then by instant.
use Rattle.std.specs.Cmp.{IsTotalOrder, on_total, then_total, nat_cmp_total}
use Rattle.std.specs.Cmp.Lexicographic.{nat_list_cmp_total}
use Rattle.values.specs.Event.{Event}
use Rattle.values.specs.Events.{event_cmp}

pub event_total : IsTotalOrder event_cmp
event_total =
    then_total
    (on_total (λ (e : Event). e.key) nat_list_cmp_total)
    (on_total (λ (e : Event). e.at) nat_cmp_total)

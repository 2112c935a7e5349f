use Rattle.std.proofs.Common.{◌≡◌, ℕ, ◌-◌, ◌<◌, true, List, Some, length, get_or, sym, ap, subst, ◌∙◌, arith}
use Rattle.std.proofs.lemmas.Option.{slice_get-get_or}
use Rattle.std.specs.List.{slice_get}
use Rattle.std.specs.Ordering.{is_lt}
use Rattle.values.specs.Event.{Event}
use Rattle.eventlist.specs.Place.{AreFirst, is_before}
use Rattle.eventlist.proofs.PutPlaced.{before_parts}
use Rattle.datanode.specs.Cut.{IsMap}
use Rattle.datanode.proofs.CutMembers.{some_is}
use Rattle.datanode.proofs.node.place_in.Goals as goal

-- where the last event is before another, all are
all_before : (e last : Event) (es : List Event) → IsMap es → Some last ≡ slice_get es (length es - 1) → is_before e last ≡ true → AreFirst (is_before e) es (length es)
all_before e last es sorted is before = (λ k d low high. each k d high, λ k d low high. absurd (omega arith))
  where
    each : (k : ℕ) (d : Event) → k < length es → is_before e (get_or es k d) ≡ true
    each k d high =
        before_parts e es sorted k (length es - 1) d (omega arith) (omega arith)
        (subst (λ x. is_before e x ≡ true) (some_is last (get_or es (length es - 1) d) (is ∙ slice_get-get_or es (length es - 1) d (omega arith))) before)

pub returns-in-Some-clause-first : goal.returns-in-Some-clause-first
returns-in-Some-clause-first c =
    all_before c.args.event.now c.in-Some.last.now c.args.events.now c.requires c.in-Some.ensures.value (ap (is_before c.args.event.now) (sym c.event.ensures) ∙ ap is_lt (sym c.order.ensures) ∙ sym c.is_lt.ensures ∙ c.if-is_lt.true)

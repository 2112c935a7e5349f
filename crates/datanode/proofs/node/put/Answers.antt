use Rattle.std.proofs.Common.{◌∙◌, ◌-◌, ap, sym, get_or}
use Rattle.eventlist.specs.Overtaking.{overtakes}
use Rattle.datanode.proofs.NodePut.{replaced_is, plain_is}
use Rattle.datanode.proofs.node.put.Goals as goal

pub returns-then-is_replaced-clause-ok : goal.returns-then-is_replaced-clause-ok
returns-then-is_replaced-clause-ok c =
    replaced_is c.args.rect.now c.args.events.now.items c.deref.result.now c.args.event c.event.result.now c.place_in-place.result c.time.result.from c.requires.node c.requires.inside c.requires.last
    c.event.ensures c.deref.ensures.value (ap (λ t. t.from) c.time.ensures.time) c.place_in-place.ensures.bound c.place_in-place.ensures.first
    (c.is_replaced.ensures.positive c.if-is_replaced.true) (λ d. ap (λ l. overtakes (get_or l (c.place_in-place.result - 1) d) c.time.result.from c.args.event) (c.deref.ensures.value ∙ sym c.deref-2.ensures.value) ∙ c.is_replaced.ensures.replaced c.if-is_replaced.true d)

pub returns-in_ok-insert-clause-ok : goal.returns-in_ok-insert-clause-ok
returns-in_ok-insert-clause-ok c =
    c.in_ok-insert.ensures.items
    ∙ plain_is c.args.rect.now c.args.events.now.items c.deref.result.now c.args.event c.event.result.now c.place_in-place.result c.time.result.from c.requires.node c.requires.inside c.requires.last
    c.event.ensures c.deref.ensures.value (ap (λ t. t.from) c.time.ensures.time) c.place_in-place.ensures.bound c.place_in-place.ensures.first
    (λ some d. ap (λ l. overtakes (get_or l (c.place_in-place.result - 1) d) c.time.result.from c.args.event) (c.deref.ensures.value ∙ sym c.deref-2.ensures.value) ∙ c.is_replaced.ensures.kept c.if-is_replaced.false some d)

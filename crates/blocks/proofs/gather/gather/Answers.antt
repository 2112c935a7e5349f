use Rattle.std.proofs.Common.{◌≡◌, ◌-◌, ◌+◌, ◌<◌, ◌≤◌, [], ◌∷◌, ◌++◌, Some, true, false, sym, ap, subst, ◌∙◌, arith, rules, All}
use Rattle.std.proofs.lemmas.List.Elements.{All-push}
use Rattle.values.specs.Event.{Event}
use Rattle.values.specs.RowReading.{after}
use Rattle.values.specs.Events.{put_event}
use Rattle.datanode.specs.Cut.{cut}
use Rattle.datanode.specs.Node.{Node}
use Rattle.blocks.specs.Event.{event_from, events_from}
use Rattle.blocks.specs.Gather.{is_next}
use Rattle.blocks.proofs.GatherSteps.{no_node_from, accepted, put_next, events_more}
use Rattle.blocks.proofs.gather.gather.Goals as goal

pub returns-then-not-is_next-clause-none : goal.returns-then-not-is_next-clause-none
returns-then-not-is_next-clause-none c =
    let here = c.loop.invariant in
    let below : c.loop.counter < c.args.n = omega arith in
    let read : event_from c.loop.rest.now ≡ Some (c.in-Some.event, c.in-Some.left.now) = search rules in
    let not_next : is_next c.loop.node c.in-Some.event ≡ false = search rules in
    no_node_from c.args.rect.now c.args.n c.loop.counter c.args.bytes.now c.loop.rest.now c.in-Some.left.now c.loop.node c.in-Some.event here.rect_is below read here.reads not_next

pub put-requires : goal.put-requires
put-requires c =
    let first : 1 ≤ c.in-Some.event.at = search rules in
    let next : is_next c.loop.node c.in-Some.event ≡ true = search rules in
    accepted c.args.rect.now c.loop.node c.in-Some.event c.loop.invariant.rect_is c.is_next.ensures.node first next

pub loop-preserved : goal.loop-preserved
loop-preserved c =
    let here = c.loop.invariant in
    let e = c.in-Some.event in
    let below : c.loop.counter < c.args.n = omega arith in
    let first : 1 ≤ e.at = search rules in
    let next : is_next c.loop.node e ≡ true = search rules in
    let read : event_from c.loop.rest.now ≡ Some (e, c.in-Some.left.now) = search rules in
    let put : c.put.new.self ≡ record { rect = c.loop.node.rect; events = cut c.loop.node.rect (put_event e c.loop.node.events) } = search rules in
    let events : c.put.new.self.events ≡ c.loop.node.events ++ e ∷ [] =
    ap (λ (n : Node). n.events) put ∙ put_next c.args.rect.now c.loop.node e here.rect_is c.is_next.ensures.node here.firsts first next in
    let rect : c.put.new.self.rect ≡ c.loop.node.rect = ap (λ (n : Node). n.rect) put in
    record {
      rect_is = rect ∙ here.rect_is;
      firsts = subst (All (λ (e : Event). 1 ≤ e.at)) (sym events) (All-push (λ (e : Event). 1 ≤ e.at) c.loop.node.events e here.firsts first);
      reads = ap (λ xs. after xs (events_from (c.args.n - (c.loop.counter + 1)) c.in-Some.left.now)) events ∙ sym (events_more c.args.n c.loop.counter c.loop.node.events e c.loop.rest.now c.in-Some.left.now below read) ∙ here.reads;
    }

use Rattle.std.proofs.Common.{◌≡◌, ◌++◌, ◌∙◌, true, ap, filter, subst}
use Rattle.values.specs.Event.{Event}
use Rattle.values.specs.Events.{is_bytes}
use Rattle.keyrange.specs.Range.{is_key_in}
use Rattle.keyrange.specs.Rect.{has_point}
use Rattle.eventlist.specs.Listing.{standing}
use Rattle.treewalk.specs.Leaf.{node_in}
use Rattle.treewalk.proofs.ListingRead.{in_time}
use Rattle.treewalk.proofs.WindowJoined.{one_standing}
use Rattle.treewalk.proofs.window.standing_event.Goals as goal

pub returns-clause-ok : goal.returns-clause-ok
returns-clause-ok g c m holds =
    c.in_ok-add_of_key.ensures.ok
    ∙ ap (λ l. l ++ filter (λ (e : Event). is_bytes c.args.key.now e.key) c.deref.result.now) c.new-found.ensures.items
    ∙ ap (filter (λ (e : Event). is_bytes c.args.key.now e.key))
    (c.deref.ensures.value ∙ c.in_ok-standing.ensures.ok ∙ ap (λ es. standing es (is_key_in c.args.range.now) c.args.instant) (c.leaf-child.ensures.cut m holds))
    ∙ one_standing m (λ e i. (in_time c.args.nodes.now c.requires.tree m holds e i).0) c.args.key.now c.args.range.now c.requires.inside (node_in c.leaf-child.result.now).rect c.args.instant
    (subst (λ t. has_point (node_in c.leaf-child.result.now).rect c.args.key.now t ≡ true) c.max.ensures c.leaf-child.ensures.point)

use Rattle.std.proofs.Common.{◌≡◌, ◌∷◌, refl}
use Rattle.values.specs.Events.{put_event}
use Rattle.treenodes.specs.Map.{changes}
use Rattle.treenodes.proofs.ReplacementParents.{weaker}
use Rattle.treegrowth.specs.Places.{SplitsOverfull}
use Rattle.treegrowth.proofs.CommitRoom.{grown, grown_kept, none_splits}
use Rattle.treegrowth.proofs.commit.with_change.Goals as goal

pub returns-then-has_room-clause-kept : goal.returns-then-has_room-clause-kept
returns-then-has_room-clause-kept c =
    let leaf = c.requires.leaf in
    grown_kept c.args.nodes (changes c.args.nodes) c.requires.kept c.args.event c.args.number leaf (c.if-has_room.ensures refl) c.with_event.result (put_event c.args.event (changes c.args.nodes))
    c.with_event.ensures.tree c.with_event.ensures.holds (c.with_event.ensures.taken leaf.leaf.node leaf.leaf.there)

pub returns-then-has_room-clause-splits : goal.returns-then-has_room-clause-splits
returns-then-has_room-clause-splits c = λ rest.
    let nodes = c.args.nodes in
    let leaf = c.requires.leaf in
    let room = c.if-has_room.ensures refl in
    weaker c.with_event.result (λ s. s ≡ grown nodes (changes nodes) c.requires.kept c.args.event c.args.number leaf room) (SplitsOverfull (c.args.event ∷ rest) rest nodes)
    (none_splits nodes (changes nodes) c.requires.kept c.args.event c.args.number leaf room rest) (c.with_event.ensures.taken leaf.leaf.node leaf.leaf.there)

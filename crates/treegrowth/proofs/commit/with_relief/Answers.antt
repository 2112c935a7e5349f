use Rattle.std.proofs.Common.{◌-◌, ◌∷◌, length, get_or, refl, sym, subst, arith}
use Rattle.values.specs.Events.{put_event}
use Rattle.treenodes.specs.Lookup.{IsWayTo}
use Rattle.treenodes.specs.Map.{changes}
use Rattle.treenodes.specs.History.{KeepsHistory}
use Rattle.treenodes.proofs.HistoryKept.{keeps_then}
use Rattle.treenodes.proofs.MapLatest.{latest_put}
use Rattle.treenodes.proofs.ReplacementParents.{weaker}
use Rattle.treegrowth.specs.Places.{IsRelieved, SplitsOverfull}
use Rattle.treegrowth.proofs.CommitTaken.{way_of, leaf_there, ready}
use Rattle.treegrowth.proofs.PlacesKept.{one_put}
use Rattle.treegrowth.proofs.commit.with_relief.Goals as goal

pub with_event-requires-clause-leaf : goal.with_event-requires-clause-leaf
with_event-requires-clause-leaf c =
    let nodes = c.args.nodes in
    let m = changes nodes in
    let kept = c.requires.kept in
    let e = c.args.event in
    let way = c.as_slice-way.result.now in
    let w = subst (IsWayTo nodes e.key e.at) (sym c.as_slice-way.ensures.value) (way_of nodes c.in_ok-numbers.numbers.items c.key.result.now e.key c.at.result e.at c.key.ensures.is c.at.ensures c.in_ok-numbers.ensures.way) in
    let depth = length way - 1 in
    leaf_there nodes kept.tree m kept.holds kept.small e c.args.last c.requires.takes way w depth refl

pub relieved_leaf-requires-clause-way : goal.relieved_leaf-requires-clause-way
relieved_leaf-requires-clause-way c =
    let nodes = c.args.nodes in
    let m = changes nodes in
    let kept = c.requires.kept in
    let e = c.args.event in
    let way = c.as_slice-way.result.now in
    let w = subst (IsWayTo nodes e.key e.at) (sym c.as_slice-way.ensures.value) (way_of nodes c.in_ok-numbers.numbers.items c.key.result.now e.key c.at.result e.at c.key.ensures.is c.at.ensures c.in_ok-numbers.ensures.way) in
    let depth = length way - 1 in
    let r = ready nodes kept.tree m kept.holds kept.small e c.args.last c.requires.takes way w depth refl (get_or way depth 0) refl c.in_ok-nodes.nodes c.in_ok-nodes.ensures.taken c.in_ok-nodes.ensures.accepted in
    r.down

pub relieved_leaf-requires-clause-others : goal.relieved_leaf-requires-clause-others
relieved_leaf-requires-clause-others c =
    let nodes = c.args.nodes in
    let m = changes nodes in
    let kept = c.requires.kept in
    let e = c.args.event in
    let way = c.as_slice-way.result.now in
    let w = subst (IsWayTo nodes e.key e.at) (sym c.as_slice-way.ensures.value) (way_of nodes c.in_ok-numbers.numbers.items c.key.result.now e.key c.at.result e.at c.key.ensures.is c.at.ensures c.in_ok-numbers.ensures.way) in
    let depth = length way - 1 in
    let r = ready nodes kept.tree m kept.holds kept.small e c.args.last c.requires.takes way w depth refl (get_or way depth 0) refl c.in_ok-nodes.nodes c.in_ok-nodes.ensures.taken c.in_ok-nodes.ensures.accepted in
    r.others

pub relieved_leaf-requires-clause-grown : goal.relieved_leaf-requires-clause-grown
relieved_leaf-requires-clause-grown c =
    let nodes = c.args.nodes in
    let m = changes nodes in
    let kept = c.requires.kept in
    let e = c.args.event in
    let way = c.as_slice-way.result.now in
    let w = subst (IsWayTo nodes e.key e.at) (sym c.as_slice-way.ensures.value) (way_of nodes c.in_ok-numbers.numbers.items c.key.result.now e.key c.at.result e.at c.key.ensures.is c.at.ensures c.in_ok-numbers.ensures.way) in
    let depth = length way - 1 in
    let r = ready nodes kept.tree m kept.holds kept.small e c.args.last c.requires.takes way w depth refl (get_or way depth 0) refl c.in_ok-nodes.nodes c.in_ok-nodes.ensures.taken c.in_ok-nodes.ensures.accepted in
    r.grown

pub returns-clause-kept : goal.returns-clause-kept
returns-clause-kept c =
    let m = changes c.args.nodes in
    c.relieved_leaf.ensures.kept (put_event c.args.event m) c.in_ok-nodes.ensures.holds (let more = latest_put c.args.event m in let reached = c.requires.takes.reached in omega (arith, more, reached))

pub returns-clause-history : goal.returns-clause-history
returns-clause-history c =
    weaker c.relieved_leaf.result (KeepsHistory c.in_ok-nodes.nodes) (KeepsHistory c.args.nodes)
    (λ s kept. keeps_then c.args.nodes c.in_ok-nodes.nodes s c.in_ok-nodes.ensures.history kept) c.relieved_leaf.ensures.history

pub returns-clause-splits : goal.returns-clause-splits
returns-clause-splits c = λ rest.
    let nodes = c.args.nodes in
    let m = changes nodes in
    let kept = c.requires.kept in
    let e = c.args.event in
    let way = c.as_slice-way.result.now in
    let w = subst (IsWayTo nodes e.key e.at) (sym c.as_slice-way.ensures.value) (way_of nodes c.in_ok-numbers.numbers.items c.key.result.now e.key c.at.result e.at c.key.ensures.is c.at.ensures c.in_ok-numbers.ensures.way) in
    let depth = length way - 1 in
    let number = get_or way depth 0 in
    let leaf = leaf_there nodes kept.tree m kept.holds kept.small e c.args.last c.requires.takes way w depth refl in
    let made = c.in_ok-nodes.ensures.taken leaf.leaf.node leaf.leaf.there in
    weaker c.relieved_leaf.result (IsRelieved number c.in_ok-nodes.nodes) (SplitsOverfull (e ∷ rest) rest nodes)
    (λ s relieved. one_put nodes number leaf.leaf.node leaf.leaf.there leaf.leaf.is_data leaf.leaf.bottom e leaf.holds rest s (subst (λ p. IsRelieved number p s) made relieved))
    (c.relieved_leaf.ensures.relieved 0)

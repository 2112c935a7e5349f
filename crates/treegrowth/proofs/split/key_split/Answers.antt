use Rattle.std.proofs.Common.{◌-◌, length, get_or, sym, ap, subst, ◌∙◌}
use Rattle.std.proofs.lemmas.List.{get_or_default}
use Rattle.std.proofs.lemmas.Bool.{false≢true}
use Rattle.values.specs.Commits.{max_instant}
use Rattle.keyrange.specs.Cut.{halves_by_key}
use Rattle.treenodes.specs.Lookup.{IsWayTo}
use Rattle.treenodes.specs.Split.{CanSplitKey}
use Rattle.treegrowth.proofs.SplitSteps.{way_down, leaf_at_end, is_leaf, no_key, key_halves}
use Rattle.treegrowth.proofs.split.key_split.Goals as goal

pub returns-then-not-can_split_key-clause-split : goal.returns-then-not-can_split_key-clause-split
returns-then-not-can_split_key-clause-split c = λ n now.
    let nodes = c.args.nodes.now in
    let key = c.args.key.now in
    let way = c.as_slice-way.result.now in
    let w = subst (IsWayTo nodes key max_instant) (sym c.as_slice-way.ensures.value) c.in_ok-numbers.ensures.way in
    let depth = length way - 1 in
    let number = get_or way depth 0 in
    let leaf = leaf_at_end nodes key max_instant way w 0 in
    let tree = c.requires.kept.tree in
    no_key nodes tree key number leaf n now (λ can. false≢true (sym c.if-not-can_split_key.true ∙ c.can_split_key.ensures.1 can))

pub with_split-requires-clause-way : goal.with_split-requires-clause-way
with_split-requires-clause-way c =
    let nodes = c.args.nodes.now in
    let key = c.args.key.now in
    let way = c.as_slice-way.result.now in
    let w = subst (IsWayTo nodes key max_instant) (sym c.as_slice-way.ensures.value) c.in_ok-numbers.ensures.way in
    let depth = length way - 1 in
    let number = get_or way depth 0 in
    let leaf = leaf_at_end nodes key max_instant way w 0 in
    let tree = c.requires.kept.tree in
    way_down nodes key max_instant way w

pub with_split-requires-clause-can : goal.with_split-requires-clause-can
with_split-requires-clause-can c = λ d.
    let nodes = c.args.nodes.now in
    let key = c.args.key.now in
    let way = c.as_slice-way.result.now in
    let w = subst (IsWayTo nodes key max_instant) (sym c.as_slice-way.ensures.value) c.in_ok-numbers.ensures.way in
    let depth = length way - 1 in
    let number = get_or way depth 0 in
    let leaf = leaf_at_end nodes key max_instant way w 0 in
    let tree = c.requires.kept.tree in
    let can = c.can_split_key.ensures.0 c.if-not-can_split_key.false in
    subst (λ i. CanSplitKey nodes i c.in_ok-copy.field-0) (get_or_default way depth 0 d (way_down nodes key max_instant way w).within)
    (subst (CanSplitKey nodes number) (sym c.in_ok-copy.ensures.ok) can)

pub returns-clause-split : goal.returns-clause-split
returns-clause-split c = λ n now.
    let nodes = c.args.nodes.now in
    let key = c.args.key.now in
    let way = c.as_slice-way.result.now in
    let w = subst (IsWayTo nodes key max_instant) (sym c.as_slice-way.ensures.value) c.in_ok-numbers.ensures.way in
    let depth = length way - 1 in
    let number = get_or way depth 0 in
    let leaf = leaf_at_end nodes key max_instant way w 0 in
    let tree = c.requires.kept.tree in
    let can = c.can_split_key.ensures.0 c.if-not-can_split_key.false in
    let h = key_halves nodes tree key number leaf n now can in
    record {
      pair = h.0;
      are = h.1;
      leaves = c.in_ok-with_split.ensures.leaves 0 n h.0 (is_leaf nodes tree key number leaf n now) (ap (halves_by_key n.rect) c.in_ok-copy.ensures.ok ∙ h.1);
    }

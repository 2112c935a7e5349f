use Rattle.std.proofs.Common.{◌-◌, ◌<◌, ◌≤◌, length, get_or, sym, subst, ◌∙◌, arith}
use Rattle.std.proofs.lemmas.List.{get_or_default}
use Rattle.std.proofs.lemmas.Bool.{false≢true}
use Rattle.values.specs.Commits.{max_instant}
use Rattle.treenodes.specs.Lookup.{IsWayTo}
use Rattle.treenodes.specs.Split.{CanSplitTime}
use Rattle.treegrowth.proofs.SplitSteps.{way_down, leaf_at_end, is_leaf, no_time, time_halves, upto_is, upto_none}
use Rattle.treegrowth.proofs.split.time_split.Goals as goal

pub returns-then-last-instant-clause-split : goal.returns-then-last-instant-clause-split
returns-then-last-instant-clause-split c = λ n now. upto_none c.args.last n.rect c.args.instant (λ le. absurd (let lt : c.args.last < c.args.instant = c.if-last-instant.true in omega arith))

pub returns-then-not-can_split_time-clause-split : goal.returns-then-not-can_split_time-clause-split
returns-then-not-can_split_time-clause-split c = λ n now.
    let nodes = c.args.nodes.now in
    let key = c.args.key.now in
    let way = c.as_slice-way.result.now in
    let w = subst (IsWayTo nodes key max_instant) (sym c.as_slice-way.ensures.value) c.in_ok-numbers.ensures.way in
    let depth = length way - 1 in
    let number = get_or way depth 0 in
    let leaf = leaf_at_end nodes key max_instant way w 0 in
    let tree = c.requires.kept.tree in
    upto_none c.args.last n.rect c.args.instant (λ le. no_time nodes tree key number leaf n now c.args.instant (λ can. false≢true (sym c.if-not-can_split_time.true ∙ c.can_split_time.ensures.1 can)))

pub with_split-requires-clause-way : goal.with_split-requires-clause-way
with_split-requires-clause-way c =
    let nodes = c.args.nodes.now in
    let key = c.args.key.now in
    let way = c.as_slice-way.result.now in
    let w = subst (IsWayTo nodes key max_instant) (sym c.as_slice-way.ensures.value) c.in_ok-numbers.ensures.way in
    let depth = length way - 1 in
    let number = get_or way depth 0 in
    let leaf = leaf_at_end nodes key max_instant way w 0 in
    let tree = c.requires.kept.tree in
    way_down nodes key max_instant way w

pub with_split-requires-clause-can : goal.with_split-requires-clause-can
with_split-requires-clause-can c = λ d.
    let nodes = c.args.nodes.now in
    let key = c.args.key.now in
    let way = c.as_slice-way.result.now in
    let w = subst (IsWayTo nodes key max_instant) (sym c.as_slice-way.ensures.value) c.in_ok-numbers.ensures.way in
    let depth = length way - 1 in
    let number = get_or way depth 0 in
    let leaf = leaf_at_end nodes key max_instant way w 0 in
    let tree = c.requires.kept.tree in
    let can = c.can_split_time.ensures.0 c.if-not-can_split_time.false in
    subst (λ i. CanSplitTime nodes i c.args.instant) (get_or_default way depth 0 d (way_down nodes key max_instant way w).within) can

pub returns-clause-split : goal.returns-clause-split
returns-clause-split c = λ n now.
    let nodes = c.args.nodes.now in
    let key = c.args.key.now in
    let way = c.as_slice-way.result.now in
    let w = subst (IsWayTo nodes key max_instant) (sym c.as_slice-way.ensures.value) c.in_ok-numbers.ensures.way in
    let depth = length way - 1 in
    let number = get_or way depth 0 in
    let leaf = leaf_at_end nodes key max_instant way w 0 in
    let tree = c.requires.kept.tree in
    let can = c.can_split_time.ensures.0 c.if-not-can_split_time.false in
    let h = time_halves nodes tree key number leaf n now c.args.instant can in
    let upto : c.args.instant ≤ c.args.last = c.if-last-instant.false in
    record {
      pair = h.0;
      are = upto_is c.args.last n.rect c.args.instant upto ∙ h.1;
      leaves = c.in_ok-with_split.ensures.leaves 0 n h.0 (is_leaf nodes tree key number leaf n now) h.1;
    }

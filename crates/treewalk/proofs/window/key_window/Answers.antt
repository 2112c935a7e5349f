use Rattle.std.proofs.Common.{◌-◌, ◌+◌, ◌∙◌, arith, sym, ap}
use Rattle.keyrange.specs.Rect.{Area}
use Rattle.keyrange.specs.declared.range.TimeRange.{TimeRange}
use Rattle.treewalk.specs.Leaf.{node_in}
use Rattle.treewalk.proofs.ChangeAfterShown.{ends_above}
use Rattle.treewalk.proofs.WindowJoined.{at_last, leaf_added, ends_before, never_ends}
use Rattle.treewalk.proofs.window.key_window.Goals as goal

pub returns-in-None-clause-ok : goal.returns-in-None-clause-ok
returns-in-None-clause-ok g c m holds =
    let to = ap (λ (t : TimeRange). t.to) c.time.ensures.time ∙ ap (λ (r : Area). r.time.to) c.rect.ensures.rect in
    let before = c.loop-until-test.true in
    leaf_added m c.args.key.now c.args.first c.args.last holds.ordered c.loop-until.until c.args.last c.loop-until.invariant.start (omega (arith, before)) (node_in c.leaf-child.result.now).rect c.leaf-child.ensures.point
    (never_ends (node_in c.leaf-child.result.now).rect.time.to c.args.last (sym to ∙ c.in-None.is))
    c.loop-until.found.items c.add_events.new.found.items (node_in c.leaf-child.result.now).events c.in_ok-add_events.ensures.ok (c.loop-until.invariant.are m holds) (c.leaf-child.ensures.cut m holds)
    ∙ at_last m c.args.key.now c.args.first c.args.last c.args.last (omega arith)

pub loop-until-preserved : goal.loop-until-preserved
loop-until-preserved g c =
    let to = ap (λ (t : TimeRange). t.to) c.time.ensures.time ∙ ap (λ (r : Area). r.time.to) c.rect.ensures.rect in
    let ends = sym to ∙ c.in-Some.is in
    let lt = ends_above (node_in c.leaf-child.result.now).rect c.args.key.now (c.loop-until.until + 1) c.in-Some.end c.leaf-child.ensures.point ends in
    let start = c.loop-until.invariant.start in
    record {
      start = omega (arith, lt, start);
      are = λ m holds.
          leaf_added m c.args.key.now c.args.first c.args.last holds.ordered c.loop-until.until (c.in-Some.end - 1) start (omega (arith, lt)) (node_in c.leaf-child.result.now).rect c.leaf-child.ensures.point
          (λ t le. ends_before (node_in c.leaf-child.result.now).rect.time.to c.in-Some.end ends (omega (arith, lt)) t)
          c.loop-until.found.items c.add_events.new.found.items (node_in c.leaf-child.result.now).events c.in_ok-add_events.ensures.ok (c.loop-until.invariant.are m holds) (c.leaf-child.ensures.cut m holds);
    }

use Rattle.std.proofs.Common.{rules, ◌≡◌, Some, refl, sym, subst}
use Rattle.std.specs.BTreeMap.{get}
use Rattle.values.specs.Entity.{entity_of}
use Rattle.values.specs.Order.{key_cmp}
use Rattle.staging.specs.Own.{rows_seen}
use Rattle.staging.specs.Staged.{AreSpansOf}
use Rattle.staging.proofs.OverlapSeen.{read_more, seen_by}
use Rattle.staging.proofs.staged.Staged.overlaps_seen.Goals as goal

pub returns-in-Some-clause-seen : goal.returns-in-Some-clause-seen
returns-in-Some-clause-seen c = λ schema m reads read.
    let entity = c.in_ok-entity.entity in
    let spans = c.in-Some.spans.now in
    let at : get key_cmp c.args.read.now entity ≡ Some spans = search rules in
    seen_by c.args.period.now (rows_seen m c.args.self.now) c.args.key.now c.args.row.now entity spans.items c.deref.result.now c.span-span.result c.overlaps_any.result
    c.overlaps_any.ensures c.deref.ensures.value c.span-span.ensures c.in_ok-entity.ensures.ok (read entity spans at)

pub returns-clause-seen : goal.returns-clause-seen
returns-clause-seen c = λ schema m reads read.
    seen_by c.args.period.now (rows_seen m c.args.self.now) c.args.key.now c.args.row.now (entity_of c.args.key.now) c.in_ok-spans.spans.items c.deref-2.result.now c.span-span.result c.overlaps_any-seen.result
    c.overlaps_any-seen.ensures c.deref-2.ensures.value c.span-span.ensures refl (c.in_ok-spans.ensures.ok schema m reads)

pub returns-clause-kept : goal.returns-clause-kept
returns-clause-kept c = λ schema m reads read.
    let p = c.args.period.now in
    let seen = rows_seen m c.args.self.now in
    let entity = c.in_ok-entity.entity in
    let spans = c.in_ok-spans.spans in
    let own = subst (λ k. AreSpansOf p k seen spans.items) (sym c.in_ok-entity.ensures.ok) (c.in_ok-spans.ensures.ok schema m reads) in
    read_more p seen entity spans (get key_cmp c.args.read.now) (get key_cmp c.insert.new.self) c.in_ok-insert.ensures.updates.0 own read

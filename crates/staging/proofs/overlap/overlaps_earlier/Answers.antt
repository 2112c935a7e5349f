use Rattle.std.proofs.Common.{Some, get_or, sym, ap, ◌∙◌}
use Rattle.values.specs.Order.{is_key}
use Rattle.values.specs.Period.{span_of, overlap}
use Rattle.values.specs.Entity.{entity_of, clash_by}
use Rattle.staging.proofs.OverlapSeen.{one_clear, other_entity, other_time}
use Rattle.staging.proofs.overlap.overlaps_earlier.Goals.{else-is_of_entity-via-then-is_of_entity+else-overlaps, else-is_of_entity-via-else-is_of_entity}
use Rattle.staging.proofs.overlap.overlaps_earlier.Goals as goal

pub loop-i-preserved : goal.loop-i-preserved
loop-i-preserved c =
    let p = c.args.period.now in
    let key = c.args.key.now in
    let row = c.args.row.now in
    let keys = c.args.keys.now in
    let rows = c.args.rows.now in
    let i = c.loop-i.i in
    let k = c.index-keys-i.result in
    record {
      left = elim c.else-is_of_entity.branch [
        | else-is_of_entity-via-then-is_of_entity+else-overlaps w ↦
            one_clear (clash_by (Some p) (key, row)) keys rows i k w.index-rows-i.result c.loop-i-test.true c.requires
            (other_time p (key, row) (get_or keys i k, get_or rows i w.index-rows-i.result)
            (ap (λ r. overlap (span_of p row) (span_of p r)) (sym w.index-rows-i.is) ∙ (λ j. overlap (sym c.span-span.ensures j) (sym w.span.ensures j)) ∙ sym w.overlaps.ensures ∙ w.if-overlaps.false))
            ∙ c.loop-i.invariant.left
        | else-is_of_entity-via-else-is_of_entity w ↦
            one_clear (clash_by (Some p) (key, row)) keys rows i k row c.loop-i-test.true c.requires
            (other_entity p (key, row) (get_or keys i k, get_or rows i row) (ap (λ k. is_key (entity_of key) (entity_of k)) (sym c.index-keys-i.is) ∙ sym c.is_of_entity.ensures ∙ w.if-is_of_entity.false))
            ∙ c.loop-i.invariant.left
      ];
      span_is = c.loop-i.invariant.span_is;
    }

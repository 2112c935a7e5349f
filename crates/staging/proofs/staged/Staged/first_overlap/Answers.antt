use Rattle.std.proofs.Common.{◌≡◌, ◌≤◌, ◌<◌, ◌||◌, true, false, Some, length, arith, sym, ap, ◌∙◌}
use Rattle.std.proofs.lemmas.List.{length-map}
use Rattle.std.specs.List.{list_any}
use Rattle.values.specs.Entity.{clash_by}
use Rattle.values.specs.Writes.{key_of}
use Rattle.staging.specs.Own.{rows_seen}
use Rattle.staging.specs.Staged.{keyed_rows}
use Rattle.staging.proofs.OverlapSeen.{overlap_by, overlap_end, no_overlaps, either_first, either_second}
use Rattle.staging.proofs.staged.Staged.first_overlap.Goals.{then-seen-via-then-seen, then-seen-via-else-seen+then-earlier}
use Rattle.staging.proofs.staged.Staged.first_overlap.Goals as goal

pub returns-in_default-clause-ok : goal.returns-in_default-clause-ok
returns-in_default-clause-ok c = λ schema m reads. sym (no_overlaps c.args.table.now (rows_seen m c.args.self.now) c.args.rows.now c.in_default.is)

pub returns-then-seen-clause-ok : goal.returns-then-seen-clause-ok
returns-then-seen-clause-ok c = λ schema m reads.
    let key = c.index-keys-i.result in
    let seen = c.in_ok-seen.seen in
    let earlier = c.overlaps_earlier-earlier.result in
    let row = c.index-rows-i.result in
    let same : length c.args.keys.now ≡ length c.args.rows.now = ap length c.requires.keys ∙ length-map c.args.rows.now (key_of c.args.table.now) in
    let there : c.loop-i.i < length c.args.rows.now = omega (arith, c.loop-i-test.true, same) in
    let either : (seen || earlier) ≡ true = elim c.then-seen.branch [
      | then-seen-via-then-seen w ↦ either_first seen earlier w.if-seen.true
      | then-seen-via-else-seen+then-earlier w ↦ either_second seen earlier w.if-seen.false ∙ w.if-earlier.true
    ] in
    ap Some c.in_ok-clone.ensures.cases
    ∙ sym (overlap_by c.args.table.now c.in-Some.period (rows_seen m c.args.self.now) c.args.keys.now c.args.rows.now c.requires.keys c.loop-i.i key row there c.index-keys-i.is c.index-rows-i.is
    seen earlier true (c.in_ok-seen.ensures.seen schema m reads (c.loop-i.invariant.read schema m reads))
    (c.overlaps_earlier-earlier.ensures ∙ (λ j. list_any (clash_by (Some c.in-Some.period) (key, row)) (keyed_rows (c.split_at.ensures.front j) (c.split_at-in-loop-i.ensures.front j))))
    either)
    ∙ c.loop-i.invariant.found schema m reads

pub loop-i-preserved : goal.loop-i-preserved
loop-i-preserved c =
    let key = c.index-keys-i.result in
    let row = c.index-rows-i.result in
    let seen = c.in_ok-seen.seen in
    let earlier = c.overlaps_earlier-earlier.result in
    let same : length c.args.keys.now ≡ length c.args.rows.now = ap length c.requires.keys ∙ length-map c.args.rows.now (key_of c.args.table.now) in
    let there : c.loop-i.i < length c.args.rows.now = omega (arith, c.loop-i-test.true, same) in
    record {
      found = λ schema m reads.
          sym (overlap_by c.args.table.now c.in-Some.period (rows_seen m c.args.self.now) c.args.keys.now c.args.rows.now c.requires.keys c.loop-i.i key row there c.index-keys-i.is c.index-rows-i.is
          seen earlier false (c.in_ok-seen.ensures.seen schema m reads (c.loop-i.invariant.read schema m reads))
          (c.overlaps_earlier-earlier.ensures ∙ (λ j. list_any (clash_by (Some c.in-Some.period) (key, row)) (keyed_rows (c.split_at.ensures.front j) (c.split_at-in-loop-i.ensures.front j))))
          (either_second seen earlier c.if-seen.false ∙ c.if-earlier.false))
          ∙ c.loop-i.invariant.found schema m reads;
      read = λ schema m reads. c.in_ok-seen.ensures.kept schema m reads (c.loop-i.invariant.read schema m reads);
    }

pub returns-clause-ok : goal.returns-clause-ok
returns-clause-ok c = λ schema m reads.
    let table = c.args.table.now in
    let rows = c.args.rows.now in
    let same : length c.args.keys.now ≡ length rows = ap length c.requires.keys ∙ length-map rows (key_of table) in
    let past : length rows ≤ c.loop-i.i = omega (arith, c.loop-i-test.false, same) in
    sym (overlap_end table c.in-Some.period (rows_seen m c.args.self.now) rows c.loop-i.i past) ∙ c.loop-i.invariant.found schema m reads

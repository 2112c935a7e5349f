use Rattle.std.proofs.Common.{get_or, sym}
use Rattle.std.proofs.lemmas.Grind.{get_or_default_zero}
use Rattle.statement.proofs.WriterPrefixes.{each_taken, each_stopped}
use Rattle.dumping.specs.Change.{insertion_text}
use Rattle.dumping.proofs.change.Changes.print_insertions.Goals as goal

pub returns-in_err-print_insertion : goal.returns-in_err-print_insertion
returns-in_err-print_insertion g c =
    each_stopped _ _ _ _ _ (insertion_text c.args.self.now.tables.now c.args.self.now.events.now) c.args.places.now c.loop-place.place-index (get_or c.args.places.now c.loop-place.place-index 0)
    c.from_residual.ensures.1 c.loop-place-test.true (sym (get_or_default_zero c.args.places.now c.loop-place.place-index _ c.loop-place-test.true)) c.loop-place.invariant c.in_err-print_insertion.ensures

pub loop-place-preserved : goal.loop-place-preserved
loop-place-preserved g c =
    each_taken _ _ _ (insertion_text c.args.self.now.tables.now c.args.self.now.events.now) c.args.places.now c.loop-place.place-index (get_or c.args.places.now c.loop-place.place-index 0)
    c.loop-place-test.true (sym (get_or_default_zero c.args.places.now c.loop-place.place-index _ c.loop-place-test.true)) c.loop-place.invariant c.in_ok-print_insertion.ensures

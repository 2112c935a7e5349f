use Rattle.dumping.proofs.TransactionPieces.{place_stopped, place_taken}
use Rattle.dumping.proofs.change.Changes.widen_all.Goals as goal

pub returns-in_err-widen-clause-text : goal.returns-in_err-widen-clause-text
returns-in_err-widen-clause-text g c =
    place_stopped c.args.self.now.tables.now c.args.self.now.events.now c.args.places.now _ _ _ _ _ c.args.widths.now c.loop-place.widths c.loop-place.place-index
    c.from_residual.ensures.1 c.loop-place-test.true c.loop-place.invariant c.in_err-widen.ensures.text

pub loop-place-preserved : goal.loop-place-preserved
loop-place-preserved g c =
    place_taken c.args.self.now.tables.now c.args.self.now.events.now c.args.places.now _ _ _ c.args.widths.now c.loop-place.widths c.widen.new.widths c.loop-place.place-index
    c.loop-place-test.true c.loop-place.invariant c.in_ok-widen.ensures.text c.in_ok-widen.ensures.widths

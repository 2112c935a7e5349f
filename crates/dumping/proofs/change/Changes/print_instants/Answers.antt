use Rattle.std.proofs.Common.{◌∙◌, ap, sym}
use Rattle.dumping.specs.Order.{instant_at}
use Rattle.dumping.proofs.HistoryRuns.{all_instants, instant_stopped, instant_taken}
use Rattle.dumping.proofs.change.Changes.print_instants.Goals as goal

pub returns-in_err-print_instant-clause-text : goal.returns-in_err-print_instant-clause-text
returns-in_err-print_instant-clause-text g c = λ instants runs.
    instant_stopped c.args.self.now.tables.now c.args.self.now.events.now instants _ _ _ _ _ c.args.widths.now c.loop-place.widths c.loop-place.rest.now
    c.instant_at-at.result c.run_length.result c.split_at.result.0.now c.split_at.result.1.now c.from_residual.ensures.1 (c.loop-place.invariant instants runs) c.in-Some.ensures.item.3.0
    (c.instant_at-at.ensures ∙ ap (instant_at c.args.self.now.events.now) (c.in-Some.ensures.item.3.1 0)) c.run_length.ensures.is c.split_at.ensures.front c.split_at.ensures.back c.in_err-print_instant.ensures.text

pub loop-place-preserved : goal.loop-place-preserved
loop-place-preserved g c = λ instants runs.
    instant_taken c.args.self.now.tables.now c.args.self.now.events.now instants _ _ _ c.args.widths.now c.loop-place.widths c.print_instant.new.widths c.loop-place.rest.now
    c.instant_at-at.result c.run_length.result c.split_at.result.0.now c.split_at.result.1.now (c.loop-place.invariant instants runs) c.in-Some.ensures.item.3.0
    (c.instant_at-at.ensures ∙ ap (instant_at c.args.self.now.events.now) (c.in-Some.ensures.item.3.1 0)) c.run_length.ensures.is c.split_at.ensures.front c.split_at.ensures.back c.in_ok-print_instant.ensures.text c.in_ok-print_instant.ensures.widths

pub returns-clause-text : goal.returns-clause-text
returns-clause-text g c = λ instants runs.
    (all_instants c.args.self.now.tables.now c.args.self.now.events.now instants _ _ c.args.widths.now c.loop-place.widths c.loop-place.rest.now (c.loop-place.invariant instants runs) (sym c.in_default.ensures.value)).0

pub returns-clause-widths : goal.returns-clause-widths
returns-clause-widths g c = λ instants runs.
    (all_instants c.args.self.now.tables.now c.args.self.now.events.now instants _ _ c.args.widths.now c.loop-place.widths c.loop-place.rest.now (c.loop-place.invariant instants runs) (sym c.in_default.ensures.value)).1

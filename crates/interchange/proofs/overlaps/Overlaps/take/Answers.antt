use Rattle.std.proofs.Common.{◌∷◌, ◌++◌, [], sym, ◌∙◌, subst}
use Rattle.values.specs.declared.key.Key.{Key}
use Rattle.values.specs.Writes.{keyed}
use Rattle.interchange.specs.Overlaps.{HasSpans}
use Rattle.interchange.proofs.InsertionCome.{on_both}
use Rattle.interchange.proofs.OverlapsFound.{spans_after, spans_taken, spans_without}
use Rattle.interchange.proofs.overlaps.Overlaps.take.Goals as goal

pub returns-in_default-clause-ok : goal.returns-in_default-clause-ok
returns-in_default-clause-ok c = λ rows has. spans_without c.args.table.now.period rows (keyed c.args.table.now c.args.row.now) c.args.self.now c.in_default.is has

pub returns-then-is_some-clause-ok : goal.returns-then-is_some-clause-ok
returns-then-is_some-clause-ok c = λ rows has. spans_after c.args.table.now.period rows (keyed c.args.table.now c.args.row.now) c.args.self.now (sym c.is_some.ensures ∙ c.if-is_some.true) has

pub returns-clause-ok : goal.returns-clause-ok
returns-clause-ok c = on_both c.take_span.result c.take_span.ensures.first c.take_span.ensures.kept (λ first kept rows has.
    subst (λ (k : Key). HasSpans c.args.table.now.period (rows ++ (k, c.args.row.now) ∷ []) c.take_span.new.self) c.in_ok-key.ensures.ok
    (spans_taken c.args.table.now.period c.in-Some.period rows (c.in_ok-key.key, c.args.row.now) c.span.result c.args.self.now c.take_span.new.self c.in-Some.is (sym c.is_some.ensures ∙ c.if-is_some.false) c.span.ensures first kept has))

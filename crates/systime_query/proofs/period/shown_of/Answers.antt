use Rattle.std.proofs.Common.{rules, ◌≡◌, true, ap, sym, ◌∙◌}
use Rattle.values.specs.Event.{Event}
use Rattle.values.specs.Versions.{selects}
use Rattle.systime_query.proofs.PeriodShown.{shown_is}
use Rattle.systime_query.proofs.period.shown_of.Goals as goal

pub returns-in-Some-clause-ok : goal.returns-in-Some-clause-ok
returns-in-Some-clause-ok c = λ h.
    let s = c.args.search.now in
    let selected : selects c.args.form c.at-from.result c.args.to ≡ true = search rules in
    shown_is s.table c.args.form s.keys c.args.event.now c.args.to c.in-Some.row c.at-from.result selected
    (c.at-from.ensures ∙ ap (λ (e : Event). e.at) c.event.ensures)
    (sym c.in-Some.is ∙ c.in_ok-row_in.ensures.ok h)

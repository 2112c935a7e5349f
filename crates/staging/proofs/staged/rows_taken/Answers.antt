use Rattle.std.proofs.Common.{rules, ◌≡◌, ◌<◌, ◌++◌, [], append-nil, ◌∙◌, ap, get_or, length, subst, sym}
use Rattle.std.specs.List.{cons_option}
use Rattle.values.specs.Event.{Event}
use Rattle.searchrange.specs.Search.{IsInSearch, entry_taken}
use Rattle.staging.proofs.StagedTaken.{one_more, put_short}
use Rattle.staging.proofs.staged.rows_taken.Goals.{in-Some+in_ok-push, in_default}
use Rattle.staging.proofs.staged.rows_taken.Goals as goal

pub loop-event-preserved : goal.loop-event-preserved
loop-event-preserved c =
    let item = c.event-item.result in
    let s = c.args.search.now in
    let within : c.loop-event.event-index < length c.args.events.now = search rules in
    let at : item ≡ get_or c.args.events.now c.loop-event.event-index item = search rules in
    let is : c.match-branch-3.found.items ≡ c.loop-event.found.items ++ cons_option c.in_ok-entry.field-0 [] =
    elim c.match-branch-3.branch [
      | in-Some+in_ok-push w ↦ ap (λ v. v.items) w.found-is ∙ w.in_ok-push.ensures.items ∙ sym (ap (λ o. c.loop-event.found.items ++ cons_option o []) w.in-Some.is)
      | in_default w ↦ ap (λ v. v.items) w.found-is ∙ sym (append-nil c.loop-event.found.items) ∙ sym (ap (λ o. c.loop-event.found.items ++ cons_option o []) w.in_default.is)
    ] in
    record {
      taken = λ all.
          one_more s.table s.keys s.range c.args.events.now c.loop-event.event-index item c.loop-event.found.items c.match-branch-3.found.items c.in_ok-entry.field-0 within at
          (subst (λ (e : Event). IsInSearch s.table s.range e.key → c.in_ok-entry.field-0 ≡ entry_taken s.table s.keys e) c.event.ensures c.in_ok-entry.ensures.ok)
          is all
          ∙ c.loop-event.invariant.taken all;
      short = put_short c.loop-event.found.items c.match-branch-3.found.items c.in_ok-entry.field-0 is c.loop-event.invariant.short c.in_ok-entry.ensures.short;
    }

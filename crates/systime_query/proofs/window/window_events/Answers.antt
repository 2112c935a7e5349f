use Rattle.std.proofs.Common.{[], sym, ap, ◌∙◌}
use Rattle.std.proofs.lemmas.List.{append-nil}
use Rattle.staging.specs.tsbtree.View.{events}
use Rattle.systime_query.proofs.WindowListed.{window_listed, some_later, no_later}
use Rattle.systime_query.proofs.window.window_events.Goals as goal
use Rattle.systime_query.proofs.window.window_events.Goals.{then-first-last+in_ok-later+in_ok-append, else-first-last}

pub returns-clause-ok : goal.returns-clause-ok
returns-clause-ok g c = elim c.if-first-last.branch [
  | then-first-last+in_ok-later+in_ok-append w ↦
      window_listed (events c.args.view.now) c.args.range.now c.args.first c.args.last c.in_ok-found.found.items w.in_ok-later.later.items c.if-first-last.found.items c.sort_events.new.events.items c.in_ok-found.ensures.ordered c.in_ok-found.ensures.ok
      (some_later (events c.args.view.now) c.args.range.now c.args.first c.args.last w.in_ok-later.later.items w.in_ok-later.ensures.ok) (ap (λ v. v.items) w.found-is ∙ w.in_ok-append.ensures.items)
      c.in_ok-sort_events.ensures.sorted c.in_ok-sort_events.ensures.from c.in_ok-sort_events.ensures.kept
  | else-first-last w ↦
      window_listed (events c.args.view.now) c.args.range.now c.args.first c.args.last c.in_ok-found.found.items [] c.if-first-last.found.items c.sort_events.new.events.items c.in_ok-found.ensures.ordered c.in_ok-found.ensures.ok
      (no_later (events c.args.view.now) c.args.range.now c.args.first c.args.last w.if-first-last.false) (ap (λ v. v.items) w.found-is ∙ sym (append-nil c.in_ok-found.found.items))
      c.in_ok-sort_events.ensures.sorted c.in_ok-sort_events.ensures.from c.in_ok-sort_events.ensures.kept
]

use Rattle.std.proofs.Common.{◌≡◌, ◌-◌, ◌∙◌, drop, length, subst, take}
use Rattle.values.specs.Event.{Event}
use Rattle.staging.specs.tsbtree.View.{events}
use Rattle.systime_query.specs.Window.{end_of}
use Rattle.systime_query.proofs.StandingTaken.{next_inside, next_shown}
use Rattle.systime_query.proofs.window.shown_in.Goals as goal

pub loop-rest-preserved : goal.loop-rest-preserved
loop-rest-preserved c =
    let s = c.args.search.now in
    let rest = c.loop-rest.rest.now in
    let item = c.event-item.result in
    record {
      inside = λ all. next_inside s.table s.range rest item c.in-len1-up.len_at_least c.event-item.is (c.loop-rest.invariant.inside all);
      are = λ all.
          next_shown s.table s.range rest item c.in-len1-up.len_at_least c.event-item.is (c.loop-rest.invariant.inside all) (events c.args.view.now) c.args.last c.args.form s.keys c.end_of-end.result c.loop-rest.shown.items c.push_some.new.list.items c.in_ok-shown_of.field-0
          (subst (λ (e : Event). c.end_of-end.result ≡ end_of (events c.args.view.now) c.args.last e (take (length rest - 1) (drop 1 rest))) c.event.ensures c.end_of-end.ensures)
          c.in_ok-shown_of.ensures.ok
          c.in_ok-push_some.ensures
          ∙ c.loop-rest.invariant.are all;
    }

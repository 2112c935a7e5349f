use Rattle.std.proofs.Common.{◌∙◌, ◌++◌, [], ◌∷◌, sym, ap, filter}
use Rattle.std.proofs.lemmas.List.{append-nil}
use Rattle.eventlist.specs.Listing.{stands_at}
use Rattle.eventlist.specs.KeyGroup.{first_key}
use Rattle.eventlist.proofs.KeyGroupJumps.{stand_step}
use Rattle.eventlist.proofs.listing.all_standing.Goals as goal

pub loop-rest-preserved-in_ok-push : goal.loop-rest-preserved-in_ok-push
loop-rest-preserved-in_ok-push c = record {
  to_come =
      stand_step (filter (stands_at c.args.events.now c.args.instant) c.args.events.now) c.loop-rest.found.items c.push.new.self.items c.loop-rest.rest.now c.split_first_key.result.0.now c.split_first_key.result.1.now
      (c.in-Some.event.now ∷ []) (first_key c.loop-rest.rest.now) c.args.instant c.split_first_key.ensures.whole c.split_first_key.ensures.one_key c.split_first_key.ensures.others c.in-Some.ensures c.loop-rest.invariant.to_come
      (c.in_ok-push.ensures.items ∙ ap (λ e. c.loop-rest.found.items ++ e ∷ []) c.in_ok-share.ensures.ok);
  sorted = c.split_first_key.ensures.back_sorted;
}

pub loop-rest-preserved : goal.loop-rest-preserved
loop-rest-preserved c = record {
  to_come =
      stand_step (filter (stands_at c.args.events.now c.args.instant) c.args.events.now) c.loop-rest.found.items c.loop-rest.found.items c.loop-rest.rest.now c.split_first_key.result.0.now c.split_first_key.result.1.now
      [] (first_key c.loop-rest.rest.now) c.args.instant c.split_first_key.ensures.whole c.split_first_key.ensures.one_key c.split_first_key.ensures.others c.in_default.ensures c.loop-rest.invariant.to_come
      (sym (append-nil c.loop-rest.found.items));
  sorted = c.split_first_key.ensures.back_sorted;
}

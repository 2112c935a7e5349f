use Rattle.std.proofs.Common.{rules, subst}
use Rattle.std.specs.List.Sorted.{IsPermutation}
use Rattle.std.proofs.lemmas.Fn.{always_returns_same}
use Rattle.dumping.specs.Order.{instant_at}
use Rattle.dumping.proofs.order.places_by_instant.Goals as goal

pub returns : goal.returns
returns c = record {
  all = subst (λ l. IsPermutation l c.sort_unstable_by_key.new.self.items) c.in_ok-places.ensures c.sort_unstable_by_key.ensures.permutation;
  in_order = c.sort_unstable_by_key.ensures.sorted (λ place. (instant_at c.args.events.now place, place)) (always_returns_same _ _ _ (λ a r k q. search rules));
}

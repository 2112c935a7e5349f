use Rattle.std.proofs.Common.{◌≡◌, List, sym, subst, refl}
use Rattle.std.specs.Prelude.{Contains}
use Rattle.std.specs.Cmp.{eq_by_cmp_equiv}
use Rattle.std.specs.List.{dedup}
use Rattle.std.specs.List.Sorted.{IsStrictlySortedBy}
use Rattle.std.specs.Ordering.{eq_by_cmp}
use Rattle.std.proofs.lemmas.List.Filters.{dedup_is}
use Rattle.std.proofs.lemmas.List.Kept.{IsStrictlySortedBy-dedup, Contains-from_dedup, Any-dedup}
use Rattle.std.proofs.lemmas.List.Sorted.{Contains-permutation, IsPermutation-sym}
use Rattle.values.specs.Event.{Event}
use Rattle.values.specs.Events.{event_cmp}
use Rattle.values.specs.EventOrder.{event_total}
use Rattle.eventlist.specs.Sort.{HasTie}
use Rattle.eventlist.proofs.sort.sort_events.Goals as goal

deduped : (c : goal.After-dedup) → c.dedup.new.self.items ≡ dedup (eq_by_cmp event_cmp) c.sort.new.self.items
deduped c = dedup_is (eq_by_cmp event_cmp) c.sort.new.self.items c.dedup.new.self.items c.dedup.ensures.filtered

pub returns-clause-sorted : goal.returns-clause-sorted
returns-clause-sorted c =
    subst (IsStrictlySortedBy event_cmp) (sym (deduped c)) (IsStrictlySortedBy-dedup event_total (λ x y. refl) c.sort.new.self.items c.in_ok-sort.ensures.sorted)

pub returns-clause-from : goal.returns-clause-from
returns-clause-from c e there =
    Contains-permutation c.sort.new.self.items c.args.events.now.items e (IsPermutation-sym _ _ c.sort.ensures.permutation)
    (Contains-from_dedup (eq_by_cmp event_cmp) c.sort.new.self.items e (subst (λ (l : List Event). Contains l e) (deduped c) there))

pub returns-clause-kept : goal.returns-clause-kept
returns-clause-kept c e there =
    subst (HasTie e) (sym (deduped c))
    (Any-dedup (eq_by_cmp_equiv event_total) c.sort.new.self.items e (Contains-permutation c.args.events.now.items c.sort.new.self.items e c.sort.ensures.permutation there))

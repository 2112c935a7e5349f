-- Of the events of a range of keys their instants alone decide which a rectangle holds.
use Rattle.std.proofs.Common.{◌≡◌, ℕ, Bool, true, false, ◌&&◌, ◌||◌, List, refl, sym, ap, ◌∙◌}
use Rattle.std.specs.Prelude.{is_some, nat_lt, not}
use Rattle.std.specs.List.{filter, list_any}
use Rattle.std.proofs.lemmas.Bool.Decides.{Decides-like, same_from_decides}
use Rattle.values.specs.Event.{Event}
use Rattle.keyrange.specs.declared.range.KeyRange.{KeyRange}
use Rattle.keyrange.specs.declared.range.TimeRange.{TimeRange}
use Rattle.keyrange.specs.Rect.{Area}
use Rattle.keyrange.specs.Range.{is_key_in, is_time_in}
use Rattle.eventlist.specs.Overtaking.{overtakes}
use Rattle.datanode.specs.Cut.{is_carried, is_held_in, in_cut, cut}
use Rattle.datanode.proofs.CutMembers.{filter_alike, filter_twice, In-filter, In-from_filter}
use Rattle.datanode.proofs.CutLaws.{overtaken_decides}

module _ (keys : KeyRange) (m : List Event) where
  abbrev of : Event → Bool
  of e = is_key_in keys e.key

  -- an event is overtaken by one of its own key
  overtaken_in_range : (t : ℕ) (e : Event) → of e ≡ true → list_any (overtakes e t) (filter of m) ≡ list_any (overtakes e t) m
  overtaken_in_range t e own = same_from_decides _ _
      (Decides-like _ (λ o. (o.0, (In-from_filter of m o.0 o.1).0, o.2)) (λ o. (o.0, In-filter of m o.0 o.1 (ap (is_key_in keys) (sym o.2.of_key) ∙ own), o.2)) (overtaken_decides (filter of m) e t))
      (overtaken_decides m e t)

  carried_in_range : (t : ℕ) (e : Event) → of e ≡ true → is_carried (filter of m) t e ≡ is_carried m t e
  unfolding is_carried
  carried_in_range t e own = ap (λ b. nat_lt e.at t && (is_some e.row && not b)) (overtaken_in_range t e own)

  held_in_range : (time : TimeRange) (e : Event) (b : Bool) → of e ≡ b → (b && is_held_in time (filter of m) e) ≡ (b && is_held_in time m e)
  held_in_range time e true own = ap (λ b. is_time_in time e.at || b) (carried_in_range time.from e own)
  held_in_range time e false own = refl

pub cut_by_range : (r : Area) (m : List Event) → filter (is_held_in r.time (filter (λ e. is_key_in r.keys e.key) m)) (filter (λ e. is_key_in r.keys e.key) m) ≡ cut r m
unfolding in_cut
cut_by_range r m =
    filter_twice (of r.keys m) (is_held_in r.time (filter (of r.keys m) m)) m ∙ filter_alike _ (in_cut r m) m (λ e i. held_in_range r.keys m r.time e (is_key_in r.keys e.key) refl)

-- over the code's terms
pub cut_by : (r : Area) (m of_keys : List Event) (keys : KeyRange) (time : TimeRange) → of_keys ≡ filter (λ e. is_key_in keys e.key) m → keys ≡ r.keys → time ≡ r.time → filter (is_held_in time of_keys) of_keys ≡ cut r m
cut_by r m of_keys keys time are same_keys same_time =
    (λ i. filter (is_held_in (same_time i) (all i)) (all i)) ∙ cut_by_range r m
  where
    all : of_keys ≡ filter (λ e. is_key_in r.keys e.key) m
    all = are ∙ ap (λ (k : KeyRange). filter (λ e. is_key_in k e.key) m) same_keys

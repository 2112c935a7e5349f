-- Which row stands at an instant is seen by the events of a range up to it.
use Rattle.std.proofs.Common.{◌≡◌, ℕ, ◌≤◌, Bool, true, List, sym, ap, ◌∙◌, arith, nat_le}
use Rattle.std.specs.Prelude.{◌&&◌}
use Rattle.std.specs.List.{filter}
use Rattle.std.proofs.lemmas.Bool.{and_from, le-leb}
use Rattle.std.proofs.lemmas.Bool.Decides.{Decides-and, Decides-like, same_from_decides}
use Rattle.values.specs.Event.{Event}
use Rattle.keyrange.specs.declared.range.KeyRange.{KeyRange}
use Rattle.keyrange.specs.Range.{is_key_in}
use Rattle.eventlist.specs.Listing.{events_in, stands_at, standing}
use Rattle.datanode.proofs.CutMembers.{In-filter, In-from_filter, filter_alike, filter_twice}
use Rattle.datanode.proofs.CutLaws.{itself}
use Rattle.treewalk.proofs.ListingStanding.{Stands, stands_decides}

module _ (es : List Event) (range : KeyRange) (t : ℕ) where
  abbrev early : Event → Bool
  early e = is_key_in range e.key && (nat_le 0 e.at && nat_le e.at t)

  abbrev Shown : Event → Type 0
  Shown e = (is_key_in range e.key ≡ true) × Stands es t e

  is_early : (e : Event) → is_key_in range e.key ≡ true → e.at ≤ t → early e ≡ true
  is_early e key le = and_from _ _ key (and_from _ _ (le-leb 0 e.at (omega arith)) (le-leb e.at t le))

  into : (e : Event) → is_key_in range e.key ≡ true → Stands (filter early es) t e → Stands es t e
  into e key s = record {
    until = s.until;
    row = s.row;
    last = λ o. s.last (o.0, In-filter early es o.0 o.1 (is_early o.0 (ap (is_key_in range) (sym o.2.of_key) ∙ key) o.2.until), o.2);
  }

  from : (e : Event) → Stands es t e → Stands (filter early es) t e
  from e s = record { until = s.until; row = s.row; last = λ o. s.last (o.0, (In-from_filter early es o.0 o.1).0, o.2) }

  same : (e : Event) → (early e && (is_key_in range e.key && stands_at (filter early es) t e)) ≡ (is_key_in range e.key && stands_at es t e)
  same e = same_from_decides _ _
      (Decides-like _ (λ h. (h.1.0, into e h.1.0 h.1.1)) (λ (h : Shown e). (is_early e h.0 h.1.until, (h.0, from e h.1)))
      (Decides-and _ _ (itself (early e)) (Decides-and _ _ (itself (is_key_in range e.key)) (stands_decides (filter early es) t e))))
      (Decides-and _ _ (itself (is_key_in range e.key)) (stands_decides es t e))

  pub standing_early : standing (events_in es range 0 t) (is_key_in range) t ≡ standing es (is_key_in range) t
  standing_early = filter_twice early (λ e. is_key_in range e.key && stands_at (filter early es) t e) es
      ∙ filter_alike (λ e. early e && (is_key_in range e.key && stands_at (filter early es) t e)) (λ e. is_key_in range e.key && stands_at es t e) es (λ e i. same e)

-- The steps of listing in place.
use Rattle.std.proofs.Common.{◌≡◌, ℕ, ◌+◌, ◌-◌, ◌<◌, List, [], ◌++◌, Option, Some, None, ap, sym, ◌∙◌, append_assoc, append-nil}
use Rattle.values.specs.Event.{Event}
use Rattle.values.specs.RowReading.{Parsed}
use Rattle.values.proofs.RowReadingParsed.{left}
use Rattle.keyrange.specs.declared.range.KeyRange.{KeyRange}
use Rattle.blocks.specs.Listing.{next_asked, asked_of, events_asked}

module _ (range : KeyRange) (from to : ℕ) where
  abbrev more : ℕ → Parsed (Option Event) → List Event
  more n None = []
  more n (Some (found, left)) = asked_of found ++ events_asked n left range from to

  turns : (n i : ℕ) (bytes : List ℕ) (t : Parsed (Option Event)) → i < n → next_asked range from to bytes ≡ t
      → events_asked (n - i) bytes range from to ≡ more (n - (i + 1)) t
  turns n i bytes t h is = ap (λ k. events_asked k bytes range from to) (left n i h) ∙ ap (more (n - (i + 1))) is

  -- no more is read
  pub listing_ends : (n i : ℕ) (bytes : List ℕ) (found : List Event) → i < n → next_asked range from to bytes ≡ None
      → found ≡ found ++ events_asked (n - i) bytes range from to
  listing_ends n i bytes found h is =
      sym (append-nil found) ∙ ap (λ es. found ++ es) (sym (turns n i bytes None h is))

  pub listing_goes_on : (n i : ℕ) (bytes rest : List ℕ) (found : List Event) (o : Option Event) → i < n → next_asked range from to bytes ≡ Some (o, rest)
      → (found ++ asked_of o) ++ events_asked (n - (i + 1)) rest range from to ≡ found ++ events_asked (n - i) bytes range from to
  listing_goes_on n i bytes rest found o h is =
      append_assoc found (asked_of o) (events_asked (n - (i + 1)) rest range from to)
      ∙ ap (λ es. found ++ es) (sym (turns n i bytes (Some (o, rest)) h is))

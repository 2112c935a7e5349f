-- The steps of reading in place.
use Rattle.std.proofs.Common.{◌≡◌, ℕ, ◌+◌, ◌-◌, ◌<◌, List, Bool, false, Option, Some, None, ap, ◌∙◌, if◌then◌else◌}
use Rattle.std.specs.Prelude.{option_and_then}
use Rattle.std.specs.Borrow.{Bor}
use Rattle.values.specs.RowReading.{Parsed}
use Rattle.values.proofs.RowReadingParsed.{left}
use Rattle.keyrange.specs.Range.{is_below}
use Rattle.blocks.specs.Field.{taken_then}
use Rattle.blocks.specs.Event.{point_from}
use Rattle.blocks.specs.Lookup.{past_value, past_values, past_row_field, is_wanted, event_place, first_place}

pub values_step : (n i : ℕ) (bytes : List ℕ) (o : Option (List ℕ)) → i < n → past_value bytes ≡ o
    → past_values (n - i) bytes ≡ option_and_then (past_values (n - (i + 1))) o
values_step n i bytes o h is = ap (λ k. past_values k bytes) (left n i h) ∙ ap (option_and_then (past_values (n - (i + 1)))) is

-- what a reader holds, as what was taken
abbrev pub as_taken : Option (ℕ × Bor (List ℕ)) → Parsed ℕ
as_taken None = None
as_taken (Some x) = Some (x.0, x.1.now)

module _ (key : List ℕ) (low high : ℕ) where
  -- an event whose key is not behind
  abbrev pub passed : ℕ → Parsed ℕ → (List ℕ × ℕ) → List ℕ → Option (List ℕ) → Parsed ℕ
  passed n found point row o = elim o [
    | None ↦ None
    | Some left ↦ event_place n left key low high (if is_wanted key low high point then Some (point.1, row) else found)
  ]

  abbrev pub asked : ℕ → Parsed ℕ → (List ℕ × ℕ) → List ℕ → Bool → Parsed ℕ
  asked n found point row t = if t then found else passed n found point row (past_row_field row)

  abbrev pub turned : ℕ → Parsed ℕ → Parsed (List ℕ × ℕ) → Parsed ℕ
  turned n found t = taken_then t (λ point row. asked n found point row (is_below key point.0))

  turns : (n i : ℕ) (bytes : List ℕ) (found : Parsed ℕ) (t : Parsed (List ℕ × ℕ)) → i < n → point_from bytes ≡ t
      → event_place (n - i) bytes key low high found ≡ turned (n - (i + 1)) found t
  turns n i bytes found t h is = ap (λ k. event_place k bytes key low high found) (left n i h) ∙ ap (turned (n - (i + 1)) found) is

  pub place_past : (n i : ℕ) (bytes : List ℕ) (found : Parsed ℕ) (other row : List ℕ) (at : ℕ) (o : Option (List ℕ)) → i < n
      → point_from bytes ≡ Some ((other, at), row) → is_below key other ≡ false → past_row_field row ≡ o
      → event_place (n - i) bytes key low high found ≡ passed (n - (i + 1)) found (other, at) row o
  place_past n i bytes found other row at o h is t past =
      turns n i bytes found (Some ((other, at), row)) h is ∙ ap (asked (n - (i + 1)) found (other, at) row) t
      ∙ ap (passed (n - (i + 1)) found (other, at) row) past

  -- the first one that is wanted
  abbrev first_passed : ℕ → Option (List ℕ) → Parsed ℕ
  first_passed n o = elim o [ None ↦ None | Some left ↦ first_place n left key low high ]

  abbrev first_asked : ℕ → (List ℕ × ℕ) → List ℕ → Bool → Bool → Parsed ℕ
  first_asked n point row w t = if w then Some (point.1, row) else if t then None else first_passed n (past_row_field row)

  abbrev first_turned : ℕ → Parsed (List ℕ × ℕ) → Parsed ℕ
  first_turned n t = taken_then t (λ point row. first_asked n point row (is_wanted key low high point) (is_below key point.0))

  first_turns : (n i : ℕ) (bytes : List ℕ) (t : Parsed (List ℕ × ℕ)) → i < n → point_from bytes ≡ t
      → first_place (n - i) bytes key low high ≡ first_turned (n - (i + 1)) t
  first_turns n i bytes t h is = ap (λ k. first_place k bytes key low high) (left n i h) ∙ ap (first_turned (n - (i + 1))) is

  pub first_past : (n i : ℕ) (bytes other row : List ℕ) (at : ℕ) (o : Option (List ℕ)) → i < n → point_from bytes ≡ Some ((other, at), row)
      → is_wanted key low high (other, at) ≡ false → is_below key other ≡ false → past_row_field row ≡ o
      → first_place (n - i) bytes key low high ≡ first_passed (n - (i + 1)) o
  first_past n i bytes other row at o h is w t past =
      first_turns n i bytes (Some ((other, at), row)) h is
      ∙ ap (λ b. first_asked (n - (i + 1)) (other, at) row b (is_below key other)) w
      ∙ ap (first_asked (n - (i + 1)) (other, at) row false) t
      ∙ ap (first_passed (n - (i + 1))) past

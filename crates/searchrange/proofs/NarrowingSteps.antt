-- One key column more of a search range.
use Rattle.std.proofs.Common.{◌≡◌, ℕ, ◌+◌, ◌<◌, List, ◌++◌, Option, Some, None, length, drop, sym, ap, ◌∙◌}
use Rattle.std.proofs.lemmas.List.{drop_more}
use Rattle.values.specs.declared.value.Value.{Value}
use Rattle.values.specs.declared.table.Table.{Table}
use Rattle.values.specs.declared.query.Comparison.{Comparison}
use Rattle.values.specs.KeyEncoding.{part_bytes}
use Rattle.keyrange.specs.declared.range.KeyRange.{KeyRange}
use Rattle.searchrange.specs.SearchRange.{narrowed_at, equal_at, narrowed_from, narrowing_end}

module _ (table : Table) (cs : List Comparison) (place : ℕ) (prefix : List ℕ) (keys : List ℕ) (range r : KeyRange) (within : place < length keys) (is : r ≡ narrowed_at table place prefix cs range) where
  -- what the value that the column is to be equal to leads to
  abbrev leads : List ℕ → KeyRange → Option Value → KeyRange
  leads columns at o = elim o [ None ↦ at | Some value ↦ narrowed_from table cs (place + 1) (prefix ++ part_bytes value) columns at ]

  one_more : narrowed_from table cs place prefix (drop place keys) range ≡ leads (drop (place + 1) keys) (narrowed_at table place prefix cs range) (equal_at table place cs)
  one_more = ap (λ columns. narrowed_from table cs place prefix columns range) (drop_more keys place 0 within)

  pub stops : None ≡ equal_at table place cs → r ≡ narrowed_from table cs place prefix (drop place keys) range
  stops e = is ∙ ap (leads (drop (place + 1) keys) (narrowed_at table place prefix cs range)) e ∙ sym one_more

  pub goes_on : (value : Value) (longer : List ℕ) → Some value ≡ equal_at table place cs → longer ≡ prefix ++ part_bytes value
      → narrowed_from table cs (place + 1) longer (drop (place + 1) keys) r ≡ narrowed_from table cs place prefix (drop place keys) range
  goes_on value longer e l =
      ap (λ p. narrowed_from table cs (place + 1) p (drop (place + 1) keys) r) l
      ∙ ap (λ at. leads (drop (place + 1) keys) at (Some value)) is
      ∙ ap (leads (drop (place + 1) keys) (narrowed_at table place prefix cs range)) e ∙ sym one_more

-- where the columns that narrow end
module _ (table : Table) (cs : List Comparison) (place : ℕ) (keys : List ℕ) (within : place < length keys) where
  abbrev ends : List ℕ → Option Value → ℕ
  ends columns o = elim o [ None ↦ place + 1 | Some _ ↦ narrowing_end table cs (place + 1) columns ]

  end_more : narrowing_end table cs place (drop place keys) ≡ ends (drop (place + 1) keys) (equal_at table place cs)
  end_more = ap (narrowing_end table cs place) (drop_more keys place 0 within)

  pub ends_here : None ≡ equal_at table place cs → place + 1 ≡ narrowing_end table cs place (drop place keys)
  ends_here e = ap (ends (drop (place + 1) keys)) e ∙ sym end_more

  pub ends_later : (value : Value) → Some value ≡ equal_at table place cs → narrowing_end table cs (place + 1) (drop (place + 1) keys) ≡ narrowing_end table cs place (drop place keys)
  ends_later value e = ap (ends (drop (place + 1) keys)) e ∙ sym end_more

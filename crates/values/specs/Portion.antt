-- UPDATE and DELETE of a portion of application time.
use Rattle.std.specs.Prelude.{ℤ, List, [], ◌∷◌, ◌++◌, ◌&&◌, Option, Some, None, Bool, Ok, filter, map, not, length, if◌then◌else◌}
use Rattle.std.specs.List.{flat_map}
use Rattle.values.specs.declared.period.Period.{Period}
use Rattle.values.specs.declared.period.Span.{Span}
use Rattle.values.specs.declared.key.Key.{Key}
use Rattle.values.specs.declared.value.Value.TheVariants.{Int}
use Rattle.values.specs.declared.table.Table.{Table}
use Rattle.values.specs.declared.query.Keys.{Keys}
use Rattle.values.specs.declared.query.Set.{Set}
use Rattle.values.specs.Log.{State, Row}
use Rattle.values.specs.Tables.{but_last}
use Rattle.values.specs.Versions.{matches}
use Rattle.values.specs.Writes.{Own, Written, full_rows, set_all, insert_all, write_keys}
use Rattle.values.specs.Period.{span_of, is_span, overlap, common, before, behind, with_span}

-- the key of the same entity with another start
abbrev pub with_start : Key → ℤ → Key
with_start k start = record { table = k.table; parts = but_last k.parts ++ Int start ∷ [] }

-- the row for a span, at the key that it has then; none for one that is empty
abbrev pub piece : Period → Key → Row → Span → State
piece p k row s = if is_span s then (with_start k s.from, with_span p s row) ∷ [] else []

-- what is new in the portion: an UPDATE's row, and none of a DELETE
abbrev pub changed : Option (List Set) → Row → Option Row
changed None row = None
changed (Some sets) row = Some (set_all sets row)

-- what is left of a row that a portion takes: the old values before the portion, the new ones in it,
-- the old ones behind it
abbrev pub pieces : Period → Span → Option (List Set) → (Key × Row) → State
pieces p cut sets e =
    piece p e.0 e.1 (before (span_of p e.1) cut)
    ++ (elim (changed sets e.1) [ None ↦ [] | Some row ↦ piece p e.0 row (common (span_of p e.1) cut) ]
    ++ piece p e.0 e.1 (behind (span_of p e.1) cut))

-- the row's key meets the comparisons, and its span overlaps the portion
abbrev pub is_taken : Table → Period → Keys → Span → (Key × Row) → Bool
is_taken table p keys cut e = matches table keys e.0 && overlap (span_of p e.1) cut

abbrev pub taken : Table → Period → Keys → Span → State → State
taken table p keys cut m = filter (is_taken table p keys cut) m

abbrev pub not_taken : Table → Period → Keys → Span → State → State
not_taken table p keys cut m = filter (λ e. not (is_taken table p keys cut e)) m

-- what is left of all rows that it takes; those that were stored before columns were added get NULL
-- in them first
abbrev pub all_left : Table → Period → Keys → Span → Option (List Set) → State → State
all_left table p keys cut sets m =
    flat_map (pieces p cut sets) (full_rows table (taken table p keys cut m))

-- the rows once a portion was changed
abbrev pub change_portion : Table → Period → Keys → Span → Option (List Set) → State → State
change_portion table p keys cut sets m =
    insert_all (not_taken table p keys cut m) (all_left table p keys cut sets m)

-- the keys that it removes and those that it inserts
abbrev pub portion_keys : Table → Period → Keys → Span → Option (List Set) → State → List Key
portion_keys table p keys cut sets m =
    map (λ e. e.0) (taken table p keys cut m) ++ map (λ e. e.0) (all_left table p keys cut sets m)

-- an UPDATE or a DELETE of a portion; it answers the number of rows taken, and in a table without a
-- period there is nothing to take
abbrev pub portion_in : Table → Keys → Span → Option (List Set) → Own → Written
portion_in table keys cut sets o = elim table.period [
  | None ↦ (Ok 0, o)
  | Some p ↦
      write_keys (portion_keys table p keys cut sets o.rows) (length (taken table p keys cut o.rows))
      (change_portion table p keys cut sets o.rows) o
]

-- What a transaction's calls make of its own writes and of the events of its view.
use Rattle.std.specs.Prelude.{◌≡◌, ℕ, ◌≤◌, List, [], ◌∷◌, ◌++◌, ◌||◌, ◌&&◌, Bool, false, Option, Some, None, Result, Ok, Err, nat_lt, if◌then◌else◌, length, map, filter, is_some, All}
use Rattle.std.specs.List.{cons_option, list_any, filter_map}
use Rattle.std.specs.Option.{option_map}
use Rattle.std.specs.BTreeMap.{BTreeMap, get, insert_entry, is_at}
use Rattle.std.specs.Global.{Vec}
use Rattle.std.specs.Ordering.{is_le}
use Rattle.std.specs.Map.{keys_of, lookup, set_value, remove_entry}
use Rattle.std.specs.List.Sorted.{IsStrictlySortedBy}
use Rattle.values.specs.declared.key.Key.{Key}
use Rattle.values.specs.Event.{Event}
use Rattle.values.specs.declared.period.Period.{Period}
use Rattle.values.specs.declared.period.Span.{Span}
use Rattle.values.specs.declared.table.Table.{Table}
use Rattle.values.specs.declared.query.Keys.{Keys}
use Rattle.values.specs.declared.query.Set.{Set}
use Rattle.values.specs.declared.refusal.Refusal.{Refusal}
use Rattle.values.specs.declared.refusal.Refusal.TheVariants.{TooManyWrites}
use Rattle.values.specs.Order.{key_cmp, is_key}
use Rattle.values.specs.Log.{State, Net, Row, apply_net}
use Rattle.values.specs.Versions.{matches}
use Rattle.values.specs.Writes.{most_written, set_all}
use Rattle.values.specs.KeyEncoding.{bytes_of_key, IsShortKey}
use Rattle.values.specs.KeyReading.{IsKeyOf}
use Rattle.values.specs.Period.{span_of, overlap}
use Rattle.values.specs.Entity.{entity_of}
use Rattle.values.specs.Events.{row_until}
use Rattle.keyrange.specs.declared.range.KeyRange.{KeyRange}
use Rattle.searchrange.specs.Search.{IsInSearch, entry_taken}

-- changes over earlier ones, in turn
abbrev pub put_all : Net → Net → Net
put_all [] w = w
put_all (c ∷ cs) w = put_all cs (insert_entry key_cmp w c.0 c.1)

-- a key's write as it was before: with its row, or none, or not written
abbrev pub put_back_one : Key → Option (Option Row) → Net → Net
put_back_one k (Some row) w = set_value (is_at (key_cmp k)) w row
put_back_one k None w = remove_entry (is_at (key_cmp k)) w

-- and those of many changes, from the last to the first
abbrev pub put_back : List (Key × Option (Option Row)) → Net → Net
put_back [] w = w
put_back (c ∷ cs) w = put_back_one c.0 c.1 (put_back cs w)

-- the number of rows, unless the keys are too many
abbrev pub put_answer : ℕ → Net → Net → Result ℕ Refusal
put_answer count changes w =
    if nat_lt most_written (length (put_all changes w)) then Err TooManyWrites else Ok count

-- the entry sets one of so many values
pub record SetsOneOf (width : ℕ) (s : Set) : Type 0 where
  pub from_1 : 1 ≤ s.column
  pub within : s.column ≤ width

abbrev pub insertions : List Key → List Row → Net
insertions (k ∷ ks) (row ∷ rows) = (k, Some row) ∷ insertions ks rows
insertions _ _ = []

abbrev pub updates : List Set → State → Net
updates sets m = map (λ e. (e.0, Some (set_all sets e.1))) m

abbrev pub deletions : State → Net
deletions m = map (λ e. (e.0, None)) m

-- rows at their keys, as they are put
abbrev pub puts : State → Net
puts m = map (λ e. (e.0, Some e.1)) m

-- each key with its row
abbrev pub keyed_rows : List Key → List Row → State
keyed_rows (k ∷ ks) (row ∷ rows) = (k, row) ∷ keyed_rows ks rows
keyed_rows _ _ = []

-- the rows whose spans overlap one
abbrev pub overlap_rows : Period → Span → State → State
overlap_rows p s m = filter (λ e. overlap (span_of p e.1) s) m

-- a key's row: by what was written, and where nothing was by the events until an instant
abbrev pub row_in : List Event → ℕ → Net → Key → Option Row
row_in es t w key = elim (lookup (is_at (key_cmp key)) w) [
  | Some row ↦ row
  | None ↦ row_until es (bytes_of_key key) t
]

-- a key with that row, if it has one
abbrev pub row_alone : List Event → ℕ → Net → Key → State
row_alone es t w key = cons_option (option_map (λ row. (key, row)) (row_in es t w key)) []

-- a key has a row: by what was written, and where nothing was by the events until an instant
abbrev pub sees : List Event → ℕ → Net → Key → Bool
sees es t w key = elim (lookup (is_at (key_cmp key)) w) [
  | Some row ↦ is_some row
  | None ↦ is_some (row_until es (bytes_of_key key) t)
]

-- the first key that has a row, or that is among the earlier ones
abbrev pub first_seen : (Key → Bool) → List Key → List Key → Option Key
first_seen has earlier [] = None
first_seen has earlier (k ∷ ks) =
    if has k || list_any (is_key k) earlier then Some k else first_seen has (earlier ++ k ∷ []) ks

-- the events' keys are of the table and in the range
abbrev pub AreInSearch : Table → KeyRange → List Event → Type 0
AreInSearch table range es = All (λ e. IsInSearch table range e.key) es

-- the rows of events that the keys take, and the writes that they take over them
abbrev pub rows_in : Table → Keys → List Event → Net → State
rows_in table keys es w =
    apply_net (filter_map (entry_taken table keys) es) (filter (λ c. matches table keys c.0) w)

-- the first row's key is not above another
abbrev pub starts_upto : Key → State → Bool
starts_upto key [] = false
starts_upto key (e ∷ m) = is_le (key_cmp e.0 key)

-- the keys of rows, and of the rest of them, are short
pub record AreShort (rows rest : State) : Type 0 where
  pub of_rows : All (λ e. IsShortKey e.0) rows
  pub of_rest : All (λ e. IsShortKey e.0) rest

-- a key's write is put over the rest of some rows, and the rows up to its key are moved behind
-- others: whatever writes of greater keys are put over the new rest, the rows are in all the same
pub record PutsNext (key : Key) (row : Option Row) (rows rest new_rows new_rest : State)
    : Type 0 where
  pub put : (w : Net) → IsStrictlySortedBy key_cmp (key ∷ keys_of w)
      → new_rows ++ apply_net new_rest w ≡ rows ++ apply_net rest ((key, row) ∷ w)
  pub ordered : IsStrictlySortedBy key_cmp (keys_of new_rest)

-- what was written, without the keys that have no row both then and by the events until an instant
abbrev pub net_in : List Event → ℕ → Net → Net
net_in es t w = filter (λ c. is_some c.1 || is_some (row_until es (bytes_of_key c.0) t)) w

-- the spans tell which spans overlap those of the entity's rows
abbrev pub AreSpansOf : Period → Key → State → List Span → Type 0
AreSpansOf p entity m spans =
    (span : Span)
    → list_any (overlap span) spans
    ≡ list_any (λ e. is_key entity (entity_of e.0) && overlap span (span_of p e.1)) m

-- what is kept of each entity are the spans of its rows
abbrev pub AreRead : Period → State → BTreeMap Key (Vec Span) → Type 0
AreRead p m read =
    (entity : Key) (spans : Vec Span)
    → get key_cmp read entity ≡ Some spans → AreSpansOf p entity m spans.items

-- where a row's key fits its table, or is short, so do and are all keys of changes with more of them
pub record KeepsKeys (table : Table) (key : Key) (old new : Net) : Type 0 where
  pub own : IsKeyOf table key → All (λ c. IsKeyOf table c.0) old → All (λ c. IsKeyOf table c.0) new
  pub short : IsShortKey key → All (λ c. IsShortKey c.0) old → All (λ c. IsShortKey c.0) new

-- and where those of rows do and are, so do and are those of their changes
pub record KeepsAllKeys (table : Table) (rows : State) (changes : Net) : Type 0 where
  pub own : All (λ e. IsKeyOf table e.0) rows → All (λ c. IsKeyOf table c.0) changes
  pub short : All (λ e. IsShortKey e.0) rows → All (λ c. IsShortKey c.0) changes

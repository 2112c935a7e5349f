-- What a history of readable steps leaves in its log can be printed.
use Rattle.std.proofs.Common.{◌≡◌, ℕ, ◌+◌, ◌-◌, ◌≤◌, max, Bool, true, false, cond, ◌||◌, List, [], ◌∷◌, ◌++◌, Option, Some, None, IfSome, refl, arith, map, filter, length, is_some, ℤ}
use Rattle.std.specs.Prelude.{Result, Ok, Err, nat_le, nat_lt, not, if◌then◌else◌, slice_set, flat_map, int_lt}
use Rattle.std.specs.BTreeMap.{insert_entry, is_at}
use Rattle.std.specs.BTreeSet.{insert_key}
use Rattle.std.specs.List.{AllByRecursion}
use Rattle.std.specs.Map.{lookup, remove_entry}
use Rattle.std.specs.Ordering.{match_ordering}
use Rattle.std.specs.declared.cmp.Ordering.{Ordering}
use Rattle.std.specs.declared.cmp.Ordering.TheVariants.{Less, Equal, Greater}
use Rattle.std.proofs.lemmas.Bool.Decides.{nat_tests}
use Rattle.values.specs.declared.key.Key.{Key}
use Rattle.values.specs.declared.period.Period.{Period}
use Rattle.values.specs.declared.period.Span.{Span}
use Rattle.values.specs.declared.query.Keys.{Keys}
use Rattle.values.specs.declared.query.Set.{Set}
use Rattle.values.specs.declared.refusal.Refusal.{Refusal}
use Rattle.values.specs.declared.refusal.Refusal.TheVariants.{ClockEnd, Conflict, NoTable, TooManyWrites}
use Rattle.values.specs.declared.table.Table.{Table}
use Rattle.values.specs.declared.value.Value.{Value}
use Rattle.values.specs.declared.value.Value.TheVariants.{Int, Text, Bool as Truth, Null}
use Rattle.values.specs.Commits.{after, by_unit, conflicts_by, log_after, max_instant, outcome_by, unit_changed_since, LookUp}
use Rattle.values.specs.Log.{Log, Net, Row, State, apply_net, changes, last, replay, row_at, set_row, upto}
use Rattle.values.specs.Order.{key_cmp}
use Rattle.values.specs.Period.{before, behind, common, int_of, is_span, periods_of, span_of, with_span}
use Rattle.values.specs.Portion.{all_left, change_portion, changed, is_taken, not_taken, piece, pieces, portion_in, portion_keys, taken, with_start}
use Rattle.values.specs.TableRules.{AreTables}
use Rattle.values.specs.Tables.{Schema, but_last, full_row, table_at, value_at}
use Rattle.values.specs.Versions.{matches}
use Rattle.values.specs.Writes.{Own, Written, add_keys, delete_from, delete_rows, full_rows, insert_all, insert_into, insert_refusal, insert_rows, key_of, keyed, matching_keys, most_written, net_of, set_all, update_in, update_rows, write_keys}
use Rattle.steps.specs.declared.step.Step.{Step}
use Rattle.steps.specs.declared.step.Step.TheVariants.{AddColumn, Begin, Commit, Delete, DeletePortion, Insert, Migrate, Rollback, Select, SplitKey, SplitTime, Update, UpdatePortion}
use Rattle.steps.specs.Write.{write, write_table}
use Rattle.histories.specs.History.{History, ends, is_kept, log, log_at_begin, net_change_of, own, own_of, rewrite_all, schema_after, seen_of, snap_of}
use Rattle.statement.specs.GrammarLaw.{ArePlain, IsPlain}
use Rattle.dump_reading.specs.Readable.{AreReadableChanges, IsReadableChange, IsReadableLog, IsReadableTransaction}
use Rattle.dump_reading.specs.ReadableHistories.{ArePlainSets, IsPlainSpan, IsReadableHistory, IsReadableStep, LogsAreReadable}
use Rattle.dump_reading.proofs.ReadableTables.{good_at, place_of}
use Rattle.dump_reading.proofs.ReadableHistoriesRows.{but_last_plain, full, got, parts_plain, pushed, set_value, sets}
use Rattle.dump_reading.proofs.ReadableHistoriesTables.{tables_are_good}

-- ---- lists

module _ {A : Type 0} (P : A → Type 0) where
  all_joined : (xs ys : List A) → AllByRecursion P xs → AllByRecursion P ys → AllByRecursion P (xs ++ ys)
  all_joined [] ys f g = g
  all_joined (x ∷ xs) ys f g = (f.0, all_joined xs ys f.1 g)

  some_of_all : (p : A → Bool) (xs : List A) → AllByRecursion P xs → AllByRecursion P (filter p xs)
  some_of_all p [] all = tt
  some_of_all p (x ∷ xs) all = by (p x) (some_of_all p xs all.1)
    where
      by : (t : Bool) → AllByRecursion P (filter p xs) → AllByRecursion P (cond t (x ∷ filter p xs) (filter p xs))
      by true rest = (all.0, rest)
      by false rest = rest

-- ---- keys and rows

-- a key of a table, whose values can be printed
record IsPlainKey (key : Key) : Type 0 where
  of_table : 1 ≤ key.table
  plain : ArePlain key.parts

abbrev IsPlainEntry : Key × Row → Type 0
IsPlainEntry e = IsPlainKey e.0 × ArePlain e.1

abbrev ArePlainRows : State → Type 0
ArePlainRows m = AllByRecursion IsPlainEntry m

abbrev ArePlainKeys : List Key → Type 0
ArePlainKeys keys = AllByRecursion IsPlainKey keys

inserted : (m : State) (key : Key) (row : Row) → IsPlainKey key → ArePlain row → ArePlainRows m → ArePlainRows (insert_entry key_cmp m key row)
inserted [] key row k r all = ((k, r), tt)
inserted (e ∷ m) key row k r all = by (key_cmp key e.0) (inserted m key row k r all.1)
  where
    by : (o : Ordering) → ArePlainRows (insert_entry key_cmp m key row) → ArePlainRows (match_ordering o ((key, row) ∷ e ∷ m) ((e.0, row) ∷ m) (e ∷ insert_entry key_cmp m key row))
    by Less rest = ((k, r), all)
    by Equal rest = ((all.0.0, r), all.1)
    by Greater rest = (all.0, rest)

all_inserted : (m es : State) → ArePlainRows m → ArePlainRows es → ArePlainRows (insert_all m es)
all_inserted m [] all more = all
all_inserted m (e ∷ es) all more = all_inserted (insert_entry key_cmp m e.0 e.1) es (inserted m e.0 e.1 more.0.0 more.0.1 all) more.1

removed : (key : Key) (m : State) → ArePlainRows m → ArePlainRows (remove_entry (is_at (key_cmp key)) m)
removed key [] all = tt
removed key (e ∷ m) all = by (is_at (key_cmp key) e.0) (removed key m all.1)
  where
    by : (t : Bool) → ArePlainRows (remove_entry (is_at (key_cmp key)) m) → ArePlainRows (cond t m (e ∷ remove_entry (is_at (key_cmp key)) m))
    by true rest = all.1
    by false rest = (all.0, rest)

key_inserted : (keys : List Key) (key : Key) → IsPlainKey key → ArePlainKeys keys → ArePlainKeys (insert_key key_cmp keys key)
key_inserted [] key k all = (k, tt)
key_inserted (x ∷ keys) key k all = by (key_cmp key x) (key_inserted keys key k all.1)
  where
    by : (o : Ordering) → ArePlainKeys (insert_key key_cmp keys key) → ArePlainKeys (match_ordering o (key ∷ x ∷ keys) (x ∷ keys) (x ∷ insert_key key_cmp keys key))
    by Less rest = (k, all)
    by Equal rest = all
    by Greater rest = (all.0, rest)

keys_added : (keys more : List Key) → ArePlainKeys keys → ArePlainKeys more → ArePlainKeys (add_keys keys more)
keys_added [] more keys all = all
keys_added (k ∷ ks) more keys all = keys_added ks (insert_key key_cmp more k) keys.1 (key_inserted more k keys.0 all)

keys_of_rows : (m : State) → ArePlainRows m → ArePlainKeys (map (λ e. e.0) m)
keys_of_rows [] all = tt
keys_of_rows (e ∷ m) all = (all.0.0, keys_of_rows m all.1)

found_plain : (m : State) (key : Key) → ArePlainRows m → IfSome (row_at m key) ArePlain
found_plain [] key all = tt
found_plain (e ∷ m) key all = by (is_at (key_cmp key) e.0) (found_plain m key all.1)
  where
    by : (t : Bool) → IfSome (lookup (is_at (key_cmp key)) m) ArePlain → IfSome (cond t (Some e.1) (lookup (is_at (key_cmp key)) m)) ArePlain
    by true rest = all.0.1
    by false rest = rest

-- ---- what statements leave

abbrev IsPlainOwn : Own → Type 0
IsPlainOwn o = ArePlainRows o.rows × ArePlainKeys o.written

keys_written : (keys : List Key) (count : ℕ) (rows : State) (o : Own) → ArePlainKeys keys → ArePlainRows rows → IsPlainOwn o → IsPlainOwn (write_keys keys count rows o).1
keys_written keys count rows o plain all own = by (nat_lt most_written (length (add_keys keys o.written)))
  where
    by : (b : Bool) → IsPlainOwn (if◌then◌else◌ {A = Written} b (Err TooManyWrites, o) (Ok count, record { rows = rows; written = add_keys keys o.written })).1
    by true = own
    by false = (all, keys_added keys o.written plain own.1)

module _ (table : Table) (some : 1 ≤ table.number) where
  key_plain : (row : Row) → ArePlain row → IsPlainKey (key_of table row)
  key_plain row plain = record { of_table = some; plain = parts_plain row table.key plain }

  keyed_plain : (rows : List Row) → AllByRecursion ArePlain rows → ArePlainRows (map (keyed table) rows)
  keyed_plain [] all = tt
  keyed_plain (row ∷ rows) all = ((key_plain row all.0, all.0), keyed_plain rows all.1)

  keys_plain : (rows : List Row) → AllByRecursion ArePlain rows → ArePlainKeys (map (key_of table) rows)
  keys_plain [] all = tt
  keys_plain (row ∷ rows) all = (key_plain row all.0, keys_plain rows all.1)

  abbrev refused_or : Own → Written → Option Refusal → Written
  refused_or o w r = elim r [ Some refusal ↦ (Err refusal, o) | None ↦ w ]

  insert_plain : (rows : List Row) (o : Own) → AllByRecursion ArePlain rows → IsPlainOwn o → IsPlainOwn (insert_into table rows o).1
  insert_plain rows o all own =
      elim (insert_refusal table rows o.rows) as (λ (r : Option Refusal). IsPlainOwn (refused_or o (write_keys (map (key_of table) rows) (length rows) (insert_rows table rows o.rows) o) r).1) [
        | Some refusal ↦ own
        | None ↦ keys_written (map (key_of table) rows) (length rows) (insert_rows table rows o.rows) o (keys_plain rows all) (all_inserted o.rows (map (keyed table) rows) own.0 (keyed_plain rows all)) own
      ]

  updated : (keys : Keys) (ss : List Set) (m : State) → ArePlainSets ss → ArePlainRows m → ArePlainRows (update_rows table keys ss m)
  updated keys ss [] plain all = tt
  updated keys ss (e ∷ m) plain all = (by (matches table keys e.0), updated keys ss m plain all.1)
    where
      by : (t : Bool) → IsPlainEntry (if t then (e.0, set_all ss (full_row table e.1)) else e)
      by true = (all.0.0, sets ss (full_row table e.1) plain (full table e.1 all.0.1))
      by false = all.0

  matching_plain : (keys : Keys) (m : State) → ArePlainRows m → ArePlainKeys (matching_keys table keys m)
  matching_plain keys m all = keys_of_rows (filter (λ e. matches table keys e.0) m) (some_of_all IsPlainEntry (λ e. matches table keys e.0) m all)

  update_plain : (keys : Keys) (ss : List Set) (o : Own) → ArePlainSets ss → IsPlainOwn o → IsPlainOwn (update_in table keys ss o).1
  update_plain keys ss o plain own =
      keys_written (matching_keys table keys o.rows) (length (matching_keys table keys o.rows)) (update_rows table keys ss o.rows) o (matching_plain keys o.rows own.0) (updated keys ss o.rows plain own.0) own

  delete_plain : (keys : Keys) (o : Own) → IsPlainOwn o → IsPlainOwn (delete_from table keys o).1
  delete_plain keys o own =
      keys_written (matching_keys table keys o.rows) (length (matching_keys table keys o.rows)) (delete_rows table keys o.rows) o (matching_plain keys o.rows own.0)
      (some_of_all IsPlainEntry (λ e. not (matches table keys e.0)) o.rows own.0) own

  -- ---- a portion

  abbrev IsPlainNumber : ℤ → Type 0
  IsPlainNumber z = IsPlain (Int z)

  either : (t : Bool) (y z : ℤ) → IsPlainNumber y → IsPlainNumber z → IsPlainNumber (cond t y z)
  either true y z f g = f
  either false y z f g = g

  number_plain : (v : Value) → IsPlain v → IsPlainNumber (int_of v)
  number_plain (Int z) plain = plain
  number_plain (Text t) plain = omega arith
  number_plain (Truth t) plain = omega arith
  number_plain Null plain = omega arith

  span_plain : (p : Period) (row : Row) → ArePlain row → IsPlainSpan (span_of p row)
  span_plain p row plain = (number_plain (value_at row p.from) (got row (p.from - 1) plain), number_plain (value_at row p.to) (got row (p.to - 1) plain))

  piece_plain : (p : Period) (key : Key) (row : Row) (s : Span) → IsPlainKey key → ArePlain row → IsPlainSpan s → ArePlainRows (piece p key row s)
  piece_plain p key row s k r span = by (is_span s)
    where
      by : (t : Bool) → ArePlainRows (if t then (with_start key s.from, with_span p s row) ∷ [] else [])
      by true = (
        (
          record { of_table = k.of_table; plain = pushed (but_last key.parts) (Int s.from) (but_last_plain key.parts k.plain) span.0 },
          set_value (slice_set row (p.from - 1) (Int s.from)) (p.to - 1) (Int s.to) span.1 (set_value row (p.from - 1) (Int s.from) span.0 r),
        ),
        tt,
      )
      by false = tt

  abbrev IsPlainChange : Option (List Set) → Type 0
  IsPlainChange ss = IfSome ss ArePlainSets

  -- what is new in the portion
  abbrev middle : Period → Span → (Key × Row) → Option (List Set) → State
  middle p cut e ss = elim (changed ss e.1) [ None ↦ [] | Some row ↦ piece p e.0 row (common (span_of p e.1) cut) ]

  pieces_plain : (p : Period) (cut : Span) (ss : Option (List Set)) (e : Key × Row) → IsPlainSpan cut → IsPlainChange ss → IsPlainEntry e → ArePlainRows (pieces p cut ss e)
  pieces_plain p cut ss e c change one =
      let span = span_plain p e.1 one.1 in
      let own : Span = span_of p e.1 in
      all_joined IsPlainEntry (piece p e.0 e.1 (before own cut)) _ (piece_plain p e.0 e.1 (before own cut) one.0 one.1 (span.0, c.0))
      (all_joined IsPlainEntry (middle p cut e ss) (piece p e.0 e.1 (behind own cut)) (by ss change) (piece_plain p e.0 e.1 (behind own cut) one.0 one.1 (c.1, span.1)))
    where
      both : IsPlainSpan (common (span_of p e.1) cut)
      both =
          let span = span_plain p e.1 one.1 in (
            either (int_lt cut.from (span_of p e.1).from) (span_of p e.1).from cut.from span.0 c.0,
            either (int_lt cut.to (span_of p e.1).to) cut.to (span_of p e.1).to c.1 span.1,
          )

      by : (ss : Option (List Set)) → IsPlainChange ss → ArePlainRows (middle p cut e ss)
      by None change = tt
      by (Some ss) change = piece_plain p e.0 (set_all ss e.1) (common (span_of p e.1) cut) one.0 (sets ss e.1 change one.1) both

  full_plain : (m : State) → ArePlainRows m → ArePlainRows (full_rows table m)
  full_plain [] all = tt
  full_plain (e ∷ m) all = ((all.0.0, full table e.1 all.0.1), full_plain m all.1)

  each_left : (p : Period) (cut : Span) (ss : Option (List Set)) (m : State) → IsPlainSpan cut → IsPlainChange ss → ArePlainRows m → ArePlainRows (flat_map (pieces p cut ss) m)
  each_left p cut ss [] c change all = tt
  each_left p cut ss (e ∷ m) c change all = all_joined IsPlainEntry (pieces p cut ss e) (flat_map (pieces p cut ss) m) (pieces_plain p cut ss e c change all.0) (each_left p cut ss m c change all.1)

  portion_plain : (keys : Keys) (cut : Span) (ss : Option (List Set)) (o : Own) → IsPlainSpan cut → IsPlainChange ss → IsPlainOwn o → IsPlainOwn (portion_in table keys cut ss o).1
  portion_plain keys cut ss o c change own = by table.period
    where
      with_period : (p : Period) → IsPlainOwn (write_keys (portion_keys table p keys cut ss o.rows) (length (taken table p keys cut o.rows)) (change_portion table p keys cut ss o.rows) o).1
      with_period p =
          let took = some_of_all IsPlainEntry (is_taken table p keys cut) o.rows own.0 in
          let left = each_left p cut ss (full_rows table (taken table p keys cut o.rows)) c change (full_plain (taken table p keys cut o.rows) took) in
          keys_written (portion_keys table p keys cut ss o.rows) (length (taken table p keys cut o.rows)) (change_portion table p keys cut ss o.rows) o
          (all_joined IsPlainKey (map (λ e. e.0) (taken table p keys cut o.rows)) (map (λ e. e.0) (all_left table p keys cut ss o.rows))
          (keys_of_rows (taken table p keys cut o.rows) took) (keys_of_rows (all_left table p keys cut ss o.rows) left))
          (all_inserted (not_taken table p keys cut o.rows) (all_left table p keys cut ss o.rows) (some_of_all IsPlainEntry (λ e. not (is_taken table p keys cut e)) o.rows own.0) left)
          own

      by : (o' : Option Period) → IsPlainOwn (elim o' as (λ _. Written) [
        | None ↦ (Ok 0, o)
        | Some p ↦ write_keys (portion_keys table p keys cut ss o.rows) (length (taken table p keys cut o.rows)) (change_portion table p keys cut ss o.rows) o
      ]).1
      by None = own
      by (Some p) = with_period p

-- ---- a step

module _ (schema : Schema) (good : AreTables 1 schema.tables) where
  numbered : (number : ℕ) (t : Table) → table_at schema number ≡ Some t → 1 ≤ t.number
  numbered number t at =
      let there = place_of schema.tables number t at in
      let is = (good_at 1 schema.tables (number - 1) t good there.1).numbered in
      omega (arith, is)

  through : (number : ℕ) (by : Table → Own → Written) (o : Own) → IsPlainOwn o → ((table : Table) → 1 ≤ table.number → IsPlainOwn (by table o).1) → IsPlainOwn (write_table schema number by o).1
  through number by o own each = at (table_at schema number) refl
    where
      at : (t : Option Table) → table_at schema number ≡ t → IsPlainOwn (elim t as (λ _. Written) [ None ↦ (Err NoTable, o) | Some table ↦ by table o ]).1
      at None is = own
      at (Some table) is = each table (numbered number table is)

  written : (step : Step) (o : Own) → IsReadableStep step → IsPlainOwn o → IsPlainOwn (write schema step o).1
  written (Insert i number rows) o plain own = through number (λ table. insert_into table rows) o own (λ table some. insert_plain table some rows o plain own)
  written (Update i keys ss) o plain own = through keys.table (λ table. update_in table keys ss) o own (λ table some. update_plain table some keys ss o plain own)
  written (Delete i keys) o plain own = through keys.table (λ table. delete_from table keys) o own (λ table some. delete_plain table some keys o own)
  written (UpdatePortion i keys cut ss) o plain own = through keys.table (λ table. portion_in table keys cut (Some ss)) o own (λ table some. portion_plain table some keys cut (Some ss) o plain.0 plain.1 own)
  written (DeletePortion i keys cut) o plain own = through keys.table (λ table. portion_in table keys cut None) o own (λ table some. portion_plain table some keys cut None o plain tt own)
  written (Begin i) o plain own = own
  written (Select i form keys) o plain own = own
  written (Commit i reading) o plain own = own
  written (Rollback i) o plain own = own
  written (AddColumn i number name of) o plain own = own
  written (SplitKey key) o plain own = own
  written (SplitTime key instant) o plain own = own
  written Migrate o plain own = own

  rewritten : (steps : List Step) (o : Own) → AllByRecursion IsReadableStep steps → IsPlainOwn o → IsPlainOwn (rewrite_all schema steps o)
  rewritten [] o plain own = own
  rewritten (step ∷ steps) o plain own = rewritten steps (write schema step o).1 plain.1 (written step o plain.0 own)

-- ---- what a log leaves, and net changes

applied : (net : Net) (m : State) → AreReadableChanges net → ArePlainRows m → ArePlainRows (apply_net m net)
applied [] m readable all = all
applied (c ∷ net) m readable all = applied net (set_row c.0 c.1 m) readable.1 (by c.1 readable.0)
  where
    by : (row : Option Row) → IsReadableChange c.0 row → ArePlainRows (set_row c.0 row m)
    by None is = removed c.0 m all
    by (Some row) is = inserted m c.0 row (record { of_table = is.of_table; plain = is.plain_key }) is.plain_row all

replayed : (l : Log) (m : State) → IsReadableLog l → ArePlainRows m → ArePlainRows (replay m l)
replayed [] m readable all = all
replayed (t ∷ l) m readable all = replayed l (apply_net m t.net) readable.1 (applied t.net m (readable.0).changes all)

valued : (now : State) (keys : List Key) → ArePlainRows now → ArePlainKeys keys → AreReadableChanges (map (λ k. (k, row_at now k)) keys)
valued now [] all plain = tt
valued now (k ∷ keys) all plain =
    (record { of_table = (plain.0).of_table; plain_key = (plain.0).plain; plain_row = found_plain now k all }, valued now keys all plain.1)

net_readable : (m : State) (o : Own) → IsPlainOwn o → AreReadableChanges (net_of m o.rows o.written)
net_readable m o own =
    some_of_all (λ (c : Key × Option Row). IsReadableChange c.0 c.1) (λ c. is_some c.1 || is_some (row_at m c.0)) (map (λ k. (k, row_at o.rows k)) o.written) (valued o.rows o.written own.0 own.1)

-- a commit's instant is none beyond the last
within_by : (changed : LookUp) (latest : ℕ) (net : Net) (reading n : ℕ) → outcome_by changed latest net reading ≡ Ok (Some n) → n ≤ max_instant
within_by changed latest [] reading n is = cc
within_by changed latest (c ∷ net) reading n is = by (conflicts_by changed (c ∷ net)) (nat_lt max_instant (max reading (latest + 1))) refl is
  where
    same : (a b : ℕ) → ◌≡◌ {A = Result (Option ℕ) Refusal} (Ok (Some a)) (Ok (Some b)) → a ≡ b
    same a b is = cc

    at_most : (a b : ℕ) → nat_lt max_instant a ≡ false → a ≡ b → b ≤ max_instant
    at_most a b less is = grind (arith, nat_tests)

    by : (found : List (Key × ℕ)) (late : Bool) → nat_lt max_instant (max reading (latest + 1)) ≡ late
        → ◌≡◌ {A = Result (Option ℕ) Refusal} (elim found [ first ∷ others ↦ Err (Conflict first.0 first.1) | [] ↦ if late then Err ClockEnd else Ok (Some (max reading (latest + 1))) ]) (Ok (Some n)) → n ≤ max_instant
    by (first ∷ others) late less is = cc
    by [] true less is = cc
    by [] false less is = at_most (max reading (latest + 1)) n less (same (max reading (latest + 1)) n is)

ended : (l : Log) (net : Net) (end : Result (Option ℕ) Refusal) → ((n : ℕ) → end ≡ Ok (Some n) → n ≤ max_instant) → AreReadableChanges net → IsReadableLog l → IsReadableLog (log_after l net end)
ended l net (Ok (Some n)) within readable all = all_joined IsReadableTransaction l (record { instant = n; net = net } ∷ []) all (record { within = within n refl; changes = readable }, tt)
ended l net (Ok None) within readable all = all
ended l net (Err refusal) within readable all = all

-- ---- histories

module _ (first : Schema) (good : (h : History) → AreTables 1 (schema_after first h).tables) where
  own_readable : (h : History) (i : ℕ) → IsReadableHistory h → AllByRecursion IsReadableStep (own first h i)
  own_readable [] i readable = tt
  own_readable (step ∷ h) i readable =
      by (ends i step) (is_kept (schema_after first h) step i (log first h) (log_at_begin first h i) (own first h i)) (own_readable h i readable.1)
    where
      by : (a b : Bool) → AllByRecursion IsReadableStep (own first h i) → AllByRecursion IsReadableStep (if a then [] else if b then own first h i ++ step ∷ [] else own first h i)
      by true b before = tt
      by false true before = all_joined IsReadableStep (own first h i) (step ∷ []) before (readable.0, tt)
      by false false before = before

  seen_plain : (l : Log) (n : ℕ) → IsReadableLog l → ArePlainRows (replay [] (upto l n))
  seen_plain l n readable = replayed (upto l n) [] (some_of_all IsReadableTransaction (λ t. nat_le t.instant n) l readable) tt

  log_readable : (h : History) → IsReadableHistory h → IsReadableLog (log first h)
  log_readable [] readable = tt
  log_readable (Commit i reading ∷ h) readable =
      let now = schema_after first h in
      let l = log first h in
      let before = log_readable h readable.1 in
      let seen : State = seen_of l (log_at_begin first h i) in
      let o : Own = own_of now l (log_at_begin first h i) (own first h i) in
      let plain = rewritten now (good h) (own first h i) (record { rows = seen; written = [] }) (own_readable h i readable.1) (seen_plain l (snap_of l (log_at_begin first h i)) before, tt) in
      elim (log_at_begin first h i) as (λ b. IsReadableLog (elim b [
        | None ↦ log first h
        | Some begun ↦ after (periods_of (schema_after first h)) (log first h) (last begun) (net_change_of (schema_after first h) (log first h) (log_at_begin first h i) (own first h i)) reading
      ])) [
        | None ↦ before
        | Some begun ↦ ended l (net_of seen o.rows o.written) _
            (λ n is. within_by (unit_changed_since (periods_of now) (changes l) (last begun)) (last l) (by_unit (periods_of now) (net_of seen o.rows o.written)) reading n is)
            (net_readable seen o plain) before
      ]
  log_readable (Begin i ∷ h) readable = log_readable h readable.1
  log_readable (Insert i number rows ∷ h) readable = log_readable h readable.1
  log_readable (Update i keys ss ∷ h) readable = log_readable h readable.1
  log_readable (Delete i keys ∷ h) readable = log_readable h readable.1
  log_readable (UpdatePortion i keys cut ss ∷ h) readable = log_readable h readable.1
  log_readable (DeletePortion i keys cut ∷ h) readable = log_readable h readable.1
  log_readable (Select i form keys ∷ h) readable = log_readable h readable.1
  log_readable (Rollback i ∷ h) readable = log_readable h readable.1
  log_readable (AddColumn i number name of ∷ h) readable = log_readable h readable.1
  log_readable (SplitKey key ∷ h) readable = log_readable h readable.1
  log_readable (SplitTime key instant ∷ h) readable = log_readable h readable.1
  log_readable (Migrate ∷ h) readable = log_readable h readable.1

pub logs_are_readable : LogsAreReadable
logs_are_readable first h good readable = log_readable first (λ g. tables_are_good first g good) h readable

-- Rows that were stored before columns were added, with NULL in them: nothing else is new of them.
use Rattle.std.proofs.Common.{◌≡◌, ℕ, ◌-◌, ◌≤◌, zero, suc, Bool, true, false, cond, [], ◌∷◌, ◌++◌, Some, refl, sym, ap, ◌∙◌, arith, map, not, length, replicate, length-append, append-nil, ◌&&◌}
use Rattle.std.proofs.lemmas.List.{length-replicate}
use Rattle.std.specs.Prelude.{filter, find}
use Rattle.std.specs.List.{slice_get}
use Rattle.std.specs.Option.{unwrap_or, option_map}
use Rattle.std.specs.Ordering.{match_ordering}
use Rattle.std.specs.declared.cmp.Ordering.{Ordering}
use Rattle.std.specs.declared.cmp.Ordering.TheVariants.{Less, Equal, Greater}
use Rattle.std.specs.BTreeMap.{insert_entry}
use Rattle.values.specs.declared.value.Value.TheVariants.{Null}
use Rattle.values.specs.declared.period.Period.{Period}
use Rattle.values.specs.declared.period.Span.{Span}
use Rattle.values.specs.declared.key.Key.{Key}
use Rattle.values.specs.declared.table.Table.{Table}
use Rattle.values.specs.declared.query.Keys.{Keys}
use Rattle.values.specs.Order.{key_cmp}
use Rattle.values.specs.Log.{State, Row}
use Rattle.values.specs.Tables.{value_at, full_row}
use Rattle.values.specs.Versions.{matches}
use Rattle.values.specs.Writes.{key_of, insert_all, full_rows}
use Rattle.values.specs.Period.{Periods, int_of, span_of, is_span, overlap}
use Rattle.values.specs.Portion.{is_taken, taken, not_taken}
use Rattle.periods.specs.NoOverlap.{NoOverlap, Tables, IsKeyed, AreKeyed}
use Rattle.periods.proofs.NoOverlapApart.{IsAlike, apart_changed}

nulls : (k i : ℕ) → unwrap_or (slice_get (replicate k Null) i) Null ≡ Null
nulls zero i = refl
nulls (suc k) zero = refl
nulls (suc k) (suc i) = nulls k i

with_nulls : (row : Row) (k i : ℕ) → unwrap_or (slice_get (row ++ replicate k Null) i) Null ≡ unwrap_or (slice_get row i) Null
with_nulls [] k i = nulls k i
with_nulls (v ∷ row) k zero = refl
with_nulls (v ∷ row) k (suc i) = with_nulls row k i

pub value_full : (table : Table) (row : Row) (n : ℕ) → value_at (full_row table row) n ≡ value_at row n
value_full table row n = with_nulls row (length table.columns - length row) (n - 1)

pub key_full : (table other : Table) (row : Row) → key_of other (full_row table row) ≡ key_of other row
key_full table other row = λ i. record { table = other.number; parts = map (λ n. value_full table row n i) other.key }

pub span_full : (table : Table) (p : Period) (row : Row) → span_of p (full_row table row) ≡ span_of p row
span_full table p row = λ i. record { from = int_of (value_full table row p.from i); to = int_of (value_full table row p.to i) }

wider : (table : Table) (row : Row) → length row ≤ length (full_row table row)
wider table row = omega (arith, length-append row (replicate (length table.columns - length row) Null))

pub full_wide : (table : Table) (row : Row) → length table.columns ≤ length (full_row table row)
full_wide table row = omega (arith, length-append row (replicate (length table.columns - length row) Null), length-replicate (length table.columns - length row) Null)

-- a row as wide as its table is shown as it is
pub full_is : (table : Table) (row : Row) → length table.columns ≤ length row → full_row table row ≡ row
full_is table row wide =
    ap (λ k. row ++ replicate k Null) (let none : length table.columns - length row ≡ 0 = omega (arith, wide) in none) ∙ append-nil row

-- a row as its table shows it
abbrev pub full : Table → (Key × Row) → (Key × Row)
full table e = (e.0, full_row table e.1)

pub full_alike : (table : Table) (periods : Periods) (e : Key × Row) → IsAlike periods (full table e) e
full_alike table periods e = record { key = refl; span = λ p at. span_full table p e.1 }

pub full_apart : (table : Table) (periods : Periods) (m : State) → NoOverlap periods m → NoOverlap periods (full_rows table m)
full_apart table periods m apart = apart_changed periods (full table) m (full_alike table periods) apart

pub full_keyed_in : (table other : Table) (p : Period) (e : Key × Row) → IsKeyed other p e → IsKeyed other p (full table e)
full_keyed_in table other p e is = record {
  key_is = is.key_is ∙ sym (key_full table other e.1);
  start_within = omega (arith, is.start_within, wider table e.1);
  end_within = omega (arith, is.end_within, wider table e.1);
  proper = ap is_span (span_full table p e.1) ∙ is.proper;
}

pub full_keyed : (table : Table) (tables : Tables) (periods : Periods) (m : State) → AreKeyed tables periods m → AreKeyed tables periods (full_rows table m)
full_keyed table tables periods [] keyed = tt
full_keyed table tables periods (e ∷ m) keyed = (
  (λ other p found at. full_keyed_in table other p e (keyed.0 other p found at)),
  full_keyed table tables periods m keyed.1,
)

-- ---- what is taken of them

pub taken_full : (table : Table) (p : Period) (keys : Keys) (cut : Span) (e : Key × Row) → is_taken table p keys cut (full table e) ≡ is_taken table p keys cut e
taken_full table p keys cut e = λ i. matches table keys e.0 && overlap (span_full table p e.1 i) cut

filtered_full : (table : Table) (test : (Key × Row) → Bool) (m : State) → ((e : Key × Row) → test (full table e) ≡ test e) → filter test (full_rows table m) ≡ full_rows table (filter test m)
filtered_full table test [] same = refl
filtered_full table test (e ∷ m) same =
    ap (λ b. cond b (full table e ∷ filter test (full_rows table m)) (filter test (full_rows table m))) (same e) ∙ by (test e) (filtered_full table test m same)
  where
    by : (b : Bool) → filter test (full_rows table m) ≡ full_rows table (filter test m)
        → cond b (full table e ∷ filter test (full_rows table m)) (filter test (full_rows table m)) ≡ full_rows table (cond b (e ∷ filter test m) (filter test m))
    by true rest = ap (λ l. full table e ∷ l) rest
    by false rest = rest

pub all_taken_full : (table : Table) (p : Period) (keys : Keys) (cut : Span) (m : State) → taken table p keys cut (full_rows table m) ≡ full_rows table (taken table p keys cut m)
all_taken_full table p keys cut m = filtered_full table (is_taken table p keys cut) m (taken_full table p keys cut)

pub all_kept_full : (table : Table) (p : Period) (keys : Keys) (cut : Span) (m : State) → not_taken table p keys cut (full_rows table m) ≡ full_rows table (not_taken table p keys cut m)
all_kept_full table p keys cut m =
    filtered_full table (λ e. not (is_taken table p keys cut e)) m (λ e. ap not (taken_full table p keys cut e))

-- ---- rows that are inserted, and rows that are found

inserted_full : (table : Table) (m : State) (k : Key) (row : Row) → full_rows table (insert_entry key_cmp m k row) ≡ insert_entry key_cmp (full_rows table m) k (full_row table row)
inserted_full table [] k row = refl
inserted_full table (e ∷ m) k row = by (key_cmp k e.0) (inserted_full table m k row)
  where
    by : (o : Ordering) → full_rows table (insert_entry key_cmp m k row) ≡ insert_entry key_cmp (full_rows table m) k (full_row table row)
        → full_rows table (match_ordering o ((k, row) ∷ e ∷ m) ((e.0, row) ∷ m) (e ∷ insert_entry key_cmp m k row))
        ≡ match_ordering o ((k, full_row table row) ∷ full table e ∷ full_rows table m) ((e.0, full_row table row) ∷ full_rows table m) (full table e ∷ insert_entry key_cmp (full_rows table m) k (full_row table row))
    by Less rest = refl
    by Equal rest = refl
    by Greater rest = ap (λ l. full table e ∷ l) rest

pub all_inserted_full : (table : Table) (m es : State) → full_rows table (insert_all m es) ≡ insert_all (full_rows table m) (full_rows table es)
all_inserted_full table m [] = refl
all_inserted_full table m (e ∷ es) =
    all_inserted_full table (insert_entry key_cmp m e.0 e.1) es
    ∙ ap (λ l. insert_all l (full_rows table es)) (inserted_full table m e.0 e.1)

pub found_full : (table : Table) (test : (Key × Row) → Bool) (m : State) → ((e : Key × Row) → test (full table e) ≡ test e) → find test (full_rows table m) ≡ option_map (full table) (find test m)
found_full table test [] same = refl
found_full table test (e ∷ m) same =
    ap (λ b. cond b (Some (full table e)) (find test (full_rows table m))) (same e) ∙ by (test e) (found_full table test m same)
  where
    by : (b : Bool) → find test (full_rows table m) ≡ option_map (full table) (find test m)
        → cond b (Some (full table e)) (find test (full_rows table m)) ≡ option_map (full table) (cond b (Some e) (find test m))
    by true rest = refl
    by false rest = rest

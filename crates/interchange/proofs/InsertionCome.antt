-- Rows that come one after another for one INSERT.
use Rattle.std.proofs.Common.{◌≡◌, ◌≤◌, ◌<◌, ◌||◌, ℕ, Bool, true, false, List, [], ◌∷◌, ◌++◌, Option, Some, None, Result, Ok, Err, refl, sym, ap, ◌∙◌, subst, arith, length, map, if◌then◌else◌, not, nat_lt, is_some}
use Rattle.std.proofs.lemmas.Bool.Decides.{nat_tests}
use Rattle.std.specs.Prelude.{IfErr, IfOk, OnOk}
use Rattle.std.proofs.lemmas.List.{map-append}
use Rattle.std.proofs.lemmas.List.Folds.{list_any-append}
use Rattle.std.specs.List.{list_any}
use Rattle.std.specs.Option.{option_map}
use Rattle.values.specs.declared.key.Key.{Key}
use Rattle.values.specs.declared.period.Period.{Period}
use Rattle.values.specs.declared.table.Table.{Table}
use Rattle.values.specs.declared.refusal.Refusal.{Refusal}
use Rattle.values.specs.declared.refusal.Refusal.TheVariants.{DuplicateKey, Overlap, TooManyWrites}
use Rattle.values.specs.Order.{is_key}
use Rattle.values.specs.Faults.{bad_row}
use Rattle.values.specs.Fit.{first_of, row_fault, rows_fault}
use Rattle.values.specs.Log.{Row, State}
use Rattle.values.specs.Period.{is_span, span_of}
use Rattle.values.specs.Write.{has_bad_span, rows_refusal, span_refusal}
use Rattle.values.specs.Writes.{Written, add_keys, duplicate, duplicate_from, insert_into, insert_rows, key_of, keyed, most_written, overlap_from, overlapping, write_keys}
use Rattle.interchange.specs.declared.insertion.Insertion.{Insertion}
use Rattle.interchange.specs.Insertion.{AreApart, AreKeyed, HasCome, HasKeys, keys_of}
use Rattle.interchange.specs.Load.{inserted, nothing}
use Rattle.interchange.specs.Overlaps.{AreProper, HasSpans}
use Rattle.interchange.proofs.InsertionKeys.{keys_last, no_fewer, repeated_last, repeated_stays}

pub on_ok : {A E : Type 0} {P Q : Type 0} (r : Result A E) → OnOk r P → (P → Q) → OnOk r Q
on_ok (Ok x) h f = f h
on_ok (Err e) h f = tt

pub on_both : {A E : Type 0} {P Q S : Type 0} (r : Result A E) → OnOk r P → OnOk r Q → (P → Q → S) → OnOk r S
on_both (Ok x) h g f = f h g
on_both (Err e) h g f = tt

pub on_err : {A E : Type 0} {P Q : E → Type 0} (r : Result A E) → IfErr r P → ((e : E) → P e → Q e) → IfErr r Q
on_err (Ok x) h f = tt
on_err (Err e) h f = f e h

pub on_value : {A E : Type 0} {P Q : A → Type 0} (r : Result A E) → IfOk r P → ((x : A) → P x → Q x) → IfOk r Q
on_value (Ok x) h f = f x h
on_value (Err e) h f = tt

abbrev Come : Table → List Row → Insertion → Option Key → Type 0
Come table rows i found = elim found [
  | None ↦ AreApart table rows i
  | Some key ↦ duplicate_from [] [] (keys_of table rows) ≡ Some key
]

-- a key repeats: so it does with more rows
pub come_after : (table : Table) (rows : List Row) (row : Row) (i : Insertion) → is_some i.repeated ≡ true → AreKeyed table rows i → AreKeyed table (rows ++ row ∷ []) i
come_after table rows row i some come = by i.repeated some come
  where
    by : (found : Option Key) → is_some found ≡ true → Come table rows i found → Come table (rows ++ row ∷ []) i found
    by None some come = cc some
    by (Some key) some come = ap (duplicate_from [] []) (keys_last table rows row) ∙ repeated_stays (keys_of table rows) [] (key_of table row) key come

apart_of : (table : Table) (rows : List Row) (i : Insertion) → is_some i.repeated ≡ false → AreKeyed table rows i → AreApart table rows i
apart_of table rows i none come = by i.repeated none come
  where
    by : (found : Option Key) → is_some found ≡ false → Come table rows i found → AreApart table rows i
    by None none come = come
    by (Some key) none come = cc none

come_of : (table : Table) (rows : List Row) (i : Insertion) → is_some i.repeated ≡ false → AreApart table rows i → AreKeyed table rows i
come_of table rows i none apart = by i.repeated none
  where
    by : (found : Option Key) → is_some found ≡ false → Come table rows i found
    by None none = apart
    by (Some key) none = cc none

both : (b : Bool) → b ≡ true → b ≡ false → ⊥
both true is not = cc not
both false is not = cc is

negated : (b : Bool) → true ≡ not b → b ≡ false
negated true h = cc h
negated false h = refl

asserted : (b : Bool) → false ≡ not b → b ≡ true
asserted true h = refl
asserted false h = cc h

-- a row whose key is new
pub come_new : (table : Table) (rows : List Row) (row : Row) (key : Key) (old new : Insertion) → is_some old.repeated ≡ false → new.repeated ≡ old.repeated → key ≡ key_of table row
    → ((keys : List Key) → HasKeys table keys old.keys → true ≡ not (list_any (is_key key) keys))
    → ((keys : List Key) → HasKeys table keys old.keys → HasKeys table (keys ++ key ∷ []) new.keys)
    → ((state : State) → HasSpans table.period state old.overlaps → HasSpans table.period (state ++ (key, row) ∷ []) new.overlaps)
    → ((keys : List Key) → HasKeys table keys new.keys → length (add_keys keys []) ≤ most_written → new.rows.items ≡ old.rows.items ++ row ∷ [])
    → AreKeyed table rows old → AreKeyed table (rows ++ row ∷ []) new
come_new table rows row key old new none same key_is is_new added taken kept come =
    come_of table (rows ++ row ∷ []) new (ap is_some same ∙ none) record {
      apart = ap (duplicate_from [] []) more ∙ repeated_last (keys_of table rows) (key_of table row) false apart.apart (subst (λ k. list_any (is_key k) (keys_of table rows) ≡ false) key_is (negated _ (is_new _ apart.keys)));
      keys = has;
      spans = subst (λ (l : State). HasSpans table.period l new.overlaps) (ap (λ (k : Key). map (keyed table) rows ++ (k, row) ∷ []) key_is ∙ sym (map-append (keyed table) rows (row ∷ []))) (taken (map (keyed table) rows) apart.spans);
      kept = λ few. kept (keys_of table (rows ++ row ∷ [])) has few ∙ ap (λ (l : List Row). l ++ row ∷ []) (apart.kept (fewer few));
    }
  where
    apart : AreApart table rows old
    apart = apart_of table rows old none come

    more : keys_of table (rows ++ row ∷ []) ≡ keys_of table rows ++ key_of table row ∷ []
    more = keys_last table rows row

    has : HasKeys table (keys_of table (rows ++ row ∷ [])) new.keys
    has = subst (λ (l : List Key). HasKeys table l new.keys) (sym more) (subst (λ k. HasKeys table (keys_of table rows ++ k ∷ []) new.keys) key_is (added (keys_of table rows) apart.keys))

    fewer : length (add_keys (keys_of table (rows ++ row ∷ [])) []) ≤ most_written → length (add_keys (keys_of table rows) []) ≤ most_written
    fewer few =
        let lengths = no_fewer (keys_of table rows) (key_of table row) in
        let shown = subst (λ (l : List Key). length (add_keys l []) ≤ most_written) more few in
        omega arith

-- a row whose key came before
pub come_again : (table : Table) (rows : List Row) (row : Row) (key : Key) (old : Insertion) → is_some old.repeated ≡ false → key ≡ key_of table row
    → ((keys : List Key) → HasKeys table keys old.keys → false ≡ not (list_any (is_key key) keys))
    → AreKeyed table rows old → duplicate_from [] [] (keys_of table (rows ++ row ∷ [])) ≡ Some key
come_again table rows row key old none key_is is_old come =
    let apart = apart_of table rows old none come in
    ap (duplicate_from [] []) (keys_last table rows row)
    ∙ repeated_last (keys_of table rows) (key_of table row) true apart.apart (subst (λ k. list_any (is_key k) (keys_of table rows) ≡ true) key_is (asserted _ (is_old _ apart.keys)))
    ∙ ap Some (sym key_is)

-- ---- a row and its span

bad_last : (period : Option Period) (rows : List Row) (row : Row) → has_bad_span period (rows ++ row ∷ []) ≡ (has_bad_span period rows || has_bad_span period (row ∷ []))
bad_last None rows row = refl
bad_last (Some p) rows row = list_any-append (λ row. not (is_span (span_of p row))) rows (row ∷ [])

-- rows that fit, and one more that does
pub fit_more : (table : Table) (rows : List Row) (row : Row) → rows_fault table rows ≡ None → row_fault table row ≡ None → rows_fault table (rows ++ row ∷ []) ≡ None
fit_more table [] row none fits = ap (λ found. first_of found None) fits
fit_more table (x ∷ rows) row none fits = by (row_fault table x) none (λ h. fit_more table rows row h fits)
  where
    by : (found : Option ℕ) → ◌≡◌ {A = Option ℕ} (first_of found (rows_fault table rows)) None → (rows_fault table rows ≡ None → rows_fault table (rows ++ row ∷ []) ≡ None)
        → ◌≡◌ {A = Option ℕ} (first_of found (rows_fault table (rows ++ row ∷ []))) None
    by (Some n) none more = cc none
    by None none more = more none

-- no start of a span was below its end: so it is with more rows
pub bad_after : (table : Table) (rows : List Row) (row : Row) (i : Insertion) → row_fault table row ≡ None → i.has_bad_span ≡ true → HasCome table rows i → HasCome table (rows ++ row ∷ []) i
bad_after table rows row i fits is_bad come = record {
  fit = fit_more table rows row come.fit fits;
  bad = is_bad ∙ sym (bad_last table.period rows row ∙ ap (λ b. b || has_bad_span table.period (row ∷ [])) (sym come.bad ∙ is_bad));
  keyed = λ good. absurd (both i.has_bad_span is_bad good);
}

pub bad_now : (table : Table) (rows : List Row) (row : Row) (old new : Insertion) → row_fault table row ≡ None → true ≡ has_bad_span table.period (row ∷ []) → old.has_bad_span ≡ false → new.has_bad_span ≡ true
    → HasCome table rows old → HasCome table (rows ++ row ∷ []) new
bad_now table rows row old new fits is_bad good now come = record {
  fit = fit_more table rows row come.fit fits;
  bad = now ∙ is_bad ∙ ap (λ b. b || has_bad_span table.period (row ∷ [])) (sym good ∙ come.bad) ∙ sym (bad_last table.period rows row);
  keyed = λ good. absurd (both new.has_bad_span now good);
}

pub good_now : (table : Table) (rows : List Row) (row : Row) (old new : Insertion) → row_fault table row ≡ None → false ≡ has_bad_span table.period (row ∷ []) → old.has_bad_span ≡ false
    → new.has_bad_span ≡ old.has_bad_span → ((rows : List Row) → AreKeyed table rows old → AreKeyed table (rows ++ row ∷ []) new)
    → HasCome table rows old → HasCome table (rows ++ row ∷ []) new
good_now table rows row old new fits is_good good same taken come = record {
  fit = fit_more table rows row come.fit fits;
  bad = same ∙ good ∙ is_good ∙ ap (λ b. b || has_bad_span table.period (row ∷ [])) (sym good ∙ come.bad) ∙ sym (bad_last table.period rows row);
  keyed = λ _. taken rows (come.keyed good);
}

-- ---- what an INSERT of all rows is answered with

abbrev as_rows : List Row → Result ℕ Refusal → Result (List Row) Refusal
as_rows rows answer = elim answer [ Err why ↦ Err why | Ok count ↦ Ok rows ]

-- the spans of all rows are known
spans_refuse : (table : Table) (rows : List Row) (i : Insertion) (b : Bool) → i.has_bad_span ≡ b → HasCome table rows i → rows_refusal table rows ≡ span_refusal b
spans_refuse table rows i b is come =
    ap (λ fault. first_of (bad_row fault) (span_refusal (has_bad_span table.period rows))) come.fit ∙ ap span_refusal (sym come.bad ∙ is)

by_spans : Table → List Row → Option Refusal → Result (List Row) Refusal
by_spans table rows refusal = as_rows rows (elim refusal [ Some why ↦ Err why | None ↦ (insert_into table rows nothing).0 ])

by_keys : Table → List Row → (repeated overlaps : Option Key) → Result (List Row) Refusal
by_keys table rows repeated overlaps = as_rows rows (unless (first_of (option_map DuplicateKey repeated) (option_map Overlap overlaps))).0
  where
    unless : Option Refusal → Written
    unless (Some refusal) = (Err refusal, nothing)
    unless None = write_keys (keys_of table rows) (length rows) (insert_rows table rows []) nothing

by_count : List Row → Bool → Result (List Row) Refusal
by_count rows many = if many then Err TooManyWrites else Ok rows

spans_fit : (table : Table) (rows : List Row) (i : Insertion) → i.has_bad_span ≡ false → HasCome table rows i → inserted table (Ok rows) ≡ by_keys table rows (duplicate table rows []) (overlapping table rows [])
unfolding by_spans by_keys
spans_fit table rows i is come = ap (by_spans table rows) (spans_refuse table rows i false is come)

-- no span is bad
proper_of : (table : Table) (rows : List Row) (period : Option Period) → has_bad_span period rows ≡ false → AreProper period (map (keyed table) rows)
proper_of table rows None good = tt
proper_of table [] (Some p) good = tt
proper_of table (row ∷ rows) (Some p) good = (first (is_span (span_of p row)) _ good, proper_of table rows (Some p) (others (is_span (span_of p row)) _ good))
  where
    first : (a b : Bool) → (not a || b) ≡ false → a ≡ true
    first true b good = refl
    first false b good = cc good

    others : (a b : Bool) → (not a || b) ≡ false → b ≡ false
    others true b good = good
    others false b good = cc good

-- the rows are apart, and this is the first that overlaps
apart_ends : (table : Table) (rows : List Row) (i : Insertion) (found : Option Key) → i.has_bad_span ≡ false → i.repeated ≡ None → ((period : Option Period) (state : State) → AreProper period state → HasSpans period state i.overlaps → found ≡ overlap_from period [] state)
    → HasCome table rows i → inserted table (Ok rows) ≡ by_keys table rows None found
apart_ends table rows i found good none first come =
    let apart = apart_of table rows i (ap is_some none) (come.keyed good) in
    spans_fit table rows i good come ∙ (λ j. by_keys table rows (apart.apart j) (sym (first table.period (map (keyed table) rows) (proper_of table rows table.period (sym come.bad ∙ good)) apart.spans) j))

-- the rows are apart, and one overlaps an earlier one
pub ends_overlap : (table : Table) (rows : List Row) (i : Insertion) (found : Option Key) (key : Key) → i.has_bad_span ≡ false → i.repeated ≡ None → found ≡ Some key
    → ((period : Option Period) (state : State) → AreProper period state → HasSpans period state i.overlaps → found ≡ overlap_from period [] state)
    → HasCome table rows i → Err (Overlap key) ≡ inserted table (Ok rows)
unfolding by_keys
ends_overlap table rows i found key good none is first come = sym (apart_ends table rows i found good none first come ∙ ap (by_keys table rows None) is)

as_written : Table → List Row → Bool → Result (List Row) Refusal
as_written table rows many = as_rows rows (by many).0
  where
    by : Bool → Written
    by many = if many then (Err TooManyWrites, nothing) else (Ok (length rows), record { rows = insert_rows table rows []; written = add_keys (keys_of table rows) [] })

written_by : (table : Table) (rows : List Row) (many : Bool) → as_written table rows many ≡ by_count rows many
unfolding as_written by_count
written_by table rows true = refl
written_by table rows false = refl

counted : (table : Table) (rows : List Row) (i : Insertion) (found : Option Key) (n : ℕ) (b : Bool) → i.has_bad_span ≡ false → i.repeated ≡ None → found ≡ None
    → ((period : Option Period) (state : State) → AreProper period state → HasSpans period state i.overlaps → found ≡ overlap_from period [] state)
    → ((table : Table) (keys : List Key) → HasKeys table keys i.keys → n ≡ length (add_keys keys [])) → nat_lt most_written n ≡ b → HasCome table rows i → inserted table (Ok rows) ≡ by_count rows b
unfolding by_keys as_written
counted table rows i found n b good none is first count many come =
    let apart = apart_of table rows i (ap is_some none) (come.keyed good) in
    apart_ends table rows i found good none first come
    ∙ ap (by_keys table rows None) is
    ∙ ap (as_written table rows) (ap (nat_lt most_written) (sym (count table (keys_of table rows) apart.keys)) ∙ many)
    ∙ written_by table rows b

above : (n : ℕ) → most_written < n → nat_lt most_written n ≡ true
above n h = grind (arith, nat_tests)

within : (n : ℕ) → n ≤ most_written → nat_lt most_written n ≡ false
within n h = grind (arith, nat_tests)

-- all rows came, and there are too many, or not
pub ends_many : (table : Table) (rows : List Row) (i : Insertion) (found : Option Key) (n : ℕ) → i.has_bad_span ≡ false → i.repeated ≡ None → found ≡ None
    → ((period : Option Period) (state : State) → AreProper period state → HasSpans period state i.overlaps → found ≡ overlap_from period [] state)
    → ((table : Table) (keys : List Key) → HasKeys table keys i.keys → n ≡ length (add_keys keys [])) → most_written < n → HasCome table rows i → Err TooManyWrites ≡ inserted table (Ok rows)
unfolding by_count
ends_many table rows i found n good none is first count many come = sym (counted table rows i found n true good none is first count (above n many) come)

pub ends_few : (table : Table) (rows : List Row) (i : Insertion) (found : Option Key) (n : ℕ) → i.has_bad_span ≡ false → i.repeated ≡ None → found ≡ None
    → ((period : Option Period) (state : State) → AreProper period state → HasSpans period state i.overlaps → found ≡ overlap_from period [] state)
    → ((table : Table) (keys : List Key) → HasKeys table keys i.keys → n ≡ length (add_keys keys [])) → n ≤ most_written → HasCome table rows i → Ok i.rows.items ≡ inserted table (Ok rows)
unfolding by_count
ends_few table rows i found n good none is first count few come =
    let apart = apart_of table rows i (ap is_some none) (come.keyed good) in
    ap Ok (apart.kept (subst (λ n. n ≤ most_written) (count table (keys_of table rows) apart.keys) few))
    ∙ sym (counted table rows i found n false good none is first count (within n few) come)

pub no_more : (n : ℕ) (keys : List Key) → n ≡ length (add_keys keys []) → most_written < n → length (add_keys keys []) ≤ most_written → ⊥
no_more n keys is many few = omega arith

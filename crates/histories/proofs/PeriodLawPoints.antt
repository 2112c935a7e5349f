-- What a session sees once its portion is answered.
use Rattle.std.proofs.Common.{◌≡◌, ◌≢◌, ℕ, ℤ, Bool, true, false, cond, List, [], ◌∷◌, ◌++◌, Option, Some, None, refl, sym, ap, ◌∙◌, not, length, nat_lt}
use Rattle.std.specs.Prelude.{if◌then◌else◌, ◌&&◌, ◌==◌, is_some, Result, Ok, Err, find, filter}
use Rattle.std.specs.Option.{option_map}
use Rattle.std.specs.Ordering.{match_ordering, is_eq}
use Rattle.std.specs.declared.cmp.Ordering.{Ordering}
use Rattle.std.specs.declared.cmp.Ordering.TheVariants.{Less, Equal, Greater}
use Rattle.std.specs.BTreeMap.{insert_entry}
use Rattle.std.specs.List.{flat_map}
use Rattle.values.specs.declared.key.Key.{Key}
use Rattle.values.specs.declared.period.Period.{Period}
use Rattle.values.specs.declared.period.Span.{Span}
use Rattle.values.specs.declared.query.Keys.{Keys}
use Rattle.values.specs.declared.query.Set.{Set}
use Rattle.values.specs.declared.refusal.Refusal.{Refusal}
use Rattle.values.specs.declared.refusal.Refusal.TheVariants.{NoTable, NoTransaction, TooManyWrites}
use Rattle.values.specs.declared.table.Table.{Table}
use Rattle.values.specs.Each.{Each}
use Rattle.values.specs.Entity.{entity_of}
use Rattle.values.specs.Fit.{comparisons_fault, update_fault}
use Rattle.values.specs.Log.{Log, Row, State}
use Rattle.values.specs.Order.{key_cmp, is_key}
use Rattle.values.specs.Period.{periods_of, is_span, span_of, common, before, behind, with_span}
use Rattle.values.specs.Times.{is_time_of}
use Rattle.values.specs.Portion.{with_start, portion_in, portion_keys, change_portion, taken, not_taken, is_taken, all_left, pieces, piece, changed}
use Rattle.values.specs.Tables.{Schema, table_at, full_row}
use Rattle.values.specs.Versions.{matches}
use Rattle.values.specs.Write.{portion_refusal}
use Rattle.values.specs.Writes.{Own, Written, most_written, add_keys, full_rows, insert_all, write_keys}
use Rattle.steps.specs.declared.step.Step.{Step}
use Rattle.steps.specs.declared.step.Step.TheVariants.{UpdatePortion, DeletePortion}
use Rattle.steps.specs.declared.step.Reply.{Reply}
use Rattle.steps.specs.declared.step.Reply.TheVariants.{Updated, Deleted, Refused}
use Rattle.steps.specs.Misfit.{misfit}
use Rattle.steps.specs.Reply.{write_count, written_reply, write_reply, is_refused}
use Rattle.steps.specs.Write.{write, write_table}
use Rattle.periods.specs.NoOverlap.{SetsKeep}
use Rattle.periods.specs.Point.{is_row_then, point, outside}
use Rattle.periods.proofs.NoOverlapApart.{one_key}
use Rattle.periods.proofs.NoOverlapPieces.{and_first, one_table, each-append}
use Rattle.periods.proofs.PointChanged.{portion_changes_points}
use Rattle.histories.specs.History.{History, schema_after, log, log_at_begin, own, own_of, mine, mine_of}
use Rattle.histories.specs.PeriodLaw.{portion_step, IsAnswered, PortionsChangePoints, OtherPointsStay, OthersSeeTheSame, PortionsCountTaken}
use Rattle.histories.proofs.LawRefused.{own_now}
use Rattle.histories.proofs.PeriodLawApart as apart
use Rattle.histories.proofs.PeriodLawFits.{updated_portion_fits, deleted_portion_fits}
use Rattle.histories.proofs.PeriodLawTables.{IsAt, is_at, table_fits, tables_are, sound_now}
use Rattle.histories.proofs.StandsEnds.{itself, not_other}
use Rattle.histories.proofs.TurnWrites.{rewrite_more}

-- ---- what is answered was done

-- of a write that is answered a number of rows: it fits, and the session has a transaction open, in
-- which it is done
record IsDone (now : Schema) (step : Step) (begun : Option Log) (o : Own) (count : ℕ) : Type 0 where
  fits : misfit now step ≡ None
  begun_is : is_some begun ≡ true
  done : (write now step o).0 ≡ Ok count

-- the step counts: its reply is no refusal, and tells the number
record IsCounted (step : Step) : Type 0 where
  is_answer : (count : ℕ) → is_refused (write_count step count) ≡ false
  is_one : (m n : ℕ) → write_count step m ≡ write_count step n → m ≡ n

refused_not : (step : Step) (refusal : Refusal) (count : ℕ) → IsCounted step → Refused refusal ≡ write_count step count → ⊥
refused_not step refusal count counted e = let no : true ≡ false = ap is_refused e ∙ counted.is_answer count in cc

done_so : (now : Schema) (step : Step) (begun : Option Log) (o : Own) (count : ℕ) → IsCounted step
    → (elim (misfit now step) as (λ _. Reply) [ Some refusal ↦ Refused refusal | None ↦ elim begun as (λ _. Reply) [ None ↦ Refused NoTransaction | Some before ↦ write_reply now step o ] ]) ≡ write_count step count
    → IsDone now step begun o count
done_so now step begun o count counted told = by (misfit now step) refl told
  where
    wrote : (r : Result ℕ Refusal) → written_reply step r ≡ write_count step count → r ≡ Ok count
    wrote (Ok m) e = ap Ok (counted.is_one m count e)
    wrote (Err refusal) e = absurd (refused_not step refusal count counted e)

    in_open : (b : Option Log) → misfit now step ≡ None → (elim b as (λ _. Reply) [ None ↦ Refused NoTransaction | Some before ↦ write_reply now step o ]) ≡ write_count step count
        → (is_some b ≡ true) × ((write now step o).0 ≡ Ok count)
    in_open None fits e = absurd (refused_not step NoTransaction count counted e)
    in_open (Some before) fits e =
        (refl, wrote (write now step o).0 (sym (ap (λ (q : Option Refusal). let r : Reply = elim q [ Some refusal ↦ Refused refusal | None ↦ written_reply step (write now step o).0 ] in r) fits) ∙ e))

    by : (q : Option Refusal) → misfit now step ≡ q → (elim q as (λ _. Reply) [ Some refusal ↦ Refused refusal | None ↦ elim begun as (λ _. Reply) [ None ↦ Refused NoTransaction | Some before ↦ write_reply now step o ] ]) ≡ write_count step count
        → IsDone now step begun o count
    by (Some refusal) is e = absurd (refused_not step refusal count counted e)
    by None is e = let rest = in_open begun is e in record { fits = is; begun_is = rest.0; done = rest.1 }

one_updated : (m n : ℕ) → Updated m ≡ Updated n → m ≡ n
one_updated m n e = cc

one_deleted : (m n : ℕ) → Deleted m ≡ Deleted n → m ≡ n
one_deleted m n e = cc

portion_counted : (i : ℕ) (keys : Keys) (cut : Span) (sets : Option (List Set)) → IsCounted (portion_step i keys cut sets)
portion_counted i keys cut (Some sets) = record { is_answer = λ count. refl; is_one = one_updated }
portion_counted i keys cut None = record { is_answer = λ count. refl; is_one = one_deleted }

-- ---- the rows that the session then sees

portion_done : (first : Schema) (h : History) (i count : ℕ) (keys : Keys) (cut : Span) (sets : Option (List Set)) → IsAnswered first h (portion_step i keys cut sets) count
    → IsDone (schema_after first h) (portion_step i keys cut sets) (log_at_begin first h i) (own_now first h i) count
portion_done first h i count keys cut (Some sets) told = done_so (schema_after first h) (UpdatePortion i keys cut sets) (log_at_begin first h i) (own_now first h i) count (portion_counted i keys cut (Some sets)) told
portion_done first h i count keys cut None told = done_so (schema_after first h) (DeletePortion i keys cut) (log_at_begin first h i) (own_now first h i) count (portion_counted i keys cut None) told

not_refused : (now : Schema) (step : Step) (begun : Option Log) (o : Own) (count : ℕ) → IsCounted step → IsDone now step begun o count → is_refused (write_reply now step o) ≡ false
not_refused now step begun o count counted is =
    ap is_refused ((λ k. let r : Reply = elim (is.fits k) [ Some refusal ↦ Refused refusal | None ↦ written_reply step (write now step o).0 ] in r) ∙ ap (written_reply step) is.done)
    ∙ counted.is_answer count

mine_more : (now : Schema) (log : Log) (begun : Option Log) (own : List Step) (step : Step) (kept : Bool) → kept ≡ true
    → mine_of now log begun (if kept then own ++ step ∷ [] else own) ≡ (write now step (own_of now log begun own)).1.rows
mine_more now log begun own step true is = ap (λ (o : Own). o.rows) (rewrite_more now own step _)
mine_more now log begun own step false is = cc

-- what it saw, with the write
seen_after : (first : Schema) (h : History) (i count : ℕ) (keys : Keys) (cut : Span) (sets : Option (List Set)) → IsAnswered first h (portion_step i keys cut sets) count
    → mine first (portion_step i keys cut sets ∷ h) i ≡ (write (schema_after first h) (portion_step i keys cut sets) (own_now first h i)).1.rows
seen_after first h i count keys cut (Some sets) told =
    let is = portion_done first h i count keys cut (Some sets) told in
    mine_more (schema_after first h) (log first h) (log_at_begin first h i) (own first h i) (UpdatePortion i keys cut sets)
    ((i == i) && is_some (log_at_begin first h i) && not (is_refused (write_reply (schema_after first h) (UpdatePortion i keys cut sets) (own_now first h i))))
    (λ k. itself i k && is.begun_is k && not (not_refused (schema_after first h) (UpdatePortion i keys cut sets) (log_at_begin first h i) (own_now first h i) count (portion_counted i keys cut (Some sets)) is k))
seen_after first h i count keys cut None told =
    let is = portion_done first h i count keys cut None told in
    mine_more (schema_after first h) (log first h) (log_at_begin first h i) (own first h i) (DeletePortion i keys cut)
    ((i == i) && is_some (log_at_begin first h i) && not (is_refused (write_reply (schema_after first h) (DeletePortion i keys cut) (own_now first h i))))
    (λ k. itself i k && is.begun_is k && not (not_refused (schema_after first h) (DeletePortion i keys cut) (log_at_begin first h i) (own_now first h i) count (portion_counted i keys cut None) is k))

-- ---- what a portion that is done leaves

portion_write : (now : Schema) (i : ℕ) (keys : Keys) (cut : Span) (sets : Option (List Set)) (o : Own) → write now (portion_step i keys cut sets) o ≡ write_table now keys.table (λ table. portion_in table keys cut sets) o
portion_write now i keys cut (Some sets) o = refl
portion_write now i keys cut None o = refl

-- keys that are written
written_so : (keys : List Key) (count n : ℕ) (rows : State) (o : Own) → (write_keys keys n rows o).0 ≡ Ok count → ((write_keys keys n rows o).1.rows ≡ rows) × (count ≡ n)
written_so keys count n rows o e = by (nat_lt most_written (length (add_keys keys o.written))) e
  where
    the_count : ◌≡◌ {A = Result ℕ Refusal} (Ok n) (Ok count) → count ≡ n
    the_count e = cc

    by : (b : Bool) → (cond {A = Written} b (Err TooManyWrites, o) (Ok n, record { rows = rows; written = add_keys keys o.written })).0 ≡ Ok count
        → ((cond {A = Written} b (Err TooManyWrites, o) (Ok n, record { rows = rows; written = add_keys keys o.written })).1.rows ≡ rows) × (count ≡ n)
    by true e = cc
    by false e = (refl, the_count e)

portion_so : (now : Schema) (i count : ℕ) (keys : Keys) (cut : Span) (sets : Option (List Set)) (o : Own) (table : Table) (p : Period) → table_at now keys.table ≡ Some table → table.period ≡ Some p
    → (write now (portion_step i keys cut sets) o).0 ≡ Ok count
    → ((write now (portion_step i keys cut sets) o).1.rows ≡ change_portion table p keys cut sets o.rows) × (count ≡ length (taken table p keys cut o.rows))
portion_so now i count keys cut sets o table p found is done =
    let rest = written_so (portion_keys table p keys cut sets o.rows) count (length (taken table p keys cut o.rows)) (change_portion table p keys cut sets o.rows) o (sym (ap (λ (w : Written). w.0) all) ∙ done) in
    (ap (λ (w : Written). w.1.rows) all ∙ rest.0, rest.1)
  where
    all : write now (portion_step i keys cut sets) o ≡ write_keys (portion_keys table p keys cut sets o.rows) (length (taken table p keys cut o.rows)) (change_portion table p keys cut sets o.rows) o
    all =
        portion_write now i keys cut sets o
        ∙ ap (λ (t : Option Table). let w : Written = elim t [ None ↦ (Err NoTable, o) | Some table ↦ portion_in table keys cut sets o ] in w) found
        ∙ ap (λ (q : Option Period). let w : Written = elim q [ None ↦ (Ok 0, o) | Some p ↦ write_keys (portion_keys table p keys cut sets o.rows) (length (taken table p keys cut o.rows)) (change_portion table p keys cut sets o.rows) o ] in w) is

-- the rows that the session sees once its portion is answered
seen_so : (first : Schema) (h : History) (i count : ℕ) (keys : Keys) (cut : Span) (sets : Option (List Set)) → IsAnswered first h (portion_step i keys cut sets) count
    → (table : Table) (p : Period) → table_at (schema_after first h) keys.table ≡ Some table → table.period ≡ Some p
    → (mine first (portion_step i keys cut sets ∷ h) i ≡ change_portion table p keys cut sets (mine first h i)) × (count ≡ length (taken table p keys cut (mine first h i)))
seen_so first h i count keys cut sets told table p found is =
    let wrote = portion_so (schema_after first h) i count keys cut sets (own_now first h i) table p found is (portion_done first h i count keys cut sets told).done in
    (seen_after first h i count keys cut sets told ∙ wrote.0, wrote.1)

pub portions_count_taken : (first : Schema) → PortionsCountTaken first
portions_count_taken first h i count keys cut sets told table p found is = (seen_so first h i count keys cut sets told table p found is).1

-- ---- the points of its table

-- the portion is one, and sets no column of the key or the period
portion_fits : (now : Schema) (i : ℕ) (keys : Keys) (cut : Span) (sets : Option (List Set)) (table : Table) (p : Period) → IsAt now keys.table table → table_at now keys.table ≡ Some table → table.period ≡ Some p
    → misfit now (portion_step i keys cut sets) ≡ None → (is_span cut ≡ true) × SetsKeep table p sets
portion_fits now i keys cut (Some sets) table p at found is fits =
    updated_portion_fits table keys cut sets at.is.has (table_fits now i keys.table (λ table. portion_refusal table cut (update_fault table keys sets)) fits table found) p is
portion_fits now i keys cut None table p at found is fits =
    deleted_portion_fits table keys cut (table_fits now i keys.table (λ table. portion_refusal table cut (comparisons_fault table keys.comparisons)) fits table found) p is

pub portions_change_points : (first : Schema) → PortionsChangePoints first
portions_change_points first good h i count keys cut sets told table p found is entity time own =
    let now : Schema = schema_after first h in
    let at = is_at now keys.table table (tables_are first h good) found in
    let fit = portion_fits now i keys cut sets table p at found is (portion_done first h i count keys cut sets told).fits in
    let sound = sound_now first h (mine first h i) (apart.own_sound first good h i (λ t. apart.log_sound first good h t)) in
    ap (λ (m : State). point table p m entity time) (seen_so first h i count keys cut sets told table p found is).0
    ∙ portion_changes_points (table_at now) (periods_of now) table p at.is.found (at.is.period_is ∙ is) (at.is.has p is) keys cut sets (mine first h i) (sym at.numbered) fit.0 fit.1 sound.keyed sound.apart entity time (own ∙ sym at.numbered)

-- ---- the points of other tables

-- a test that no row of the table passes
abbrev Misses : ℕ → ((Key × Row) → Bool) → Type 0
Misses number test = (e : Key × Row) → e.0.table ≡ number → test e ≡ false

found_inserted : (number : ℕ) (test : (Key × Row) → Bool) → Misses number test → (m : State) (k : Key) (row : Row) → k.table ≡ number → find test (insert_entry key_cmp m k row) ≡ find test m
found_inserted number test misses [] k row is = ap (λ b. cond b (Some (k, row)) None) (misses (k, row) is)
found_inserted number test misses (e ∷ m) k row is = by (key_cmp k e.0) refl (found_inserted number test misses m k row is)
  where
    by : (o : Ordering) → key_cmp k e.0 ≡ o → find test (insert_entry key_cmp m k row) ≡ find test m
        → find test (match_ordering o ((k, row) ∷ e ∷ m) ((e.0, row) ∷ m) (e ∷ insert_entry key_cmp m k row)) ≡ find test (e ∷ m)
    by Less order rest = ap (λ b. cond b (Some (k, row)) (find test (e ∷ m))) (misses (k, row) is)
    by Equal order rest =
        let own : e.0.table ≡ number = sym (ap (λ (k : Key). k.table) (one_key k e.0 (ap is_eq order))) ∙ is in
        ap (λ b. cond b (Some (e.0, row)) (find test m)) (misses (e.0, row) own)
        ∙ sym (ap (λ b. cond b (Some e) (find test m)) (misses e own))
    by Greater order rest = ap (cond (test e) (Some e)) rest

found_all : (number : ℕ) (test : (Key × Row) → Bool) → Misses number test → (m es : State) → Each (λ e. e.0.table ≡ number) es → find test (insert_all m es) ≡ find test m
found_all number test misses m [] own = refl
found_all number test misses m (e ∷ es) own = found_all number test misses (insert_entry key_cmp m e.0 e.1) es own.1 ∙ found_inserted number test misses m e.0 e.1 own.0

found_kept : (number : ℕ) (test gone : (Key × Row) → Bool) → Misses number test → ((e : Key × Row) → gone e ≡ true → e.0.table ≡ number) → (m : State) → find test (filter (λ e. not (gone e)) m) ≡ find test m
found_kept number test gone misses own [] = refl
found_kept number test gone misses own (e ∷ m) = by (gone e) refl (found_kept number test gone misses own m)
  where
    by : (b : Bool) → gone e ≡ b → find test (filter (λ e. not (gone e)) m) ≡ find test m
        → find test (if not b then e ∷ filter (λ e. not (gone e)) m else filter (λ e. not (gone e)) m) ≡ find test (e ∷ m)
    by true is rest = rest ∙ sym (ap (λ b. cond b (Some e) (find test m)) (misses e (own e is)))
    by false is rest = ap (cond (test e) (Some e)) rest

-- what is left of rows of a table is the table's
abbrev Own_of : ℕ → (Key × Row) → Type 0
Own_of number e = e.0.table ≡ number

piece_own : (p : Period) (number : ℕ) (k : Key) (row : Row) (s : Span) → k.table ≡ number → Each (Own_of number) (piece p k row s)
piece_own p number k row s is = by (is_span s)
  where
    by : (b : Bool) → Each (Own_of number) (if b then (with_start k s.from, with_span p s row) ∷ [] else [])
    by true = (is, tt)
    by false = tt

-- what is new of a row, and nothing where it is gone
abbrev piece_of : Period → Key → Option Row → Span → State
piece_of p k new s = elim new [ None ↦ [] | Some row ↦ piece p k row s ]

new_own : (p : Period) (number : ℕ) (k : Key) (row : Option Row) (s : Span) → k.table ≡ number → Each (Own_of number) (piece_of p k row s)
new_own p number k None s is = tt
new_own p number k (Some row) s is = piece_own p number k row s is

all_own : (table : Table) (p : Period) (number : ℕ) (cut : Span) (sets : Option (List Set)) (es : State) → Each (Own_of number) es → Each (Own_of number) (flat_map (pieces p cut sets) (full_rows table es))
all_own table p number cut sets [] own = tt
all_own table p number cut sets (e ∷ es) own =
    each-append (Own_of number) (pieces p cut sets (full e)) (flat_map (pieces p cut sets) (full_rows table es))
    (each-append (Own_of number) (piece p e.0 (full e).1 (before (span_of p (full e).1) cut)) (piece_of p e.0 (changed sets (full e).1) (common (span_of p (full e).1) cut) ++ piece p e.0 (full e).1 (behind (span_of p (full e).1) cut))
    (piece_own p number e.0 (full e).1 (before (span_of p (full e).1) cut) own.0)
    (each-append (Own_of number) (piece_of p e.0 (changed sets (full e).1) (common (span_of p (full e).1) cut)) (piece p e.0 (full e).1 (behind (span_of p (full e).1) cut))
    (new_own p number e.0 (changed sets (full e).1) (common (span_of p (full e).1) cut) own.0)
    (piece_own p number e.0 (full e).1 (behind (span_of p (full e).1) cut) own.0)))
    (all_own table p number cut sets es own.1)
  where
    full : (Key × Row) → Key × Row
    full e = (e.0, full_row table e.1)

taken_own : (number : ℕ) (test : (Key × Row) → Bool) → ((e : Key × Row) → test e ≡ true → e.0.table ≡ number) → (m : State) → Each (Own_of number) (filter test m)
taken_own number test own [] = tt
taken_own number test own (e ∷ m) = by (test e) refl (taken_own number test own m)
  where
    by : (b : Bool) → test e ≡ b → Each (Own_of number) (filter test m) → Each (Own_of number) (if b then e ∷ filter test m else filter test m)
    by true is rest = (own e is, rest)
    by false is rest = rest

-- a portion leaves the rows that a test finds which no row of its table passes
found_after : (table : Table) (p : Period) (keys : Keys) (cut : Span) (sets : Option (List Set)) (m : State) (test : (Key × Row) → Bool) → Misses keys.table test → find test (change_portion table p keys cut sets m) ≡ find test m
found_after table p keys cut sets m test misses =
    found_all keys.table test misses (not_taken table p keys cut m) (all_left table p keys cut sets m) (all_own table p keys.table cut sets (taken table p keys cut m) (taken_own keys.table (is_taken table p keys cut) own m))
    ∙ found_kept keys.table test (is_taken table p keys cut) misses own m
  where
    own : (e : Key × Row) → is_taken table p keys cut e ≡ true → e.0.table ≡ keys.table
    own e is = one_table e.0.table keys.table keys.table refl (and_first (e.0.table == keys.table) _ (and_first (matches table keys e.0) _ is))

misses_other : (p : Period) (entity : Key) (time : ℤ) (number : ℕ) → entity.table ≢ number → Misses number (is_row_then p entity time)
misses_other p entity time number other e own = by (is_key entity (entity_of e.0)) refl
  where
    by : (b : Bool) → is_key entity (entity_of e.0) ≡ b → (b && is_time_of (span_of p e.1) time) ≡ false
    by true is = absurd (other (ap (λ (k : Key). k.table) (one_key entity (entity_of e.0) is) ∙ own))
    by false is = refl

-- a write that is done has its table
portion_stays : (now : Schema) (i count : ℕ) (keys : Keys) (cut : Span) (sets : Option (List Set)) (o : Own) (test : (Key × Row) → Bool) → Misses keys.table test
    → find test (write now (portion_step i keys cut sets) o).1.rows ≡ find test o.rows
portion_stays now i count keys cut sets o test misses =
    ap (λ (w : Written). find test w.1.rows) (portion_write now i keys cut sets o) ∙ in_table (table_at now keys.table)
  where
    in_period : (table : Table) (q : Option Period) → find test (elim q as (λ _. Written) [ None ↦ (Ok 0, o) | Some p ↦ write_keys (portion_keys table p keys cut sets o.rows) (length (taken table p keys cut o.rows)) (change_portion table p keys cut sets o.rows) o ]).1.rows ≡ find test o.rows
    in_period table None = refl
    in_period table (Some p) = by (nat_lt most_written (length (add_keys (portion_keys table p keys cut sets o.rows) o.written)))
      where
        by : (b : Bool) → find test (cond {A = Written} b (Err TooManyWrites, o) (Ok (length (taken table p keys cut o.rows)), record { rows = change_portion table p keys cut sets o.rows; written = add_keys (portion_keys table p keys cut sets o.rows) o.written })).1.rows ≡ find test o.rows
        by true = refl
        by false = found_after table p keys cut sets o.rows test misses

    in_table : (t : Option Table) → find test (elim t as (λ _. Written) [ None ↦ (Err NoTable, o) | Some table ↦ portion_in table keys cut sets o ]).1.rows ≡ find test o.rows
    in_table None = refl
    in_table (Some table) = in_period table table.period

pub other_points_stay : (first : Schema) → OtherPointsStay first
other_points_stay first h i count keys cut sets told other p entity time elsewhere =
    ap (λ (m : State). point other p m entity time) (seen_after first h i count keys cut sets told)
    ∙ ap (option_map (λ e. outside p (full_row other e.1))) (portion_stays (schema_after first h) i count keys cut sets (own_now first h i) (is_row_then p entity time) (misses_other p entity time keys.table elsewhere))

-- ---- other sessions

mine_still : (now : Schema) (log : Log) (begun : Option Log) (own : List Step) (step : Step) (its begun_is kept : Bool) → its ≡ false
    → mine_of now log begun (if its && begun_is && kept then own ++ step ∷ [] else own) ≡ mine_of now log begun own
mine_still now log begun own step true begun_is kept is = cc
mine_still now log begun own step false begun_is kept is = refl

pub others_see_the_same : (first : Schema) → OthersSeeTheSame first
others_see_the_same first h i j keys cut (Some sets) other = (
  mine_still (schema_after first h) (log first h) (log_at_begin first h j) (own first h j) (UpdatePortion i keys cut sets)
      (j == i) (is_some (log_at_begin first h j)) (not (is_refused (write_reply (schema_after first h) (UpdatePortion i keys cut sets) (own_now first h j)))) (not_other i j other),
  refl,
)
others_see_the_same first h i j keys cut None other = (
  mine_still (schema_after first h) (log first h) (log_at_begin first h j) (own first h j) (DeletePortion i keys cut)
      (j == i) (is_some (log_at_begin first h j)) (not (is_refused (write_reply (schema_after first h) (DeletePortion i keys cut) (own_now first h j)))) (not_other i j other),
  refl,
)

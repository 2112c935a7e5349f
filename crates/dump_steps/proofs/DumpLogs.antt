-- The log of a history: each row fits its table, and is as wide as its table was at the commit.
use Rattle.std.proofs.Common.{◌≡◌, ℕ, ◌+◌, ◌-◌, ◌≤◌, ◌<◌, suc, Bool, true, false, cond, ◌||◌, List, [], ◌∷◌, ◌++◌, Option, Some, None, refl, sym, ap, subst, ◌∙◌, arith, length, length-append, max, nat_le}
use Rattle.std.specs.Prelude.{◌==◌, Result, Ok, Err, is_some, slice_set}
use Rattle.std.proofs.lemmas.Bool.Decides.{nat_tests}
use Rattle.std.proofs.lemmas.Option.{slice_get_within}
use Rattle.std.specs.List.{list_any, slice_get}
use Rattle.std.specs.Option.{unwrap_or}
use Rattle.values.specs.declared.key.Key.{Key}
use Rattle.values.specs.declared.key.Transaction.{Transaction}
use Rattle.values.specs.declared.refusal.Refusal.{Refusal}
use Rattle.values.specs.declared.table.Column.{Column}
use Rattle.values.specs.declared.table.Table.{Table}
use Rattle.values.specs.Commits.{after, log_after, max_instant}
use Rattle.values.specs.Each.{Each}
use Rattle.values.specs.Log.{Log, Net, Row, State, apply_net, changes, last, replay, row_at, state, upto}
use Rattle.values.specs.Order.{is_key}
use Rattle.values.specs.Period.{periods_of}
use Rattle.values.specs.TableRules.{AreTables}
use Rattle.values.specs.Tables.{Schema, column_at, is_key_column, table_at}
use Rattle.values.specs.WiderTable.{IsWidenedTo}
use Rattle.values.specs.Writes.{net_of}
use Rattle.values.proofs.LogStates.{state_matches}
use Rattle.periods.proofs.NoOverlapApart.{or_none}
use Rattle.periods.proofs.NoOverlapColumns.{each_to}
use Rattle.periods.proofs.NoOverlapMerge.{itself}
use Rattle.periods.proofs.NoOverlapNets.{each_net, new_of_net}
use Rattle.periods.proofs.NoOverlapPieces.{each-append, each_kept, the_table}
use Rattle.steps.specs.declared.step.Step.{Step}
use Rattle.steps.specs.declared.step.Step.TheVariants.{Begin, Insert, Update, Delete, UpdatePortion, DeletePortion, Select, Commit, Rollback, AddColumn, SplitKey, SplitTime, Migrate}
use Rattle.histories.specs.History.{History, log, log_at_begin, net_change_of, own, own_of, schema_after, seen_of, snap_of}
use Rattle.histories.proofs.HistoryGrowth.{log_rises}
use Rattle.histories.proofs.HistoryOwn.{own_fits}
use Rattle.histories.proofs.HistoryTables.{tables_only_grow}
use Rattle.histories.proofs.WorldGrowth.{last_push}
use Rattle.dump_steps.specs.Widths.{Widths, wider, widths_after, widths_of, width_at}
use Rattle.dump_steps.proofs.DumpInstants.{outcome_within}
use Rattle.dump_steps.proofs.DumpOwn.{IsFull, Kept}
use Rattle.dump_steps.proofs.DumpOwnWrites.{AllLaidOut, writes_kept}
use Rattle.dump_steps.proofs.DumpRows.{AreKeyColumns, column_is, got, row_of_wider}
use Rattle.dump_steps.proofs.DumpWrites.{IsRowIn}
use Rattle.dump_steps.proofs.WidthsGrown.{as_many}
use Rattle.dump_steps.proofs.WidthsLaidOut.{all_grown, first_between, tables_laid_out}
use Rattle.dump_steps.proofs.WidthsTables.{AreBetween, is_table, place, set_between, set_else, set_here, table_is}

-- ---- what a log has

-- the rows of net changes are of these tables
abbrev pub AreRowsIn : Schema → Net → Type 0
AreRowsIn now net = Each (λ c. (row : Row) → c.1 ≡ Some row → IsRowIn now (c.0, row)) net

abbrev pub AreFullIn : Schema → Net → Type 0
AreFullIn now net = Each (λ c. (row : Row) → c.1 ≡ Some row → IsFull now c.0 row) net

-- each is as wide as its table is once the columns of all were added
abbrev pub AreWide : Widths → Net → Type 0
AreWide w net = Each (λ c. (row : Row) → c.1 ≡ Some row → length row ≡ width_at w c.0.table) net

abbrev pub AllWide : Widths → Log → Type 0
AllWide w [] = Unit {0}
AllWide w (t ∷ rest) = AreWide (widths_after w t.net) t.net × AllWide (widths_after w t.net) rest

abbrev pub widths_then : Widths → Log → Widths
widths_then w [] = w
widths_then w (t ∷ rest) = widths_then (widths_after w t.net) rest

pub record IsFitLog (first : Widths) (now : Schema) (l : Log) : Type 0 where
  pub clock : last l ≤ max_instant
  pub rows : Each (λ t. AreRowsIn now t.net) l
  pub wide : AllWide first l
  pub between : AreBetween first now.tables (widths_then first l)

-- ---- one transaction more

pushed_wide : (w : Widths) (l : Log) (t : Transaction) → AllWide w l → AreWide (widths_after (widths_then w l) t.net) t.net → AllWide w (l ++ t ∷ [])
pushed_wide w [] t all one = (one, tt)
pushed_wide w (u ∷ l) t all one = (all.0, pushed_wide (widths_after w u.net) l t all.1 one)

then_pushed : (w : Widths) (l : Log) (t : Transaction) → widths_then w (l ++ t ∷ []) ≡ widths_after (widths_then w l) t.net
then_pushed w [] t = refl
then_pushed w (u ∷ l) t = then_pushed (widths_after w u.net) l t

module _ (first : Widths) (now : Schema) where
  abbrev Between : Widths → Type 0
  Between w = AreBetween first now.tables w

  -- the table of a row that is as wide as it
  record IsFullAt (key : Key) (row : Row) : Type 0 where
    t : Table
    at : slice_get now.tables (key.table - 1) ≡ Some t
    wide : length row ≡ length t.columns

  full_at : (key : Key) (row : Row) → IsRowIn now (key, row) → IsFull now key row → IsFullAt key row
  full_at key row is full = let at = table_is now key.table is.0 is.1.0 in record { t = is.0; at = at.found; wide = full is.0 is.1.0 }

  same_place : (i j : ℕ) → (i == j) ≡ true → i ≡ j
  same_place i j e = grind (arith, nat_tests)

  -- a width that is the table's stays
  stays_full : (net : Net) (v : Widths) (i : ℕ) (t : Table) → Between v → slice_get now.tables i ≡ Some t → place v i ≡ length t.columns → AreRowsIn now net → AreFullIn now net
      → place (widths_after v net) i ≡ length t.columns
  stays_full [] v i t between at is rows full = is
  stays_full (c ∷ net) v i t between at is rows full = by c.1 rows.0 full.0 (λ v between is. stays_full net v i t between at is rows.1 full.1)
    where
      by : (o : Option Row) → ((row : Row) → o ≡ Some row → IsRowIn now (c.0, row)) → ((row : Row) → o ≡ Some row → IsFull now c.0 row)
          → ((v : Widths) → Between v → place v i ≡ length t.columns → place (widths_after v net) i ≡ length t.columns)
          → place (widths_after (wider v c.0 o) net) i ≡ length t.columns
      by None rows full rest = rest v between is
      by (Some row) rows full rest =
          let it = full_at c.0 row (rows row refl) (full row refl) in
          let under : place v (c.0.table - 1) ≤ length it.t.columns = between.within (c.0.table - 1) it.t it.at in
          rest (slice_set v (c.0.table - 1) (max (width_at v c.0.table) (length row)))
          (set_between first now.tables v (c.0.table - 1) (max (width_at v c.0.table) (length row)) it.t it.at (omega arith) (omega (arith, under, it.wide)) between)
          (at_place (c.0.table - 1 == i) refl it under)
        where
          at_place : (b : Bool) → (c.0.table - 1 == i) ≡ b → (it : IsFullAt c.0 row) → place v (c.0.table - 1) ≤ length it.t.columns → place (slice_set v (c.0.table - 1) (max (width_at v c.0.table) (length row))) i ≡ length t.columns
          at_place true e it under =
              let same : c.0.table - 1 ≡ i = same_place (c.0.table - 1) i e in
              let one : it.t ≡ t = the_table it.t t (sym it.at ∙ ap (slice_get now.tables) same ∙ at) in
              let inside : c.0.table - 1 < length now.tables = slice_get_within now.tables (c.0.table - 1) it.t it.at in
              let most : max (width_at v c.0.table) (length row) ≡ length it.t.columns = omega (arith, under, it.wide) in
              ap (place (slice_set v (c.0.table - 1) (max (width_at v c.0.table) (length row)))) (sym same)
              ∙ set_here v (c.0.table - 1) (max (width_at v c.0.table) (length row)) (omega (arith, between.long, inside))
              ∙ most ∙ ap (λ (t : Table). length t.columns) one
          at_place false e it under = set_else v (c.0.table - 1) i (max (width_at v c.0.table) (length row)) e ∙ is

  record IsWideAfter (w : Widths) (net : Net) : Type 0 where
    wide : AreWide (widths_after w net) net
    between : Between (widths_after w net)

  -- rows as wide as their tables are so by the widths
  wide_after : (net : Net) (w : Widths) → Between w → AreRowsIn now net → AreFullIn now net → IsWideAfter w net
  wide_after [] w between rows full = record { wide = tt; between = between }
  wide_after (c ∷ net) w between rows full = by c.1 rows.0 full.0 (λ v between. wide_after net v between rows.1 full.1)
    where
      by : (o : Option Row) → ((row : Row) → o ≡ Some row → IsRowIn now (c.0, row)) → ((row : Row) → o ≡ Some row → IsFull now c.0 row) → ((v : Widths) → Between v → IsWideAfter v net) → IsWideAfter w ((c.0, o) ∷ net)
      by None rows_0 full_0 again =
          let rest = again w between in
          record { wide = ((λ row at. cc), rest.wide); between = rest.between }
      by (Some row) rows_0 full_0 again =
          let it = full_at c.0 row (rows_0 row refl) (full_0 row refl) in
          let under : place w (c.0.table - 1) ≤ length it.t.columns = between.within (c.0.table - 1) it.t it.at in
          let v : Widths = slice_set w (c.0.table - 1) (max (width_at w c.0.table) (length row)) in
          let between_v = set_between first now.tables w (c.0.table - 1) (max (width_at w c.0.table) (length row)) it.t it.at (omega arith) (omega (arith, under, it.wide)) between in
          let inside : c.0.table - 1 < length now.tables = slice_get_within now.tables (c.0.table - 1) it.t it.at in
          let most : max (width_at w c.0.table) (length row) ≡ length it.t.columns = omega (arith, under, it.wide) in
          let here : place v (c.0.table - 1) ≡ length it.t.columns = set_here w (c.0.table - 1) (max (width_at w c.0.table) (length row)) (omega (arith, between.long, inside)) ∙ most in
          let rest = again v between_v in
          record {
            wide = ((λ r at. ap (λ (o : Option Row). length (unwrap_or o [])) (sym at) ∙ it.wide ∙ sym (stays_full net v (c.0.table - 1) it.t between_v it.at here rows.1 full.1)), rest.wide);
            between = rest.between;
          }

  pub pushed_fits : (l : Log) (t : Transaction) → t.instant ≤ max_instant → AreRowsIn now t.net → AreFullIn now t.net → IsFitLog first now l → IsFitLog first now (l ++ t ∷ [])
  pushed_fits l t within rows full fit =
      let after = wide_after t.net (widths_then first l) fit.between rows full in
      record {
        clock = subst (λ n. n ≤ max_instant) (sym (last_push l t)) within;
        rows = each-append (λ t. AreRowsIn now t.net) l (t ∷ []) fit.rows (rows, tt);
        wide = pushed_wide first l t fit.wide after.wide;
        between = subst Between (sym (then_pushed first l t)) after.between;
      }

-- ---- what was committed

replayed : (now : Schema) (l : Log) (m : State) → Each (λ t. AreRowsIn now t.net) l → Each (IsRowIn now) m → Each (IsRowIn now) (replay m l)
replayed now [] m rows each = each
replayed now (t ∷ l) m rows each = replayed now l (apply_net m t.net) rows.1 (each_net (IsRowIn now) t.net m rows.0 each)

-- the rows of what was committed are of the tables
pub state_rows : (now : Schema) (l : Log) (s : ℕ) → Each (λ t. AreRowsIn now t.net) l → Each (IsRowIn now) (state l s)
state_rows now l s rows = replayed now (upto l s) [] (each_kept (λ t. AreRowsIn now t.net) (λ t. nat_le t.instant s) l rows) tt

-- ---- a transaction's net change

here : (k : Key) (ks : List Key) → list_any (is_key k) (k ∷ ks) ≡ true
here k ks = ap (λ b. b || list_any (is_key k) ks) (itself k)

abbrev AreAmong : List Key → List Key → Type 0
AreAmong all ks = Each (λ k. list_any (is_key k) all ≡ true) ks

more_among : (all : List Key) (k : Key) (ks : List Key) → AreAmong all ks → AreAmong (k ∷ all) ks
more_among all k [] are = tt
more_among all k (x ∷ ks) are = (by (is_key x k) are.0, more_among all k ks are.1)
  where
    by : (b : Bool) → list_any (is_key x) all ≡ true → (b || list_any (is_key x) all) ≡ true
    by true e = refl
    by false e = e

all_among : (ks : List Key) → AreAmong ks ks
all_among [] = tt
all_among (k ∷ ks) = (here k ks, more_among ks k ks (all_among ks))

full_net : (now : Schema) (seen rows : State) (all keys : List Key) → ((q : Key) (row : Row) → list_any (is_key q) all ≡ true → row_at rows q ≡ Some row → IsFull now q row) → AreAmong all keys → AreFullIn now (net_of seen rows keys)
full_net now seen rows all [] full among = tt
full_net now seen rows all (k ∷ ks) full among = by (is_some (row_at rows k) || is_some (row_at seen k)) (full_net now seen rows all ks full among.1)
  where
    by : (b : Bool) → AreFullIn now (net_of seen rows ks) → AreFullIn now (cond b ((k, row_at rows k) ∷ net_of seen rows ks) (net_of seen rows ks))
    by true rest = ((λ row at. full k row among.0 at), rest)
    by false rest = rest

-- ---- a history

module _ (first : Schema) (good : AreTables 1 first.tables) where
  abbrev widths : Widths
  widths = widths_of first

  abbrev now : History → Schema
  now h = schema_after first h

  laid_out : (h : History) → AllLaidOut widths (now h).tables
  laid_out h = tables_laid_out first h good

  -- a column that was added may be NULL, and is none of the key's
  new_columns : (h : History) (number : ℕ) (t u : Table) → table_at (now h) number ≡ Some u → IsWidenedTo t u → place widths (number - 1) ≤ length t.columns → (n : ℕ) (c : Column) → column_at u n ≡ Some c → length t.columns < n → (c.not_null ≡ false) × (is_key_column u n ≡ false)
  new_columns h number t u found grows above n c at behind =
      let is = column_is u n c at in
      let out = laid_out h (number - 1) u (table_is (now h) number u found).found in
      let addition = out.added (n - 1) c (omega (arith, above, behind)) is.found in (
        ap (λ (c : Column). c.not_null) addition.new,
        no_key u (place widths (number - 1)) n u.key out.columns (omega (arith, above, behind)),
      )
    where
      other : (a b : ℕ) → a < b → (a == b) ≡ false
      other a b lt = grind (arith, nat_tests)

      no_key : (u : Table) (k n : ℕ) (ns : List ℕ) → AreKeyColumns u k ns → k < n → list_any (λ m. m == n) ns ≡ false
      no_key u k n [] are lt = refl
      no_key u k n (m ∷ ns) are lt = let le : m ≤ k = are.0.1.0 in or_none _ _ (other m n (omega arith)) (no_key u k n ns are.1 lt)

  row_later : (h : History) (step : Step) (e : Key × Row) → IsRowIn (now h) e → IsRowIn (now (step ∷ h)) e
  row_later h step e row =
      let grown = tables_only_grow first h (step ∷ []) e.0.table row.0 row.1.0 in
      let out = laid_out h (e.0.table - 1) row.0 (table_is (now h) e.0.table row.0 row.1.0).found in
      (grown.0, (grown.1.0, row_of_wider row.0 grown.0 e grown.1.1 (new_columns (step ∷ h) e.0.table row.0 grown.0 grown.1.0 grown.1.1 out.wider) row.1.1))

  rows_later : (h : History) (step : Step) (net : Net) → AreRowsIn (now h) net → AreRowsIn (now (step ∷ h)) net
  rows_later h step net rows =
      each_to (λ c. (row : Row) → c.1 ≡ Some row → IsRowIn (now h) (c.0, row)) (λ c. (row : Row) → c.1 ≡ Some row → IsRowIn (now (step ∷ h)) (c.0, row))
      (λ c is row at. row_later h step (c.0, row) (is row at)) net rows

  between_later : (h : History) (step : Step) (w : Widths) → AreBetween widths (now h).tables w → AreBetween widths (now (step ∷ h)).tables w
  between_later h step w between = record {
    long = between.long ∙ sym (as_many first.tables (now h).tables (all_grown first h)) ∙ as_many first.tables (now (step ∷ h)).tables (all_grown first (step ∷ h));
    above = between.above;
    within = λ i t at. by i t at;
  }
    where
      as_long : length (now h).tables ≡ length (now (step ∷ h)).tables
      as_long = sym (as_many first.tables (now h).tables (all_grown first h)) ∙ as_many first.tables (now (step ∷ h)).tables (all_grown first (step ∷ h))

      back : (i : ℕ) → suc i - 1 ≡ i
      back i = omega arith

      by : (i : ℕ) (t : Table) → slice_get (now (step ∷ h)).tables i ≡ Some t → place w i ≤ length t.columns
      by i t at =
          let lt : i < length (now (step ∷ h)).tables = slice_get_within (now (step ∷ h)).tables i t at in
          let was = got (now h).tables i (omega (arith, as_long)) in
          let found : table_at (now h) (suc i) ≡ Some was.0 = is_table (now h) (suc i) was.0 (record { from_1 = omega arith; found = ap (slice_get (now h).tables) (back i) ∙ was.1 }) in
          let grown = tables_only_grow first h (step ∷ []) (suc i) was.0 found in
          let same : grown.0 ≡ t = the_table grown.0 t (sym (table_is (now (step ∷ h)) (suc i) grown.0 grown.1.0).found ∙ ap (slice_get (now (step ∷ h)).tables) (back i) ∙ at) in
          let under : place w i ≤ length was.0.columns = between.within i was.0 was.1 in
          let more : length grown.0.columns ≡ length was.0.columns + length grown.1.1.more = ap length grown.1.1.columns_are ∙ length-append was.0.columns grown.1.1.more in
          subst (λ (t : Table). place w i ≤ length t.columns) same (omega (arith, under, more))

  fits_later : (h : History) (step : Step) (l : Log) → IsFitLog widths (now h) l → IsFitLog widths (now (step ∷ h)) l
  fits_later h step l fit = record {
    clock = fit.clock;
    rows = each_to (λ t. AreRowsIn (now h) t.net) (λ t. AreRowsIn (now (step ∷ h)) t.net) (λ t rows. rows_later h step t.net rows) l fit.rows;
    wide = fit.wide;
    between = between_later h step (widths_then widths l) fit.between;
  }

  -- what a session sees
  own_kept : (h : History) (i : ℕ) → IsFitLog widths (now h) (log first h) → Kept (now h) (own_of (now h) (log first h) (log_at_begin first h i) (own first h i))
  own_kept h i fit =
      let seen = seen_of (log first h) (log_at_begin first h i) in
      writes_kept (now h) widths (laid_out h) (own first h i) (record { rows = seen; written = [] }) (own_fits first h i)
      (record {
        sorted = (state_matches (log first h) (snap_of (log first h) (log_at_begin first h i)) (log_rises first h)).by_key;
        rows = state_rows (now h) (log first h) (snap_of (log first h) (log_at_begin first h i)) fit.rows;
        full = λ q row has at. cc;
      })

  ended : (h : History) (i : ℕ) (end : Result (Option ℕ) Refusal) → ((n : ℕ) → end ≡ Ok (Some n) → n ≤ max_instant) → IsFitLog widths (now h) (log first h)
      → IsFitLog widths (now h) (log_after (log first h) (net_change_of (now h) (log first h) (log_at_begin first h i) (own first h i)) end)
  ended h i (Ok (Some instant)) within fit =
      let kept = own_kept h i fit in
      let seen = seen_of (log first h) (log_at_begin first h i) in
      let o = own_of (now h) (log first h) (log_at_begin first h i) (own first h i) in
      pushed_fits widths (now h) (log first h) (record { instant = instant; net = net_of seen o.rows o.written }) (within instant refl)
      (new_of_net (IsRowIn (now h)) seen o.rows o.written kept.rows) (full_net (now h) seen o.rows o.written o.written kept.full (all_among o.written)) fit
  ended h i (Ok None) within fit = fit
  ended h i (Err refusal) within fit = fit

  pub log_fits : (h : History) → IsFitLog widths (now h) (log first h)
  log_fits [] = record { clock = omega arith; rows = tt; wide = tt; between = first_between first [] good }
  log_fits (Commit i reading ∷ h) =
      elim (log_at_begin first h i) as (λ (o : Option Log). IsFitLog widths (now h) (elim o [
        | None ↦ log first h
        | Some before ↦ after (periods_of (now h)) (log first h) (last before) (net_change_of (now h) (log first h) (log_at_begin first h i) (own first h i)) reading
      ])) [
        | None ↦ log_fits h
        | Some before ↦ ended h i _ (λ n e. outcome_within (periods_of (now h)) (changes (log first h)) (last (log first h)) (last before) _ reading n e) (log_fits h)
      ]
  log_fits (AddColumn i number name of ∷ h) = fits_later h (AddColumn i number name of) (log first h) (log_fits h)
  log_fits (Begin i ∷ h) = log_fits h
  log_fits (Insert i number rows ∷ h) = log_fits h
  log_fits (Update i keys sets ∷ h) = log_fits h
  log_fits (Delete i keys ∷ h) = log_fits h
  log_fits (UpdatePortion i keys cut sets ∷ h) = log_fits h
  log_fits (DeletePortion i keys cut ∷ h) = log_fits h
  log_fits (Select i form keys ∷ h) = log_fits h
  log_fits (Rollback i ∷ h) = log_fits h
  log_fits (SplitKey key ∷ h) = log_fits h
  log_fits (SplitTime key instant ∷ h) = log_fits h
  log_fits (Migrate ∷ h) = log_fits h

-- The steps of a dump, where each transaction of the log can be made again over those before it.
use Rattle.std.proofs.Common.{◌≡◌, ℕ, ◌-◌, ◌≤◌, ◌<◌, Bool, true, [], ◌∷◌, ◌++◌, Some, None, refl, sym, subst, arith, length, append-nil, append_assoc}
use Rattle.std.specs.List.{slice_get}
use Rattle.values.specs.declared.key.Transaction.{Transaction}
use Rattle.values.specs.declared.table.Table.{Table}
use Rattle.values.specs.Commits.{max_instant}
use Rattle.values.specs.Each.{Each}
use Rattle.values.specs.Law.{IsLog, Rises}
use Rattle.values.specs.Log.{Log, Net, Row, apply_net, last, last_from, state}
use Rattle.values.specs.Period.{periods_of}
use Rattle.values.specs.Tables.{Schema, is_key_column, table_at}
use Rattle.values.specs.Writes.{most_written}
use Rattle.values.proofs.LogPush.{last_above}
use Rattle.periods.specs.NoOverlap.{NoOverlap}
use Rattle.periods.proofs.NoOverlapColumns.{each_to}
use Rattle.restoring.specs.Rebuilt.{IsNetOver}
use Rattle.restoring.specs.Room.{FewNetsHaveRoom}
use Rattle.dump_steps.specs.Dump.{dump_from, transaction_steps}
use Rattle.dump_steps.specs.Widths.{Widths, widen_all, widths_after}
use Rattle.dump_steps.proofs.DumpTurns.{Goes, goes_on, system}
use Rattle.dump_steps.proofs.DumpWrites.{AreNew, IsHere, IsNew, IsRowIn, transaction_goes}
use Rattle.dump_steps.proofs.WidthsAdded.{IsLaidOut, all_widen, last_goes}
use Rattle.dump_steps.proofs.WidthsTables.{AreBetween, IsTableAt, place, table_is, table_then, tables_at}

-- a transaction can be made again over those before it, once the tables are wide enough
pub record MayBeMade (tables : Schema) (w : Widths) (done : Log) (t : Transaction) : Type 0 where
  pub over : IsNetOver (state done (last done)) t.net
  pub some : 0 < length t.net
  pub few : length t.net ≤ most_written
  pub rows : Each (IsRowIn tables) (state done (last done))
  pub new : AreNew tables (widths_after w t.net) t.net
  pub apart : NoOverlap (periods_of tables) (apply_net (state done (last done)) t.net)

abbrev pub AllMayBeMade : Schema → Widths → (done rest : Log) → Type 0
AllMayBeMade tables w done [] = Unit {0}
AllMayBeMade tables w done (t ∷ rest) = MayBeMade tables w done t × AllMayBeMade tables (widths_after w t.net) (done ++ t ∷ []) rest

-- ---- logs

pub behind : (done : Log) (n : ℕ) (t : Transaction) (rest : Log) → Rises n (done ++ t ∷ rest) → (last_from n done < t.instant) × Rises t.instant rest
behind [] n t rest rises = rises
behind (d ∷ done) n t rest rises = behind done d.instant t rest rises.1

pub front : (done : Log) (n : ℕ) (more : Log) → Rises n (done ++ more) → Rises n done
front [] n more rises = tt
front (d ∷ done) n more rises = (rises.0, front done d.instant more rises.1)

last_of : (done : Log) (n : ℕ) (t : Transaction) (rest : Log) → last_from n (done ++ t ∷ rest) ≡ last_from t.instant rest
last_of [] n t rest = refl
last_of (d ∷ done) n t rest = last_of done d.instant t rest

module _ (room : FewNetsHaveRoom) (tables : Schema) (is_long : Table → Row → Bool) (first : Widths) (laid_out : (i : ℕ) (t : Table) → slice_get tables.tables i ≡ Some t → IsLaidOut first i t) where
  here : (w : Widths) → AreBetween first tables.tables w → (t : Table) → table_at tables t.number ≡ Some t → IsHere tables w t
  here w between t found =
      let at : IsTableAt tables.tables t.number t = table_is tables t.number t found in
      let is = laid_out (t.number - 1) t at.found in
      let above : place first (t.number - 1) ≤ place w (t.number - 1) = between.above (t.number - 1) in
      record {
        table_is = table_then tables.tables w t.number t between.long at;
        columns =
            each_to (λ n. (1 ≤ n) × ((n ≤ place first (t.number - 1)) × (is_key_column t n ≡ true))) (λ n. (1 ≤ n) × ((n ≤ place w (t.number - 1)) × (is_key_column t n ≡ true)))
            (λ n its. let le : n ≤ place first (t.number - 1) = its.1.0 in (its.0, (omega arith, its.1.1))) t.key is.columns;
        within = between.within (t.number - 1) t at.found;
        has = is.has;
      }

  rows_of_new : (w : Widths) (net : Net) → AreNew tables w net → Each (λ c. (row : Row) → c.1 ≡ Some row → IsRowIn tables (c.0, row)) net
  rows_of_new w net new =
      each_to (λ c. (row : Row) → c.1 ≡ Some row → IsNew tables w c.0 row) (λ c. (row : Row) → c.1 ≡ Some row → IsRowIn tables (c.0, row))
      (λ c is row at. ((is row at).t, ((is row at).found, (is row at).row_is))) net new

  -- from the tables at some widths on, with the transactions that were done, to all tables and all transactions
  pub dump_goes : (w : Widths) (done rest : Log) → AreBetween first tables.tables w → IsLog (done ++ rest) → last (done ++ rest) ≤ max_instant → AllMayBeMade tables w done rest
      → Goes (system (tables_at tables.tables w) done None) (dump_from tables is_long w done rest) (system tables (done ++ rest) None)
  dump_goes w done [] between rises within may =
      subst (λ l. Goes (system (tables_at tables.tables w) done None) (dump_from tables is_long w done []) (system tables l None)) (sym (append-nil done))
      (last_goes tables first laid_out done w between)
  dump_goes w done (t ∷ rest) between rises within may =
      let places = behind done 0 t rest rises in
      let joined : (done ++ t ∷ []) ++ rest ≡ done ++ t ∷ rest = append_assoc done (t ∷ []) rest in
      let above : t.instant ≤ last_from t.instant rest = last_above rest t.instant places.1 in
      let most : last_from t.instant rest ≤ max_instant = subst (λ n. n ≤ max_instant) (last_of done 0 t rest) within in
      let early : t.instant ≤ max_instant = omega arith in
      let can = may.0 in
      let v : Widths = widths_after w t.net in
      let wider = all_widen tables first laid_out done t.net w (rows_of_new v t.net can.new) between in
      let m = state done (last done) in
      goes_on (system (tables_at tables.tables w) done None) (system (tables_at tables.tables v) done None) (system tables (done ++ t ∷ rest) None)
      (widen_all tables w t.net) (transaction_steps tables is_long m t ++ dump_from tables is_long v (done ++ t ∷ []) rest) wider.goes
      (goes_on (system (tables_at tables.tables v) done None) (system (tables_at tables.tables v) (done ++ t ∷ []) None) (system tables (done ++ t ∷ rest) None)
      (transaction_steps tables is_long m t) (dump_from tables is_long v (done ++ t ∷ []) rest)
      (transaction_goes tables is_long v (here v wider.between) done t (front done 0 (t ∷ rest) rises) places.0 early can.some can.over (room m t.net can.over.in_order can.few) can.rows can.new can.apart)
      (subst (λ l. Goes (system (tables_at tables.tables v) (done ++ t ∷ []) None) (dump_from tables is_long v (done ++ t ∷ []) rest) (system tables l None)) joined
      (dump_goes v (done ++ t ∷ []) rest wider.between (subst IsLog (sym joined) rises) (subst (λ l. last l ≤ max_instant) (sym joined) within) may.1)))

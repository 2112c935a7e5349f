-- Every history is left again by the steps of its dump.
use Rattle.std.proofs.Common.{◌≡◌, ℕ, ◌+◌, ◌≤◌, ◌<◌, Bool, true, false, cond, [], ◌∷◌, ◌++◌, Option, None, refl, sym, ap, subst, ◌∙◌, arith, length, nat_le, append_assoc}
use Rattle.std.proofs.lemmas.Bool.Decides.{nat_tests}
use Rattle.std.proofs.lemmas.List.{get_or-replicate}
use Rattle.std.specs.List.{AllByRecursion}
use Rattle.values.specs.declared.key.Transaction.{Transaction}
use Rattle.values.specs.declared.table.Table.{Table}
use Rattle.values.specs.Each.{Each}
use Rattle.values.specs.Law.{IsLog, Rises}
use Rattle.values.specs.Log.{Log, Net, Row, State, apply_net, last, last_from, replay, state, upto}
use Rattle.values.specs.Period.{Periods, periods_of}
use Rattle.values.specs.TableRules.{AreTables}
use Rattle.values.specs.Tables.{Schema}
use Rattle.values.specs.Writes.{most_written}
use Rattle.values.proofs.LogPush.{last_above, upto_all}
use Rattle.periods.specs.NoOverlap.{NoOverlap}
use Rattle.steps.specs.Misfit.{max_session}
use Rattle.histories.specs.Alike.{IdleHistoriesAnswerAlike}
use Rattle.histories.specs.History.{History, has_open, log, schema_after}
use Rattle.histories.specs.Led.{led}
use Rattle.histories.specs.PeriodLaw.{NeverOverlap}
use Rattle.histories.specs.Stands.{Stands, is_open_at}
use Rattle.histories.specs.World.{OpenTransaction, World}
use Rattle.histories.proofs.HistoryGrowth.{log_rises}
use Rattle.histories.proofs.HistoryTables.{periods_stay}
use Rattle.histories.proofs.Memory.{idle_alike, is_open}
use Rattle.histories.proofs.StandsAltered.{begun_alike}
use Rattle.dump_steps.specs.DumpLaw.{HasComeTo}
use Rattle.restoring.specs.FromChanges.{AreNets, log_of}
use Rattle.restoring.specs.OfHistories.{AllOver, HistoriesAreOfChanges, LogsAreOver, LogsHaveNets}
use Rattle.restoring.specs.Room.{FewNetsHaveRoom}
use Rattle.dump_steps.specs.DumpLaw.{DumpsAnswerAlike, HistoriesAreDumped, dump_of}
use Rattle.dump_steps.specs.Widths.{Widths, widths_after, widths_of}
use Rattle.dump_steps.proofs.DumpGone.{AllMayBeMade, behind, dump_goes, front}
use Rattle.dump_steps.proofs.DumpLogs.{AllWide, AreRowsIn, AreWide, log_fits, state_rows}
use Rattle.dump_steps.proofs.DumpTurns.{Goes, HasGone, gone, system}
use Rattle.dump_steps.proofs.DumpWrites.{AreNew}
use Rattle.dump_steps.proofs.WidthsGrown.{first_narrowed}
use Rattle.dump_steps.proofs.WidthsLaidOut.{all_grown, first_between, tables_laid_out}

-- ---- the state that a transaction of a log leaves

none_upto : (rest : Log) (n s : ℕ) → Rises n rest → s ≤ n → upto rest s ≡ []
none_upto [] n s rises le = refl
none_upto (t ∷ rest) n s rises le =
    let above : n < t.instant = rises.0 in
    ap (λ b. cond b (t ∷ upto rest s) (upto rest s)) (late t.instant (omega arith)) ∙ none_upto rest t.instant s rises.1 (omega arith)
  where
    late : (i : ℕ) → s < i → nat_le i s ≡ false
    late i lt = grind (arith, nat_tests)

upto_front : (done : Log) (t : Transaction) (rest : Log) (n : ℕ) → Rises n (done ++ t ∷ rest) → upto (done ++ t ∷ rest) t.instant ≡ done ++ t ∷ []
upto_front [] t rest n rises =
    ap (λ b. cond b (t ∷ upto rest t.instant) (upto rest t.instant)) (let here : nat_le t.instant t.instant ≡ true = grind (arith, nat_tests) in here)
    ∙ ap (λ l. t ∷ l) (none_upto rest t.instant t.instant rises.1 (omega arith))
upto_front (d ∷ done) t rest n rises =
    ap (λ b. cond b (d ∷ upto (done ++ t ∷ rest) t.instant) (upto (done ++ t ∷ rest) t.instant)) (early d.instant before) ∙ ap (λ l. d ∷ l) (upto_front done t rest d.instant rises.1)
  where
    before : d.instant < t.instant
    before =
        let places = behind done d.instant t rest rises.1 in
        let low : d.instant ≤ last_from d.instant done = last_above done d.instant (front done d.instant (t ∷ rest) rises.1) in
        omega (arith, places.0, low)

    early : (i : ℕ) → i < t.instant → nat_le i t.instant ≡ true
    early i lt = grind (arith, nat_tests)

replay_push : (done : Log) (m : State) (t : Transaction) → replay m (done ++ t ∷ []) ≡ apply_net (replay m done) t.net
replay_push [] m t = refl
replay_push (d ∷ done) m t = replay_push done (apply_net m d.net) t

state_then : (done : Log) (t : Transaction) (rest : Log) → IsLog (done ++ t ∷ rest) → state (done ++ t ∷ rest) t.instant ≡ apply_net (state done (last done)) t.net
state_then done t rest rises =
    ap (replay []) (upto_front done t rest 0 rises) ∙ replay_push done [] t
    ∙ ap (λ (l : Log). apply_net (replay [] l) t.net) (sym (upto_all done 0 (last done) (front done 0 (t ∷ rest) rises) (let same : last done ≤ last done = omega arith in same)))

-- ---- each transaction can be made again

record HasNet (t : Transaction) : Type 0 where
  some : 0 < length t.net
  few : length t.net ≤ most_written

have_nets : (l : Log) → AreNets l → AllByRecursion (λ t. length t.net ≤ most_written) l → Each HasNet l
have_nets [] nets few = tt
have_nets (t ∷ l) nets few = (record { some = nets.0.1; few = few.0 }, have_nets l nets.1 few.1)

are_new : (tables : Schema) (w : Widths) (net : Net) → AreRowsIn tables net → AreWide w net → AreNew tables w net
are_new tables w [] rows wide = tt
are_new tables w (c ∷ net) rows wide = (
  λ row at. let is = rows.0 row at in record { t = is.0; found = is.1.0; row_is = is.1.1; wide = wide.0 row at },
  are_new tables w net rows.1 wide.1,
)

each_front : (P : Transaction → Type 0) (done rest : Log) → Each P (done ++ rest) → Each P done
each_front P [] rest each = tt
each_front P (t ∷ done) rest each = (each.0, each_front P done rest each.1)

each_here : (P : Transaction → Type 0) (done : Log) (t : Transaction) (rest : Log) → Each P (done ++ t ∷ rest) → P t
each_here P [] t rest each = each.0
each_here P (d ∷ done) t rest each = each_here P done t rest each.1

all_may : (tables : Schema) (w : Widths) (done rest : Log) → IsLog (done ++ rest) → AllOver done rest → Each HasNet rest → Each (λ t. AreRowsIn tables t.net) (done ++ rest) → AllWide w rest
    → ((s : ℕ) → NoOverlap (periods_of tables) (state (done ++ rest) s)) → AllMayBeMade tables w done rest
all_may tables w done [] rises over nets rows wide apart = tt
all_may tables w done (t ∷ rest) rises over nets rows wide apart =
    let joined : (done ++ t ∷ []) ++ rest ≡ done ++ t ∷ rest = append_assoc done (t ∷ []) rest in (
      record {
        over = over.0;
        some = nets.0.some;
        few = nets.0.few;
        rows = state_rows tables done (last done) (each_front (λ t. AreRowsIn tables t.net) done (t ∷ rest) rows);
        new = are_new tables (widths_after w t.net) t.net (each_here (λ t. AreRowsIn tables t.net) done t rest rows) wide.0;
        apart = subst (NoOverlap (periods_of tables)) (state_then done t rest rises) (apart t.instant);
      },
      all_may tables (widths_after w t.net) (done ++ t ∷ []) rest (subst IsLog (sym joined) rises) over.1 nets.1 (subst (Each (λ t. AreRowsIn tables t.net)) (sym joined) rows) wide.1
          (λ s. subst (λ l. NoOverlap (periods_of tables) (state l s)) (sym joined) (apart s)),
    )

-- ---- the law

module _ (nets : LogsHaveNets) (over : LogsAreOver) (of_changes : HistoriesAreOfChanges) (room : FewNetsHaveRoom) (apart : (first : Schema) → NeverOverlap first) where
  module _ (is_long : Table → Row → Bool) (first : Schema) (h : History) (good : AreTables 1 first.tables) where
    abbrev tables : Schema
    tables = schema_after first h

    abbrev whole : Log
    whole = log first h

    abbrev end : World
    end = system tables whole None

    -- each transaction of the log can be made again over those before it
    pub may : AllMayBeMade tables (widths_of first) [] whole
    may =
        let fit = log_fits first good h in
        all_may tables (widths_of first) [] whole (log_rises first h) (over first h) (have_nets whole (nets first h).0 (nets first h).1) fit.rows fit.wide
        (λ s. subst (λ (periods : Periods). NoOverlap periods (state whole s)) (sym (periods_stay first h)) (apart first good h s))

    goes : Goes (system first [] None) (dump_of is_long first h) end
    goes =
        subst (λ s. Goes (system s [] None) (dump_of is_long first h) end) (λ i. record { tables = first_narrowed first.tables tables.tables (all_grown first h) i })
        (dump_goes room tables is_long (widths_of first) (tables_laid_out first h good) (widths_of first) [] whole (first_between first h good) (log_rises first h) (log_fits first good h).clock may)

    start : Stands first (system first [] None) []
    start = record {
      schema_is = refl;
      wide = refl;
      changes_are = refl;
      latest_is = refl;
      sessions_are = λ i small. get_or-replicate {A = Option OpenTransaction} (max_session + 1) i None None (let le : i ≤ max_session = small in omega arith);
    }

    has_gone : HasGone first end [] (dump_of is_long first h)
    has_gone = gone first (system first [] None) end [] (dump_of is_long first h) goes start

    abbrev after_dump : History
    after_dump = led [] (dump_of is_long first h)

    come : HasComeTo first tables after_dump whole
    come =
        let stands = has_gone.stands in
        record {
          tables_are = sym stands.schema_is;
          log_is = sym (of_changes first after_dump) ∙ ap log_of (sym stands.changes_are) ∙ of_changes first h;
          idle = idle_alike max_session (has_open after_dump) (is_open_at end) (λ j small. sym (begun_alike first after_dump j) ∙ sym (is_open first end after_dump j small stands));
        }

  pub histories_are_dumped : HistoriesAreDumped
  histories_are_dumped is_long first h good = (come is_long first h good, (has_gone is_long first h good).taken)

  pub dumps_answer_alike : IdleHistoriesAnswerAlike → DumpsAnswerAlike
  dumps_answer_alike alike is_long first h steps good idle =
      let dumped = come is_long first h good in
      alike first first (led [] (dump_of is_long first h)) h steps
      (record { idle = dumped.idle; other_idle = idle; tables_are = dumped.tables_are; log_is = dumped.log_is })

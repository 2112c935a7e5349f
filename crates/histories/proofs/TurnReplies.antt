-- Each step's turn is the reply of the history, and leaves a system that stands for the history with the step.
use Rattle.std.proofs.Common.{◌≡◌, ◌≢◌, ℕ, Bool, true, false, List, [], ◌∷◌, Option, Some, None, refl, sym, ap, subst, ◌∙◌}
use Rattle.std.specs.Prelude.{Result, Ok, Err, if◌then◌else◌, nat_lt, max, ◌+◌, not}
use Rattle.values.specs.declared.key.Key.{Key}
use Rattle.values.specs.declared.table.Table.{Table}
use Rattle.values.specs.Tables.{Schema}
use Rattle.values.specs.declared.refusal.Refusal.{Refusal}
use Rattle.values.specs.declared.refusal.Refusal.TheVariants.{NoSession, NoTable, BadRow, NoTransaction, InTransaction, TransactionsOpen, Conflict, ClockEnd, Memory}
use Rattle.values.specs.Log.{Net, Changes}
use Rattle.values.specs.Tables.{table_at}
use Rattle.values.specs.declared.period.Period.{Period}
use Rattle.values.specs.declared.period.Span.{Span}
use Rattle.values.specs.Faults.{bad_row}
use Rattle.values.specs.Fit.{key_fault, comparisons_fault, update_fault, rows_fault, first_of}
use Rattle.values.specs.Write.{has_bad_span, span_refusal, rows_refusal, portion_refusal}
use Rattle.values.specs.Period.{Periods, periods_of, is_span}
use Rattle.values.specs.Commits.{outcome, max_instant}
use Rattle.values.specs.ChangedSince.{conflicts}
use Rattle.steps.specs.declared.step.Step.{Step}
use Rattle.steps.specs.declared.step.Step.TheVariants.{Begin, Insert, Update, Delete, UpdatePortion, DeletePortion, Select, Commit, Rollback, AddColumn, SplitKey, SplitTime, Migrate}
use Rattle.steps.specs.declared.step.Reply.{Reply}
use Rattle.steps.specs.declared.step.Reply.TheVariants.{Begun, RolledBack, Altered, Refused}
use Rattle.steps.specs.Misfit.{max_session, keys_refusal, key_misfit, misfit}
use Rattle.histories.specs.History.{History, schema_after, reply, reply_in}
use Rattle.steps.specs.Idle.{is_idle}
use Rattle.steps.specs.Write.{write}
use Rattle.steps.specs.Reply.{written_reply, is_out_of_memory}
use Rattle.values.specs.declared.table.ColumnType.{ColumnType}
use Rattle.values.specs.Columns.{new_column, add_column, addition_fault}
use Rattle.histories.proofs.StandsAltered.{alter_answers}
use Rattle.histories.specs.World.{OpenTransaction, World}
use Rattle.histories.specs.Stands.{Stands, open_at, is_open_at}
use Rattle.histories.specs.Turn.{put, Turn, turn, turn_in, end_turn, net_in, opened_now, own_in, with_own, with_schema}
use Rattle.steps.proofs.WriteLeaves.{names_memory, write_is}
use Rattle.histories.proofs.StandsOpen.{begin_answers}
use Rattle.histories.proofs.StandsEnds.{rollback_answers, commit_answers}
use Rattle.histories.proofs.TurnWrites.{insert_answers, update_answers, delete_answers, update_portion_answers, delete_portion_answers}
use Rattle.histories.proofs.StandsShown.{select_is}
use Rattle.histories.proofs.HistoryIdle.{idle_stands, misfit_stands, fits_session, fits_table}

answers_in : (first : Schema) (w : World) (h : History) (step : Step) → misfit (schema_after first h) step ≡ None → Stands first w h → ((turn_in w step).0 ≡ reply_in first h step) × Stands first (turn_in w step).1 (step ∷ h)
answers_in first w h (Begin i) fits stands = begin_answers first w h i (fits_session i fits) stands
answers_in first w h (Insert i number rows) fits stands = insert_answers first w h i number rows fits (fits_table (schema_after first h) i number _ fits).0 stands
answers_in first w h (Update i keys sets) fits stands = update_answers first w h i keys sets fits (fits_table (schema_after first h) i keys.table _ fits).0 stands
answers_in first w h (Delete i keys) fits stands = delete_answers first w h i keys fits (fits_table (schema_after first h) i keys.table _ fits).0 stands
answers_in first w h (UpdatePortion i keys cut sets) fits stands = update_portion_answers first w h i keys cut sets fits (fits_table (schema_after first h) i keys.table _ fits).0 stands
answers_in first w h (DeletePortion i keys cut) fits stands = delete_portion_answers first w h i keys cut fits (fits_table (schema_after first h) i keys.table _ fits).0 stands
answers_in first w h (Select i form keys) fits stands = let fit = fits_table (schema_after first h) i keys.table _ fits in (select_is first w h i form keys fit.0 stands, idle_stands first w h (Select i form keys) stands refl refl (λ j small. refl))
answers_in first w h (Commit i reading) fits stands = commit_answers first w h i reading (fits_session i fits) stands
answers_in first w h (Rollback i) fits stands = rollback_answers first w h i (fits_session i fits) stands
answers_in first w h (AddColumn i number name of) fits stands = alter_answers first w h i number name of stands fits
answers_in first w h (SplitKey key) fits stands = (refl, idle_stands first w h (SplitKey key) stands refl refl (λ j small. refl))
answers_in first w h (SplitTime key instant) fits stands = (refl, idle_stands first w h (SplitTime key instant) stands refl refl (λ j small. refl))
answers_in first w h Migrate fits stands = (refl, idle_stands first w h Migrate stands refl refl (λ j small. refl))

-- ---- a turn is never that memory ran out

abbrev names_memory_in : Option Refusal → Bool
names_memory_in None = false
names_memory_in (Some refusal) = is_out_of_memory (Refused refusal)

session_is_other : (b : Bool) → names_memory_in (if b then Some NoSession else None) ≡ false
session_is_other true = refl
session_is_other false = refl

fault_is_other : (fault : Option ℕ) → names_memory_in (bad_row fault) ≡ false
fault_is_other None = refl
fault_is_other (Some n) = refl

fault_or_span_is_other : (fault : Option ℕ) (is_bad : Bool) → names_memory_in (first_of (bad_row fault) (span_refusal is_bad)) ≡ false
fault_or_span_is_other None true = refl
fault_or_span_is_other None false = refl
fault_or_span_is_other (Some n) is_bad = refl

portion_is_other : (table : Table) (cut : Span) (fault : Option ℕ) → names_memory_in (portion_refusal table cut fault) ≡ false
portion_is_other table cut fault = by table.period
  where
    by : (p : Option Period) → names_memory_in (elim p [ None ↦ Some (BadRow 0) | Some p ↦ first_of (bad_row fault) (span_refusal (not (is_span cut))) ]) ≡ false
    by None = refl
    by (Some p) = fault_or_span_is_other fault (not (is_span cut))

table_is_other : (b : Bool) (t : Option Table) (refusal : Table → Option Refusal) → ((table : Table) → names_memory_in (refusal table) ≡ false)
    → names_memory_in (if b then Some NoSession else elim t [ None ↦ Some NoTable | Some table ↦ refusal table ]) ≡ false
table_is_other true t refusal others = refl
table_is_other false None refusal others = refl
table_is_other false (Some t) refusal others = others t

key_is_other : (schema : Schema) (key : Key) → names_memory_in (key_misfit schema key) ≡ false
key_is_other schema key = table_is_other (nat_lt max_session 0) (table_at schema key.table) (λ table. bad_row (key_fault table key.parts)) (λ table. fault_is_other (key_fault table key.parts))

misfit_is_other : (schema : Schema) (step : Step) → names_memory_in (misfit schema step) ≡ false
misfit_is_other schema (Begin i) = session_is_other (nat_lt max_session i)
misfit_is_other schema (Insert i number rows) =
    table_is_other (nat_lt max_session i) (table_at schema number) (λ table. rows_refusal table rows) (λ table. fault_or_span_is_other (rows_fault table rows) (has_bad_span table.period rows))
misfit_is_other schema (Update i keys sets) =
    table_is_other (nat_lt max_session i) (table_at schema keys.table) (λ table. bad_row (update_fault table keys sets)) (λ table. fault_is_other (update_fault table keys sets))
misfit_is_other schema (Delete i keys) = table_is_other (nat_lt max_session i) (table_at schema keys.table) (keys_refusal keys) (λ table. fault_is_other (comparisons_fault table keys.comparisons))
misfit_is_other schema (UpdatePortion i keys cut sets) =
    table_is_other (nat_lt max_session i) (table_at schema keys.table) (λ table. portion_refusal table cut (update_fault table keys sets)) (λ table. portion_is_other table cut (update_fault table keys sets))
misfit_is_other schema (DeletePortion i keys cut) =
    table_is_other (nat_lt max_session i) (table_at schema keys.table) (λ table. portion_refusal table cut (comparisons_fault table keys.comparisons))
    (λ table. portion_is_other table cut (comparisons_fault table keys.comparisons))
misfit_is_other schema (Select i form keys) = table_is_other (nat_lt max_session i) (table_at schema keys.table) (keys_refusal keys) (λ table. fault_is_other (comparisons_fault table keys.comparisons))
misfit_is_other schema (Commit i reading) = session_is_other (nat_lt max_session i)
misfit_is_other schema (Rollback i) = session_is_other (nat_lt max_session i)
misfit_is_other schema (AddColumn i number name of) =
    table_is_other (nat_lt max_session i) (table_at schema number) (λ table. bad_row (addition_fault name of table)) (λ table. fault_is_other (addition_fault name of table))
misfit_is_other schema (SplitKey key) = key_is_other schema key
misfit_is_other schema (SplitTime key instant) = key_is_other schema key
misfit_is_other schema Migrate = refl

-- the reply is not that memory ran out, and the tables change only where it is that one was altered
record IsPlain (w : World) (t : Turn) : Type 0 where
  answered : is_out_of_memory t.0 ≡ false
  same_schema : t.0 ≢ Altered → t.1.schema ≡ w.schema

begin_plain : (w : World) (i : ℕ) (o : Option OpenTransaction) → let t : Turn = elim o [ Some s ↦ (Refused InTransaction, w) | None ↦ (Begun w.latest, put w i (Some (opened_now w))) ] in IsPlain w t
begin_plain w i None = record { answered = refl; same_schema = λ other. refl }
begin_plain w i (Some s) = record { answered = refl; same_schema = λ other. refl }

rollback_plain : (w : World) (i : ℕ) (o : Option OpenTransaction) → let t : Turn = elim o [ None ↦ (Refused NoTransaction, w) | Some s ↦ (RolledBack, put w i None) ] in IsPlain w t
rollback_plain w i None = record { answered = refl; same_schema = λ other. refl }
rollback_plain w i (Some s) = record { answered = refl; same_schema = λ other. refl }

written_is_other : (step : Step) (r : Result ℕ Refusal) → names_memory r ≡ false → is_out_of_memory (written_reply step r) ≡ false
written_is_other (Insert i number rows) (Ok count) h = refl
written_is_other (Update i keys sets) (Ok count) h = refl
written_is_other (Delete i keys) (Ok count) h = refl
written_is_other (UpdatePortion i keys cut sets) (Ok count) h = refl
written_is_other (DeletePortion i keys cut) (Ok count) h = refl
written_is_other (Begin i) (Ok count) h = refl
written_is_other (Select i form keys) (Ok count) h = refl
written_is_other (Commit i reading) (Ok count) h = refl
written_is_other (Rollback i) (Ok count) h = refl
written_is_other (AddColumn i number name of) (Ok count) h = refl
written_is_other (SplitKey key) (Ok count) h = refl
written_is_other (SplitTime key instant) (Ok count) h = refl
written_is_other Migrate (Ok count) h = refl
written_is_other step (Err refusal) h = h

write_plain : (w : World) (i : ℕ) (step : Step) (o : Option OpenTransaction)
    → let turn : Turn = elim o [ None ↦ (Refused NoTransaction, w) | Some s ↦ (written_reply step (write w.schema step (own_in s)).0, put w i (Some (with_own s (write w.schema step (own_in s)).1))) ] in IsPlain w turn
write_plain w i step None = record { answered = refl; same_schema = λ other. refl }
write_plain w i step (Some s) = record { answered = written_is_other step (write w.schema step (own_in s)).0 (write_is w.schema step (own_in s)).answered; same_schema = λ other. refl }

select_plain : (w : World) (o : Option Table) (f : Table → Reply) → ((t : Table) → is_out_of_memory (f t) ≡ false) → is_out_of_memory (elim o [ None ↦ Refused NoTable | Some table ↦ f table ]) ≡ false
select_plain w None f h = refl
select_plain w (Some t) f h = h t

end_plain : (w : World) (i : ℕ) (net : Net) (end : Result (Option ℕ) Refusal) → names_memory end ≡ false → IsPlain w (end_turn w i net end)
end_plain w i net (Ok (Some instant)) h = record { answered = refl; same_schema = λ other. refl }
end_plain w i net (Ok None) h = record { answered = refl; same_schema = λ other. refl }
end_plain w i net (Err refusal) h = record { answered = h; same_schema = λ other. refl }

outcome_is_other : (periods : Periods) (m : Changes) (latest start : ℕ) (net : Net) (reading : ℕ) → names_memory (outcome periods m latest start net reading) ≡ false
outcome_is_other periods m latest start [] reading = refl
outcome_is_other periods m latest start (change ∷ net) reading = by (conflicts periods m start (change ∷ net)) (nat_lt max_instant (max reading (latest + 1)))
  where
    by : (found : List (Key × ℕ)) (late : Bool) → names_memory (elim found [ first ∷ others ↦ Err (Conflict first.0 first.1) | [] ↦ if late then Err ClockEnd else Ok (Some (max reading (latest + 1))) ]) ≡ false
    by [] true = refl
    by [] false = refl
    by (first ∷ others) late = refl

commit_plain : (w : World) (i reading : ℕ) (o : Option OpenTransaction) → let t : Turn = elim o [ None ↦ (Refused NoTransaction, w) | Some s ↦ end_turn w i (net_in w.changes s) (outcome (periods_of w.schema) w.changes w.latest s.start (net_in w.changes s) reading) ] in IsPlain w t
commit_plain w i reading None = record { answered = refl; same_schema = λ other. refl }
commit_plain w i reading (Some s) = end_plain w i (net_in w.changes s) (outcome (periods_of w.schema) w.changes w.latest s.start (net_in w.changes s) reading) (outcome_is_other (periods_of w.schema) w.changes w.latest s.start (net_in w.changes s) reading)

alter_plain : (w : World) (number : ℕ) (name : List ℕ) (of : ColumnType) (idle : Bool)
    → let t : Turn = if idle then (Altered, with_schema (add_column number (new_column name of) w.schema) w) else (Refused TransactionsOpen, w) in IsPlain w t
alter_plain w number name of true = record { answered = refl; same_schema = λ other. absurd (other refl) }
alter_plain w number name of false = record { answered = refl; same_schema = λ other. refl }

plain_in : (w : World) (step : Step) → IsPlain w (turn_in w step)
plain_in w (Begin i) = begin_plain w i (open_at w i)
plain_in w (Insert i number rows) = write_plain w i (Insert i number rows) (open_at w i)
plain_in w (Update i keys sets) = write_plain w i (Update i keys sets) (open_at w i)
plain_in w (Delete i keys) = write_plain w i (Delete i keys) (open_at w i)
plain_in w (UpdatePortion i keys cut sets) = write_plain w i (UpdatePortion i keys cut sets) (open_at w i)
plain_in w (DeletePortion i keys cut) = write_plain w i (DeletePortion i keys cut) (open_at w i)
plain_in w (Select i form keys) = record { answered = select_plain w (table_at w.schema keys.table) _ (λ t. refl); same_schema = λ other. refl }
plain_in w (Commit i reading) = commit_plain w i reading (open_at w i)
plain_in w (Rollback i) = rollback_plain w i (open_at w i)
plain_in w (AddColumn i number name of) = alter_plain w number name of (is_idle (is_open_at w))
plain_in w (SplitKey key) = record { answered = refl; same_schema = λ other. refl }
plain_in w (SplitTime key instant) = record { answered = refl; same_schema = λ other. refl }
plain_in w Migrate = record { answered = refl; same_schema = λ other. refl }

plain_by : (w : World) (step : Step) (m : Option Refusal) → names_memory_in m ≡ false → let t : Turn = elim m [ Some refusal ↦ (Refused refusal, w) | None ↦ turn_in w step ] in IsPlain w t
plain_by w step None h = plain_in w step
plain_by w step (Some refusal) h = record { answered = h; same_schema = λ other. refl }

is_plain : (w : World) (step : Step) → IsPlain w (turn w step)
is_plain w step = plain_by w step (misfit w.schema step) (misfit_is_other w.schema step)

-- ---- every step

answers_by : (first : Schema) (w : World) (h : History) (step : Step) (m : Option Refusal) → misfit (schema_after first h) step ≡ m → Stands first w h
    → let t : Turn = elim m [ Some refusal ↦ (Refused refusal, w) | None ↦ turn_in w step ] in (t.0 ≡ elim m [ Some refusal ↦ Refused refusal | None ↦ reply_in first h step ]) × Stands first t.1 (step ∷ h)
answers_by first w h step None is stands = answers_in first w h step is stands
answers_by first w h step (Some refusal) is stands = (refl, misfit_stands first w h step refusal is stands)

pub answers_all : (first : Schema) (w : World) (h : History) (step : Step) → Stands first w h → ((turn w step).0 ≡ reply first h step) × Stands first (turn w step).1 (step ∷ h)
answers_all first w h step stands =
    subst (λ (m : Option Refusal). let t : Turn = elim m [ Some refusal ↦ (Refused refusal, w) | None ↦ turn_in w step ] in (t.0 ≡ reply first h step) × Stands first t.1 (step ∷ h))
    (ap (λ now. misfit now step) (sym stands.schema_is)) (answers_by first w h step (misfit (schema_after first h) step) refl stands)

-- what a step answered and left, where that is its turn
pub record Stepped (w now : World) (step : Step) (answer : Reply) : Type 0 where
  pub answers : (first : Schema) (h : History) → Stands first w h → (answer ≡ reply first h step) × Stands first now (step ∷ h)
  pub answered : is_out_of_memory answer ≡ false
  pub same_schema : answer ≢ Altered → now.schema ≡ w.schema

pub stepped : (w now : World) (step : Step) (answer : Reply) → ◌≡◌ {A = Turn} (answer, now) (turn w step) → Stepped w now step answer
stepped w now step answer is =
    subst (λ (t : Turn). Stepped w t.1 step t.0) (sym is) (record {
      answers = λ first h stands. answers_all first w h step stands;
      answered = (is_plain w step).answered;
      same_schema = (is_plain w step).same_schema;
    })

-- a step that does not fit
pub refused_turn : (w : World) (step : Step) (refusal : Refusal) → Some refusal ≡ misfit w.schema step → ◌≡◌ {A = Turn} (Refused refusal, w) (turn w step)
refused_turn w step refusal is = λ k. elim (is k) [ Some refusal ↦ (Refused refusal, w) | None ↦ turn_in w step ]

-- one that fits
pub fitting_turn : (w now : World) (step : Step) (answer : Reply) → None ≡ misfit w.schema step → ◌≡◌ {A = Turn} (answer, now) (turn_in w step) → ◌≡◌ {A = Turn} (answer, now) (turn w step)
fitting_turn w now step answer fits is = is ∙ (λ k. elim (fits k) [ Some refusal ↦ (Refused refusal, w) | None ↦ turn_in w step ])

-- a reply that memory ran out is no other
pub not_out : (answer : Reply) → is_out_of_memory answer ≡ false → answer ≢ Refused Memory
not_out answer h e = cc (sym h ∙ ap is_out_of_memory e)

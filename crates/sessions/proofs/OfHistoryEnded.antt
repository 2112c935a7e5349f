-- What a session reads at a key beside a history, and what a rollback leaves.
use Rattle.std.proofs.Common.{◌≡◌, ◌≤◌, ℕ, false, List, ◌∷◌, Option, Some, None, Result, Ok, Err, IsOk, MatchOption, refl, sym, ap, ◌∙◌, arith}
use Rattle.std.specs.Prelude.{if◌then◌else◌, nat_lt}
use Rattle.std.specs.Option.{option_map}
use Rattle.std.proofs.lemmas.Bool.Decides.{nat_tests}
use Rattle.values.specs.declared.key.Key.{Key}
use Rattle.values.specs.declared.refusal.Refusal.{Refusal}
use Rattle.values.specs.declared.refusal.Refusal.TheVariants.{NoSession, NoTable, NoTransaction}
use Rattle.values.specs.Tables.{Schema, table_at, full_row}
use Rattle.values.specs.declared.table.Table.{Table}
use Rattle.values.specs.Log.{Log, Changes, State, Row, row_at}
use Rattle.values.specs.Writes.{Own}
use Rattle.book.specs.staging.Own.{own as own_over, rows_seen}
use Rattle.steps.specs.declared.step.Step.{Step}
use Rattle.steps.specs.declared.step.Step.TheVariants.{Rollback}
use Rattle.steps.specs.declared.step.Reply.TheVariants.{Refused, RolledBack}
use Rattle.steps.specs.Misfit.{key_misfit, max_session, no_session}
use Rattle.histories.specs.History.{History, schema_after, log, log_at_begin, own, own_of, mine_of}
use Rattle.histories.proofs.StandsEnds.{itself}
use Rattle.sessions.specs.SessionState.{SessionTransactionState}
use Rattle.sessions.specs.OfHistory.{own_at, rolled_reply, GetsAnswerAlike, RollbacksAnswerAlike}

-- ---- a read at a key

abbrev wide_at : Option Table → State → Key → Result (Option Row) Refusal
wide_at None rows key = Err NoTable
wide_at (Some table) rows key = Ok (option_map (full_row table) (row_at rows key))

abbrev row_of : Option Table → Key → Option Own → Result (Option Row) Refusal
row_of table key None = Err NoTransaction
row_of table key (Some o) = wide_at table o.rows key

wide_is : (table : Option Table) (rows : State) (key : Key) → wide_at table rows key ≡ elim table [ None ↦ Err NoTable | Some table ↦ Ok (option_map (full_row table) (row_at rows key)) ]
wide_is None rows key = refl
wide_is (Some table) rows key = refl

of_session : (m : Changes) (table : Option Table) (key : Key) (o : Option SessionTransactionState)
    → ◌≡◌ {A = Result (Option Row) Refusal} (elim o [ None ↦ Err NoTransaction | Some t ↦ elim table [ None ↦ Err NoTable | Some table ↦ Ok (option_map (full_row table) (row_at (rows_seen m t.writes) key)) ] ]) (row_of table key (option_map (λ t. own_over m t.writes) o))
of_session m table key None = refl
of_session m table key (Some t) = sym (wide_is table (rows_seen m t.writes) key)

of_history : (schema : Schema) (now : Log) (writes : List Step) (table : Option Table) (key : Key) (lab o : Option Log) → lab ≡ o
    → ◌≡◌ {A = Result (Option Row) Refusal} (row_of table key (option_map (λ before. own_of schema now (Some before) writes) o))
    (elim o [ None ↦ Err NoTransaction | Some before ↦ elim table [ None ↦ Err NoTable | Some table ↦ Ok (option_map (full_row table) (row_at (mine_of schema now lab writes) key)) ] ])
of_history schema now writes table key lab None e = refl
of_history schema now writes table key lab (Some before) e = (λ k. wide_at table (mine_of schema now (sym e k) writes) key) ∙ wide_is table (mine_of schema now lab writes) key

pub gets_answer_alike : GetsAnswerAlike
gets_answer_alike first m s h key is =
    ap (λ (r : Result (Option Row) Refusal). elim (key_misfit s.schema key) [ Some refusal ↦ Err refusal | None ↦ r ])
    (of_session m (table_at s.schema key.table) key s.transaction ∙ ap (row_of (table_at s.schema key.table) key) is.own_is)
    ∙ (λ k. elim (key_misfit (sym is.tables_are k) key) [ Some refusal ↦ Err refusal | None ↦ row_of (table_at (sym is.tables_are k) key.table) key (own_at first h s.number) ])
    ∙ ap (λ (r : Result (Option Row) Refusal). elim (key_misfit now key) [ Some refusal ↦ Err refusal | None ↦ r ])
    (of_history now (log first h) (own first h s.number) (table_at now key.table) key (log_at_begin first h s.number) (log_at_begin first h s.number) refl)
  where
    now : Schema
    now = schema_after first h

-- ---- a rollback

pub in_range_fits : (i : ℕ) → i ≤ max_session → no_session i ≡ None
in_range_fits i small = ap (λ b. if b then Some NoSession else None) (let low : nat_lt max_session i ≡ false = grind (arith, nat_tests) in low)

done_reply : (r : Result (Unit {0}) Refusal) → IsOk r → rolled_reply r ≡ RolledBack
done_reply (Ok done) h = refl
done_reply (Err refusal) h = absurd (cc)

rolled_by : (f : SessionTransactionState → Own) (g : Log → Own) (o : Option SessionTransactionState) (lab : Option Log) (r : Result (Unit {0}) Refusal) → option_map f o ≡ option_map g lab
    → MatchOption o (r ≡ Err NoTransaction) (λ _. IsOk r) → rolled_reply r ≡ elim lab [ Some before ↦ RolledBack | None ↦ Refused NoTransaction ]
rolled_by f g None None r same did = ap rolled_reply did
rolled_by f g None (Some before) r same did = absurd (cc)
rolled_by f g (Some t) None r same did = absurd (cc)
rolled_by f g (Some t) (Some before) r same did = done_reply r did

pub ended_none : (schema : Schema) (h : History) (i : ℕ) → ◌≡◌ {A = Option Own} None (own_at schema (Rollback i ∷ h) i)
ended_none first h i =
    λ k. option_map (λ before. own_of (schema_after first h) (log first h) (Some before) (own first (Rollback i ∷ h) i)) (if sym (itself i) k then None else log_at_begin first h i)

pub rollbacks_answer_alike : RollbacksAnswerAlike
rollbacks_answer_alike first m s h result is small did = (
  rolled_by _ _ s.transaction (log_at_begin first h s.number) result is.own_is did
      ∙ ap (λ (u : Option Refusal). elim u [ Some refusal ↦ Refused refusal | None ↦ elim (log_at_begin first h s.number) [ Some before ↦ RolledBack | None ↦ Refused NoTransaction ] ]) (sym (in_range_fits s.number small)),
  record { tables_are = is.tables_are; snapshot = refl; own_is = ended_none first h s.number },
)

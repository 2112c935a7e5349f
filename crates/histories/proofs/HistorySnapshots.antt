-- What an open transaction reads is what was committed when it began, and its own writes.
use Rattle.std.proofs.Common.{◌≡◌, ℕ, Bool, true, false, List, [], ◌∷◌, ◌++◌, Option, Some, None, refl, sym, ap, subst, ◌∙◌, arith}
use Rattle.std.specs.Prelude.{if◌then◌else◌, nat_lt, nat_le, ◌&&◌, ◌==◌, is_none}
use Rattle.std.proofs.lemmas.Bool.Decides.{nat_tests}
use Rattle.std.proofs.lemmas.Bool.{and_parts}
use Rattle.values.specs.declared.query.Form.{Form}
use Rattle.values.specs.declared.query.Form.TheVariants.{Plain, AsOf, FromTo, Between}
use Rattle.values.specs.declared.query.Keys.{Keys}
use Rattle.values.specs.declared.table.Table.{Table}
use Rattle.values.specs.declared.refusal.Refusal.TheVariants.{NoTable, NoSession}
use Rattle.values.specs.Tables.{Schema, table_at}
use Rattle.values.specs.Faults.{bad_row}
use Rattle.values.specs.Fit.{comparisons_fault}
use Rattle.values.specs.Log.{Log, last, upto, replay, changes}
use Rattle.values.specs.Versions.{answer}
use Rattle.values.specs.Law.{IsLog}
use Rattle.values.proofs.LawAsOf.{Rises-front, upto-append}
use Rattle.values.proofs.LogPush.{upto_all}
use Rattle.steps.specs.declared.step.Step.{Step}
use Rattle.steps.specs.declared.step.Step.TheVariants.{Begin, Insert, Update, Delete, UpdatePortion, DeletePortion, Select, Commit, Rollback, AddColumn, SplitKey, SplitTime, Migrate}
use Rattle.steps.specs.declared.step.Listing.{Listing}
use Rattle.steps.specs.declared.step.Listing.TheVariants.{Rows, Periods}
use Rattle.steps.specs.declared.step.Reply.{Reply}
use Rattle.steps.specs.declared.step.Reply.TheVariants.{Refused, Shown as Shows}
use Rattle.steps.specs.Misfit.{max_session}
use Rattle.histories.specs.History.{History, schema_after, ends, begins, log, log_at_begin, own, snap_of, rewrite_all, listing}
use Rattle.steps.specs.Listing.{rows_taken, rows_of}
use Rattle.histories.specs.Law.{ReadsBySnapshot, SelectsBySnapshot}
use Rattle.histories.proofs.HistoryGrowth.{log_rises}
use Rattle.histories.proofs.HistoryPrefixes.{opened_prefix}

-- ---- its snapshot

-- the transactions up to its snapshot are those at its BEGIN
upto_prefix : (before added : Log) → IsLog (before ++ added) → upto (before ++ added) (last before) ≡ before
upto_prefix before added rises = upto-append before added 0 (last before) (omega arith) rises ∙ upto_all before 0 (last before) (Rises-front before added 0 rises) (omega arith)

upto_snapshot : (schema : Schema) (h : History) (i : ℕ) (before : Log) → log_at_begin schema h i ≡ Some before → upto (log schema h) (last before) ≡ before
upto_snapshot schema h i before is =
    let is_prefix = opened_prefix schema h i before is in
    ap (λ (l : Log). upto l (last before)) is_prefix.1 ∙ upto_prefix before is_prefix.0 (subst IsLog is_prefix.1 (log_rises schema h))

-- ---- what it reads, by what was committed at its BEGIN and its own writes

module _ (schema : Schema) where
  abbrev listing_at : Schema → Log → List Step → Form → Table → Keys → Listing
  listing_at now before writes Plain table keys = Rows (rows_taken table keys (rewrite_all now writes (record { rows = replay [] before; written = [] })).rows)
  listing_at now before writes (AsOf t) table keys = Rows (rows_of (answer (changes before) table (AsOf t) keys))
  listing_at now before writes (FromTo a b) table keys = Periods (answer (changes before) table (FromTo a b) keys)
  listing_at now before writes (Between a b) table keys = Periods (answer (changes before) table (Between a b) keys)

  abbrev plain_by : Schema → Log → Option Log → List Step → Table → Keys → Listing
  plain_by now seen o writes table keys = elim o [
    | Some before ↦ Rows (rows_taken table keys (rewrite_all now writes (record { rows = replay [] seen; written = [] })).rows)
    | None ↦ Rows (rows_of (answer (changes seen) table Plain keys))
  ]

  seen_at : (h : History) (i : ℕ) (before : Log) → log_at_begin schema h i ≡ Some before → upto (log schema h) (snap_of (log schema h) (log_at_begin schema h i)) ≡ before
  seen_at h i before is = ap (λ o. upto (log schema h) (snap_of (log schema h) o)) is ∙ upto_snapshot schema h i before is

  reads : (h : History) (i : ℕ) (before : Log) (form : Form) (table : Table) (keys : Keys) → log_at_begin schema h i ≡ Some before → listing schema h i form table keys ≡ listing_at (schema_after schema h) before (own schema h i) form table keys
  reads h i before Plain table keys is = λ k. plain_by (schema_after schema h) (seen_at h i before is k) (is k) (own schema h i) table keys
  reads h i before (AsOf t) table keys is = ap (λ l. Rows (rows_of (answer (changes l) table (AsOf t) keys))) (seen_at h i before is)
  reads h i before (FromTo a b) table keys is = ap (λ l. Periods (answer (changes l) table (FromTo a b) keys)) (seen_at h i before is)
  reads h i before (Between a b) table keys is = ap (λ l. Periods (answer (changes l) table (Between a b) keys)) (seen_at h i before is)

  pub reads_by_snapshot : ReadsBySnapshot schema
  reads_by_snapshot h g i j form table keys same =
      reads h i same.snapshot form table keys same.first_opened
      ∙ (λ k. listing_at (same.same_tables k) same.snapshot (same.own_same k) form table keys)
      ∙ sym (reads g j same.snapshot form table keys same.second_opened)

-- ---- the replies

begun_small : (i : ℕ) (step : Step) → begins i step ≡ true → nat_lt max_session i ≡ false
begun_small i (Begin j) is = small (and_parts (i == j) (nat_le i max_session) is).1
  where
    small : nat_le i max_session ≡ true → nat_lt max_session i ≡ false
    small h = grind (arith, nat_tests)
begun_small i (Insert j number rows) is = cc
begun_small i (Update j keys sets) is = cc
begun_small i (Delete j keys) is = cc
begun_small i (UpdatePortion j keys cut sets) is = cc
begun_small i (DeletePortion j keys cut) is = cc
begun_small i (Select j form keys) is = cc
begun_small i (Commit j reading) is = cc
begun_small i (Rollback j) is = cc
begun_small i (AddColumn j number name of) is = cc
begun_small i (SplitKey key) is = cc
begun_small i (SplitTime key instant) is = cc
begun_small i Migrate is = cc

small_step : {P : Type 0} (e b : Bool) (o : Option Log) (now before : Log) → ◌≡◌ {A = Option Log} (if e then None else (if b && is_none o then Some now else o)) (Some before)
    → (b ≡ true → P) → ((x : Log) → o ≡ Some x → P) → P
small_step true b o now before is begun old = cc
small_step false true o now before is begun old = begun refl
small_step false false o now before is begun old = old before is

-- a session that has a transaction open is there
opened_small : (schema : Schema) (h : History) (i : ℕ) (before : Log) → log_at_begin schema h i ≡ Some before → nat_lt max_session i ≡ false
opened_small schema [] i before is = cc
opened_small schema (step ∷ h) i before is =
    small_step (ends i step) (begins i step) (log_at_begin schema h i) (log schema h) before is (begun_small i step) (λ x was. opened_small schema h i x was)

module _ (schema : Schema) where
  abbrev pub select_by : Schema → Keys → Bool → (Table → Listing) → Reply
  select_by now keys beyond shown = elim (if beyond then Some NoSession else elim (table_at now keys.table) [ None ↦ Some NoTable | Some table ↦ bad_row (comparisons_fault table keys.comparisons) ]) [
    | Some refusal ↦ Refused refusal
    | None ↦ elim (table_at now keys.table) [ None ↦ Refused NoTable | Some table ↦ Shows (shown table) ]
  ]

  pub selects_by_snapshot : SelectsBySnapshot schema
  selects_by_snapshot h g i j form keys same =
      λ k. select_by (same.same_tables k) keys
      ((opened_small schema h i same.snapshot same.first_opened ∙ sym (opened_small schema g j same.snapshot same.second_opened)) k)
      (λ table. reads_by_snapshot schema h g i j form table keys same k)

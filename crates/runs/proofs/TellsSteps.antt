-- A line of a served session asks for a step of that session, or for a split or a migration.
use Rattle.std.proofs.Common.{◌≡◌, ℕ, ◌⊎◌, inl, inr, Bool, true, false, List, [], Option, Some, None, Result, Ok, Err, refl, sym, subst}
use Rattle.std.specs.Prelude.{◌==◌, ◌||◌, ◌-◌, nat_lt, codes, length, if◌then◌else◌}
use Rattle.values.specs.declared.refusal.Refusal.{Refusal}
use Rattle.values.specs.declared.refusal.Refusal.TheVariants.{BadRow, LineTooLong, NoSession, NoTable, Syntax}
use Rattle.values.specs.declared.table.Table.{Table}
use Rattle.values.specs.Log.{Row}
use Rattle.values.specs.Tables.{Schema, table_at}
use Rattle.steps.specs.declared.step.Step.{Step}
use Rattle.steps.specs.declared.step.Step.TheVariants.{Begin as Begins, Insert as Inserts, Update as Updates, Delete as Deletes, UpdatePortion as UpdatesPortion, DeletePortion as DeletesPortion, Select as Selects, Commit as Commits, Rollback as RollsBack, SplitKey as SplitsKey, SplitTime as SplitsTime, Migrate as Migrates}
use Rattle.steps.specs.Misfit.{max_session, misfit}
use Rattle.tokens.specs.Token.{Read, ◌>>=◌}
use Rattle.lines.specs.Partial.{Partial, longest_line}
use Rattle.statement.specs.declared.line.Line.{Line}
use Rattle.statement.specs.declared.line.Line.TheVariants.{Nothing, Clock, Step as Asks}
use Rattle.statement.specs.declared.line.Written.{Written}
use Rattle.statement.specs.declared.line.Written.TheVariants.{Clock as SetsClock, SplitKey, SplitTime, Migrate, Session, AddColumn}
use Rattle.statement.specs.declared.statement.Statement.{Statement}
use Rattle.statement.specs.declared.statement.Statement.TheVariants.{Begin, Insert, Update, Delete, Select, Commit, Rollback}
use Rattle.statement.specs.Token.{next, symbol_at, word_at, end_at, after_semicolon}
use Rattle.statement.specs.Statement.{instant_at, statement_at}
use Rattle.statement.specs.Alteration.{request_at}
use Rattle.statement.specs.Split.{key_at, kind_at, split_at, split_key_at, split_time_at}
use Rattle.statement.specs.Line.{before_feed, body_of, is_nothing, line_of, meaning_of, migrate_at}
use Rattle.statement.specs.Meaning.{fitting_rows, fitting_step, insert_step, is_good_list, portion_step, session_step, step_of}
use Rattle.statement.specs.ServedLine.{served_at, served_body_says, served_line_says}
use Rattle.serving.specs.ServedSession.{said}
use Rattle.runs.proofs.OneHistoryBeside.{IsOwnStep}

-- what is read, where something is, is such
abbrev Gives : {A E : Type 0} → (A → Type 0) → Result A E → Type 0
Gives P (Ok x) = P x
Gives P (Err e) = Unit {0}

then_gives : {A B E : Type 0} (P : B → Type 0) (r : Result A E) (f : A → Result B E) → ((x : A) → Gives P (f x)) → Gives P (r >>= f)
then_gives P (Ok x) f go = go x
then_gives P (Err e) f go = tt

gives_then : {A B E : Type 0} (P : A → Type 0) (Q : B → Type 0) (r : Result A E) (f : A → Result B E) → Gives P r → ((x : A) → P x → Gives Q (f x)) → Gives Q (r >>= f)
gives_then P Q (Ok x) f is go = go x is
gives_then P Q (Err e) f is go = tt

-- ---- what is written

abbrev IsOf : ℕ → Written → Type 0
IsOf i (Session session statement) = session ≡ i
IsOf i (SplitKey key) = Unit {0}
IsOf i (SplitTime key instant) = Unit {0}
IsOf i Migrate = Unit {0}
IsOf i (SetsClock instant) = ⊥
IsOf i (AddColumn session table name of) = ⊥

abbrev ReadsOf : ℕ → Read Written → Type 0
ReadsOf i r = Gives (λ x. IsOf i x.0) r

module _ (schema : Schema) (i : ℕ) where
  abbrev Its : Written × List ℕ → Type 0
  Its x = IsOf i x.0

  request_of : (bytes : List ℕ) → ReadsOf i (request_at schema i bytes)
  unfolding request_at
  request_of bytes = then_gives Its (statement_at schema bytes) _ (λ statement. then_gives Its (end_at (after_semicolon statement.1)) _ (λ rest. refl))

  key_split_of : (bytes : List ℕ) → ReadsOf i (split_key_at schema bytes)
  unfolding split_key_at
  key_split_of bytes = then_gives Its (key_at schema bytes) _ (λ key. then_gives Its (end_at key.1) _ (λ rest. tt))

  time_split_of : (bytes : List ℕ) → ReadsOf i (split_time_at schema bytes)
  unfolding split_time_at
  time_split_of bytes =
      then_gives Its (key_at schema bytes) _ (λ key. then_gives Its (word_at (codes "AT") key.1) _ (λ rest.
      then_gives Its (instant_at rest) _ (λ instant. then_gives Its (end_at instant.1) _ (λ rest. tt))))

  kind_of : (bytes : List ℕ) → ReadsOf i (kind_at schema bytes)
  unfolding kind_at
  kind_of bytes = by (word_at (codes "KEY") bytes) (word_at (codes "TIME") bytes)
    where
      by : (a b : Result (List ℕ) (List ℕ)) → ReadsOf i (elim a [
        | Ok rest ↦ split_key_at schema rest
        | Err _ ↦ elim b [ Ok rest ↦ split_time_at schema rest | Err at ↦ Err at ]
      ])
      by (Ok rest) b = key_split_of rest
      by (Err e) (Ok rest) = time_split_of rest
      by (Err e) (Err at) = tt

  split_of : (bytes : List ℕ) → ReadsOf i (split_at schema bytes)
  unfolding split_at
  split_of bytes = then_gives Its (symbol_at 58 bytes) _ (λ rest. kind_of rest)

  migrate_of : (bytes : List ℕ) → ReadsOf i (migrate_at bytes)
  unfolding migrate_at
  migrate_of bytes = then_gives Its (symbol_at 58 bytes) _ (λ rest. then_gives Its (end_at rest) _ (λ rest. tt))

  written_of : (bytes : List ℕ) → ReadsOf i (served_at schema i bytes)
  unfolding served_at
  written_of bytes = by (word_at (codes "SPLIT") bytes) (word_at (codes "MIGRATE") bytes)
    where
      by : (a b : Result (List ℕ) (List ℕ)) → ReadsOf i (elim a [
        | Ok rest ↦ split_at schema rest
        | Err _ ↦ elim b [ Ok rest ↦ migrate_at rest | Err _ ↦ request_at schema i bytes ]
      ])
      by (Ok rest) b = split_of rest
      by (Err e) (Ok rest) = migrate_of rest
      by (Err e) (Err at) = request_of bytes

  -- ---- its step

  fitting : (P : Step → Type 0) (step : Step) → P step → Gives P (fitting_step schema step)
  fitting P step is = by (misfit schema step)
    where
      by : (u : Option Refusal) → Gives P (elim u [ Some refusal ↦ Err refusal | None ↦ Ok step ])
      by None = is
      by (Some refusal) = tt

  portion_of : (number : ℕ) (of_period : Bool) (step : Step) → IsOwnStep i step → Gives (IsOwnStep i) (portion_step schema number of_period step)
  unfolding portion_step
  portion_of number of_period step is = by (table_at schema number) of_period
    where
      by : (found : Option Table) (b : Bool) → Gives (IsOwnStep i) (elim found [ None ↦ Err NoTable | Some _ ↦ if b then fitting_step schema step else Err (BadRow 0) ])
      by None b = tt
      by (Some table) true = fitting (IsOwnStep i) step is
      by (Some table) false = tt

  insert_of : (number : ℕ) (columns : Option (List ℕ)) (rows : List Row) → Gives (IsOwnStep i) (insert_step schema i number columns rows)
  unfolding insert_step
  insert_of number columns rows = by (table_at schema number) (is_good_list columns)
    where
      by : (found : Option Table) (b : Bool) → Gives (IsOwnStep i) (elim found [
        | None ↦ Err NoTable
        | Some table ↦ if b then (fitting_rows table columns [] rows >>= λ fit. fitting_step schema (Inserts i number fit)) else Err (BadRow 0)
      ])
      by None b = tt
      by (Some table) true = then_gives (IsOwnStep i) (fitting_rows table columns [] rows) _ (λ fit. fitting (IsOwnStep i) (Inserts i number fit) refl)
      by (Some table) false = tt

  session_of : (statement : Statement) → Gives (IsOwnStep i) (session_step schema 0 i statement)
  unfolding session_step
  session_of Begin = fitting (IsOwnStep i) (Begins i) refl
  session_of (Insert number columns rows) = insert_of number columns rows
  session_of (Update keys None sets) = fitting (IsOwnStep i) (Updates i keys sets) refl
  session_of (Update keys (Some portion) sets) = portion_of keys.table portion.of_period (UpdatesPortion i keys portion.span sets) refl
  session_of (Delete keys None) = fitting (IsOwnStep i) (Deletes i keys) refl
  session_of (Delete keys (Some portion)) = portion_of keys.table portion.of_period (DeletesPortion i keys portion.span) refl
  session_of (Select form keys) = fitting (IsOwnStep i) (Selects i form keys) refl
  session_of Commit = fitting (IsOwnStep i) (Commits i 0) refl
  session_of Rollback = fitting (IsOwnStep i) (RollsBack i) refl

  statement_of : (statement : Statement) → Gives (IsOwnStep i) (step_of schema 0 i statement)
  unfolding step_of
  statement_of statement = by ((i == 0) || nat_lt max_session i)
    where
      by : (b : Bool) → Gives (IsOwnStep i) (if b then Err NoSession else session_step schema 0 i statement)
      by true = tt
      by false = session_of statement

  -- ---- and the line

  abbrev pub IsServedStep : Step → Type 0
  IsServedStep step = IsOwnStep i step ⊎ (step ≡ Migrates)

  abbrev IsLineOf : Line → Type 0
  IsLineOf Nothing = Unit {0}
  IsLineOf (Clock reading) = Unit {0}
  IsLineOf (Asks step) = IsServedStep step

  line_by : (r : Result Step Refusal) → Gives (IsOwnStep i) r → Gives IsLineOf (line_of r)
  line_by r is = gives_then (IsOwnStep i) IsLineOf r (λ fits. Ok (Asks fits)) is (λ step its. inl its)

  meaning : (written : Written) → IsOf i written → Gives IsLineOf (meaning_of schema 0 written)
  unfolding meaning_of
  meaning (Session session statement) is = line_by (step_of schema 0 session statement) (subst (λ session. Gives (IsOwnStep i) (step_of schema 0 session statement)) (sym is) (statement_of statement))
  meaning (SplitKey key) is = line_by (fitting_step schema (SplitsKey key)) (fitting (IsOwnStep i) (SplitsKey key) tt)
  meaning (SplitTime key instant) is = line_by (fitting_step schema (SplitsTime key instant)) (fitting (IsOwnStep i) (SplitsTime key instant) tt)
  meaning Migrate is = inr refl
  meaning (SetsClock instant) is = absurd is
  meaning (AddColumn session table name of) is = absurd is

  body : (bytes : List ℕ) → Gives IsLineOf (served_body_says schema i 0 bytes)
  unfolding served_body_says
  body bytes = by (is_nothing (next bytes)) (served_at schema i bytes) (written_of bytes)
    where
      by : (b : Bool) (r : Read Written) → ReadsOf i r → Gives IsLineOf (if b then Ok Nothing else elim r [ Err at ↦ Err (Syntax (length bytes - length at)) | Ok x ↦ meaning_of schema 0 x.0 ])
      by true r is = tt
      by false (Ok x) is = meaning x.0 is
      by false (Err at) is = tt

  line_says_own : (line : List ℕ) → Gives IsLineOf (served_line_says schema i 0 line)
  unfolding served_line_says
  line_says_own line = by (nat_lt longest_line (length (before_feed line)))
    where
      by : (b : Bool) → Gives IsLineOf (if b then Err LineTooLong else served_body_says schema i 0 (body_of line))
      by true = tt
      by false = body (body_of line)

  says_own : (line : Partial) → Gives IsLineOf (said schema i line)
  says_own None = tt
  says_own (Some line) = line_says_own line

  pub served_step : (line : Partial) (step : Step) → said schema i line ≡ Ok (Asks step) → IsServedStep step
  served_step line step is = subst (Gives IsLineOf) is (says_own line)

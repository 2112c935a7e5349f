-- Each line of a dump is of the grammar, and so it is read as its step.
use Rattle.std.proofs.Common.{◌≡◌, ℕ, ◌<◌, ◌≤◌, ◌-◌, ◌^◌, true, List, [], ◌∷◌, ◌++◌, Option, Some, None, inl, refl, sym, ap, subst, ◌∙◌, arith, append-nil}
use Rattle.std.specs.Prelude.{codes, decimal, Ok, Err, Result, length}
use Rattle.std.specs.List.{AllByRecursion}
use Rattle.values.specs.declared.query.Keys.{Keys}
use Rattle.values.specs.declared.query.Set.{Set}
use Rattle.values.specs.declared.refusal.Refusal.{Refusal}
use Rattle.values.specs.declared.refusal.Refusal.TheVariants.{NoTable, BadRow}
use Rattle.values.specs.declared.table.ColumnType.{ColumnType}
use Rattle.values.specs.declared.table.Table.{Table}
use Rattle.values.specs.Columns.{is_good_type}
use Rattle.values.specs.Commits.{max_instant}
use Rattle.values.specs.Fit.{row_fault}
use Rattle.values.specs.Log.{Row}
use Rattle.values.specs.Tables.{Schema, table_at}
use Rattle.steps.specs.declared.step.Step.{Step}
use Rattle.steps.specs.declared.step.Step.TheVariants.{AddColumn, Begin, Insert, Delete, Update, Commit}
use Rattle.steps.specs.Misfit.{misfit}
use Rattle.tokens.specs.Token.{◌>>=◌}
use Rattle.statement.specs.declared.line.Line.TheVariants.{Clock, Step as Asks}
use Rattle.statement.specs.declared.line.Written.TheVariants.{AddColumn as Adds, Clock as SetsClock, Session}
use Rattle.statement.specs.declared.statement.Statement.{Statement}
use Rattle.statement.specs.declared.statement.Statement.TheVariants.{Begin as Begins, Insert as Inserts, Update as Updates, Delete as Deletes, Commit as Commits}
use Rattle.statement.specs.Condition.{table_of}
use Rattle.statement.specs.Grammar.{Digits, IsAlteration, IsLine, IsStatement}
use Rattle.statement.specs.GrammarLaw.{ArePlain, IsPlain}
use Rattle.statement.specs.Line.{body_says, meaning_of, line_of}
use Rattle.statement.specs.Meaning.{column_step, fitting_row, fitting_step, insert_step, session_step, step_of}
use Rattle.statement.specs.Print.{values_text}
use Rattle.statement.proofs.GrammarReads.{script_read}
use Rattle.statement.proofs.LiteralWhole.{no_blanks}
use Rattle.dumping.specs.DumpText.{addition_text, column_name, delete_text, insert_text, set_text, type_text, update_text, where_text}
use Rattle.dump_reading.specs.Readable.{IsReadableName}
use Rattle.dump_reading.proofs.ReplayedPieces.{IsFoundColumn, IsReadablePair, closes_where, digits_printed, one_blank, row_behind, set_is, symbol_here, table_behind, type_behind, where_is, word_behind, word_here}

-- the session's number and its colon
one_here : (rest : List ℕ) → Digits (2 ^ 63 - 1) 1 (49 ∷ 58 ∷ rest) (58 ∷ rest)
one_here rest = record { digits = 49 ∷ []; some = omega arith; run = record { all = (refl, tt); ends = refl; spelled = refl }; value = refl; within = omega arith }

abbrev pub clock_text : ℕ → List ℕ
clock_text instant = codes "clock: " ++ decimal instant

module _ (now : Schema) where
  -- a line of session 1
  of_session : (statement : Statement) (bytes : List ℕ) → IsStatement now statement (32 ∷ bytes) [] → IsLine now (Session 1 statement) (49 ∷ 58 ∷ 32 ∷ bytes)
  of_session statement bytes is = (
    58 ∷ 32 ∷ bytes,
    (
      (49 ∷ 58 ∷ 32 ∷ bytes, (no_blanks (49 ∷ 58 ∷ 32 ∷ bytes), one_here (32 ∷ bytes))),
      (32 ∷ bytes, (symbol_here 58 (32 ∷ bytes), ([], (is, ([], (inl refl, no_blanks [])))))),
    ),
  )

  adding : (number : ℕ) (name : List ℕ) (of : ColumnType) (bytes : List ℕ) → IsAlteration now number name of (32 ∷ bytes) [] → IsLine now (Adds 1 number name of) (49 ∷ 58 ∷ 32 ∷ bytes)
  adding number name of bytes is = (
    58 ∷ 32 ∷ bytes,
    (
      (49 ∷ 58 ∷ 32 ∷ bytes, (no_blanks (49 ∷ 58 ∷ 32 ∷ bytes), one_here (32 ∷ bytes))),
      (32 ∷ bytes, (symbol_here 58 (32 ∷ bytes), ([], (is, ([], (inl refl, no_blanks [])))))),
    ),
  )

  -- ---- lines of the grammar

  begin_is : IsLine now (Session 1 Begins) (codes "1: BEGIN")
  begin_is = of_session Begins (codes "BEGIN") (inl (word_behind (codes "BEGIN") (codes "BEGIN") [] refl tt refl))

  commit_is : IsLine now (Session 1 Commits) (codes "1: COMMIT")
  commit_is = of_session Commits (codes "COMMIT") ([], (word_behind (codes "COMMIT") (codes "COMMIT") [] refl tt refl, inl refl))

  instant_here : (n : ℕ) → n ≤ max_instant → Digits max_instant n (decimal n) []
  instant_here n within = subst (λ (l : List ℕ). Digits max_instant n l []) (append-nil (decimal n)) (digits_printed max_instant n [] (omega arith) within tt)

  clock_is : (n : ℕ) → n ≤ max_instant → IsLine now (SetsClock n) (clock_text n)
  clock_is n within = (
    58 ∷ 32 ∷ decimal n,
    (
      word_here (codes "CLOCK") (codes "clock") (58 ∷ 32 ∷ decimal n) refl refl refl,
      (32 ∷ decimal n, (symbol_here 58 (32 ∷ decimal n), ([], ((decimal n, (one_blank (decimal n), instant_here n within)), no_blanks [])))),
    ),
  )

  insert_is : (table : Table) (row : Row) → IsReadableName table.name → table_of now table.name ≡ table.number → 0 < length row → ArePlain row
      → IsLine now (Session 1 (Inserts table.number None (row ∷ []))) (insert_text table row)
  insert_is table row name found some plain =
      let values : List ℕ = 32 ∷ values_text row in
      let behind : List ℕ = 32 ∷ (codes "VALUES" ++ values) in
      let named : List ℕ = 32 ∷ (table.name ++ behind) in
      let into : List ℕ = 32 ∷ (codes "INTO" ++ named) in
      of_session (Inserts table.number None (row ∷ [])) (codes "INSERT" ++ into) (
        into,
        (
          word_behind (codes "INSERT") (codes "INSERT") into refl refl refl,
          (
            named,
            (
              word_behind (codes "INTO") (codes "INTO") named refl refl refl,
              (
                behind,
                (
                  table_behind now table.number table.name behind name found refl,
                  (
                    behind,
                    (
                      refl,
                      (values, (word_behind (codes "VALUES") (codes "VALUES") values refl refl refl, row_behind row some plain)),
                    ),
                  ),
                ),
              ),
            ),
          ),
        ),
      )

  delete_is : (table : Table) (keys : Keys) → IsReadableName table.name → table_of now table.name ≡ table.number → keys.table ≡ table.number → AllByRecursion (IsReadablePair now table) keys.comparisons
      → IsLine now (Session 1 (Deletes keys None)) (delete_text table keys)
  delete_is table keys name found of are =
      let behind : List ℕ = where_text table keys.comparisons in
      let named : List ℕ = 32 ∷ (table.name ++ behind) in
      let from : List ℕ = 32 ∷ (codes "FROM" ++ named) in
      subst (λ n. IsLine now (Session 1 (Deletes (record keys { table = n }) None)) (delete_text table keys)) (sym of)
      (of_session (Deletes (record keys { table = table.number }) None) (codes "DELETE" ++ from) (
        from,
        (
          word_behind (codes "DELETE") (codes "DELETE") from refl refl refl,
          (
            named,
            (
              word_behind (codes "FROM") (codes "FROM") named refl refl refl,
              (
                behind,
                (
                  table_behind now table.number table.name behind name found (closes_where now table keys.comparisons).no_name,
                  (behind, (refl, where_is now table keys.comparisons are)),
                ),
              ),
            ),
          ),
        ),
      ))

  update_is : (table : Table) (keys : Keys) (s : Set) → IsReadableName table.name → table_of now table.name ≡ table.number → keys.table ≡ table.number → AllByRecursion (IsReadablePair now table) keys.comparisons
      → IsFoundColumn now table.number (column_name table s.column) s.column → IsPlain s.value
      → IsLine now (Session 1 (Updates keys None (s ∷ []))) (update_text table keys s)
  update_is table keys s name found of are column plain =
      let behind : List ℕ = where_text table keys.comparisons in
      let sets : List ℕ = 32 ∷ (set_text table s ++ behind) in
      let word : List ℕ = 32 ∷ (codes "SET" ++ sets) in
      let named : List ℕ = 32 ∷ (table.name ++ word) in
      subst (λ n. IsLine now (Session 1 (Updates (record keys { table = n }) None (s ∷ []))) (update_text table keys s)) (sym of)
      (of_session (Updates (record keys { table = table.number }) None (s ∷ [])) (codes "UPDATE" ++ named) (
        named,
        (
          word_behind (codes "UPDATE") (codes "UPDATE") named refl refl refl,
          (
            word,
            (
              table_behind now table.number table.name word name found refl,
              (
                word,
                (
                  refl,
                  (
                    sets,
                    (
                      word_behind (codes "SET") (codes "SET") sets refl refl refl,
                      (behind, (set_is now table s behind column plain (closes_where now table keys.comparisons), where_is now table keys.comparisons are)),
                    ),
                  ),
                ),
              ),
            ),
          ),
        ),
      ))

  addition_is : (table : Table) (name : List ℕ) (of : ColumnType) → IsReadableName table.name → table_of now table.name ≡ table.number → IsReadableName name → is_good_type of ≡ true
      → IsLine now (Adds 1 table.number name of) (addition_text table name of)
  addition_is table name of own found good typed =
      let type : List ℕ = 32 ∷ type_text of in
      let column : List ℕ = 32 ∷ (name ++ type) in
      let add : List ℕ = 32 ∷ (codes "COLUMN" ++ column) in
      let behind : List ℕ = 32 ∷ (codes "ADD" ++ add) in
      let named : List ℕ = 32 ∷ (table.name ++ behind) in
      let word : List ℕ = 32 ∷ (codes "TABLE" ++ named) in
      adding table.number name of (codes "ALTER" ++ word) (
        word,
        (
          word_behind (codes "ALTER") (codes "ALTER") word refl refl refl,
          (
            named,
            (
              word_behind (codes "TABLE") (codes "TABLE") named refl refl refl,
              (
                behind,
                (
                  table_behind now table.number table.name behind own found refl,
                  (
                    add,
                    (
                      word_behind (codes "ADD") (codes "ADD") add refl refl refl,
                      (
                        column,
                        (
                          word_behind (codes "COLUMN") (codes "COLUMN") column refl refl refl,
                          (
                            type,
                            (
                              (name ++ type, (one_blank (name ++ type), (record { all = good.bytes; ends = refl; spelled = refl }, good.named))),
                              type_behind of typed,
                            ),
                          ),
                        ),
                      ),
                    ),
                  ),
                ),
              ),
            ),
          ),
        ),
      )

  -- ---- what they mean

  begin_means : (reading : ℕ) → meaning_of now reading (Session 1 Begins) ≡ Ok (Asks (Begin 1))
  unfolding meaning_of step_of session_step
  begin_means reading = refl

  commit_means : (reading : ℕ) → meaning_of now reading (Session 1 Commits) ≡ Ok (Asks (Commit 1 reading))
  unfolding meaning_of step_of session_step
  commit_means reading = refl

  clock_means : (reading instant : ℕ) → meaning_of now reading (SetsClock instant) ≡ Ok (Clock instant)
  unfolding meaning_of
  clock_means reading instant = refl

  abbrev fitted : Option Refusal → Step → Result Step Refusal
  fitted refusal step = elim refusal [ Some refusal ↦ Err refusal | None ↦ Ok step ]

  abbrev row_by : Row → Option ℕ → Result Row Refusal
  row_by row fault = elim fault [ Some column ↦ Err (BadRow column) | None ↦ Ok row ]

  abbrev rows_by : Result Row Refusal → Result (List Row) Refusal
  rows_by r = elim r [ Err refusal ↦ Err refusal | Ok fits ↦ Ok (fits ∷ []) ]

  insert_means : (reading number : ℕ) (table : Table) (row : Row) → table_at now number ≡ Some table → row_fault table row ≡ None → misfit now (Insert 1 number (row ∷ [])) ≡ None
      → meaning_of now reading (Session 1 (Inserts number None (row ∷ []))) ≡ Ok (Asks (Insert 1 number (row ∷ [])))
  unfolding fitting_row insert_step meaning_of step_of session_step
  insert_means reading number table row at wide fits =
      ap (λ (t : Option Table). line_of (elim t [
        | None ↦ Err NoTable
        | Some table' ↦ rows_by (row_by row (row_fault table' row)) >>= λ fit. fitting_step now (Insert 1 number fit)
      ])) at
      ∙ ap (λ (f : Option ℕ). line_of (rows_by (row_by row f) >>= λ fit. fitting_step now (Insert 1 number fit))) wide
      ∙ ap (λ (r : Option Refusal). line_of (fitted r (Insert 1 number (row ∷ [])))) fits

  delete_means : (reading : ℕ) (keys : Keys) → misfit now (Delete 1 keys) ≡ None → meaning_of now reading (Session 1 (Deletes keys None)) ≡ Ok (Asks (Delete 1 keys))
  unfolding meaning_of step_of session_step
  delete_means reading keys fits = ap (λ (r : Option Refusal). line_of (fitted r (Delete 1 keys))) fits

  update_means : (reading : ℕ) (keys : Keys) (sets : List Set) → misfit now (Update 1 keys sets) ≡ None → meaning_of now reading (Session 1 (Updates keys None sets)) ≡ Ok (Asks (Update 1 keys sets))
  unfolding meaning_of step_of session_step
  update_means reading keys sets fits = ap (λ (r : Option Refusal). line_of (fitted r (Update 1 keys sets))) fits

  addition_means : (reading number : ℕ) (name : List ℕ) (of : ColumnType) → misfit now (AddColumn 1 number name of) ≡ None
      → meaning_of now reading (Adds 1 number name of) ≡ Ok (Asks (AddColumn 1 number name of))
  unfolding column_step meaning_of
  addition_means reading number name of fits = ap (λ (r : Option Refusal). line_of (fitted r (AddColumn 1 number name of))) fits

  -- ---- what each is read as

  pub begin_says : (reading : ℕ) → body_says now reading (codes "1: BEGIN") ≡ Ok (Asks (Begin 1))
  begin_says reading = script_read now reading (codes "1: BEGIN") (Session 1 Begins) begin_is ∙ begin_means reading

  pub commit_says : (reading : ℕ) → body_says now reading (codes "1: COMMIT") ≡ Ok (Asks (Commit 1 reading))
  commit_says reading = script_read now reading (codes "1: COMMIT") (Session 1 Commits) commit_is ∙ commit_means reading

  pub clock_says : (reading n : ℕ) → n ≤ max_instant → body_says now reading (clock_text n) ≡ Ok (Clock n)
  clock_says reading n within = script_read now reading (clock_text n) (SetsClock n) (clock_is n within) ∙ clock_means reading n

  module _ (table : Table) (name : IsReadableName table.name) (found : table_of now table.name ≡ table.number) where
    pub insert_says : (reading : ℕ) (wide : Table) (row : Row) → 0 < length row → ArePlain row
        → table_at now table.number ≡ Some wide → row_fault wide row ≡ None → misfit now (Insert 1 table.number (row ∷ [])) ≡ None
        → body_says now reading (insert_text table row) ≡ Ok (Asks (Insert 1 table.number (row ∷ [])))
    insert_says reading wide row some plain at width fits =
        script_read now reading (insert_text table row) (Session 1 (Inserts table.number None (row ∷ []))) (insert_is table row name found some plain)
        ∙ insert_means reading table.number wide row at width fits

    pub delete_says : (reading : ℕ) (keys : Keys) → keys.table ≡ table.number → AllByRecursion (IsReadablePair now table) keys.comparisons
        → misfit now (Delete 1 keys) ≡ None → body_says now reading (delete_text table keys) ≡ Ok (Asks (Delete 1 keys))
    delete_says reading keys of are fits =
        script_read now reading (delete_text table keys) (Session 1 (Deletes keys None)) (delete_is table keys name found of are) ∙ delete_means reading keys fits

    pub update_says : (reading : ℕ) (keys : Keys) (s : Set) → keys.table ≡ table.number → AllByRecursion (IsReadablePair now table) keys.comparisons
        → IsFoundColumn now table.number (column_name table s.column) s.column → IsPlain s.value
        → misfit now (Update 1 keys (s ∷ [])) ≡ None → body_says now reading (update_text table keys s) ≡ Ok (Asks (Update 1 keys (s ∷ [])))
    update_says reading keys s of are column plain fits =
        script_read now reading (update_text table keys s) (Session 1 (Updates keys None (s ∷ []))) (update_is table keys s name found of are column plain)
        ∙ update_means reading keys (s ∷ []) fits

    pub addition_says : (reading : ℕ) (column : List ℕ) (of : ColumnType) → IsReadableName column → is_good_type of ≡ true
        → misfit now (AddColumn 1 table.number column of) ≡ None
        → body_says now reading (addition_text table column of) ≡ Ok (Asks (AddColumn 1 table.number column of))
    addition_says reading column of good typed fits =
        script_read now reading (addition_text table column of) (Adds 1 table.number column of) (addition_is table column of name found good typed)
        ∙ addition_means reading table.number column of fits

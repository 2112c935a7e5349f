-- Statements as productions.
use Rattle.std.proofs.Common.{◌≡◌, true, ℕ, List, [], ◌∷◌, inl, inr, Ok, Some, None, refl, sym, subst, lit<}
use Rattle.std.specs.Prelude.{Option, codes}
use Rattle.values.specs.Tables.{Schema}
use Rattle.values.specs.Log.{Row}
use Rattle.values.specs.declared.query.Comparison.{Comparison}
use Rattle.values.specs.declared.query.Form.{Form}
use Rattle.values.specs.declared.query.Form.TheVariants.{Plain, AsOf, FromTo, Between}
use Rattle.values.specs.declared.query.Keys.{Keys}
use Rattle.values.specs.declared.query.Set.{Set}
use Rattle.statement.specs.declared.portion.Portion.{Portion}
use Rattle.statement.specs.declared.statement.Statement.{Statement}
use Rattle.statement.specs.declared.statement.Statement.TheVariants.{Begin, Insert, Update, Delete, Select, Commit, Rollback}
use Rattle.tokens.specs.Word.{is_word_at as is_word_after, word_at as word_after}
use Rattle.statement.specs.Token.{symbol_at, word_at, after_optional_word}
use Rattle.statement.specs.Literal.{row_at, rows_at}
use Rattle.statement.specs.Condition.{column_of, column_name_at, set_at, comparison_at, sets_at, comparisons_at, columns_at, keys_at}
use Rattle.statement.specs.Statement.{as_of_at, period_at, selection_at, system_time_at, form_at, start_at, listed_at, insert_at, update_at, delete_at, select_at, data_at, statement_at}
use Rattle.statement.specs.Grammar.{Piece, ◌⋯◌, ◌∣◌, Empty, Symbol, Word, Listed, Enclosed, IsRow, IsInstant, IsForm, IsTable, IsColumn, IsSet, IsComparison, IsColumnList, IsWhere, IsPortion, IsStatement}
use Rattle.tokens.proofs.WordCases.{Refused}
use Rattle.tokens.proofs.TokenGoing.{Next, By, Last}
use Rattle.statement.proofs.StatementWhole.{Closing}
use Rattle.statement.proofs.TokenWhole.{other_word_refused, symbol_refused_at_word, begun}
use Rattle.tokens.proofs.TokenProduction.{Production, Any, Or, alike, closing, choice, optional, peek, ok, by, after, last}
use Rattle.tokens.proofs.TokenProductionParts.{skip, field, field_at, part, final, final_as, alone, made}
use Rattle.statement.proofs.TokenProduction.{gaps, is_some_word, word, symbol, named, table, literal, operator, instant}
use Rattle.statement.proofs.TokenFirstWords.{Led, led_alike, last_word, or_word, or_value}
use Rattle.statement.proofs.ListProduction.{list, commas, enclosed}
use Rattle.statement.proofs.PortionProduction.{portion}

pub row : Production gaps IsRow Any row_at
unfolding row_at
row = enclosed literal

rows : Production gaps (Listed (Symbol 44) IsRow) (λ rest. Refused (symbol_at 44 rest)) rows_at
unfolding rows_at
rows = commas row

no_and : Refused (word_at (codes "AND") [])
unfolding word_after is_word_after
no_and = record { at = []; is = refl }

-- ---- FOR SYSTEM_TIME

as_of : Production gaps (Next (Word (codes "OF")) (By AsOf IsInstant)) Any as_of_at
unfolding as_of_at
as_of = after (word (codes "OF") refl) (by AsOf instant)

abbrev Period : List ℕ → (ℕ → ℕ → Form) → Form → Piece
Period between form = By (λ (c : ℕ × ℕ). form c.0 c.1) (λ c. IsInstant c.0 ⋯ Word between ⋯ IsInstant c.1)

period : (between : List ℕ) → is_some_word between ≡ true → (form : ℕ → ℕ → Form) → Production gaps (Period between form) Any (period_at between form)
unfolding period_at
period between is form = made (part (λ c. c.0) instant (λ start. skip (word between is) (final (λ c. c.1) (λ end. (start, end)) (λ end. (tt, refl)) (λ end. refl) (λ c k. λ i. (k.1 i, c.1)) instant)))

abbrev Selection : Form → Piece
Selection =
    Or (Next (Word (codes "AS")) (Next (Word (codes "OF")) (By AsOf IsInstant)))
    (Or (Next (Word (codes "FROM")) (Period (codes "TO") FromTo)) (Next (Word (codes "BETWEEN")) (Period (codes "AND") Between)))

selection : Production gaps Selection Any selection_at
unfolding selection_at
selection = (or_word (codes "AS") refl as_of (or_word (codes "FROM") refl (period (codes "TO") refl FromTo) (last_word (codes "BETWEEN") refl (period (codes "AND") refl Between)))).production

form : Production gaps IsForm (λ rest. Refused (word_at (codes "FOR") rest)) form_at
unfolding form_at system_time_at
form = alike to from (choice (word (codes "FOR") refl) (closing (λ rest c. tt) (after (word (codes "SYSTEM_TIME") refl) selection)) (λ y bytes rest z c. subst (λ (l : List ℕ). Refused (word_at (codes "FOR") l)) (sym z.1) c) (closing (λ rest c. tt) (ok Plain)))
  where
    kind : (f : Form) (bytes a b rest : List ℕ) → Word (codes "FOR") bytes a → Word (codes "SYSTEM_TIME") a b → Selection f b rest → IsForm f bytes rest
    kind f bytes a b rest one two (inl n) = let o = n.second in subst (λ (g : Form). IsForm g bytes rest) (sym (o.second).1.0) (a, (one, (b, (two, (n.between, (n.first, (o.between, (o.first, (o.second).1.1))))))))
    kind f bytes a b rest one two (inr (inl n)) = subst (λ (g : Form). IsForm g bytes rest) (sym (n.second).1.0) (a, (one, (b, (two, (n.between, (n.first, (n.second).1.1))))))
    kind f bytes a b rest one two (inr (inr n)) = subst (λ (g : Form). IsForm g bytes rest) (sym (n.second).1.0) (a, (one, (b, (two, (n.between, (n.first, (n.second).1.1))))))

    to : (f : Form) (bytes rest : List ℕ) → Or (Next (Word (codes "FOR")) (Next (Word (codes "SYSTEM_TIME")) Selection)) (Last Plain Empty) f bytes rest → IsForm f bytes rest
    to f bytes rest (inl n) = kind f bytes n.between (n.second).between rest n.first (n.second).first (n.second).second
    to f bytes rest (inr is) = subst (λ (g : Form). IsForm g bytes rest) (sym is.0) is.1

    chosen : (f : Form) (bytes a b rest : List ℕ) → Word (codes "FOR") bytes a → Word (codes "SYSTEM_TIME") a b → Selection f b rest → Or (Next (Word (codes "FOR")) (Next (Word (codes "SYSTEM_TIME")) Selection)) (Last Plain Empty) f bytes rest
    chosen f bytes a b rest one two is = inl (record { between = a; first = one; second = record { between = b; first = two; second = is } })

    from : (f : Form) (bytes rest : List ℕ) → IsForm f bytes rest → Or (Next (Word (codes "FOR")) (Next (Word (codes "SYSTEM_TIME")) Selection)) (Last Plain Empty) f bytes rest
    from Plain bytes rest is = inr (refl, is)
    from (AsOf n) bytes rest is =
        chosen (AsOf n) bytes is.0 is.1.1.0 rest is.1.0 is.1.1.1.0 (inl (record { between = is.1.1.1.1.0; first = is.1.1.1.1.1.0; second = record { between = is.1.1.1.1.1.1.0; first = is.1.1.1.1.1.1.1.0; second = (n, (refl, is.1.1.1.1.1.1.1.1)) } }))
    from (FromTo m n) bytes rest is = chosen (FromTo m n) bytes is.0 is.1.1.0 rest is.1.0 is.1.1.1.0 (inr (inl (record { between = is.1.1.1.1.0; first = is.1.1.1.1.1.0; second = ((m, n), (refl, is.1.1.1.1.1.1)) })))
    from (Between m n) bytes rest is = chosen (Between m n) bytes is.0 is.1.1.0 rest is.1.0 is.1.1.1.0 (inr (inr (record { between = is.1.1.1.1.0; first = is.1.1.1.1.1.0; second = ((m, n), (refl, is.1.1.1.1.1.1)) })))

-- ---- COMMIT and ROLLBACK

work : (v : Statement) → Production gaps (Last v (Empty ∣ Word (codes "WORK"))) Closing (λ bytes. Ok (v, after_optional_word (codes "WORK") bytes))
work v =
    alike (λ y bytes rest n. ((n.second).0, subst (λ (l : List ℕ). (Empty ∣ Word (codes "WORK")) bytes l) (n.second).1 n.first)) (λ y bytes rest is. record { between = rest; first = is.1; second = (is.0, refl) })
    (optional (word (codes "WORK") refl) (λ y bytes rest is c. subst (λ (l : List ℕ). Refused (word_at (codes "WORK") l)) (sym is.1) (c.word (codes "WORK") (lit< tt))) (closing (λ rest c. tt) (ok v)))

module _ (schema : Schema) where
  module _ (number : ℕ) where
    column : Production gaps (IsColumn schema number) Any (column_name_at schema number)
    unfolding column_name_at
    column = named (column_of schema number)

    set : Production gaps (IsSet schema number) Any (set_at schema number)
    unfolding set_at
    set = alone (part (λ s. s.column) column (λ c. skip (symbol 61 refl) (final (λ s. s.value) (λ v. record { column = c; value = v }) (λ v. (tt, refl)) (λ v. refl) (λ s k. λ i. record { column = k.1 i; value = s.value }) literal)))

    comparison : Production gaps (IsComparison schema number) Any (comparison_at schema number)
    unfolding comparison_at
    comparison =
        alone (part (λ s. s.column) column (λ c. part (λ s. s.operator) operator (λ o.
        final (λ s. s.value) (λ v. record { column = c; operator = o; value = v }) (λ v. ((tt, refl), refl)) (λ v. refl) (λ s k. λ i. record { column = k.0.1 i; operator = k.1 i; value = s.value }) literal)))

    sets : Production gaps (Listed (Symbol 44) (IsSet schema number)) (λ rest. Refused (symbol_at 44 rest)) (sets_at schema number)
    unfolding sets_at
    sets = commas set

    comparisons : Production gaps (Listed (Word (codes "AND")) (IsComparison schema number)) (λ rest. Refused (word_at (codes "AND") rest)) (comparisons_at schema number)
    unfolding comparisons_at
    comparisons = list (word (codes "AND") refl) no_and comparison

    abbrev KeysOf : List Comparison → Keys
    KeysOf cs = record { table = number; comparisons = cs }

    abbrev IsKeys : Keys → Piece
    IsKeys keys bytes rest = (keys.table ≡ number) × IsWhere schema number keys.comparisons bytes rest

    keys : Production gaps IsKeys Closing (keys_at schema number)
    unfolding keys_at
    keys =
        alike to from (choice (word (codes "WHERE") refl) (closing (λ rest c. c.word (codes "AND") (lit< tt)) (by KeysOf comparisons))
        (λ y bytes rest z c. subst (λ (l : List ℕ). Refused (word_at (codes "WHERE") l)) (sym z.1) (c.word (codes "WHERE") (lit< tt))) (closing (λ rest c. tt) (ok (KeysOf []))))
      where
        some : (cs : List Comparison) (bytes a rest : List ℕ) → Word (codes "WHERE") bytes a → Listed (Word (codes "AND")) (IsComparison schema number) cs a rest → IsWhere schema number cs bytes rest
        some [] bytes a rest one is = absurd is
        some (c ∷ cs) bytes a rest one is = (a, (one, is))

        to : (k : Keys) (bytes rest : List ℕ) → Or (Next (Word (codes "WHERE")) (By KeysOf (Listed (Word (codes "AND")) (IsComparison schema number)))) (Last (KeysOf []) Empty) k bytes rest → IsKeys k bytes rest
        to k bytes rest (inl n) = subst (λ (l : Keys). IsKeys l bytes rest) (sym (n.second).1.0) (refl, some (n.second).0 bytes n.between rest n.first (n.second).1.1)
        to k bytes rest (inr is) = subst (λ (l : Keys). IsKeys l bytes rest) (sym is.0) (refl, is.1)

        by_list : (k : Keys) (cs : List Comparison) → k ≡ KeysOf cs → (bytes rest : List ℕ) → IsWhere schema number cs bytes rest
            → Or (Next (Word (codes "WHERE")) (By KeysOf (Listed (Word (codes "AND")) (IsComparison schema number)))) (Last (KeysOf []) Empty) k bytes rest
        by_list k [] e bytes rest is = inr (e, is)
        by_list k (c ∷ cs) e bytes rest is = inl (record { between = is.0; first = is.1.0; second = (c ∷ cs, (e, is.1.1)) })

        from : (k : Keys) (bytes rest : List ℕ) → IsKeys k bytes rest → Or (Next (Word (codes "WHERE")) (By KeysOf (Listed (Word (codes "AND")) (IsComparison schema number)))) (Last (KeysOf []) Empty) k bytes rest
        from k bytes rest is = by_list k k.comparisons (λ i. record { table = is.0 i; comparisons = k.comparisons }) bytes rest is.1

    columns : Production gaps (IsColumnList schema number) (λ rest. Refused (symbol_at 40 rest)) (listed_at schema number)
    unfolding listed_at columns_at
    columns =
        alike to from (peek (symbol 40 refl) (λ y bytes rest b. (b.1.1.0, b.1.1.1.0)) (closing (λ rest c. tt) (by Some (enclosed column)))
        (λ y bytes rest z c. subst (λ (l : List ℕ). Refused (symbol_at 40 l)) (sym z.1) c) (closing (λ rest c. tt) (ok None)))
      where
        to : (o : Option (List ℕ)) (bytes rest : List ℕ) → Or (By Some (Enclosed (IsColumn schema number))) (Last None Empty) o bytes rest → IsColumnList schema number o bytes rest
        to o bytes rest (inl b) = subst (λ (p : Option (List ℕ)). IsColumnList schema number p bytes rest) (sym b.1.0) b.1.1
        to o bytes rest (inr is) = subst (λ (p : Option (List ℕ)). IsColumnList schema number p bytes rest) (sym is.0) is.1

        from : (o : Option (List ℕ)) (bytes rest : List ℕ) → IsColumnList schema number o bytes rest → Or (By Some (Enclosed (IsColumn schema number))) (Last None Empty) o bytes rest
        from None bytes rest is = inr (refl, is)
        from (Some cs) bytes rest is = inl (cs, (refl, is))

  -- ---- rows

  abbrev Inserted : ℕ × (Option (List ℕ) × List Row) → Statement
  Inserted c = Insert c.0 c.1.0 c.1.1

  abbrev IsInsert : ℕ × (Option (List ℕ) × List Row) → Piece
  IsInsert c = Word (codes "INTO") ⋯ IsTable schema c.0 ⋯ IsColumnList schema c.0 c.1.0 ⋯ Word (codes "VALUES") ⋯ Listed (Symbol 44) IsRow c.1.1

  insert : Production gaps (By Inserted IsInsert) Closing (insert_at schema)
  unfolding insert_at
  insert =
      made (skip (word (codes "INTO") refl)
      (part (λ c. c.0) (table schema) (λ t.
      field_at (IsColumnList schema) (λ c. c.0) t (λ c. c.1.0) (λ c k. k.1) (columns t) (λ c bytes rest k is f. symbol_refused_at_word 40 refl bytes (begun (codes "VALUES") (lit< tt) bytes is.0 is.1.0)) (λ cs.
      skip (word (codes "VALUES") refl)
      (final (λ c. c.1.1) (λ rs. (t, (cs, rs))) (λ rs. ((tt, refl), refl)) (λ rs. refl) (λ c k. λ i. (k.0.1 i, (k.1 i, c.1.1))) (closing (λ rest c. c.comma) rows))))))

  no_for : (t : ℕ) (cs : List Comparison) (bytes rest : List ℕ) → IsWhere schema t cs bytes rest → Closing rest → Refused (word_at (codes "FOR") bytes)
  no_for t [] bytes rest is c = subst (λ (l : List ℕ). Refused (word_at (codes "FOR") l)) (sym is) (c.word (codes "FOR") (lit< tt))
  no_for t (x ∷ cs) bytes rest is c = other_word_refused (codes "FOR") (codes "WHERE") refl (lit< tt) bytes is.0 is.1.0

  no_comma : (t : ℕ) (cs : List Comparison) (bytes rest : List ℕ) → IsWhere schema t cs bytes rest → Closing rest → Refused (symbol_at 44 bytes)
  no_comma t [] bytes rest is c = subst (λ (l : List ℕ). Refused (symbol_at 44 l)) (sym is) c.comma
  no_comma t (x ∷ cs) bytes rest is c = symbol_refused_at_word 44 refl bytes (begun (codes "WHERE") (lit< tt) bytes is.0 is.1.0)

  abbrev Updated : Keys × (Option Portion × List Set) → Statement
  Updated c = Update c.0 c.1.0 c.1.1

  abbrev IsUpdate : Keys × (Option Portion × List Set) → Piece
  IsUpdate c = IsTable schema c.0.table ⋯ IsPortion schema c.0.table c.1.0 ⋯ Word (codes "SET") ⋯ Listed (Symbol 44) (IsSet schema c.0.table) c.1.1 ⋯ IsWhere schema c.0.table c.0.comparisons

  update : Production gaps (By Updated IsUpdate) Closing (update_at schema)
  unfolding update_at
  update =
      made (part (λ c. c.0.table) (table schema) (λ t.
      field_at (IsPortion schema) (λ c. c.0.table) t (λ c. c.1.0) (λ c k. k.1) (portion schema t) (λ c bytes rest k is f. other_word_refused (codes "FOR") (codes "SET") refl (lit< tt) bytes is.0 is.1.0) (λ p.
      skip (word (codes "SET") refl)
      (field_at (λ u. Listed (Symbol 44) (IsSet schema u)) (λ c. c.0.table) t (λ c. c.1.1) (λ c k. k.0.1) (sets t) (λ c bytes rest k is f. no_comma c.0.table c.0.comparisons bytes rest is f) (λ ss.
      final_as (λ c. c.0) (λ ks. (ks, (p, ss))) (λ ks bytes rest is. ((((tt, is.0), refl), refl), subst (λ (u : ℕ). IsWhere schema u ks.comparisons bytes rest) (sym is.0) is.1))
      (λ c bytes rest k is. (k.0.0.1, subst (λ (u : ℕ). IsWhere schema u c.0.comparisons bytes rest) k.0.0.1 is)) (λ c k. λ i. (c.0, (k.0.1 i, k.1 i))) (keys t))))))

  abbrev Deleted : Keys × Option Portion → Statement
  Deleted c = Delete c.0 c.1

  abbrev IsDelete : Keys × Option Portion → Piece
  IsDelete c = Word (codes "FROM") ⋯ IsTable schema c.0.table ⋯ IsPortion schema c.0.table c.1 ⋯ IsWhere schema c.0.table c.0.comparisons

  delete : Production gaps (By Deleted IsDelete) Closing (delete_at schema)
  unfolding delete_at
  delete =
      made (skip (word (codes "FROM") refl)
      (part (λ c. c.0.table) (table schema) (λ t.
      field_at (IsPortion schema) (λ c. c.0.table) t (λ c. c.1) (λ c k. k.1) (portion schema t) (λ c bytes rest k is f. no_for c.0.table c.0.comparisons bytes rest is f) (λ p.
      final_as (λ c. c.0) (λ ks. (ks, p)) (λ ks bytes rest is. (((tt, is.0), refl), subst (λ (u : ℕ). IsWhere schema u ks.comparisons bytes rest) (sym is.0) is.1))
      (λ c bytes rest k is. (k.0.1, subst (λ (u : ℕ). IsWhere schema u c.0.comparisons bytes rest) k.0.1 is)) (λ c k. λ i. (c.0, k.1 i)) (keys t)))))

  abbrev Selected : Keys × Form → Statement
  Selected c = Select c.1 c.0

  abbrev IsSelect : Keys × Form → Piece
  IsSelect c = Symbol 42 ⋯ Word (codes "FROM") ⋯ IsTable schema c.0.table ⋯ IsForm c.1 ⋯ IsWhere schema c.0.table c.0.comparisons

  select : Production gaps (By Selected IsSelect) Closing (select_at schema)
  unfolding select_at
  select =
      made (skip (symbol 42 refl)
      (skip (word (codes "FROM") refl)
      (part (λ c. c.0.table) (table schema) (λ t.
      field (λ c. c.1) form (λ c bytes rest is f. no_for c.0.table c.0.comparisons bytes rest is f) (λ g.
      final_as (λ c. c.0) (λ ks. (ks, g)) (λ ks bytes rest is. (((tt, is.0), refl), subst (λ (u : ℕ). IsWhere schema u ks.comparisons bytes rest) (sym is.0) is.1))
      (λ c bytes rest k is. (k.0.1, subst (λ (u : ℕ). IsWhere schema u c.0.comparisons bytes rest) k.0.1 is)) (λ c k. λ i. (c.0, k.1 i)) (keys t))))))

  -- ---- by the first word

  abbrev Data : Statement → Piece
  Data =
      Or (Next (Word (codes "INSERT")) (By Inserted IsInsert)) (Or (Next (Word (codes "UPDATE")) (By Updated IsUpdate))
      (Or (Next (Word (codes "DELETE")) (By Deleted IsDelete)) (Next (Word (codes "SELECT")) (By Selected IsSelect))))

  abbrev Either : Statement → Piece
  Either =
      Or (Last Begin (Word (codes "BEGIN"))) (Or (Next (Word (codes "START")) (Last Begin (Word (codes "TRANSACTION"))))
      (Or (Next (Word (codes "COMMIT")) (Last Commit (Empty ∣ Word (codes "WORK")))) (Or (Next (Word (codes "ROLLBACK")) (Last Rollback (Empty ∣ Word (codes "WORK")))) Data)))

  start : Production gaps (Last Begin (Word (codes "TRANSACTION"))) Closing start_at
  unfolding start_at
  start = closing (λ rest c. tt) (last Begin (word (codes "TRANSACTION") refl))

  abbrev pub openings : List (List ℕ)
  openings = codes "BEGIN" ∷ codes "START" ∷ codes "COMMIT" ∷ codes "ROLLBACK" ∷ codes "INSERT" ∷ codes "UPDATE" ∷ codes "DELETE" ∷ codes "SELECT" ∷ []

  pub statement : Led openings (IsStatement schema) Closing (statement_at schema)
  unfolding statement_at data_at
  statement =
      led_alike to from (or_value (codes "BEGIN") Begin refl
      (or_word (codes "START") refl start
      (or_word (codes "COMMIT") refl (work Commit)
      (or_word (codes "ROLLBACK") refl (work Rollback)
      (or_word (codes "INSERT") refl insert (or_word (codes "UPDATE") refl update (or_word (codes "DELETE") refl delete (last_word (codes "SELECT") refl select))))))))
    where
      at : (s t : Statement) (bytes rest : List ℕ) → s ≡ t → IsStatement schema t bytes rest → IsStatement schema s bytes rest
      at s t bytes rest e is = subst (λ (u : Statement). IsStatement schema u bytes rest) (sym e) is

      to : (s : Statement) (bytes rest : List ℕ) → Either s bytes rest → IsStatement schema s bytes rest
      to s bytes rest (inl l) = at s Begin bytes rest l.0 (inl l.1)
      to s bytes rest (inr (inl n)) = at s Begin bytes rest (n.second).0 (inr (n.between, (n.first, (n.second).1)))
      to s bytes rest (inr (inr (inl n))) = at s Commit bytes rest (n.second).0 (n.between, (n.first, (n.second).1))
      to s bytes rest (inr (inr (inr (inl n)))) = at s Rollback bytes rest (n.second).0 (n.between, (n.first, (n.second).1))
      to s bytes rest (inr (inr (inr (inr (inl n))))) = at s (Inserted (n.second).0) bytes rest (n.second).1.0 (n.between, (n.first, (n.second).1.1))
      to s bytes rest (inr (inr (inr (inr (inr (inl n)))))) = at s (Updated (n.second).0) bytes rest (n.second).1.0 (n.between, (n.first, (n.second).1.1))
      to s bytes rest (inr (inr (inr (inr (inr (inr (inl n))))))) = at s (Deleted (n.second).0) bytes rest (n.second).1.0 (n.between, (n.first, (n.second).1.1))
      to s bytes rest (inr (inr (inr (inr (inr (inr (inr n))))))) = at s (Selected (n.second).0) bytes rest (n.second).1.0 (n.between, (n.first, (n.second).1.1))

      from : (s : Statement) (bytes rest : List ℕ) → IsStatement schema s bytes rest → Either s bytes rest
      from Begin bytes rest (inl is) = inl (refl, is)
      from Begin bytes rest (inr is) = inr (inl (record { between = is.0; first = is.1.0; second = (refl, is.1.1) }))
      from Commit bytes rest is = inr (inr (inl (record { between = is.0; first = is.1.0; second = (refl, is.1.1) })))
      from Rollback bytes rest is = inr (inr (inr (inl (record { between = is.0; first = is.1.0; second = (refl, is.1.1) }))))
      from (Insert t cs rs) bytes rest is = inr (inr (inr (inr (inl (record { between = is.0; first = is.1.0; second = ((t, (cs, rs)), (refl, is.1.1)) })))))
      from (Update ks p ss) bytes rest is = inr (inr (inr (inr (inr (inl (record { between = is.0; first = is.1.0; second = ((ks, (p, ss)), (refl, is.1.1)) }))))))
      from (Delete ks p) bytes rest is = inr (inr (inr (inr (inr (inr (inl (record { between = is.0; first = is.1.0; second = ((ks, p), (refl, is.1.1)) })))))))
      from (Select f ks) bytes rest is = inr (inr (inr (inr (inr (inr (inr (record { between = is.0; first = is.1.0; second = ((ks, f), (refl, is.1.1)) })))))))

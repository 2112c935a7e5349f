-- The pieces of a dump's lines are of the grammar.
use Rattle.std.proofs.Common.{◌≡◌, ℕ, ◌<◌, ◌≤◌, ◌-◌, ◌^◌, Bool, true, false, ◌&&◌, List, [], ◌∷◌, ◌++◌, inl, inr, refl, sym, ap, subst, ◌∙◌, arith, append_assoc, append-nil, suc, min, ◌*◌, ◌+◌}
use Rattle.std.specs.Prelude.{codes, decimal, length, pos, negsuc}
use Rattle.std.specs.Char.{is_ascii_digit, digit_value}
use Rattle.std.specs.List.{list_all, flat_map, AllByRecursion}
use Rattle.std.specs.Str.Parse.{AllDigits, digits_value_after}
use Rattle.std.proofs.lemmas.Fmt.{decimal_is_IsNumeral}
use Rattle.std.proofs.lemmas.Bool.Decides.{nat_tests}
use Rattle.values.specs.declared.query.Comparison.{Comparison}
use Rattle.values.specs.declared.query.Operator.{Operator}
use Rattle.values.specs.declared.query.Operator.TheVariants.{Equal}
use Rattle.values.specs.declared.query.Set.{Set}
use Rattle.values.specs.declared.table.ColumnType.{ColumnType}
use Rattle.values.specs.declared.table.ColumnType.TheVariants.{Int as IsInt, Text as IsText, Varchar as IsVarchar, Boolean as IsBoolean}
use Rattle.values.specs.declared.table.Table.{Table}
use Rattle.values.specs.declared.value.Value.{Value}
use Rattle.values.specs.declared.value.Value.TheVariants.{Int, Text, Bool as Truth, Null}
use Rattle.values.specs.Columns.{is_good_type}
use Rattle.values.specs.Fit.{longest_text}
use Rattle.values.specs.Log.{Row}
use Rattle.values.specs.Names.{same_name}
use Rattle.values.specs.Tables.{Schema}
use Rattle.tokens.specs.Digit.{capped_from}
use Rattle.tokens.specs.Run.{AllBytes, Ends}
use Rattle.tokens.specs.Word.{is_name_byte}
use Rattle.statement.specs.Condition.{table_of, column_of}
use Rattle.statement.specs.Grammar.{Blanks, CappedDigits, Digits, IsColumn, IsComparison, IsOperator, IsRow, IsSet, IsTable, IsType, IsWhere, Listed, Literal, Symbol, Word, is_quote}
use Rattle.statement.specs.GrammarLaw.{ArePlain, IsPlain}
use Rattle.statement.specs.Print.{quoted, value_text, values_text}
use Rattle.statement.proofs.GrammarHolds.{Holds}
use Rattle.statement.proofs.LiteralSound.{literal_behind}
use Rattle.statement.proofs.LiteralWhole.{no_blanks}
use Rattle.statement.proofs.PrintRead.{printed_rows}
use Rattle.statement.proofs.StatementProduction.{row}
use Rattle.statement.proofs.TokenProduction.{sound}
use Rattle.dumping.specs.DumpText.{column_name, next_pair, pair_text, set_text, type_text, where_text}
use Rattle.dump_reading.specs.Readable.{IsReadableName}

-- ---- words and symbols

pub all_bytes : (p : ℕ → Bool) (bytes : List ℕ) → list_all p bytes ≡ true → AllBytes p bytes
all_bytes p [] all = tt
all_bytes p (b ∷ bytes) all = by (p b) refl all (λ rest. all_bytes p bytes rest)
  where
    by : (t : Bool) → p b ≡ t → (t && list_all p bytes) ≡ true → (list_all p bytes ≡ true → AllBytes p bytes) → AllBytes p (b ∷ bytes)
    by true e all rest = (e, rest all)
    by false e all rest = cc

pub one_blank : (bytes : List ℕ) → Blanks (32 ∷ bytes) bytes
one_blank bytes = record { blanks = 32 ∷ []; are_blank = (refl, tt); spelled = refl }

more_blank : {bytes at : List ℕ} → Blanks bytes at → Blanks (32 ∷ bytes) at
more_blank b = record { blanks = 32 ∷ b.blanks; are_blank = (refl, b.are_blank); spelled = ap (λ (l : List ℕ). 32 ∷ l) b.spelled }

-- a word behind a blank, and one with none before it
pub word_behind : (word written rest : List ℕ) → list_all is_name_byte written ≡ true → Ends is_name_byte rest → same_name word written ≡ true → Word word (32 ∷ (written ++ rest)) rest
word_behind word written rest all ends same = (written ++ rest, (one_blank (written ++ rest), (written, (record { all = all_bytes is_name_byte written all; ends = ends; spelled = refl }, same))))

pub word_here : (word written rest : List ℕ) → list_all is_name_byte written ≡ true → Ends is_name_byte rest → same_name word written ≡ true → Word word (written ++ rest) rest
word_here word written rest all ends same = (written ++ rest, (no_blanks (written ++ rest), (written, (record { all = all_bytes is_name_byte written all; ends = ends; spelled = refl }, same))))

pub symbol_here : (s : ℕ) (rest : List ℕ) → Symbol s (s ∷ rest) rest
symbol_here s rest = (s ∷ rest, (no_blanks (s ∷ rest), refl))

pub symbol_behind : (s : ℕ) (rest : List ℕ) → Symbol s (32 ∷ s ∷ rest) rest
symbol_behind s rest = (s ∷ rest, (one_blank (s ∷ rest), refl))

-- ---- values

-- no byte of a value goes on here
pub record Closes (rest : List ℕ) : Type 0 where
  pub no_digit : Ends is_ascii_digit rest
  pub no_quote : Ends is_quote rest
  pub no_name : Ends is_name_byte rest

is_digit : (d : ℕ) → digit_value d < 10 → is_ascii_digit d ≡ true
is_digit d below = grind (arith, nat_tests)

pub all_digits : (ds : List ℕ) → AllDigits 10 ds → AllBytes is_ascii_digit ds
all_digits [] all = tt
all_digits (d ∷ ds) all = (is_digit d all.0, all_digits ds all.1)

pub digits_printed : (most n : ℕ) (rest : List ℕ) → n < 2 ^ 64 → n ≤ most → Ends is_ascii_digit rest → Digits most n (decimal n ++ rest) rest
digits_printed most n rest small within ends =
    let numeral = decimal_is_IsNumeral n small in
    record { digits = decimal n; some = numeral.0.0; run = record { all = all_digits (decimal n) numeral.0.1; ends = ends; spelled = refl }; value = numeral.1; within = within }

value_here : (v : Value) → IsPlain v → (rest : List ℕ) → Closes rest → Literal v (value_text v ++ rest) rest
value_here (Int (pos n)) plain rest closes = (_, (no_blanks _, inl (n, (refl, digits_printed (2 ^ 63 - 1) n rest (omega arith) (omega arith) closes.no_digit))))
value_here (Int (negsuc n)) plain rest closes =
    (_, (no_blanks _, inr (suc n, (refl, (decimal (suc n) ++ rest, (refl, digits_printed (2 ^ 63) (suc n) rest (omega arith) (omega arith) closes.no_digit))))))
value_here (Text t) plain rest closes =
    (_, (no_blanks _, record { utf8 = plain; ends = closes.no_quote; spelled = ap (λ (l : List ℕ). 39 ∷ l) (append_assoc (quoted t) (39 ∷ []) rest) }))
value_here (Truth true) plain rest closes = (_, (no_blanks _, (codes "true", (record { all = all_bytes is_name_byte (codes "true") refl; ends = closes.no_name; spelled = refl }, refl))))
value_here (Truth false) plain rest closes = (_, (no_blanks _, (codes "false", (record { all = all_bytes is_name_byte (codes "false") refl; ends = closes.no_name; spelled = refl }, refl))))
value_here Null plain rest closes = (_, (no_blanks _, (codes "null", (record { all = all_bytes is_name_byte (codes "null") refl; ends = closes.no_name; spelled = refl }, refl))))

value_behind : (v : Value) → IsPlain v → (rest : List ℕ) → Closes rest → Literal v (32 ∷ (value_text v ++ rest)) rest
value_behind v plain rest closes = literal_behind v rest (one_blank (value_text v ++ rest)) (value_here v plain rest closes)

row_here : (values : Row) → 0 < length values → ArePlain values → IsRow values (values_text values) []
row_here values some plain =
    subst (λ (l : List ℕ). IsRow values l []) (append-nil (values_text values))
    (subst (λ r. Holds r (λ read rest. IsRow read (values_text values ++ []) rest)) (printed_rows values [] some plain) (sound row (values_text values ++ []))).it

pub row_behind : (values : Row) → 0 < length values → ArePlain values → IsRow values (32 ∷ values_text values) []
row_behind values some plain =
    let is = row_here values some plain in (is.0, ((is.1.0.0, (more_blank is.1.0.1.0, is.1.0.1.1)), is.1.1))

-- ---- the type of a column

-- digits with no cap below it
uncapped : (n : ℕ) (ds : List ℕ) → AllDigits 10 ds → digits_value_after 10 n ds ≤ 65535 → capped_from n ds ≡ digits_value_after 10 n ds
uncapped n [] all within = refl
uncapped n (d ∷ ds) all within =
    ap (λ m. capped_from m ds) (same_next n d all.0 (below (n * 10 + digit_value d) ds within))
    ∙ uncapped (n * 10 + digit_value d) ds all.1 within
  where
    grown : (m : ℕ) (ds : List ℕ) → m ≤ digits_value_after 10 m ds
    grown m [] = omega arith
    grown m (d ∷ ds) = let more = grown (m * 10 + digit_value d) ds in omega arith

    below : (m : ℕ) (ds : List ℕ) → digits_value_after 10 m ds ≤ 65535 → m ≤ 65535
    below m ds within = let more = grown m ds in omega arith

    digit_is : (d : ℕ) → digit_value d < 10 → d - 48 ≡ digit_value d
    digit_is d less = grind (arith, nat_tests)

    same_next : (n d : ℕ) → digit_value d < 10 → n * 10 + digit_value d ≤ 65535 → min (10 * n + (d - 48)) 65535 ≡ n * 10 + digit_value d
    same_next n d less within = let same = digit_is d less in omega arith

size_printed : (n : ℕ) (rest : List ℕ) → n ≤ longest_text → Ends is_ascii_digit rest → CappedDigits n (decimal n ++ rest) rest
size_printed n rest within ends =
    let numeral = decimal_is_IsNumeral n (omega arith) in
    let value : digits_value_after 10 0 (decimal n) ≡ n = numeral.1 in
    record {
      digits = decimal n;
      some = numeral.0.0;
      run = record { all = all_digits (decimal n) numeral.0.1; ends = ends; spelled = refl };
      value = uncapped 0 (decimal n) numeral.0.1 (omega arith) ∙ value;
    }

good_size : (n : ℕ) → is_good_type (IsVarchar n) ≡ true → n ≤ longest_text
good_size n good = grind (arith, nat_tests)

pub type_behind : (of : ColumnType) → is_good_type of ≡ true → IsType of (32 ∷ type_text of) []
type_behind IsInt good = inl (word_behind (codes "INT") (codes "INT") [] refl tt refl)
type_behind IsText good = word_behind (codes "TEXT") (codes "TEXT") [] refl tt refl
type_behind IsBoolean good = word_behind (codes "BOOLEAN") (codes "BOOLEAN") [] refl tt refl
type_behind (IsVarchar n) good =
    let size : List ℕ = decimal n ++ 41 ∷ [] in (
      40 ∷ size,
      (
        word_behind (codes "VARCHAR") (codes "VARCHAR") (40 ∷ size) refl refl refl,
        (
          size,
          (
            symbol_here 40 size,
            (41 ∷ [], ((size, (no_blanks size, size_printed n (41 ∷ []) (good_size n good) refl)), symbol_here 41 [])),
          ),
        ),
      ),
    )

-- ---- names of tables and columns

pub table_behind : (schema : Schema) (number : ℕ) (name rest : List ℕ) → IsReadableName name → table_of schema name ≡ number → Ends is_name_byte rest → IsTable schema number (32 ∷ (name ++ rest)) rest
table_behind schema number name rest good found ends =
    (name, ((name ++ rest, (one_blank (name ++ rest), (record { all = good.bytes; ends = ends; spelled = refl }, good.named))), found))

-- the column's name is readable, and is found
pub record IsFoundColumn (schema : Schema) (table : ℕ) (name : List ℕ) (column : ℕ) : Type 0 where
  pub good : IsReadableName name
  pub found : column_of schema table name ≡ column

column_behind : (schema : Schema) (table : ℕ) (name : List ℕ) (column : ℕ) (rest : List ℕ) → IsFoundColumn schema table name column → Ends is_name_byte rest → IsColumn schema table column (32 ∷ (name ++ rest)) rest
column_behind schema table name column rest is ends =
    (name, ((name ++ rest, (one_blank (name ++ rest), (record { all = is.good.bytes; ends = ends; spelled = refl }, is.good.named))), is.found))

-- ---- comparisons, and what is set

-- by the tables now the text of a table names the column; the value can be printed
pub record IsReadablePair (now : Schema) (table : Table) (c : Comparison) : Type 0 where
  pub column : IsFoundColumn now table.number (column_name table c.column) c.column
  pub equal : c.operator ≡ Equal
  pub plain : IsPlain c.value

module _ (now : Schema) (table : Table) where
  comparison_is : (c : Comparison) (rest : List ℕ) → IsReadablePair now table c → Closes rest → IsComparison now table.number c (32 ∷ (pair_text table c ++ rest)) rest
  comparison_is c rest is closes =
      let value : List ℕ = value_text c.value ++ rest in
      let equals : List ℕ = 32 ∷ 61 ∷ 32 ∷ value in
      subst (λ (l : List ℕ). IsComparison now table.number c (32 ∷ l) rest) (sym (append_assoc (column_name table c.column) (codes " = " ++ value_text c.value) rest)) (
        equals,
        (
          column_behind now table.number (column_name table c.column) c.column equals is.column refl,
          (32 ∷ value, (subst (λ (o : Operator). IsOperator o equals (32 ∷ value)) (sym is.equal) (symbol_behind 61 (32 ∷ value)), value_behind c.value is.plain rest closes)),
        ),
      )

  abbrev more_pairs : List Comparison → List ℕ
  more_pairs cs = flat_map (next_pair table) cs

  closes_more : (cs : List Comparison) → Closes (more_pairs cs)
  closes_more [] = record { no_digit = tt; no_quote = tt; no_name = tt }
  closes_more (c ∷ cs) = record { no_digit = refl; no_quote = refl; no_name = refl }

  comparisons_are : (c : Comparison) (cs : List Comparison) → IsReadablePair now table c → AllByRecursion (IsReadablePair now table) cs
      → Listed (Word (codes "AND")) (IsComparison now table.number) (c ∷ cs) (32 ∷ (pair_text table c ++ more_pairs cs)) []
  comparisons_are c [] is are = comparison_is c [] is (closes_more [])
  comparisons_are c (d ∷ cs) is are =
      let behind : List ℕ = 32 ∷ (pair_text table d ++ more_pairs cs) in (
        32 ∷ 65 ∷ 78 ∷ 68 ∷ behind,
        (
          comparison_is c (32 ∷ 65 ∷ 78 ∷ 68 ∷ behind) is (record { no_digit = refl; no_quote = refl; no_name = refl }),
          (behind, (word_behind (codes "AND") (codes "AND") behind refl refl refl, comparisons_are d cs are.0 are.1)),
        ),
      )

  pub closes_where : (cs : List Comparison) → Closes (where_text table cs)
  closes_where [] = record { no_digit = tt; no_quote = tt; no_name = tt }
  closes_where (c ∷ cs) = record { no_digit = refl; no_quote = refl; no_name = refl }

  pub where_is : (cs : List Comparison) → AllByRecursion (IsReadablePair now table) cs → IsWhere now table.number cs (where_text table cs) []
  where_is [] are = refl
  where_is (c ∷ cs) are =
      let pairs : List ℕ = 32 ∷ (pair_text table c ++ more_pairs cs) in
      (pairs, (word_behind (codes "WHERE") (codes "WHERE") pairs refl refl refl, comparisons_are c cs are.0 are.1))

  pub set_is : (s : Set) (rest : List ℕ) → IsFoundColumn now table.number (column_name table s.column) s.column → IsPlain s.value → Closes rest
      → IsSet now table.number s (32 ∷ (set_text table s ++ rest)) rest
  set_is s rest column plain closes =
      let value : List ℕ = value_text s.value ++ rest in
      let equals : List ℕ = 32 ∷ 61 ∷ 32 ∷ value in
      subst (λ (l : List ℕ). IsSet now table.number s (32 ∷ l) rest) (sym (append_assoc (column_name table s.column) (codes " = " ++ value_text s.value) rest)) (
        equals,
        (
          column_behind now table.number (column_name table s.column) s.column equals column refl,
          (32 ∷ value, (symbol_behind 61 (32 ∷ value), value_behind s.value plain rest closes)),
        ),
      )

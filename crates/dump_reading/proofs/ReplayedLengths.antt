-- How long the texts of a dump's lines are, and that each is on one line.
use Rattle.std.proofs.Common.{◌≡◌, ℕ, ◌+◌, ◌*◌, ◌<◌, ◌≤◌, ◌^◌, Bool, true, false, List, [], ◌∷◌, ◌++◌, suc, refl, ◌∙◌, arith, length-append, leb-true, le_refl, lit≤, mul-suc}
use Rattle.std.specs.Prelude.{Ok, codes, decimal, length, pos, negsuc, not, nat_le, if◌then◌else◌, ◌==◌, ◌&&◌}
use Rattle.std.specs.Char.{is_ascii_digit, digit_value}
use Rattle.std.specs.List.{AllByRecursion, flat_map, list_any}
use Rattle.std.specs.Str.Parse.{AllDigits}
use Rattle.std.proofs.lemmas.Bool.{and_parts, not-true, or_from, or_parts}
use Rattle.std.proofs.lemmas.Bool.Decides.{nat_tests}
use Rattle.std.proofs.lemmas.Fmt.{decimal_is_IsNumeral, length-decimal-le}
use Rattle.std.proofs.lemmas.List.Folds.{list_any-append}
use Rattle.values.specs.declared.query.Comparison.{Comparison}
use Rattle.values.specs.declared.query.Keys.{Keys}
use Rattle.values.specs.declared.query.Set.{Set}
use Rattle.values.specs.declared.table.ColumnType.{ColumnType}
use Rattle.values.specs.declared.table.ColumnType.TheVariants.{Int as IsInt, Text as IsText, Varchar as IsVarchar, Boolean as IsBoolean}
use Rattle.values.specs.declared.table.Table.{Table}
use Rattle.values.specs.declared.value.Value.{Value}
use Rattle.values.specs.declared.value.Value.TheVariants.{Int, Text, Bool as Truth, Null}
use Rattle.values.specs.Columns.{is_good_type}
use Rattle.values.specs.Fit.{can_compare, character_count, fits_text, fits_type, is_line_break, longest_text}
use Rattle.values.specs.Log.{Row}
use Rattle.values.specs.Tables.{Schema}
use Rattle.steps.specs.declared.step.Step.{Step}
use Rattle.tokens.specs.Name.{is_name, is_reserved}
use Rattle.tokens.specs.Run.{AllBytes}
use Rattle.tokens.specs.Word.{is_name_byte}
use Rattle.lines.specs.Partial.{longest_line}
use Rattle.statement.specs.GrammarLaw.{IsPlain}
use Rattle.statement.specs.declared.line.Line.TheVariants.{Step as Asks}
use Rattle.statement.specs.Line.{body_says}
use Rattle.statement.specs.Print.{line, next_text, quoted, quoted_byte, value_text, values_text}
use Rattle.dumping.specs.DumpText.{addition_text, column_name, delete_text, insert_text, next_pair, pair_text, set_text, type_text, update_text, where_text}
use Rattle.dump_reading.specs.Readable.{IsReadableName}
use Rattle.dump_reading.proofs.ReplayedLines.{clock_text}

-- ---- texts of at most so many bytes, on one line

pub record Within (most : ℕ) (text : List ℕ) : Type 0 where
  pub short : length text ≤ most
  pub unbroken : list_any is_line_break text ≡ false

pub joined : (m n : ℕ) (a b : List ℕ) → Within m a → Within n b → Within (m + n) (a ++ b)
joined m n a b f g = record {
  short = omega (arith, length-append a b, f.short, g.short);
  unbroken = list_any-append is_line_break a b ∙ or_from (list_any is_line_break a) (list_any is_line_break b) f.unbroken g.unbroken;
}

pub more : (m n : ℕ) (text : List ℕ) → m ≤ n → Within m text → Within n text
more m n text less f = record { short = omega (arith, less, f.short); unbroken = f.unbroken }

-- a text that is written out
word : (text : List ℕ) → list_any is_line_break text ≡ false → Within (length text) text
word text unbroken = record { short = le_refl (length text); unbroken = unbroken }

-- ---- names and numbers

name_byte : (b : ℕ) → is_name_byte b ≡ true → is_line_break b ≡ false
name_byte b is = grind (arith, nat_tests)

name_bytes : (name : List ℕ) → AllBytes is_name_byte name → list_any is_line_break name ≡ false
name_bytes [] all = refl
name_bytes (b ∷ name) all = or_from (is_line_break b) (list_any is_line_break name) (name_byte b all.0) (name_bytes name all.1)

name_length : (name : List ℕ) → is_name name ≡ true → length name ≤ 64
unfolding is_name
name_length [] is = omega arith
name_length (b ∷ bs) is =
    let front = (and_parts (not (is_ascii_digit b) && nat_le (length (b ∷ bs)) 64) (not (is_reserved (b ∷ bs))) is).0 in
    leb-true (length (b ∷ bs)) 64 (and_parts (not (is_ascii_digit b)) (nat_le (length (b ∷ bs)) 64) front).1

pub name_within : (name : List ℕ) → IsReadableName name → Within 64 name
name_within name good = record { short = name_length name good.named; unbroken = name_bytes name good.bytes }

digit : (d : ℕ) → digit_value d < 10 → is_line_break d ≡ false
digit d less = grind (arith, nat_tests)

digits : (ds : List ℕ) → AllDigits 10 ds → list_any is_line_break ds ≡ false
digits [] all = refl
digits (d ∷ ds) all = or_from (is_line_break d) (list_any is_line_break ds) (digit d all.0) (digits ds all.1)

pub decimal_within : (n : ℕ) → n < 2 ^ 64 → Within 20 (decimal n)
decimal_within n small =
    let below : n < 10 ^ 20 = omega arith in
    record { short = length-decimal-le 20 n (omega arith) below small; unbroken = digits (decimal n) (decimal_is_IsNumeral n small).0.1 }

-- ---- values

quote : (b : ℕ) (t : Bool) → is_line_break b ≡ false → Within 2 (if t then 39 ∷ 39 ∷ [] else b ∷ [])
quote b true plain = record { short = omega arith; unbroken = refl }
quote b false plain = record { short = omega arith; unbroken = or_from (is_line_break b) false plain refl }

quoted_within : (text : List ℕ) → list_any is_line_break text ≡ false → Within (2 * length text) (quoted text)
quoted_within [] plain = record { short = omega arith; unbroken = refl }
quoted_within (b ∷ text) plain =
    let parts = or_parts (is_line_break b) (list_any is_line_break text) plain in
    more (2 + 2 * length text) (2 * suc (length text)) (quoted (b ∷ text)) (omega arith)
    (joined 2 (2 * length text) (quoted_byte b) (quoted text) (quote b (b == 39) parts.0) (quoted_within text parts.1))

-- a text has at most so many bytes, and is on one line
abbrev pub IsShort : ℕ → Value → Type 0
IsShort most (Text t) = Within most t
IsShort most (Int n) = Unit {0}
IsShort most (Truth t) = Unit {0}
IsShort most Null = Unit {0}

pub value_within : (most : ℕ) (v : Value) → 10 ≤ most → IsPlain v → IsShort most v → Within (2 * most + 2) (value_text v)
value_within most (Int (pos n)) room plain short = more 20 (2 * most + 2) (decimal n) (omega (arith, room)) (decimal_within n (omega (arith, plain)))
value_within most (Int (negsuc n)) room plain short =
    more (1 + 20) (2 * most + 2) (45 ∷ decimal (suc n)) (omega (arith, room)) (joined 1 20 (45 ∷ []) (decimal (suc n)) (word (45 ∷ []) refl) (decimal_within (suc n) (omega (arith, plain))))
value_within most (Text t) room plain short =
    more (1 + (2 * length t + 1)) (2 * most + 2) (value_text (Text t)) (omega (arith, short.short))
    (joined 1 (2 * length t + 1) (39 ∷ []) (quoted t ++ 39 ∷ []) (word (39 ∷ []) refl) (joined (2 * length t) 1 (quoted t) (39 ∷ []) (quoted_within t short.unbroken) (word (39 ∷ []) refl)))
value_within most (Truth true) room plain short = more 4 (2 * most + 2) (codes "true") (omega (arith, room)) (word (codes "true") refl)
value_within most (Truth false) room plain short = more 5 (2 * most + 2) (codes "false") (omega (arith, room)) (word (codes "false") refl)
value_within most Null room plain short = more 4 (2 * most + 2) (codes "null") (omega (arith, room)) (word (codes "null") refl)

-- ---- what fits

text_short : (most : ℕ) (t : List ℕ) → fits_text most t ≡ true → Within most t
text_short most t fits =
    let parts = and_parts (nat_le (length t) most) (not (list_any is_line_break t)) fits in
    record { short = leb-true (length t) most parts.0; unbroken = not-true (list_any is_line_break t) parts.1 }

pub typed_short : (most : ℕ) (of : ColumnType) (v : Value) → fits_type most of v ≡ true → IsShort most v
typed_short most IsText (Text t) fits = text_short most t fits
typed_short most (IsVarchar n) (Text t) fits = text_short most t (and_parts (fits_text most t) (nat_le (character_count t) n) fits).0
typed_short most IsInt (Text t) fits = cc
typed_short most IsBoolean (Text t) fits = cc
typed_short most of (Int n) fits = tt
typed_short most of (Truth t) fits = tt
typed_short most of Null fits = tt

pub compared_short : (of : ColumnType) (v : Value) → can_compare of v ≡ true → IsShort 200 v
compared_short (IsVarchar n) v fits = typed_short 200 IsText v fits
compared_short IsText v fits = typed_short 200 IsText v fits
compared_short IsInt v fits = typed_short 200 IsInt v fits
compared_short IsBoolean v fits = typed_short 200 IsBoolean v fits

-- ---- rows

abbrev pub AreWithin : ℕ → List Value → Type 0
AreWithin most vs = AllByRecursion (λ v. Within most (value_text v)) vs

others_within : (most : ℕ) (vs : List Value) → AreWithin most vs → Within ((most + 2) * length vs) (flat_map next_text vs)
others_within most [] all = record { short = omega arith; unbroken = refl }
others_within most (v ∷ vs) all =
    more ((2 + most) + (most + 2) * length vs) ((most + 2) * suc (length vs)) (flat_map next_text (v ∷ vs)) (omega (arith, mul-suc (most + 2) (length vs)))
    (joined (2 + most) ((most + 2) * length vs) (next_text v) (flat_map next_text vs) (joined 2 most (codes ", ") (value_text v) (word (codes ", ") refl) all.0) (others_within most vs all.1))

pub values_within : (most : ℕ) (vs : List Value) → AreWithin most vs → Within (2 + (most + 2) * length vs) (values_text vs)
values_within most [] all = record { short = omega arith; unbroken = refl }
values_within most (v ∷ vs) all =
    more (1 + (most + ((most + 2) * length vs + 1))) (2 + (most + 2) * suc (length vs)) (values_text (v ∷ vs)) (omega (arith, mul-suc (most + 2) (length vs)))
    (joined 1 (most + ((most + 2) * length vs + 1)) (codes "(") (value_text v ++ (flat_map next_text vs ++ codes ")")) (word (codes "(") refl)
    (joined most ((most + 2) * length vs + 1) (value_text v) (flat_map next_text vs ++ codes ")") all.0
    (joined ((most + 2) * length vs) 1 (flat_map next_text vs) (codes ")") (others_within most vs all.1) (word (codes ")") refl))))

-- ---- lines

pub clock_within : (n : ℕ) → n < 2 ^ 64 → Within longest_line (clock_text n)
clock_within n small = more (7 + 20) longest_line (clock_text n) (lit≤ tt) (joined 7 20 (codes "clock: ") (decimal n) (word (codes "clock: ") refl) (decimal_within n small))

pub begin_within : Within longest_line (codes "1: BEGIN")
begin_within = more 8 longest_line (codes "1: BEGIN") (lit≤ tt) (word (codes "1: BEGIN") refl)

pub commit_within : Within longest_line (codes "1: COMMIT")
commit_within = more 9 longest_line (codes "1: COMMIT") (lit≤ tt) (word (codes "1: COMMIT") refl)

module _ (table : Table) (name : IsReadableName table.name) where
  insert_behind : (most : ℕ) (row : Row) → AreWithin most row → Within (15 + (64 + (8 + (2 + (most + 2) * length row)))) (insert_text table row)
  insert_behind most row all =
      let behind : ℕ = 2 + (most + 2) * length row in
      joined 15 (64 + (8 + behind)) (codes "1: INSERT INTO ") (table.name ++ (codes " VALUES " ++ values_text row)) (word (codes "1: INSERT INTO ") refl)
      (joined 64 (8 + behind) table.name (codes " VALUES " ++ values_text row) (name_within table.name name)
      (joined 8 behind (codes " VALUES ") (values_text row) (word (codes " VALUES ") refl) (values_within most row all)))

  -- a row of short values
  pub insert_within : (row : Row) → length row ≤ 16 → AreWithin 402 row → Within longest_line (insert_text table row)
  insert_within row few all = more (15 + (64 + (8 + (2 + 404 * length row)))) longest_line (insert_text table row) (omega (arith, few)) (insert_behind 402 row all)

  -- a row whose line is known to be short enough
  pub short_insert_within : (most : ℕ) (row : Row) → AreWithin most row → length (insert_text table row) ≤ longest_line → Within longest_line (insert_text table row)
  short_insert_within most row all short = record { short = short; unbroken = (insert_behind most row all).unbroken }

  -- a comparison's name and value are short
  pub record IsShortPair (c : Comparison) : Type 0 where
    pub named : Within 64 (column_name table c.column)
    pub valued : Within 402 (value_text c.value)

  pair_within : (c : Comparison) → IsShortPair c → Within 469 (pair_text table c)
  pair_within c is =
      joined 64 405 (column_name table c.column) (codes " = " ++ value_text c.value) is.named (joined 3 402 (codes " = ") (value_text c.value) (word (codes " = ") refl) is.valued)

  more_within : (cs : List Comparison) → AllByRecursion IsShortPair cs → Within (474 * length cs) (flat_map (next_pair table) cs)
  more_within [] all = record { short = omega arith; unbroken = refl }
  more_within (c ∷ cs) all =
      more ((5 + 469) + 474 * length cs) (474 * suc (length cs)) (flat_map (next_pair table) (c ∷ cs)) (omega arith)
      (joined (5 + 469) (474 * length cs) (next_pair table c) (flat_map (next_pair table) cs) (joined 5 469 (codes " AND ") (pair_text table c) (word (codes " AND ") refl) (pair_within c all.0)) (more_within cs all.1))

  where_within : (cs : List Comparison) → length cs ≤ 4 → AllByRecursion IsShortPair cs → Within 1898 (where_text table cs)
  where_within [] few all = record { short = omega arith; unbroken = refl }
  where_within (c ∷ cs) few all =
      more (7 + (469 + 474 * length cs)) 1898 (where_text table (c ∷ cs)) (omega (arith, few))
      (joined 7 (469 + 474 * length cs) (codes " WHERE ") (pair_text table c ++ flat_map (next_pair table) cs) (word (codes " WHERE ") refl)
      (joined 469 (474 * length cs) (pair_text table c) (flat_map (next_pair table) cs) (pair_within c all.0) (more_within cs all.1)))

  pub delete_within : (keys : Keys) → length keys.comparisons ≤ 4 → AllByRecursion IsShortPair keys.comparisons → Within longest_line (delete_text table keys)
  delete_within keys few all =
      more (15 + (64 + 1898)) longest_line (delete_text table keys) (lit≤ tt)
      (joined 15 (64 + 1898) (codes "1: DELETE FROM ") (table.name ++ where_text table keys.comparisons) (word (codes "1: DELETE FROM ") refl)
      (joined 64 1898 table.name (where_text table keys.comparisons) (name_within table.name name) (where_within keys.comparisons few all)))

  pub update_within : (keys : Keys) (s : Set) → length keys.comparisons ≤ 4 → AllByRecursion IsShortPair keys.comparisons
      → Within 64 (column_name table s.column) → Within 2002 (value_text s.value) → Within longest_line (update_text table keys s)
  update_within keys s few all column value =
      let behind : List ℕ = where_text table keys.comparisons in
      more (10 + (64 + (5 + (2069 + 1898)))) longest_line (update_text table keys s) (lit≤ tt)
      (joined 10 (64 + (5 + (2069 + 1898))) (codes "1: UPDATE ") (table.name ++ (codes " SET " ++ (set_text table s ++ behind))) (word (codes "1: UPDATE ") refl)
      (joined 64 (5 + (2069 + 1898)) table.name (codes " SET " ++ (set_text table s ++ behind)) (name_within table.name name)
      (joined 5 (2069 + 1898) (codes " SET ") (set_text table s ++ behind) (word (codes " SET ") refl)
      (joined 2069 1898 (set_text table s) behind
      (joined 64 2005 (column_name table s.column) (codes " = " ++ value_text s.value) column (joined 3 2002 (codes " = ") (value_text s.value) (word (codes " = ") refl) value))
      (where_within keys.comparisons few all)))))

  good_size : (n : ℕ) → is_good_type (IsVarchar n) ≡ true → n < 2 ^ 64
  good_size n good = omega (arith, leb-true n longest_text (and_parts (nat_le 1 n) (nat_le n longest_text) good).1)

  type_within : (of : ColumnType) → is_good_type of ≡ true → Within 29 (type_text of)
  type_within IsInt good = more 3 29 (codes "INT") (lit≤ tt) (word (codes "INT") refl)
  type_within IsText good = more 4 29 (codes "TEXT") (lit≤ tt) (word (codes "TEXT") refl)
  type_within IsBoolean good = more 7 29 (codes "BOOLEAN") (lit≤ tt) (word (codes "BOOLEAN") refl)
  type_within (IsVarchar n) good =
      joined 8 21 (codes "VARCHAR(") (decimal n ++ codes ")") (word (codes "VARCHAR(") refl) (joined 20 1 (decimal n) (codes ")") (decimal_within n (good_size n good)) (word (codes ")") refl))

  pub addition_within : (column : List ℕ) (of : ColumnType) → IsReadableName column → is_good_type of ≡ true → Within longest_line (addition_text table column of)
  addition_within column of good typed =
      let behind : List ℕ = column ++ (codes " " ++ type_text of) in
      more (15 + (64 + (12 + (64 + (1 + 29))))) longest_line (addition_text table column of) (lit≤ tt)
      (joined 15 (64 + (12 + (64 + (1 + 29)))) (codes "1: ALTER TABLE ") (table.name ++ (codes " ADD COLUMN " ++ behind)) (word (codes "1: ALTER TABLE ") refl)
      (joined 64 (12 + (64 + (1 + 29))) table.name (codes " ADD COLUMN " ++ behind) (name_within table.name name)
      (joined 12 (64 + (1 + 29)) (codes " ADD COLUMN ") behind (word (codes " ADD COLUMN ") refl)
      (joined 64 (1 + 29) column (codes " " ++ type_text of) (name_within column good)
      (joined 1 29 (codes " ") (type_text of) (word (codes " ") refl) (type_within of typed))))))

-- ---- and what they are read as

-- the text is one line, which is read as the step
pub record IsLineOf (now : Schema) (reading : ℕ) (step : Step) (text : List ℕ) : Type 0 where
  pub body : List ℕ
  pub text_is : text ≡ line body
  pub within : Within longest_line body
  pub says : body_says now reading body ≡ Ok (Asks step)

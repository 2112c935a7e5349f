-- The statements of a schema as productions.
use Rattle.std.proofs.Common.{◌≡◌, ◌<◌, ℕ, Bool, true, false, List, [], ◌∷◌, ◌||◌, inl, inr, Some, None, Err, length, refl, ap, sym, ◌∙◌, subst, lit<, if◌then◌else◌}
use Rattle.std.specs.Prelude.{codes, nat_le}
use Rattle.values.specs.declared.table.ColumnType.{ColumnType}
use Rattle.values.specs.declared.table.ColumnType.TheVariants.{Int, Text, Varchar, Boolean}
use Rattle.rows.specs.declared.declaration.Mark.{Mark}
use Rattle.rows.specs.declared.declaration.Mark.TheVariants.{NotNull, PrimaryKey}
use Rattle.rows.specs.declared.declaration.Side.{Side}
use Rattle.rows.specs.declared.declaration.Side.TheVariants.{Start, End}
use Rattle.rows.specs.declared.declaration.Entry.{Entry}
use Rattle.rows.specs.declared.declaration.Entry.TheVariants.{User, Generated, Period, Application, Key}
use Rattle.tokens.specs.Token.{Read}
use Rattle.tokens.specs.Word.{is_name_byte}
use Rattle.tokens.specs.Word.{is_word_at as is_word_after, word_at as word_after}
use Rattle.tokens.specs.Name.{is_name}
use Rattle.tokens.specs.Name.{name_at as name_after}
use Rattle.tokens.proofs.WordCases.{Refused}
use Rattle.tokens.proofs.PlaceSame.{Tells, tells_or}
use Rattle.tokens.proofs.TokenSame.{tells_word}
use Rattle.tokens.proofs.TokenProduction.{Phrase, Production, Any, Or, closing, peek}
use Rattle.rows.specs.SchemaToken.{symbol_at, is_word_at, after_word, name_at}
use Rattle.rows.specs.Declaration.{names_at, size_at, is_whole_number_at, varchar_at, type_at, not_null_at, primary_key_at, mark_at, is_mark_at, user_at, precision_at, maybe_not_null_at, side_at, row_side_at, generated_at, two_names_at, system_period_at, application_period_at, period_at, without_overlaps_at, overlaps_at, key_at, column_at, entry_at, entries_at, body_at, versioning_at, create_at}
use Rattle.rows.specs.SchemaGrammar.{Symbol, Name, Listed, Size, TypeName, NotNullWords, PrimaryKeyWords, MarkWords, UserEntry, Precision, MaybeNotNull, RowSide, GeneratedAsRow, GeneratedEntry, TwoNames, SystemPeriodText, ApplicationPeriodText, PeriodEntry, WithoutOverlapsWords, MaybeOverlaps, KeyEntry, ColumnEntry, EntryText, Body, Versioning, CreateText}
use Rattle.rows.proofs.SchemaSpelled.{word_next}
use Rattle.rows.proofs.SchemaRead.{word_is_at}
use Rattle.rows.proofs.SchemaApart.{system_time_no_name, period_no_name, primary_no_name, no_word_at_symbol, no_symbol_at_symbol, no_symbol_at_word}
use Rattle.rows.proofs.SchemaTokenProduction.{Parting, texts_of, gaps, symbol_token, symbol, word, name, digits}
use Rattle.rows.proofs.SchemaGrammarProduction.{bind_where, bind, next_words, last_words, make, nothing, words, regroup, by_word, maybe_words, other_word, apart, Led, led, led_regroup, led_read, or_value}
use Rattle.rows.proofs.DeclarationListProduction.{many, listed}

or_right : (a b : Bool) → b ≡ true → (a || b) ≡ true
or_right true b e = refl
or_right false b e = e

left_none : (a b : Bool) → (a || b) ≡ false → a ≡ false
left_none true b e = e
left_none false b e = refl

-- ---- types

size : Production gaps Size Any size_at
unfolding size_at
size = next_words (symbol 40 refl) (bind digits (λ n. last_words n (symbol 41 refl)))

abbrev type_words : List (List ℕ)
type_words = codes "INT" ∷ codes "INTEGER" ∷ codes "BIGINT" ∷ codes "TEXT" ∷ codes "BOOLEAN" ∷ codes "VARCHAR" ∷ []

type : Led type_words TypeName Any type_at
unfolding type_at is_whole_number_at varchar_at
type =
    led_read (λ bytes. whole (is_word_at (codes "INT") bytes) (is_word_at (codes "INTEGER") bytes) (is_word_at (codes "BIGINT") bytes) _ _)
    (led_regroup (led_regroup (led_regroup (led_regroup (or_value (codes "INT") Int refl
    (or_value (codes "INTEGER") Int refl
    (or_value (codes "BIGINT") Int refl
    (or_value (codes "TEXT") Text refl
    (or_value (codes "BOOLEAN") Boolean refl
    (led (codes "VARCHAR") (next_words (word (codes "VARCHAR") refl) (make Varchar size))))))))))))
  where
    whole : (a b c : Bool) (x y : Read ColumnType) → (if a then x else if b then x else if c then x else y) ≡ (if a || b || c then x else y)
    whole true b c x y = refl
    whole false true c x y = refl
    whole false false true x y = refl
    whole false false false x y = refl

-- ---- marks

not_null : Phrase gaps (NotNullWords tt) not_null_at
unfolding not_null_at
not_null = words (word (codes "NOT") refl) (word (codes "NULL") refl)

primary_key : Phrase gaps (PrimaryKeyWords tt) primary_key_at
unfolding primary_key_at
primary_key = words (word (codes "PRIMARY") refl) (word (codes "KEY") refl)

not_first : (bytes rest : List ℕ) → NotNullWords tt bytes rest → is_word_at (codes "NOT") bytes ≡ true
not_first bytes rest is = word_is_at (codes "NOT") is.0 bytes is.1.0 is.1.1.0

primary_first : (bytes rest : List ℕ) → PrimaryKeyWords tt bytes rest → is_word_at (codes "PRIMARY") bytes ≡ true
primary_first bytes rest is = word_is_at (codes "PRIMARY") is.0 bytes is.1.0 is.1.1.0

mark : Production gaps MarkWords Any mark_at
unfolding mark_at
mark =
    by_word (codes "NOT") (λ m bytes rest is. not_first bytes is.1.0 is.1.1.0) (last_words NotNull not_null)
    (λ m bytes rest is c. other_word (codes "NOT") (codes "PRIMARY") refl bytes (primary_first bytes is.1.0 is.1.1.0)) (last_words PrimaryKey primary_key)

mark_first : (m : Mark) (bytes rest : List ℕ) → MarkWords m bytes rest → is_mark_at bytes ≡ true
unfolding is_mark_at
mark_first m bytes rest (inl is) = ap (λ t. t || is_word_at (codes "PRIMARY") bytes) (not_first bytes is.1.0 is.1.1.0)
mark_first m bytes rest (inr is) = or_right (is_word_at (codes "NOT") bytes) (is_word_at (codes "PRIMARY") bytes) (primary_first bytes is.1.0 is.1.1.0)

no_mark : Refused (mark_at [])
unfolding mark_at primary_key_at is_word_after word_after
no_mark = record { at = []; is = refl }

tells_mark : (s : Parting) → Tells (texts_of s) is_mark_at
unfolding is_mark_at
tells_mark s = tells_or (texts_of s) (is_word_at (codes "NOT")) (is_word_at (codes "PRIMARY")) (tells_word (texts_of s) (codes "NOT")) (tells_word (texts_of s) (codes "PRIMARY"))

-- ---- columns

abbrev NoMark : List ℕ → Type 0
NoMark rest = is_mark_at rest ≡ false

abbrev NoNot : List ℕ → Type 0
NoNot rest = is_word_at (codes "NOT") rest ≡ false

no_mark_left : NoMark []
unfolding is_mark_at is_word_after
no_mark_left = refl

no_not : (rest : List ℕ) → NoMark rest → NoNot rest
unfolding is_mark_at
no_not rest none = left_none (is_word_at (codes "NOT") rest) (is_word_at (codes "PRIMARY") rest) none

user : (name : List ℕ) → Production gaps (UserEntry name) NoMark (user_at name)
unfolding user_at
user name = bind type.production (λ of. make (λ marks. User (record { name = name; of = of; marks = marks })) (many mark mark_first no_mark tells_mark no_mark_left))

precision : Production gaps Precision (λ rest. Refused (symbol_at 40 rest)) precision_at
unfolding precision_at
precision =
    peek (symbol_token 40 refl) (λ y bytes rest is. (is.1.1.0.1.0, is.1.1.0.1.1.0)) (closing (λ rest c. tt) (make Some size))
    (λ y bytes rest is none. subst (λ (l : List ℕ). Refused (symbol_at 40 l)) (sym is.1) none) (closing (λ rest c. tt) (nothing None))

maybe_not_null : Production gaps MaybeNotNull NoNot maybe_not_null_at
unfolding maybe_not_null_at
maybe_not_null = maybe_words (codes "NOT") not_first not_null true false

side : Production gaps RowSide Any side_at
unfolding side_at
side = (or_value (codes "START") Start refl (led (codes "END") (last_words End (word (codes "END") refl)))).production

row_side : Led (codes "GENERATED" ∷ []) GeneratedAsRow Any row_side_at
unfolding row_side_at
row_side =
    led (codes "GENERATED") (next_words (word (codes "GENERATED") refl) (next_words (word (codes "ALWAYS") refl)
    (next_words (word (codes "AS") refl) (next_words (word (codes "ROW") refl) side))))

-- where NOT or GENERATED comes no parenthesis does
no_open : (word bytes : List ℕ) → 0 < length word → is_word_at word bytes ≡ true → Refused (symbol_at 40 bytes)
no_open word bytes some is = no_symbol_at_word 40 refl word some tt bytes (after_word bytes) (word_next word bytes is)

generated : (name : List ℕ) → Production gaps (GeneratedEntry name) NoNot (generated_at name)
unfolding generated_at
generated name =
    next_words (word (codes "TIMESTAMP") refl)
    (bind_where precision (λ digits y bytes rest is c. before_row is.0 is.1.1.1.0 bytes is.1.0 is.1.1.1.1.0 is.1.1.0 is.1.1.1.1.1.0) (λ digits.
    bind_where maybe_not_null (λ before y bytes rest is c. not_here is.0 bytes is.1.0 is.1.1.0) (λ before.
    bind row_side.production (λ side.
    make (λ after. Generated (record { name = name; digits = digits; side = side; not_null_before = before; not_null_after = after })) maybe_not_null))))
  where
    not_here : (x : Side) (bytes rest : List ℕ) → GeneratedAsRow x bytes rest → NoNot bytes
    not_here x bytes rest is = apart (codes "NOT") (codes "GENERATED" ∷ []) refl bytes (row_side.first x bytes rest is)

    before_row : (y : Bool) (x : Side) (bytes more rest : List ℕ) → MaybeNotNull y bytes more → GeneratedAsRow x more rest → Refused (symbol_at 40 bytes)
    before_row y x bytes more rest (inl is) row = no_open (codes "NOT") bytes (lit< tt) (not_first bytes is.1.0 is.1.1.0)
    before_row y x bytes more rest (inr is) row =
        subst (λ (l : List ℕ). Refused (symbol_at 40 l)) (sym is.1) (no_open (codes "GENERATED") more (lit< tt) (word_is_at (codes "GENERATED") row.0 more row.1.0 row.1.1.0))

-- ---- periods

two_names : Production gaps TwoNames Any two_names_at
unfolding two_names_at
two_names =
    next_words (symbol 40 refl) (bind name (λ start.
    next_words (symbol 44 refl) (bind name (λ end.
    last_words (record { start = start; end = end }) (symbol 41 refl)))))

system_period : Production gaps SystemPeriodText Any system_period_at
unfolding system_period_at
system_period = next_words (word (codes "SYSTEM_TIME") refl) (make Period two_names)

application_period : Production gaps ApplicationPeriodText Any application_period_at
unfolding application_period_at
application_period = bind name (λ name. make (λ columns. Application (record { name = name; columns = columns })) two_names)

period : Production gaps PeriodEntry Any period_at
unfolding period_at
period =
    next_words (word (codes "PERIOD") refl) (next_words (word (codes "FOR") refl)
    (by_word (codes "SYSTEM_TIME") (λ y bytes rest is. word_is_at (codes "SYSTEM_TIME") is.0 bytes is.1.0 is.1.1.0) system_period
    (λ y bytes rest is c. system_time_no_name is.0 bytes is.1.0 is.1.1.0) application_period))

-- ---- keys

without_overlaps : Phrase gaps (WithoutOverlapsWords tt) without_overlaps_at
unfolding without_overlaps_at
without_overlaps = words (word (codes "WITHOUT") refl) (word (codes "OVERLAPS") refl)

without_first : (bytes rest : List ℕ) → WithoutOverlapsWords tt bytes rest → is_word_at (codes "WITHOUT") bytes ≡ true
without_first bytes rest is = word_is_at (codes "WITHOUT") is.0 bytes is.1.0 is.1.1.0

overlaps : (several : Bool) → Production gaps (MaybeOverlaps several) (λ rest. is_word_at (codes "WITHOUT") rest ≡ false) (overlaps_at several)
unfolding overlaps_at
overlaps true = maybe_words (codes "WITHOUT") without_first without_overlaps true false
overlaps false = closing (λ rest c. tt) (nothing false)

no_name : name_at [] ≡ Err []
unfolding name_after is_name
no_name = refl

names : Production gaps (Listed Name) (λ rest. Any rest × Refused (symbol_at 44 rest)) names_at
unfolding names_at
names = listed name (λ bytes rest is. tt) no_name

key : Production gaps KeyEntry Any key_at
unfolding key_at
key =
    next_words primary_key (next_words (symbol 40 refl)
    (bind_where names (λ names y bytes rest is c. (tt, no_comma (nat_le 2 (length names)) is.0 bytes is.1.0 is.1.1.0 (no_symbol_at_symbol 44 41 refl is.1.1.1.0 is.1.0 is.1.1.1.1.0 is.1.1.1.1.1.0))) (λ names.
    bind_where (overlaps (nat_le 2 (length names))) (λ x y bytes rest is c. no_word_at_symbol _ _ 41 refl is.0 bytes is.1.0 is.1.1.0) (λ overlaps.
    last_words (Key (record { names = names; without_overlaps = overlaps })) (symbol 41 refl)))))
  where
    no_comma : (several x : Bool) (bytes rest : List ℕ) → MaybeOverlaps several x bytes rest → Refused (symbol_at 44 rest) → Refused (symbol_at 44 bytes)
    no_comma false x bytes rest is none = subst (λ (l : List ℕ). Refused (symbol_at 44 l)) (sym is.1) none
    no_comma true x bytes rest (inl is) none = no_symbol_at_word 44 refl (codes "WITHOUT") (lit< tt) is.1.1.0.0 bytes is.1.1.0.1.0 is.1.1.0.1.1.0
    no_comma true x bytes rest (inr is) none = subst (λ (l : List ℕ). Refused (symbol_at 44 l)) (sym is.1) none

-- ---- entries and statements

column : Production gaps ColumnEntry NoMark column_at
unfolding column_at
column =
    bind name (λ name. by_word (codes "TIMESTAMP") (λ y bytes rest is. word_is_at (codes "TIMESTAMP") is.0 bytes is.1.0 is.1.1.0) (closing no_not (generated name))
    (λ y bytes rest is c. apart (codes "TIMESTAMP") type_words refl bytes (type.first is.0 bytes is.1.0 is.1.1.0)) (user name))

entry : Production gaps EntryText NoMark entry_at
unfolding entry_at
entry =
    regroup (by_word (codes "PERIOD") (λ y bytes rest is. word_is_at (codes "PERIOD") is.0 bytes is.1.0 is.1.1.0) (closing (λ rest c. tt) period) no_period
    (by_word (codes "PRIMARY") (λ y bytes rest is. primary_first bytes is.1.0 is.1.1.0) (closing (λ rest c. tt) key) (λ y bytes rest is c. primary_no_name is.0 bytes is.1.0 is.1.1.0) column))
  where
    no_period : (y : Entry) (bytes rest : List ℕ) → Or KeyEntry ColumnEntry y bytes rest → NoMark rest → is_word_at (codes "PERIOD") bytes ≡ false
    no_period y bytes rest (inl is) c = other_word (codes "PERIOD") (codes "PRIMARY") refl bytes (primary_first bytes is.1.0 is.1.1.0)
    no_period y bytes rest (inr is) c = period_no_name is.0 bytes is.1.0 is.1.1.0

no_entry : entry_at [] ≡ Err []
unfolding entry_at column_at name_after is_name is_word_after
no_entry = refl

-- neither a comma nor a parenthesis is a mark
no_mark_at_symbol : (c : ℕ) → is_name_byte c ≡ false → (x : Unit {0}) (bytes rest : List ℕ) → Symbol c x bytes rest → NoMark bytes
unfolding is_mark_at
no_mark_at_symbol c none x bytes rest is = ap (λ t. t || is_word_at (codes "PRIMARY") bytes) (no_word_at_symbol _ _ c none x bytes rest is) ∙ no_word_at_symbol _ _ c none x bytes rest is

entries : Production gaps (Listed EntryText) (λ rest. NoMark rest × Refused (symbol_at 44 rest)) entries_at
unfolding entries_at
entries = listed entry (λ bytes rest is. no_mark_at_symbol 44 refl tt bytes rest is) no_entry

body : Production gaps Body Any body_at
unfolding body_at
body =
    next_words (symbol 40 refl)
    (bind_where entries (λ xs y bytes rest is c. (no_mark_at_symbol 41 refl is.0 bytes is.1.0 is.1.1.0, no_symbol_at_symbol 44 41 refl is.0 bytes is.1.0 is.1.1.0)) (λ entries. last_words entries (symbol 41 refl)))

versioning : Phrase gaps (Versioning tt) versioning_at
unfolding versioning_at
versioning = words (word (codes "WITH") refl) (words (word (codes "SYSTEM") refl) (word (codes "VERSIONING") refl))

pub create : Production gaps CreateText Any create_at
unfolding create_at
create =
    next_words (word (codes "CREATE") refl) (next_words (word (codes "TABLE") refl)
    (bind name (λ name. bind body (λ entries. last_words (record { name = name; entries = entries }) versioning))))

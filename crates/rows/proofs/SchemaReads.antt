-- Reading from the left reads the texts of the grammar and no others.
use Rattle.std.proofs.Common.{◌≡◌, ◌<◌, ◌≤◌, ◌⊎◌, ◌-◌, ℕ, Bool, true, false, List, [], ◌∷◌, ◌++◌, ◌+◌, Option, Some, None, length, Ok, Err, inl, inr, refl, ap, sym, ◌∙◌, arith, nat_lt, if◌then◌else◌}
use Rattle.std.specs.Prelude.{Result}
use Rattle.std.proofs.lemmas.Bool.Decides.{nat_tests}
use Rattle.values.specs.Tables.{Schema}
use Rattle.values.specs.declared.table.Table.{Table}
use Rattle.rows.specs.declared.declaration.Declaration.{Declaration}
use Rattle.rows.specs.declared.schema_reading.SchemaFault.{SchemaFault}
use Rattle.rows.specs.declared.schema_reading.SchemaFault.TheVariants.{Syntax, BadTable}
use Rattle.tokens.specs.Token.{Read}
use Rattle.rows.specs.Declaration.{creates_at}
use Rattle.rows.specs.SchemaTable.{next_table, tables_from, read_schema}
use Rattle.rows.specs.SchemaGrammarLaw.{HasSyntaxFault, OfTheGrammar, SaysNothing, TheGrammarIsRead, TextsSayOneThing, OnlyTheGrammarIsRead}
use Rattle.rows.specs.GoodTableLaw.{GoodTextsAreRead, SaysSchema, OnlySchemasAreRead}
use Rattle.rows.proofs.SchemaProduction.{text_says, text_read}
use Rattle.rows.proofs.SchemaGood.{good_tables, exact_tables}

pub short : (n : ℕ) → n ≤ 65536 → nat_lt 65536 n ≡ false
short n h = grind (arith, nat_tests)

long : (n : ℕ) → 65536 < n → nat_lt 65536 n ≡ true
long n h = grind (arith, nat_tests)

abbrev pub read_as : List ℕ → Read (List Declaration) → Result Schema SchemaFault
read_as text r = elim r [ Err at ↦ Err (Syntax (length text - length at)) | Ok declarations ↦ tables_from [] declarations.0 ]

pub read : TheGrammarIsRead
unfolding read_schema
read text ds h e =
    ap (λ t. if t then Err (Syntax 65536) else read_as text (creates_at text)) (short (length text) h) ∙ ap (read_as text) (text_read ds text e).1

abbrev those_of : List Declaration → Read (List Declaration) → List Declaration
those_of other r = elim r [ Ok x ↦ x.0 | Err at ↦ other ]

pub one_thing : TextsSayOneThing
one_thing text these those e f = ap (those_of these) (sym (text_read these text e).1 ∙ (text_read those text f).1)

-- a text has a fault of syntax, or it is of the grammar
pub of_the_grammar : (text : List ℕ) → HasSyntaxFault (read_schema text) ⊎ OfTheGrammar text (read_schema text)
unfolding read_schema
of_the_grammar text = by_length (nat_lt 65536 (length text))
  where
    by_reading : (r : Read (List Declaration)) → creates_at text ≡ r → HasSyntaxFault (read_as text r) ⊎ OfTheGrammar text (read_as text r)
    by_reading (Err at) e = inl (length text - length at, refl)
    by_reading (Ok (ds, rest)) e = inr (record { declarations = ds; spelled = text_says ds text rest e; decided = refl })

    by_length : (t : Bool) → HasSyntaxFault (if t then Err (Syntax 65536) else read_as text (creates_at text)) ⊎ OfTheGrammar text (if t then Err (Syntax 65536) else read_as text (creates_at text))
    by_length true = inl (65536, refl)
    by_length false = by_reading (creates_at text) refl

-- declarations that make no schema have a bad table, and no fault of syntax
pub no_syntax : (ds : List Declaration) (tables : List Table) (at : ℕ) → tables_from tables ds ≡ Err (Syntax at) → ⊥
no_syntax [] tables at e = cc
no_syntax (d ∷ ds) tables at e = by_table (next_table tables d) e (λ t f. no_syntax ds (tables ++ t ∷ []) at f)
  where
    by_table : (o : Option Table)
        → ◌≡◌ {A = Result Schema SchemaFault} (elim o [ None ↦ Err (BadTable (length tables + 1)) | Some t ↦ tables_from (tables ++ t ∷ []) ds ]) (Err (Syntax at))
        → ((t : Table) → tables_from (tables ++ t ∷ []) ds ≡ Err (Syntax at) → ⊥) → ⊥
    by_table None e others = cc
    by_table (Some t) e others = others t e

pub only : OnlyTheGrammarIsRead
unfolding read_schema
only text = (found, missed)
  where
    found : HasSyntaxFault (read_schema text) → (65536 < length text) ⊎ SaysNothing text
    found fault = by_length (nat_lt 65536 (length text)) refl
      where
        by_length : (t : Bool) → nat_lt 65536 (length text) ≡ t → (65536 < length text) ⊎ SaysNothing text
        by_length true e = inl (grind (arith, nat_tests))
        by_length false e = inr (λ ds spelled. no_syntax ds [] fault.0 (sym (read text ds (grind (arith, nat_tests)) spelled) ∙ fault.1))

    missed : (65536 < length text) ⊎ SaysNothing text → HasSyntaxFault (read_schema text)
    missed (inl h) = (65536, ap (λ t. if t then Err (Syntax 65536) else read_as text (creates_at text)) (long (length text) h))
    missed (inr none) = elim (of_the_grammar text) [ inl fault ↦ fault | inr is ↦ absurd (none is.declarations is.spelled) ]

-- a schema is read from the texts that say its tables
pub good_texts : GoodTextsAreRead
good_texts text ds h spelled good = let made = (good_tables ds).1 good in (made.0, read text ds h spelled ∙ made.1)

no_fault : (schema : Schema) (text : List ℕ) → read_schema text ≡ Ok schema → HasSyntaxFault (read_schema text) → ⊥
no_fault schema text e fault = let clash : ◌≡◌ {A = Result Schema SchemaFault} (Ok schema) (Err (Syntax fault.0)) = sym e ∙ fault.1 in cc

pub texts : OnlySchemasAreRead
texts text schema = (found, λ s. read text s.declarations s.short s.spelled ∙ (exact_tables s.declarations schema).1 (s.good, s.tables))
  where
    at_most : nat_lt 65536 (length text) ≡ false → length text ≤ 65536
    at_most e = grind (arith, nat_tests)

    beyond : nat_lt 65536 (length text) ≡ true → 65536 < length text
    beyond q = grind (arith, nat_tests)

    is_short : read_schema text ≡ Ok schema → (t : Bool) → nat_lt 65536 (length text) ≡ t → length text ≤ 65536
    is_short e false q = at_most q
    is_short e true q = absurd (no_fault schema text e ((only text).1 (inl (beyond q))))

    found : read_schema text ≡ Ok schema → SaysSchema text schema
    found e = by_grammar (of_the_grammar text)
      where
        by_grammar : HasSyntaxFault (read_schema text) ⊎ OfTheGrammar text (read_schema text) → SaysSchema text schema
        by_grammar (inl fault) = absurd (no_fault schema text e fault)
        by_grammar (inr is) =
            let exact = (exact_tables is.declarations schema).0 (sym is.decided ∙ e) in
            record { declarations = is.declarations; short = is_short e (nat_lt 65536 (length text)) refl; spelled = is.spelled; good = exact.0; tables = exact.1 }

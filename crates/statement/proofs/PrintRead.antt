-- A row that is printed is read again.
use Rattle.std.proofs.Common.{◌≡◌, ◌<◌, ◌≤◌, ◌-◌, ◌^◌, ℕ, pos, negsuc, true, false, List, [], ◌∷◌, ◌++◌, suc, inl, inr, refl, ap, sym, ◌∙◌, subst, arith}
use Rattle.std.specs.Prelude.{codes, decimal, flat_map}
use Rattle.std.specs.Char.{is_ascii_digit, digit_value}
use Rattle.std.specs.Str.Parse.{AllDigits}
use Rattle.std.proofs.lemmas.Fmt.{decimal_is_IsNumeral}
use Rattle.std.proofs.lemmas.List.{append_assoc}
use Rattle.std.proofs.lemmas.Bool.Decides.{nat_tests}
use Rattle.values.specs.declared.value.Value.{Value}
use Rattle.values.specs.declared.value.Value.TheVariants.{Int, Text, Bool as Truth, Null}
use Rattle.tokens.specs.Word.{is_name_byte}
use Rattle.statement.specs.Print.{quoted, value_text, next_text, values_text}
use Rattle.tokens.specs.Run.{AllBytes}
use Rattle.statement.specs.Grammar.{Blanks, Symbol, Digits, is_quote, Literal, Listed, IsRow}
use Rattle.statement.specs.GrammarLaw.{IsPlain, ArePlain, PrintedRowsAreRead}
use Rattle.statement.proofs.LiteralSound.{literal_behind}
use Rattle.statement.proofs.LiteralWhole.{no_blanks}
use Rattle.statement.proofs.StatementProduction.{row}

-- a byte that ends each value
record Apart (b : ℕ) : Type 0 where
  pub no_digit : is_ascii_digit b ≡ false
  pub no_quote : is_quote b ≡ false
  pub no_name : is_name_byte b ≡ false

is_digit : (d : ℕ) → digit_value d < 10 → is_ascii_digit d ≡ true
is_digit d below = grind (arith, nat_tests)

all_digits : (ds : List ℕ) → AllDigits 10 ds → AllBytes is_ascii_digit ds
all_digits [] all = tt
all_digits (d ∷ ds) all = (is_digit d all.0, all_digits ds all.1)

printed_digits : (most n b : ℕ) (rest : List ℕ) → n < 2 ^ 64 → n ≤ most → Apart b → Digits most n (decimal n ++ b ∷ rest) (b ∷ rest)
printed_digits most n b rest small within apart =
    let numeral = decimal_is_IsNumeral n small in
    record {
      digits = decimal n;
      some = numeral.0.0;
      run = record { all = all_digits (decimal n) numeral.0.1; ends = apart.no_digit; spelled = refl };
      value = numeral.1;
      within = within;
    }

value_printed : (v : Value) → IsPlain v → (b : ℕ) (rest : List ℕ) → Apart b → Literal v (value_text v ++ b ∷ rest) (b ∷ rest)
value_printed (Int (pos n)) plain b rest apart = (_, (no_blanks _, inl (n, (refl, printed_digits (2 ^ 63 - 1) n b rest (omega arith) (omega arith) apart))))
value_printed (Int (negsuc n)) plain b rest apart =
    (_, (no_blanks _, inr (suc n, (refl, (decimal (suc n) ++ b ∷ rest, (refl, printed_digits (2 ^ 63) (suc n) b rest (omega arith) (omega arith) apart))))))
value_printed (Text t) plain b rest apart =
    (_, (no_blanks _, record { utf8 = plain; ends = apart.no_quote; spelled = ap (λ (l : List ℕ). 39 ∷ l) (append_assoc (quoted t) (39 ∷ []) (b ∷ rest)) }))
value_printed (Truth true) plain b rest apart =
    (_, (no_blanks _, (codes "true", (record { all = (refl, (refl, (refl, (refl, tt)))); ends = apart.no_name; spelled = refl }, refl))))
value_printed (Truth false) plain b rest apart =
    (_, (no_blanks _, (codes "false", (record { all = (refl, (refl, (refl, (refl, (refl, tt))))); ends = apart.no_name; spelled = refl }, refl))))
value_printed Null plain b rest apart =
    (_, (no_blanks _, (codes "null", (record { all = (refl, (refl, (refl, (refl, tt)))); ends = apart.no_name; spelled = refl }, refl))))

listed_behind : (v : Value) (vs : List Value) (bytes at rest : List ℕ) → Blanks bytes at → Listed (Symbol 44) Literal (v ∷ vs) at rest → Listed (Symbol 44) Literal (v ∷ vs) bytes rest
listed_behind v [] bytes at rest blanks is = literal_behind v rest blanks is
listed_behind v (w ∷ vs) bytes at rest blanks is = (is.0, (literal_behind v is.0 blanks is.1.0, is.1.1))

one_blank : (bytes : List ℕ) → Blanks (32 ∷ bytes) bytes
one_blank bytes = record { blanks = 32 ∷ []; are_blank = (refl, tt); spelled = refl }

comma : Apart 44
comma = record { no_digit = refl; no_quote = refl; no_name = refl }

paren : Apart 41
paren = record { no_digit = refl; no_quote = refl; no_name = refl }

values_printed : (v : Value) (vs : List Value) (rest : List ℕ) → ArePlain (v ∷ vs) → Listed (Symbol 44) Literal (v ∷ vs) (value_text v ++ (flat_map next_text vs ++ 41 ∷ rest)) (41 ∷ rest)
values_printed v [] rest plain = value_printed v plain.0 41 rest paren
values_printed v (w ∷ vs) rest plain =
    let more : List ℕ = flat_map next_text vs in
    let behind : List ℕ = value_text w ++ (more ++ 41 ∷ rest) in
    let regrouped : (value_text w ++ more) ++ 41 ∷ rest ≡ behind = append_assoc (value_text w) more (41 ∷ rest) in
    subst (λ (l : List ℕ). Listed (Symbol 44) Literal (v ∷ w ∷ vs) (value_text v ++ 44 ∷ 32 ∷ l) (41 ∷ rest)) (sym regrouped) (
      44 ∷ 32 ∷ behind,
      (
        value_printed v plain.0 44 (32 ∷ behind) comma,
        (32 ∷ behind, ((44 ∷ 32 ∷ behind, (no_blanks _, refl)), listed_behind w vs (32 ∷ behind) behind (41 ∷ rest) (one_blank behind) (values_printed w vs rest plain.1))),
      ),
    )

row_printed : (v : Value) (vs : List Value) (rest : List ℕ) → ArePlain (v ∷ vs) → IsRow (v ∷ vs) (values_text (v ∷ vs) ++ rest) rest
row_printed v vs rest plain =
    let more : List ℕ = flat_map next_text vs in
    let inside : List ℕ = value_text v ++ (more ++ 41 ∷ rest) in
    let regrouped : (value_text v ++ (more ++ 41 ∷ [])) ++ rest ≡ inside =
    append_assoc (value_text v) (more ++ 41 ∷ []) rest ∙ ap (λ (l : List ℕ). value_text v ++ l) (append_assoc more (41 ∷ []) rest) in
    subst (λ (l : List ℕ). IsRow (v ∷ vs) (40 ∷ l) rest) (sym regrouped)
    (inside, ((40 ∷ inside, (no_blanks _, refl)), (41 ∷ rest, (values_printed v vs rest plain, (41 ∷ rest, (no_blanks _, refl))))))

pub printed_rows : PrintedRowsAreRead
printed_rows [] rest some plain = absurd (omega arith)
printed_rows (v ∷ vs) rest some plain = row.whole (v ∷ vs) (values_text (v ∷ vs) ++ rest) rest (row_printed v vs rest plain) tt

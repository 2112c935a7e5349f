-- What is read as a literal or as an operator is one.
use Rattle.std.proofs.Common.{◌≡◌, ℕ, ◌<◌, ◌≤◌, ◌-◌, ◌^◌, Bool, true, false, List, [], ◌∷◌, ◌++◌, length, take, drop, Ok, Err, Some, None, pos, neg_ℤ, inl, inr, refl, ap, sym, ◌∙◌, arith}
use Rattle.std.specs.Prelude.{Option, ◌==◌, nat_lt, if◌then◌else◌, codes}
use Rattle.std.specs.Option.{option_map}
use Rattle.std.specs.Char.{is_ascii_digit}
use Rattle.std.specs.Str.{is_utf8}
use Rattle.std.specs.Str.Parse.{digits_value}
use Rattle.std.proofs.lemmas.Str.{IsUtf8-from_is_utf8}
use Rattle.std.proofs.lemmas.List.{append-nil, append_assoc}
use Rattle.std.proofs.lemmas.List.Folds.{length-prefix_len}
use Rattle.std.proofs.lemmas.Bool.Decides.{nat_tests}
use Rattle.values.specs.declared.query.Operator.{Operator}
use Rattle.values.specs.declared.query.Operator.TheVariants.{Equal, Below, AtMost, Above, AtLeast}
use Rattle.values.specs.declared.value.Value.{Value}
use Rattle.values.specs.declared.value.Value.TheVariants.{Int, Text, Bool as Truth, Null}
use Rattle.tokens.specs.Token.{Read, ◌>>=◌}
use Rattle.statement.specs.Token.{next}
use Rattle.statement.specs.Literal.{digit_count, digits_here, digits_at, begins_with, above_nought, below_nought, number_at, quoted_from, quoted, text_of, text_at, constant_at, begins_number, literal_at}
use Rattle.statement.specs.Condition.{or_equal, operator_of, operator_at}
use Rattle.statement.specs.Grammar.{◌⋯◌, Blanks, Symbol, Digits, Number, doubled, is_quote, Literal, IsOperator}
use Rattle.tokens.specs.Run.{Ends}
use Rattle.tokens.proofs.RunRead.{run_of}
use Rattle.statement.proofs.TokenGaps.{blanks_before, blanks_join}
use Rattle.statement.proofs.GrammarSound.{symbol_sound, word_sound, same_byte}
use Rattle.statement.proofs.GrammarHolds.{Holds, Found, found_weaker, holds, holds_then, leaves_then, leaves_either, holds_found, holds_weaker}

pub some_digits : (bytes : List ℕ) → (digit_count bytes == 0) ≡ false → 0 < length (take (digit_count bytes) bytes)
some_digits bytes is = let e = length-prefix_len is_ascii_digit bytes in grind (arith, nat_tests, e)

not_above : (most n : ℕ) → nat_lt most n ≡ false → n ≤ most
not_above most n is = grind (arith, nat_tests)

pub digits_here_sound : (most : ℕ) (bytes : List ℕ) → Found (digits_here most bytes) (λ n rest. Digits most n bytes rest)
unfolding digits_here
digits_here_sound most bytes = by_tests (digit_count bytes == 0) (nat_lt most n) refl refl
  where
    n : ℕ
    n = digits_value 10 (take (digit_count bytes) bytes)

    by_tests : (t u : Bool) → (digit_count bytes == 0) ≡ t → nat_lt most n ≡ u
        → Found (if t then None else option_map (λ (m : ℕ). (m, drop (digit_count bytes) bytes)) (if u then None else Some n)) (λ n rest. Digits most n bytes rest)
    by_tests true u none over = record { it = tt }
    by_tests false true none over = record { it = tt }
    by_tests false false none over = record {
      it = record {
        digits = take (digit_count bytes) bytes;
        some = some_digits bytes none;
        run = run_of is_ascii_digit bytes;
        value = refl;
        within = not_above most n over;
      };
    }

pub digits_sound : (most : ℕ) (bytes : List ℕ) → Holds (digits_at most bytes) (λ n rest. (Blanks ⋯ Digits most n) bytes rest)
unfolding digits_at
digits_sound most bytes = holds_found _ _ (λ x. Ok x) (digits_here_sound most (next bytes)) (λ n rest is. holds n rest (next bytes, (blanks_before bytes, is)))

found_mapped : {A B : Type 0} {P : A → List ℕ → Type 0} {Q : B → List ℕ → Type 0} (o : Option (A × List ℕ)) (f : A → B)
    → Found o P → ((x : A) (rest : List ℕ) → P x rest → Q (f x) rest) → Found (option_map (λ (x : A × List ℕ). (f x.0, x.1)) o) Q
found_mapped None f h g = record { it = tt }
found_mapped (Some x) f h g = record { it = g x.0 x.1 h.it }

above_sound : (at : List ℕ) → Found (above_nought at) (λ z rest. Number z at rest)
above_sound at = found_mapped _ pos (digits_here_sound (2 ^ 63 - 1) at) (λ n rest is. inl (n, (refl, is)))

number_of : (t : Bool) (b : ℕ) (bs : List ℕ) → (b == 45) ≡ t → Found (if t then below_nought bs else above_nought (b ∷ bs)) (λ z rest. Number z (b ∷ bs) rest)
number_of true b bs is = found_mapped _ (λ (n : ℕ). neg_ℤ (pos n)) (digits_here_sound (2 ^ 63) bs)
    (λ n rest digits. inr (n, (refl, (bs, (ap (λ (c : ℕ). c ∷ bs) (same_byte b 45 is), digits)))))
number_of false b bs is = above_sound (b ∷ bs)

number_found : (at : List ℕ) → Found (if begins_with 45 at then below_nought (drop 1 at) else above_nought at) (λ z rest. Number z at rest)
number_found [] = above_sound []
number_found (b ∷ bs) = number_of (b == 45) b bs refl

pub number_sound : (bytes : List ℕ) → Holds (number_at bytes) (λ z rest. (Blanks ⋯ Number z) bytes rest)
unfolding number_at
number_sound bytes = holds_found _ _ (λ x. Ok x) (number_found (next bytes)) (λ n rest is. holds n rest (next bytes, (blanks_before bytes, is)))

-- what the bytes are where the one before them is a quote that may close the text
abbrev pub pending : Bool → List ℕ → List ℕ
pending true bytes = 39 ∷ bytes
pending false bytes = bytes

pub record QuotedFrom (closed : Bool) (front bytes text rest : List ℕ) : Type 0 where
  pub more : List ℕ
  pub is : text ≡ front ++ more
  pub spelled : pending closed bytes ≡ doubled more ++ 39 ∷ rest
  pub ends : Ends is_quote rest

one_behind : (front more text : List ℕ) (b : ℕ) → text ≡ front ++ b ∷ [] ++ more → text ≡ front ++ b ∷ more
one_behind front more text b is = is ∙ append_assoc front (b ∷ []) more

byte_doubled : (b : ℕ) (more rest bytes : List ℕ) → (b == 39) ≡ false → bytes ≡ doubled more ++ 39 ∷ rest → b ∷ bytes ≡ doubled (b ∷ more) ++ 39 ∷ rest
byte_doubled b more rest bytes is same =
    ap (λ (l : List ℕ). b ∷ l) same ∙ ap (λ u. ((if u then 39 ∷ 39 ∷ [] else b ∷ []) ++ doubled more) ++ 39 ∷ rest) (sym is)

open_sound : (front : List ℕ) (b : ℕ) (bytes : List ℕ) (t : Bool) → (b == 39) ≡ t
    → Found (quoted_from true front bytes) (λ text rest. QuotedFrom true front bytes text rest)
    → Found (quoted_from false (front ++ b ∷ []) bytes) (λ text rest. QuotedFrom false (front ++ b ∷ []) bytes text rest)
    → Found (if t then quoted_from true front bytes else quoted_from false (front ++ b ∷ []) bytes) (λ text rest. QuotedFrom false front (b ∷ bytes) text rest)
open_sound front b bytes true is quote other = found_weaker _ quote
    (λ text rest q. record { more = q.more; is = q.is; spelled = ap (λ (c : ℕ). c ∷ bytes) (same_byte b 39 is) ∙ q.spelled; ends = q.ends })
open_sound front b bytes false is quote other = found_weaker _ other
    (λ text rest q. record { more = b ∷ q.more; is = one_behind front q.more text b q.is; spelled = byte_doubled b q.more rest bytes is q.spelled; ends = q.ends })

closed_sound : (front : List ℕ) (b : ℕ) (bytes : List ℕ) (t : Bool) → (b == 39) ≡ t
    → Found (quoted_from false (front ++ 39 ∷ []) bytes) (λ text rest. QuotedFrom false (front ++ 39 ∷ []) bytes text rest)
    → Found (if t then quoted_from false (front ++ 39 ∷ []) bytes else Some (front, b ∷ bytes)) (λ text rest. QuotedFrom true front (b ∷ bytes) text rest)
closed_sound front b bytes true is quote = found_weaker _ quote
    (λ text rest q. record { more = 39 ∷ q.more; is = one_behind front q.more text 39 q.is; spelled = ap (λ (c : ℕ). 39 ∷ c ∷ bytes) (same_byte b 39 is) ∙ ap (λ (l : List ℕ). 39 ∷ 39 ∷ l) q.spelled; ends = q.ends })
closed_sound front b bytes false is quote = record { it = record { more = []; is = sym (append-nil front); spelled = refl; ends = is } }

pub quoted_sound : (closed : Bool) (front bytes : List ℕ) → Found (quoted_from closed front bytes) (λ text rest. QuotedFrom closed front bytes text rest)
quoted_sound true front [] = record { it = record { more = []; is = sym (append-nil front); spelled = refl; ends = tt } }
quoted_sound false front [] = record { it = tt }
quoted_sound false front (b ∷ bytes) = open_sound front b bytes (b == 39) refl (quoted_sound true front bytes) (quoted_sound false (front ++ b ∷ []) bytes)
quoted_sound true front (b ∷ bytes) = closed_sound front b bytes (b == 39) refl (quoted_sound false (front ++ 39 ∷ []) bytes)

text_found : (bytes at inside rest : List ℕ) (text : List ℕ) → Symbol 39 at inside → Blanks bytes at → QuotedFrom false [] inside text rest
    → Holds (elim (text_of text) [ None ↦ Err at | Some value ↦ Ok (value, rest) ]) (λ value rest. Literal value bytes rest)
unfolding text_of
text_found bytes at inside rest text opened blanks q = by_test (is_utf8 text) refl
  where
    by_test : (t : Bool) → is_utf8 text ≡ t → Holds (elim (if t then Some (Text text) else None) [ None ↦ Err at | Some value ↦ Ok (value, rest) ]) (λ value rest. Literal value bytes rest)
    by_test false is = record { it = tt }
    by_test true is = holds (Text text) rest (
      opened.0,
      (
        blanks_join blanks opened.1.0,
        record {
          utf8 = IsUtf8-from_is_utf8 text is;
          ends = q.ends;
          spelled = opened.1.1 ∙ ap (λ (l : List ℕ). 39 ∷ l) (q.spelled ∙ ap (λ (l : List ℕ). doubled l ++ 39 ∷ rest) (sym q.is));
        },
      ),
    )

pub text_sound : (bytes : List ℕ) → Holds (text_at bytes) (λ value rest. Literal value bytes rest)
unfolding text_at
text_sound bytes = leaves_then _ _ (symbol_sound 39 (next bytes)) (λ inside opened.
    holds_found (quoted inside) _ _ (quoted_sound false [] inside) (λ text rest q. text_found bytes (next bytes) inside rest text opened (blanks_before bytes) q))

constant_sound : (bytes : List ℕ) → Holds (constant_at bytes) (λ value rest. Literal value bytes rest)
unfolding constant_at
constant_sound bytes =
    leaves_either _ _ _ (word_sound (codes "TRUE") bytes) (λ rest is. holds (Truth true) rest is) (λ _.
    leaves_either _ _ _ (word_sound (codes "FALSE") bytes) (λ rest is. holds (Truth false) rest is) (λ _.
    leaves_either _ _ _ (word_sound (codes "NULL") bytes) (λ rest is. holds Null rest is) (λ at. record { it = tt })))

-- a literal may have blanks before it
pub literal_behind : (value : Value) {bytes at : List ℕ} (rest : List ℕ) → Blanks bytes at → Literal value at rest → Literal value bytes rest
literal_behind (Int z) rest blanks is = (is.0, (blanks_join blanks is.1.0, is.1.1))
literal_behind (Text t) rest blanks is = (is.0, (blanks_join blanks is.1.0, is.1.1))
literal_behind (Truth true) rest blanks is = (is.0, (blanks_join blanks is.1.0, is.1.1))
literal_behind (Truth false) rest blanks is = (is.0, (blanks_join blanks is.1.0, is.1.1))
literal_behind Null rest blanks is = (is.0, (blanks_join blanks is.1.0, is.1.1))

pub literal_sound : (bytes : List ℕ) → Holds (literal_at bytes) (λ value rest. Literal value bytes rest)
unfolding literal_at
literal_sound bytes = by_tests (begins_with 39 at) (begins_number at)
  where
    at : List ℕ
    at = next bytes

    behind : {r : Read Value} → Holds r (λ value rest. Literal value at rest) → Holds r (λ value rest. Literal value bytes rest)
    behind h = holds_weaker h (λ value rest is. literal_behind value rest (blanks_before bytes) is)

    by_tests : (t u : Bool) → Holds (if t then text_at at else if u then (number_at at >>= λ x. Ok (Int x.0, x.1)) else constant_at at) (λ value rest. Literal value bytes rest)
    by_tests true u = behind (text_sound at)
    by_tests false true = behind (holds_then _ _ (number_sound at) (λ z rest is. holds (Int z) rest is))
    by_tests false false = behind (constant_sound at)

-- ---- operators

or_equal_sound : (strict loose : Operator) (front : ℕ) (bytes at rest : List ℕ) → Blanks bytes at → at ≡ front ∷ rest
    → ((after : List ℕ) → at ≡ front ∷ after → Ends (λ b. b == 61) after → IsOperator strict bytes after)
    → ((after : List ℕ) → at ≡ front ∷ 61 ∷ after → IsOperator loose bytes after)
    → Holds (Ok (or_equal strict loose rest)) (λ operator after. IsOperator operator bytes after)
or_equal_sound strict loose front bytes at [] blanks is as_strict as_loose = record { it = as_strict [] is tt }
or_equal_sound strict loose front bytes at (b ∷ rest) blanks is as_strict as_loose = by_test (b == 61) refl
  where
    by_test : (t : Bool) → (b == 61) ≡ t → Holds (Ok (if t then (loose, rest) else (strict, b ∷ rest))) (λ operator after. IsOperator operator bytes after)
    by_test true same = record { it = as_loose rest (is ∙ ap (λ (c : ℕ). front ∷ c ∷ rest) (same_byte b 61 same)) }
    by_test false same = record { it = as_strict (b ∷ rest) is same }

operator_found : (bytes at : List ℕ) → Blanks bytes at → Holds (operator_of at) (λ operator rest. IsOperator operator bytes rest)
operator_found bytes [] blanks = record { it = tt }
operator_found bytes (b ∷ rest) blanks = by_tests (b == 61) (b == 60) (b == 62) refl refl refl
  where
    is : (symbol : ℕ) → (b == symbol) ≡ true → b ∷ rest ≡ symbol ∷ rest
    is symbol same = ap (λ (c : ℕ). c ∷ rest) (same_byte b symbol same)

    by_tests : (t u v : Bool) → (b == 61) ≡ t → (b == 60) ≡ u → (b == 62) ≡ v
        → Holds (if t then Ok (Equal, rest) else if u then Ok (or_equal Below AtMost rest) else if v then Ok (or_equal Above AtLeast rest) else Err (b ∷ rest)) (λ operator rest. IsOperator operator bytes rest)
    by_tests true u v equal below above = record { it = (b ∷ rest, (blanks, is 61 equal)) }
    by_tests false true v equal below above = or_equal_sound Below AtMost 60 bytes (b ∷ rest) rest blanks (is 60 below)
        (λ after same ends. (b ∷ rest, (blanks, (same, ends)))) (λ after same. (b ∷ rest, (blanks, same)))
    by_tests false false true equal below above = or_equal_sound Above AtLeast 62 bytes (b ∷ rest) rest blanks (is 62 above)
        (λ after same ends. (b ∷ rest, (blanks, (same, ends)))) (λ after same. (b ∷ rest, (blanks, same)))
    by_tests false false false equal below above = record { it = tt }

pub operator_sound : (bytes : List ℕ) → Holds (operator_at bytes) (λ operator rest. IsOperator operator bytes rest)
unfolding operator_at
operator_sound bytes = operator_found bytes (next bytes) (blanks_before bytes)

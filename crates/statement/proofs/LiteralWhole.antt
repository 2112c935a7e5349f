-- What is of the grammar is read: literals.
use Rattle.std.proofs.Common.{◌≡◌, ◌<◌, ◌≤◌, ◌-◌, ◌^◌, ℕ, ℤ, pos, neg_ℤ, Bool, true, false, List, [], ◌∷◌, ◌++◌, length, take, drop, Ok, Err, Some, None, inl, inr, refl, ap, sym, ◌∙◌, subst, arith, lit<, lit≤}
use Rattle.std.specs.Prelude.{Option, ◌==◌, ◌||◌, nat_lt, if◌then◌else◌, codes}
use Rattle.std.specs.Option.{option_map}
use Rattle.std.specs.Char.{is_ascii_digit, to_ascii_lowercase}
use Rattle.std.specs.Str.{IsUtf8}
use Rattle.std.proofs.lemmas.Str.{is_utf8-from_IsUtf8}
use Rattle.std.proofs.lemmas.List.{append-nil, append_assoc}
use Rattle.std.proofs.lemmas.Bool.{and_parts}
use Rattle.std.proofs.lemmas.Bool.Decides.{nat_tests}
use Rattle.values.specs.Names.{same_name}
use Rattle.values.specs.declared.value.Value.{Value}
use Rattle.values.specs.declared.value.Value.TheVariants.{Int, Text, Bool as Truth, Null}
use Rattle.tokens.specs.Token.{After, Read, ◌>>=◌}
use Rattle.statement.specs.Token.{is_blank, next, symbol_at}
use Rattle.statement.specs.Token.{word_at}
use Rattle.statement.specs.Literal.{digit_count, value_within, digits_here, digits_at, begins_with, above_nought, below_nought, number_at, quoted_from, quoted, text_of, text_at, constant_at, begins_number, literal_at}
use Rattle.statement.specs.Grammar.{◌⋯◌, Blanks, Word, Digits, Number, doubled, is_quote, Quoted, Literal}
use Rattle.tokens.specs.Run.{AllBytes, Ends}
use Rattle.statement.proofs.TokenGaps.{next_is}
use Rattle.tokens.proofs.RunRead.{length_of, run_taken, run_left}
use Rattle.statement.proofs.TokenWhole.{word_whole, symbol_whole, other_word_refused, next_run}
use Rattle.tokens.proofs.WordCases.{some_written}

pub no_blanks : (bytes : List ℕ) → Blanks bytes bytes
no_blanks bytes = record { blanks = []; are_blank = tt; spelled = refl }

-- digits begin with one
pub record FirstDigit (bytes : List ℕ) : Type 0 where
  pub first : ℕ
  pub others : List ℕ
  pub spelled : bytes ≡ first ∷ others
  pub digit : is_ascii_digit first ≡ true

pub first_of : (digits bytes rest : List ℕ) → 0 < length digits → AllBytes is_ascii_digit digits → bytes ≡ digits ++ rest → FirstDigit bytes
first_of [] bytes rest some all is = absurd (omega arith)
first_of (d ∷ ds) bytes rest some all is = record { first = d; others = ds ++ rest; spelled = is; digit = all.0 }

pub first_digit : {most n : ℕ} {bytes rest : List ℕ} → Digits most n bytes rest → FirstDigit bytes
first_digit {most} {n} {bytes} {rest} d = first_of d.digits bytes rest d.some d.run.all d.run.spelled

digit_is_no_blank : (d : ℕ) → is_ascii_digit d ≡ true → is_blank d ≡ false
digit_is_no_blank d is = grind (arith, nat_tests)

pub digit_is_no_other : (d b : ℕ) → b < 48 → is_ascii_digit d ≡ true → (d == b) ≡ false
digit_is_no_other d b below is = grind (arith, nat_tests)

pub digits_not_blank : {bytes : List ℕ} → FirstDigit bytes → Ends is_blank bytes
digits_not_blank f = subst (Ends is_blank) (sym f.spelled) (digit_is_no_blank f.first f.digit)

pub not_none : (n : ℕ) → 0 < n → (n == 0) ≡ false
not_none n some = grind (arith, nat_tests)

not_over : (most n : ℕ) → n ≤ most → nat_lt most n ≡ false
not_over most n within = grind (arith, nat_tests)

digits_here_whole : (most n : ℕ) (bytes rest : List ℕ) → Digits most n bytes rest → digits_here most bytes ≡ Some (n, rest)
unfolding digits_here
digits_here_whole most n bytes rest d =
    let left : List ℕ = drop (digit_count bytes) bytes in
    let counted : digit_count bytes ≡ length d.digits = length_of is_ascii_digit d.run in
    ap (λ t. if t then None else option_map (λ (m : ℕ). (m, left)) (value_within most (take (digit_count bytes) bytes)))
    (ap (λ (c : ℕ). c == 0) counted ∙ not_none (length d.digits) d.some)
    ∙ ap (λ (ds : List ℕ). option_map (λ (m : ℕ). (m, left)) (value_within most ds)) (run_taken is_ascii_digit d.run)
    ∙ ap (λ (v : ℕ). option_map (λ (m : ℕ). (m, left)) (if nat_lt most v then None else Some v)) d.value
    ∙ ap (λ t. option_map (λ (m : ℕ). (m, left)) (if t then None else Some n)) (not_over most n d.within)
    ∙ ap (λ (r : List ℕ). Some (n, r)) (run_left is_ascii_digit d.run)

pub digits_whole : (most n : ℕ) (bytes rest : List ℕ) → (Blanks ⋯ Digits most n) bytes rest → digits_at most bytes ≡ Ok (n, rest)
unfolding digits_at
digits_whole most n bytes rest is =
    let here : next bytes ≡ is.0 = next_is is.1.0 (digits_not_blank (first_digit is.1.1)) in
    ap (λ (a : List ℕ). elim (digits_here most a) as (λ _. Read ℕ) [ None ↦ Err a | Some x ↦ Ok x ]) here
    ∙ ap (λ (o : Option (ℕ × List ℕ)). elim o as (λ _. Read ℕ) [ None ↦ Err is.0 | Some x ↦ Ok x ]) (digits_here_whole most n is.0 rest is.1.1)

number_of : List ℕ → Option (ℤ × List ℕ)
number_of at = if begins_with 45 at then below_nought (drop 1 at) else above_nought at

number_here_whole : (z : ℤ) (at rest : List ℕ) → Number z at rest → number_of at ≡ Some (z, rest)
unfolding number_of
number_here_whole z at rest (inl is) =
    let f = first_digit is.1.1 in
    ap (λ t. if t then below_nought (drop 1 at) else above_nought at) (ap (begins_with 45) f.spelled ∙ digit_is_no_other f.first 45 (lit< tt) f.digit)
    ∙ ap (option_map (λ (x : ℕ × List ℕ). (pos x.0, x.1))) (digits_here_whole (2 ^ 63 - 1) is.0 at rest is.1.1)
    ∙ ap (λ (y : ℤ). Some (y, rest)) (sym is.1.0)
number_here_whole z at rest (inr is) =
    let bs = is.1.1.0 in
    ap (λ (a : List ℕ). if begins_with 45 a then below_nought (drop 1 a) else above_nought a) is.1.1.1.0
    ∙ ap (option_map (λ (x : ℕ × List ℕ). (neg_ℤ (pos x.0), x.1))) (digits_here_whole (2 ^ 63) is.0 bs rest is.1.1.1.1)
    ∙ ap (λ (y : ℤ). Some (y, rest)) (sym is.1.0)

number_not_blank : (z : ℤ) (at rest : List ℕ) → Number z at rest → Ends is_blank at
number_not_blank z at rest (inl is) = digits_not_blank (first_digit is.1.1)
number_not_blank z at rest (inr is) = subst (Ends is_blank) (sym is.1.1.1.0) refl

number_begins : (z : ℤ) (at rest : List ℕ) → Number z at rest → (begins_with 39 at ≡ false) × (begins_number at ≡ true)
number_begins z at rest (inl is) =
    let f = first_digit is.1.1 in (
      ap (begins_with 39) f.spelled ∙ digit_is_no_other f.first 39 (lit< tt) f.digit,
      ap begins_number f.spelled ∙ ap (λ t. t || is_ascii_digit f.first) (digit_is_no_other f.first 45 (lit< tt) f.digit) ∙ f.digit,
    )
number_begins z at rest (inr is) = (ap (begins_with 39) is.1.1.1.0, ap begins_number is.1.1.1.0)

pub number_whole : (z : ℤ) (bytes rest : List ℕ) → (Blanks ⋯ Number z) bytes rest → number_at bytes ≡ Ok (z, rest)
unfolding number_at number_of
number_whole z bytes rest is =
    let here : next bytes ≡ is.0 = next_is is.1.0 (number_not_blank z is.0 rest is.1.1) in
    ap (λ (a : List ℕ). elim (number_of a) as (λ _. Read ℤ) [ None ↦ Err a | Some x ↦ Ok x ]) here
    ∙ ap (λ (o : Option (ℤ × List ℕ)). elim o as (λ _. Read ℤ) [ None ↦ Err is.0 | Some x ↦ Ok x ]) (number_here_whole z is.0 rest is.1.1)

-- the closing quote
closes : (front rest : List ℕ) → Ends is_quote rest → quoted_from true front rest ≡ Some (front, rest)
closes front [] ends = refl
closes front (b ∷ bs) ends = ap (λ t. if t then quoted_from false (front ++ 39 ∷ []) bs else Some (front, b ∷ bs)) ends

abbrev as_doubled : ℕ → Bool → List ℕ
as_doubled b t = if t then 39 ∷ 39 ∷ [] else b ∷ []

quoted_byte : (b : ℕ) (front more : List ℕ) (t : Bool) → (b == 39) ≡ t → quoted_from false front (as_doubled b t ++ more) ≡ quoted_from false (front ++ b ∷ []) more
quoted_byte b front more true is = let e : b ≡ 39 = grind (arith, nat_tests) in ap (λ (c : ℕ). quoted_from false (front ++ c ∷ []) more) (sym e)
quoted_byte b front more false is = ap (λ t. if t then quoted_from true front more else quoted_from false (front ++ b ∷ []) more) is

quoted_whole : (text front rest : List ℕ) → Ends is_quote rest → quoted_from false front (doubled text ++ 39 ∷ rest) ≡ Some (front ++ text, rest)
quoted_whole [] front rest ends = closes front rest ends ∙ ap (λ (l : List ℕ). Some (l, rest)) (sym (append-nil front))
quoted_whole (b ∷ text) front rest ends =
    ap (quoted_from false front) (append_assoc (as_doubled b (b == 39)) (doubled text) (39 ∷ rest))
    ∙ quoted_byte b front (doubled text ++ 39 ∷ rest) (b == 39) refl
    ∙ quoted_whole text (front ++ b ∷ []) rest ends
    ∙ ap (λ (l : List ℕ). Some (l, rest)) (append_assoc front (b ∷ []) text)

text_is : (text : List ℕ) → IsUtf8 text → text_of text ≡ Some (Text text)
unfolding text_of
text_is text utf8 = ap (λ t. if t then Some (Text text) else None) (is_utf8-from_IsUtf8 text utf8)

text_here_whole : (text at rest : List ℕ) → Quoted text at rest → text_at at ≡ Ok (Text text, rest)
unfolding text_at
text_here_whole text at rest q =
    let inside : List ℕ = doubled text ++ 39 ∷ rest in
    let here : next at ≡ at = next_is (no_blanks at) (subst (Ends is_blank) (sym q.spelled) refl) in
    let opened : symbol_at 39 (next at) ≡ Ok inside = ap (symbol_at 39) here ∙ symbol_whole 39 refl at inside (at, (no_blanks at, q.spelled)) in
    let after : List ℕ → Read Value = λ inside. elim (quoted inside) as (λ _. Read Value) [ None ↦ Err (next at) | Some x ↦ elim (text_of x.0) as (λ _. Read Value) [ None ↦ Err (next at) | Some value ↦ Ok (value, x.1) ] ] in
    ap (λ (r : After). r >>= after) opened
    ∙ ap (λ (o : Option (List ℕ × List ℕ)). elim o as (λ _. Read Value) [ None ↦ Err (next at) | Some x ↦ elim (text_of x.0) as (λ _. Read Value) [ None ↦ Err (next at) | Some value ↦ Ok (value, x.1) ] ]) (quoted_whole text [] rest q.ends)
    ∙ ap (λ (o : Option Value). elim o as (λ _. Read Value) [ None ↦ Err (next at) | Some value ↦ Ok (value, rest) ]) (text_is text q.utf8)

-- a word whose first letter this is
pub record Lettered (letter : ℕ) (bytes : List ℕ) : Type 0 where
  pub first : ℕ
  pub others : List ℕ
  pub spelled : bytes ≡ first ∷ others
  pub same : to_ascii_lowercase first ≡ to_ascii_lowercase letter

pub letter_of : (letter : ℕ) (letters written at rest : List ℕ) → same_name (letter ∷ letters) written ≡ true → at ≡ written ++ rest → Lettered letter at
letter_of letter letters [] at rest same spelled = absurd (let e = some_written (letter ∷ letters) [] (omega arith) same in omega arith)
letter_of letter letters (b ∷ written) at rest same spelled =
    let p = and_parts (to_ascii_lowercase letter == to_ascii_lowercase b) (same_name letters written) same in
    record { first = b; others = written ++ rest; spelled = spelled; same = alike (to_ascii_lowercase letter) (to_ascii_lowercase b) p.0 }
  where
    alike : (m n : ℕ) → (m == n) ≡ true → n ≡ m
    alike m n is = grind (arith, nat_tests)

letter_is_no_quote : (b : ℕ) → 97 ≤ to_ascii_lowercase b → (b == 39) ≡ false
letter_is_no_quote b is = grind (arith, nat_tests)

pub letter_is_no_minus : (b : ℕ) → 97 ≤ to_ascii_lowercase b → (b == 45) ≡ false
letter_is_no_minus b is = grind (arith, nat_tests)

pub letter_is_no_digit : (b : ℕ) → 97 ≤ to_ascii_lowercase b → is_ascii_digit b ≡ false
letter_is_no_digit b is = grind (arith, nat_tests)

literal_of : List ℕ → Read Value
literal_of at = if begins_with 39 at then text_at at else if begins_number at then (number_at at >>= λ x. Ok (Int x.0, x.1)) else constant_at at

begins_no_number : (b : ℕ) → (b == 45) ≡ false → is_ascii_digit b ≡ false → ((b == 45) || is_ascii_digit b) ≡ false
begins_no_number b minus digit = ap (λ t. t || is_ascii_digit b) minus ∙ digit

-- a constant is read as one
constant_chosen : (letter : ℕ) (at : List ℕ) → 97 ≤ to_ascii_lowercase letter → Lettered letter at → literal_of at ≡ constant_at at
unfolding literal_of
constant_chosen letter at low l =
    let low_first : 97 ≤ to_ascii_lowercase l.first = omega (arith, l.same) in
    ap (λ t. if t then text_at at else if begins_number at then (number_at at >>= λ x. Ok (Int x.0, x.1)) else constant_at at)
    (ap (begins_with 39) l.spelled ∙ letter_is_no_quote l.first low_first)
    ∙ ap (λ t. if t then (number_at at >>= λ x. Ok (Int x.0, x.1)) else constant_at at)
    (ap begins_number l.spelled ∙ begins_no_number l.first (letter_is_no_minus l.first low_first) (letter_is_no_digit l.first low_first))

abbrev third : List ℕ → After → Read Value
third bytes r = elim r [ Ok rest ↦ Ok (Null, rest) | Err at ↦ Err at ]

abbrev second : List ℕ → After → Read Value
second bytes r = elim r [ Ok rest ↦ Ok (Truth false, rest) | Err _ ↦ third bytes (word_at (codes "NULL") bytes) ]

abbrev first : List ℕ → After → Read Value
first bytes r = elim r [ Ok rest ↦ Ok (Truth true, rest) | Err _ ↦ second bytes (word_at (codes "FALSE") bytes) ]

true_whole : (at rest : List ℕ) → Word (codes "TRUE") at rest → constant_at at ≡ Ok (Truth true, rest)
unfolding constant_at
true_whole at rest is = ap (first at) (word_whole (codes "TRUE") (lit< tt) at rest is)

false_whole : (at rest : List ℕ) → Word (codes "FALSE") at rest → constant_at at ≡ Ok (Truth false, rest)
unfolding constant_at
false_whole at rest is =
    ap (first at) (other_word_refused (codes "TRUE") (codes "FALSE") refl (lit< tt) at rest is).is
    ∙ ap (second at) (word_whole (codes "FALSE") (lit< tt) at rest is)

null_whole : (at rest : List ℕ) → Word (codes "NULL") at rest → constant_at at ≡ Ok (Null, rest)
unfolding constant_at
null_whole at rest is =
    ap (first at) (other_word_refused (codes "TRUE") (codes "NULL") refl (lit< tt) at rest is).is
    ∙ ap (second at) (other_word_refused (codes "FALSE") (codes "NULL") refl (lit< tt) at rest is).is
    ∙ ap (third at) (word_whole (codes "NULL") (lit< tt) at rest is)

-- the word where its blanks are behind
word_here : (word : List ℕ) {bytes rest : List ℕ} (is : Word word bytes rest) → Word word is.0 rest
word_here word is = (is.0, (no_blanks is.0, is.1.1))

constant_whole : (letter : ℕ) (letters : List ℕ) (value : Value) → 97 ≤ to_ascii_lowercase letter → ((at rest : List ℕ) → Word (letter ∷ letters) at rest → constant_at at ≡ Ok (value, rest))
    → (bytes rest : List ℕ) → Word (letter ∷ letters) bytes rest → literal_at bytes ≡ Ok (value, rest)
unfolding literal_at literal_of
constant_whole letter letters value low whole bytes rest is =
    let at = is.0 in
    let written = is.1.1.0 in
    let run = is.1.1.1.0 in
    let same = is.1.1.1.1 in
    ap literal_of (next_run bytes at is.1.0 run (some_written (letter ∷ letters) written (omega arith) same))
    ∙ constant_chosen letter at low (letter_of letter letters written at rest same run.spelled)
    ∙ whole at rest (word_here (letter ∷ letters) is)

pub literal_whole : (value : Value) (bytes rest : List ℕ) → Literal value bytes rest → literal_at bytes ≡ Ok (value, rest)
unfolding literal_at literal_of
literal_whole (Truth true) bytes rest is = constant_whole 84 (codes "RUE") (Truth true) (lit≤ tt) true_whole bytes rest is
literal_whole (Truth false) bytes rest is = constant_whole 70 (codes "ALSE") (Truth false) (lit≤ tt) false_whole bytes rest is
literal_whole Null bytes rest is = constant_whole 78 (codes "ULL") Null (lit≤ tt) null_whole bytes rest is
literal_whole (Text text) bytes rest is =
    let at = is.0 in
    ap literal_of (next_is is.1.0 (subst (Ends is_blank) (sym is.1.1.spelled) refl))
    ∙ ap (λ t. if t then text_at at else if begins_number at then (number_at at >>= λ x. Ok (Int x.0, x.1)) else constant_at at) (ap (begins_with 39) is.1.1.spelled)
    ∙ text_here_whole text at rest is.1.1
literal_whole (Int z) bytes rest is =
    let at = is.0 in
    let b = number_begins z at rest is.1.1 in
    ap literal_of (next_is is.1.0 (number_not_blank z at rest is.1.1))
    ∙ ap (λ t. if t then text_at at else if begins_number at then (number_at at >>= λ x. Ok (Int x.0, x.1)) else constant_at at) b.0
    ∙ ap (λ t. if t then (number_at at >>= λ x. Ok (Int x.0, x.1)) else constant_at at) b.1
    ∙ ap (λ (r : Read ℤ). r >>= λ x. Ok (Int x.0, x.1)) (number_whole z at rest (at, (no_blanks at, is.1.1)))

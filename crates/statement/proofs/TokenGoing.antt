-- Reading stops at a token, and the bytes before it can go on to one: tokens and literals.
use Rattle.std.proofs.Common.{◌≡◌, ℕ, ◌≤◌, Bool, true, false, List, [], ◌∷◌, ◌++◌, Ok, Err, Some, None, pos, inl, refl, ◌∙◌, arith, drop, lit≤}
use Rattle.std.specs.Prelude.{ℤ, Option, ◌==◌, ◌-◌, ◌^◌, if◌then◌else◌, codes}
use Rattle.std.specs.Char.{is_ascii_digit}
use Rattle.std.specs.Str.{is_utf8}
use Rattle.std.proofs.lemmas.Bool.{and_parts}
use Rattle.values.specs.Names.{same_name}
use Rattle.values.specs.Commits.{max_instant}
use Rattle.values.specs.declared.value.Value.{Value}
use Rattle.values.specs.declared.value.Value.TheVariants.{Int, Text, Null}
use Rattle.values.specs.declared.query.Operator.TheVariants.{Equal, Below, AtMost, Above, AtLeast}
use Rattle.tokens.specs.Token.{After, Read, ◌>>=◌, prefix_while, skip_while}
use Rattle.tokens.specs.Token.{symbol_at as symbol_after}
use Rattle.tokens.specs.Word.{is_name_byte}
use Rattle.tokens.specs.Word.{is_word_at as is_word_after, after_word as rest_of_word, word_at as word_after}
use Rattle.tokens.specs.Name.{reserved_words, is_reserved, is_name}
use Rattle.tokens.specs.Name.{name_at as name_after}
use Rattle.statement.specs.Token.{next, symbol_at, word_at, name_at, end_at}
use Rattle.statement.specs.Literal.{digits_here, digits_at, begins_with, above_nought, below_nought, number_at, quoted, text_of, text_at, constant_at, begins_number, literal_at}
use Rattle.statement.specs.Condition.{or_equal, operator_of, operator_at}
use Rattle.statement.specs.Statement.{instant_at}
use Rattle.statement.specs.Grammar.{◌⋯◌, Blanks, Symbol, Word, Name, Digits, Literal, IsOperator, IsInstant, IsNumber}
use Rattle.statement.proofs.TokenGaps.{blanks_before, next_again}
use Rattle.statement.proofs.GrammarSound.{symbol_sound, word_sound, name_sound}
use Rattle.statement.proofs.LiteralSound.{digits_sound, number_sound, literal_sound, operator_sound}
use Rattle.tokens.proofs.TokenFollows.{ends_so, all_from, all_test, is_plain_word}
use Rattle.tokens.proofs.TokenGoing.{Reads, ReadsAfter}
use Rattle.statement.proofs.GoingOnMissing.{UsualToken, AtNext, token_reads, token_reads_after}

-- ---- symbols and words

symbol_usual : (symbol : ℕ) → UsualToken {A = Unit {0}} (λ _. Symbol symbol)
symbol_usual symbol = record { text = symbol ∷ []; value = tt; holds = λ bytes tail blanks clean. (symbol ∷ tail, (blanks, refl)) }

pub symbol_next : (symbol : ℕ) (bytes : List ℕ) → AtNext bytes (symbol_at symbol bytes)
unfolding symbol_after
symbol_next symbol bytes = at_token (next bytes) refl
  where
    by_byte : (b : ℕ) (bs : List ℕ) (t : Bool) → b ∷ bs ≡ next bytes → AtNext bytes (if t then Ok bs else Err (b ∷ bs))
    by_byte b bs true is = record { it = tt }
    by_byte b bs false is = record { it = is }

    at_token : (at : List ℕ) → at ≡ next bytes → AtNext bytes (elim at [ [] ↦ Err [] | b ∷ bs ↦ if b == symbol then Ok bs else Err (b ∷ bs) ])
    at_token [] is = record { it = is }
    at_token (b ∷ bs) is = by_byte b bs (b == symbol) is

pub symbol_reads : (symbol : ℕ) (bytes : List ℕ) → ReadsAfter (Symbol symbol) bytes (symbol_at symbol bytes)
symbol_reads symbol bytes = token_reads_after (symbol_usual symbol) _ (symbol_sound symbol bytes) (symbol_next symbol bytes)

word_usual : (word : List ℕ) → is_plain_word word ≡ true → UsualToken {A = Unit {0}} (λ _. Word word)
word_usual word is =
    let both = and_parts (all_test is_name_byte word) (same_name word word) is in
    record {
      text = word;
      value = tt;
      holds = λ bytes tail blanks clean. (word ++ tail, (blanks, (word, (record { all = all_from is_name_byte word both.0; ends = ends_so is_name_byte refl refl [] tail clean tt; spelled = refl }, both.1))));
    }

pub word_next : (word bytes : List ℕ) → AtNext bytes (word_at word bytes)
unfolding is_word_after rest_of_word word_after
word_next word bytes = by_test (same_name word (prefix_while is_name_byte (next bytes)))
  where
    by_test : (t : Bool) → AtNext bytes (if t then Ok (skip_while is_name_byte (next bytes)) else Err (next bytes))
    by_test true = record { it = tt }
    by_test false = record { it = refl }

pub word_reads : (word : List ℕ) → is_plain_word word ≡ true → (bytes : List ℕ) → ReadsAfter (Word word) bytes (word_at word bytes)
word_reads word is bytes = token_reads_after (word_usual word is) _ (word_sound word bytes) (word_next word bytes)

-- ---- names

a_name : is_name (codes "t") ≡ true
unfolding is_name is_reserved reserved_words
a_name = refl

name_usual : UsualToken Name
name_usual = record {
  text = codes "t";
  value = codes "t";
  holds = λ bytes tail blanks clean. (codes "t" ++ tail, (blanks, (record { all = all_from is_name_byte (codes "t") refl; ends = ends_so is_name_byte refl refl [] tail clean tt; spelled = refl }, a_name)));
}

pub name_next : (bytes : List ℕ) → AtNext bytes (name_at bytes)
unfolding name_after
name_next bytes = by_test (is_name (prefix_while is_name_byte (next bytes)))
  where
    by_test : (t : Bool) → AtNext {X = List ℕ × List ℕ} bytes (if t then Ok (prefix_while is_name_byte (next bytes), skip_while is_name_byte (next bytes)) else Err (next bytes))
    by_test true = record { it = tt }
    by_test false = record { it = refl }

pub name_reads : (bytes : List ℕ) → Reads Name bytes (name_at bytes)
name_reads bytes = token_reads name_usual _ (name_sound bytes) (name_next bytes)

-- ---- numbers

digits_usual : (most : ℕ) → 1 ≤ most → UsualToken (λ n. Blanks ⋯ Digits most n)
digits_usual most some = record {
  text = 49 ∷ [];
  value = 1;
  holds = λ bytes tail blanks clean. (
    49 ∷ tail,
    (
      blanks,
      record {
        digits = 49 ∷ [];
        some = omega arith;
        run = record { all = (refl, tt); ends = ends_so is_ascii_digit refl refl [] tail clean tt; spelled = refl };
        value = refl;
        within = some;
      },
    ),
  );
}

pub digits_next : (most : ℕ) (bytes : List ℕ) → AtNext bytes (digits_at most bytes)
unfolding digits_at
digits_next most bytes = by_found (digits_here most (next bytes))
  where
    by_found : (o : Option (ℕ × List ℕ)) → AtNext bytes (elim o [ None ↦ Err (next bytes) | Some x ↦ Ok x ])
    by_found None = record { it = refl }
    by_found (Some x) = record { it = tt }

pub digits_reads : (most : ℕ) → 1 ≤ most → (bytes : List ℕ) → Reads (λ n. Blanks ⋯ Digits most n) bytes (digits_at most bytes)
digits_reads most some bytes = token_reads (digits_usual most some) _ (digits_sound most bytes) (digits_next most bytes)

some_instant : 1 ≤ max_instant
some_instant = omega arith

pub instant_next : (bytes : List ℕ) → AtNext bytes (instant_at bytes)
unfolding instant_at
instant_next bytes = digits_next max_instant bytes

pub instant_reads : (bytes : List ℕ) → Reads IsInstant bytes (instant_at bytes)
unfolding instant_at
instant_reads bytes = digits_reads max_instant some_instant bytes

-- ---- literals

number_usual : UsualToken IsNumber
number_usual =
    let one = digits_usual (2 ^ 63 - 1) (lit≤ tt) in
    record {
      text = one.text;
      value = pos one.value;
      holds = λ bytes tail blanks clean. let is = one.holds bytes tail blanks clean in (is.0, (is.1.0, inl (one.value, (refl, is.1.1))));
    }

pub number_next : (bytes : List ℕ) → AtNext bytes (number_at bytes)
unfolding number_at
number_next bytes = by_found (if begins_with 45 (next bytes) then below_nought (drop 1 (next bytes)) else above_nought (next bytes))
  where
    by_found : (o : Option (ℤ × List ℕ)) → AtNext bytes (elim o [ None ↦ Err (next bytes) | Some x ↦ Ok x ])
    by_found None = record { it = refl }
    by_found (Some x) = record { it = tt }

pub number_reads : (bytes : List ℕ) → Reads IsNumber bytes (number_at bytes)
number_reads bytes = token_reads number_usual _ (number_sound bytes) (number_next bytes)

pub text_next : (bytes : List ℕ) → AtNext bytes (text_at bytes)
unfolding text_at text_of
text_next bytes = opened (symbol_at 39 (next bytes)) (symbol_next 39 (next bytes))
  where
    kept : (rest : List ℕ) (text : List ℕ) (t : Bool) → AtNext {X = Value × List ℕ} bytes (elim (if t then Some (Text text) else None) [ None ↦ Err (next bytes) | Some value ↦ Ok (value, rest) ])
    kept rest text true = record { it = tt }
    kept rest text false = record { it = refl }

    closed : (o : Option (List ℕ × List ℕ)) → AtNext {X = Value × List ℕ} bytes (elim o [ None ↦ Err (next bytes) | Some x ↦ elim (text_of x.0) [ None ↦ Err (next bytes) | Some value ↦ Ok (value, x.1) ] ])
    closed None = record { it = refl }
    closed (Some x) = kept x.1 x.0 (is_utf8 x.0)

    opened : (r : After) → AtNext (next bytes) r
        → AtNext {X = Value × List ℕ} bytes (r >>= λ inside. elim (quoted inside) [ None ↦ Err (next bytes) | Some x ↦ elim (text_of x.0) [ None ↦ Err (next bytes) | Some value ↦ Ok (value, x.1) ] ])
    opened (Ok inside) s = closed (quoted inside)
    opened (Err at) s = record { it = s.it ∙ next_again bytes }

either_next : {A : Type 0} {bytes : List ℕ} (r : After) (f : List ℕ → A × List ℕ) (g : List ℕ → Read A) → ((at : List ℕ) → AtNext {X = A × List ℕ} bytes (Err at) → AtNext bytes (g at)) → AtNext bytes r
    → AtNext bytes (elim r [ Ok rest ↦ Ok (f rest) | Err at ↦ g at ])
either_next (Ok rest) f g other s = record { it = tt }
either_next (Err at) f g other s = other at (record { it = s.it })

constant_next : (bytes : List ℕ) → AtNext bytes (constant_at bytes)
unfolding constant_at
constant_next bytes =
    either_next (word_at (codes "TRUE") bytes) _ _ (λ _ _.
    either_next (word_at (codes "FALSE") bytes) _ _ (λ _ _.
    either_next (word_at (codes "NULL") bytes) _ _ (λ at s. s)
    (word_next (codes "NULL") bytes)) (word_next (codes "FALSE") bytes)) (word_next (codes "TRUE") bytes)

mapped_next : {A B : Type 0} {bytes : List ℕ} (r : Read A) (f : A → B) → AtNext bytes r → AtNext {X = B × List ℕ} bytes (r >>= λ x. Ok (f x.0, x.1))
mapped_next (Ok x) f s = record { it = tt }
mapped_next (Err at) f s = record { it = s.it }

behind_blanks : {A : Type 0} {bytes : List ℕ} (r : Read A) → AtNext (next bytes) r → AtNext bytes r
behind_blanks (Ok x) s = record { it = tt }
behind_blanks {bytes = bytes} (Err at) s = record { it = s.it ∙ next_again bytes }

pub literal_next : (bytes : List ℕ) → AtNext bytes (literal_at bytes)
unfolding literal_at
literal_next bytes = by_tests (begins_with 39 at) (begins_number at)
  where
    at : List ℕ
    at = next bytes

    by_tests : (t u : Bool) → AtNext bytes (if t then text_at at else if u then (number_at at >>= λ x. Ok (Int x.0, x.1)) else constant_at at)
    by_tests true u = behind_blanks _ (text_next at)
    by_tests false true = behind_blanks _ (mapped_next (number_at at) Int (number_next at))
    by_tests false false = behind_blanks _ (constant_next at)

literal_usual : UsualToken Literal
literal_usual = let w = word_usual (codes "NULL") refl in record { text = w.text; value = Null; holds = w.holds }

pub literal_reads : (bytes : List ℕ) → Reads Literal bytes (literal_at bytes)
literal_reads bytes = token_reads literal_usual _ (literal_sound bytes) (literal_next bytes)

-- ---- operators

operator_usual : UsualToken IsOperator
operator_usual = let s = symbol_usual 61 in record { text = s.text; value = Equal; holds = s.holds }

pub operator_next : (bytes : List ℕ) → AtNext bytes (operator_at bytes)
unfolding operator_at
operator_next bytes = at_token (next bytes) refl
  where
    by_tests : (b : ℕ) (rest : List ℕ) (t u v : Bool) → b ∷ rest ≡ next bytes
        → AtNext bytes (if t then Ok (Equal, rest) else if u then Ok (or_equal Below AtMost rest) else if v then Ok (or_equal Above AtLeast rest) else Err (b ∷ rest))
    by_tests b rest true u v is = record { it = tt }
    by_tests b rest false true v is = record { it = tt }
    by_tests b rest false false true is = record { it = tt }
    by_tests b rest false false false is = record { it = is }

    at_token : (at : List ℕ) → at ≡ next bytes → AtNext bytes (operator_of at)
    at_token [] is = record { it = is }
    at_token (b ∷ rest) is = by_tests b rest (b == 61) (b == 60) (b == 62) is

pub operator_reads : (bytes : List ℕ) → Reads IsOperator bytes (operator_at bytes)
operator_reads bytes = token_reads operator_usual _ (operator_sound bytes) (operator_next bytes)

-- ---- the end of the line

pub end_next : (bytes : List ℕ) → AtNext bytes (end_at bytes)
unfolding end_at
end_next bytes = at_token (next bytes) refl
  where
    at_token : (at : List ℕ) → at ≡ next bytes → AtNext {X = List ℕ} bytes (elim at [ [] ↦ Ok [] | b ∷ bs ↦ Err (b ∷ bs) ])
    at_token [] is = record { it = tt }
    at_token (b ∷ bs) is = record { it = is }

pub end_reads : (bytes : List ℕ) → ReadsAfter Blanks bytes (end_at bytes)
unfolding end_at
end_reads bytes = at_token (next bytes) (blanks_before bytes)
  where
    at_token : (at : List ℕ) → Blanks bytes at → ReadsAfter Blanks bytes (elim at [ [] ↦ Ok [] | b ∷ bs ↦ Err (b ∷ bs) ])
    at_token [] blanks = record { it = blanks }
    at_token (b ∷ bs) blanks = record {
      it = record {
        front = blanks.blanks;
        place = blanks.spelled;
        more = [];
        value = tt;
        clean = λ tail clean. clean;
        goes = λ tail clean. record { blanks = blanks.blanks; are_blank = blanks.are_blank; spelled = refl };
      };
    }

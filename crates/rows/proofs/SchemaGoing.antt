-- Tokens of a schema that other bytes follow, and tokens that are missing.
use Rattle.std.proofs.Common.{◌≡◌, ◌≤◌, ℕ, true, false, List, [], ◌∷◌, ◌++◌, Ok, Err, inr, length, refl, ap, sym, ◌∙◌, subst, arith}
use Rattle.std.specs.Prelude.{codes}
use Rattle.std.specs.Char.{is_ascii_digit}
use Rattle.std.proofs.lemmas.List.{append_assoc, append-nil}
use Rattle.std.proofs.lemmas.Bool.{and_parts}
use Rattle.std.proofs.lemmas.Bool.Decides.{nat_tests}
use Rattle.values.specs.Names.{same_name}
use Rattle.tokens.specs.Token.{After, Read}
use Rattle.tokens.specs.Word.{is_name_byte}
use Rattle.tokens.specs.Name.{reserved_words, is_reserved, is_name}
use Rattle.tokens.specs.Run.{AllBytes, Ends}
use Rattle.tokens.proofs.TokenFollows.{Spelling, IsClean, ends_so, Moved, Moves, all_from, all_test, is_plain_word}
use Rattle.tokens.proofs.TokenGoing.{Goes, Reads, ReadsAfter}
use Rattle.rows.specs.SchemaToken.{is_separator, next, symbol_at, word_at, name_at, number_from, digits_at}
use Rattle.rows.specs.SchemaGrammar.{Piece, blank, comment, last_comment, Gap, BeginsToken, IsNext, Symbol, Letters, Word, Name, Digits}
use Rattle.rows.proofs.SchemaSpelled.{next_is, Found, symbol_found, word_found, name_found, digits_found}

-- ---- gaps

-- the gap before a token, whatever follows it
record Before (gap : List Piece) (bytes at : List ℕ) : Type 0 where
  front : List ℕ
  place : bytes ≡ front ++ at
  stays : (other : List ℕ) → Gap gap (front ++ other) other

before_token : (gap : List Piece) (bytes : List ℕ) (b : ℕ) (at : List ℕ) → Gap gap bytes (b ∷ at) → Before gap bytes (b ∷ at)
before_token [] bytes b at g = record { front = []; place = g; stays = λ other. refl }
before_token (blank c ∷ gap) bytes b at (more, (spelled, (separates, others))) =
    let w = before_token gap more b at others in
    record { front = c ∷ w.front; place = spelled ∙ ap (λ (l : List ℕ). c ∷ l) w.place; stays = λ other. (w.front ++ other, (refl, (separates, w.stays other))) }
before_token (comment text ∷ gap) bytes b at (more, (spelled, (on_line, others))) =
    let w = before_token gap more b at others in
    record {
      front = 45 ∷ 45 ∷ (text ++ 10 ∷ w.front);
      place = spelled ∙ ap (λ (l : List ℕ). 45 ∷ 45 ∷ l) (ap (λ (l : List ℕ). text ++ 10 ∷ l) w.place ∙ sym (append_assoc text (10 ∷ w.front) (b ∷ at)));
      stays = λ other. (w.front ++ other, (ap (λ (l : List ℕ). 45 ∷ 45 ∷ l) (append_assoc text (10 ∷ w.front) other), (on_line, w.stays other)));
    }
before_token (last_comment text ∷ gap) bytes b at (spelled, (on_line, nothing)) = cc

-- the gap before a fault, where a new line follows it
record BeforeFault (bytes at : List ℕ) : Type 0 where
  gap : List Piece
  front : List ℕ
  place : bytes ≡ front ++ at
  goes : (rest : List ℕ) → Gap gap (front ++ 10 ∷ rest) rest

before_fault : (gap : List Piece) (bytes at : List ℕ) → Gap gap bytes at → BeforeFault bytes at
before_fault [] bytes at g = record { gap = blank 10 ∷ []; front = []; place = g; goes = λ rest. (rest, (refl, (refl, refl))) }
before_fault (blank c ∷ gap) bytes at (more, (spelled, (separates, others))) =
    let w = before_fault gap more at others in
    record { gap = blank c ∷ w.gap; front = c ∷ w.front; place = spelled ∙ ap (λ (l : List ℕ). c ∷ l) w.place; goes = λ rest. (w.front ++ 10 ∷ rest, (refl, (separates, w.goes rest))) }
before_fault (comment text ∷ gap) bytes at (more, (spelled, (on_line, others))) =
    let w = before_fault gap more at others in
    record {
      gap = comment text ∷ w.gap;
      front = 45 ∷ 45 ∷ (text ++ 10 ∷ w.front);
      place = spelled ∙ ap (λ (l : List ℕ). 45 ∷ 45 ∷ l) (ap (λ (l : List ℕ). text ++ 10 ∷ l) w.place ∙ sym (append_assoc text (10 ∷ w.front) at));
      goes = λ rest. (w.front ++ 10 ∷ rest, (ap (λ (l : List ℕ). 45 ∷ 45 ∷ l) (append_assoc text (10 ∷ w.front) (10 ∷ rest)), (on_line, w.goes rest)));
    }
before_fault (last_comment text ∷ gap) bytes at (spelled, (on_line, nothing)) = record {
  gap = comment text ∷ [];
  front = 45 ∷ 45 ∷ text;
  place = spelled ∙ sym (append-nil (45 ∷ 45 ∷ text)) ∙ ap (λ (l : List ℕ). (45 ∷ 45 ∷ text) ++ l) (sym nothing);
  goes = λ rest. (rest, (refl, (on_line, refl)));
}

-- ---- tokens that begin with a byte that begins no gap

record IsFirst (b : ℕ) : Type 0 where
  no_separator : is_separator b ≡ false
  no_hyphen : b ≡ 45 → ⊥

begins_with : (b : ℕ) → IsFirst b → (rest : List ℕ) → BeginsToken (b ∷ rest)
begins_with b f [] = f.no_separator
begins_with b f (c ∷ rest) = (f.no_separator, λ h. absurd (f.no_hyphen h))

name_byte_first : (b : ℕ) → is_name_byte b ≡ true → IsFirst b
name_byte_first b is = record { no_separator = grind (arith, nat_tests); no_hyphen = λ h. grind (arith, nat_tests) }

digit_first : (b : ℕ) → is_ascii_digit b ≡ true → IsFirst b
digit_first b is = record { no_separator = grind (arith, nat_tests); no_hyphen = λ h. grind (arith, nat_tests) }

-- a token that other bytes follow
record Kept (bytes : List ℕ) (b : ℕ) (others rest : List ℕ) : Type 0 where
  taken : List ℕ
  place : bytes ≡ taken ++ rest
  stays : (other : List ℕ) → IsNext (taken ++ other) (b ∷ (others ++ other))

kept : (bytes : List ℕ) (b : ℕ) (others rest : List ℕ) → IsFirst b → IsNext bytes (b ∷ (others ++ rest)) → Kept bytes b others rest
kept bytes b others rest f n =
    let w = before_token n.gap bytes b (others ++ rest) n.skipped in
    record {
      taken = w.front ++ b ∷ others;
      place = w.place ∙ sym (append_assoc w.front (b ∷ others) rest);
      stays = λ other. subst (λ (l : List ℕ). IsNext l (b ∷ (others ++ other))) (sym (append_assoc w.front (b ∷ others) other)) (record {
        gap = n.gap;
        skipped = w.stays (b ∷ (others ++ other));
        begins = begins_with b f (others ++ other);
      });
    }

pub symbol_moves : (symbol : ℕ) → is_separator symbol ≡ false → (symbol ≡ 45 → ⊥) → (x : Unit {0}) → Moves (Symbol symbol x)
symbol_moves symbol separates hyphen x bytes rest is =
    let k = kept bytes symbol [] rest (record { no_separator = separates; no_hyphen = hyphen }) is.next in
    record { taken = k.taken; place = k.place; stays = λ other follows. record { next = k.stays other } }

letters_move : (b : ℕ) (others : List ℕ) → Moves (Letters (b ∷ others))
letters_move b others bytes rest is =
    let k = kept bytes b others rest (name_byte_first b (is.are_letters).0) is.next in
    record {
      taken = k.taken;
      place = k.place;
      stays = λ other follows. record { next = k.stays other; are_letters = is.are_letters; as_many = ends_so is_name_byte refl refl rest other follows is.as_many };
    }

pub word_moves : (word : List ℕ) → same_name word [] ≡ false → (x : Unit {0}) → Moves (Word word x)
word_moves word some x bytes rest is = by_name is.name is.letters is.spelled
  where
    by_name : (name : List ℕ) → Letters name bytes rest → same_name word name ≡ true → Moved (Word word x) bytes rest
    by_name [] letters spelled = cc
    by_name (b ∷ others) letters spelled =
        let a = letters_move b others bytes rest letters in
        record { taken = a.taken; place = a.place; stays = λ other follows. record { name = b ∷ others; letters = a.stays other follows; spelled = spelled } }

no_name : is_name [] ≡ true → ⊥
unfolding is_name
no_name is = cc

pub name_moves : (name : List ℕ) → Moves (Name name)
name_moves [] = λ bytes rest is. absurd (no_name is.fits)
name_moves (b ∷ others) = λ bytes rest is.
    let a = letters_move b others bytes rest is.letters in
    record { taken = a.taken; place = a.place; stays = λ other follows. record { letters = a.stays other follows; fits = is.fits } }

pub digits_move : (n : ℕ) → Moves (Digits n)
digits_move n bytes rest is = by_digits is.digits is.next is.some is.are_digits is.as_many is.number
  where
    by_digits : (digits : List ℕ) → IsNext bytes (digits ++ rest) → 1 ≤ length digits → AllBytes is_ascii_digit digits → Ends is_ascii_digit rest → number_from 0 digits ≡ n → Moved (Digits n) bytes rest
    by_digits [] next some all ends value = absurd (omega arith)
    by_digits (b ∷ others) next some all ends value =
        let k = kept bytes b others rest (digit_first b all.0) next in
        record {
          taken = k.taken;
          place = k.place;
          stays = λ other follows. record { digits = b ∷ others; next = k.stays other; some = some; are_digits = all; as_many = ends_so is_ascii_digit refl refl rest other follows ends; number = value };
        }

-- ---- tokens that are missing

pub record UsualToken {A : Type 0} (P : A → Spelling) : Type 0 where
  pub text : List ℕ
  pub value : A
  pub begins : (tail : List ℕ) → BeginsToken (text ++ tail)
  pub holds : (bytes tail : List ℕ) → IsNext bytes (text ++ tail) → IsClean tail → P value bytes tail

token_goes : {A : Type 0} {P : A → Spelling} (bytes : List ℕ) → UsualToken P → Goes P bytes (next bytes)
token_goes bytes t =
    let n = next_is bytes (next bytes) refl in
    let w = before_fault n.gap bytes (next bytes) n.skipped in
    record {
      front = w.front;
      place = w.place;
      more = 10 ∷ t.text;
      value = t.value;
      clean = λ tail clean. inr refl;
      goes = λ tail clean. t.holds (w.front ++ 10 ∷ (t.text ++ tail)) tail (record { gap = w.gap; skipped = w.goes (t.text ++ tail); begins = t.begins tail }) clean;
    }

symbol_usual : (symbol : ℕ) → is_separator symbol ≡ false → (symbol ≡ 45 → ⊥) → UsualToken (Symbol symbol)
symbol_usual symbol separates hyphen = record {
  text = symbol ∷ [];
  value = tt;
  begins = λ tail. begins_with symbol (record { no_separator = separates; no_hyphen = hyphen }) tail;
  holds = λ bytes tail n clean. record { next = n };
}

letters_hold : (b : ℕ) (others bytes tail : List ℕ) → AllBytes is_name_byte (b ∷ others) → IsNext bytes ((b ∷ others) ++ tail) → IsClean tail → Letters (b ∷ others) bytes tail
letters_hold b others bytes tail all n clean = record { next = n; are_letters = all; as_many = ends_so is_name_byte refl refl [] tail clean tt }

word_usual : (b : ℕ) (others : List ℕ) → is_plain_word (b ∷ others) ≡ true → UsualToken (Word (b ∷ others))
word_usual b others is =
    let both = and_parts (all_test is_name_byte (b ∷ others)) (same_name (b ∷ others) (b ∷ others)) is in
    let all = all_from is_name_byte (b ∷ others) both.0 in
    record {
      text = b ∷ others;
      value = tt;
      begins = λ tail. begins_with b (name_byte_first b all.0) (others ++ tail);
      holds = λ bytes tail n clean. record { name = b ∷ others; letters = letters_hold b others bytes tail all n clean; spelled = both.1 };
    }

a_name : is_name (codes "t") ≡ true
unfolding is_name is_reserved reserved_words
a_name = refl

name_usual : UsualToken Name
name_usual = record {
  text = codes "t";
  value = codes "t";
  begins = λ tail. begins_with 116 (name_byte_first 116 refl) tail;
  holds = λ bytes tail n clean. record { letters = letters_hold 116 [] bytes tail (refl, tt) n clean; fits = a_name };
}

digits_usual : UsualToken Digits
digits_usual = record {
  text = 49 ∷ [];
  value = 1;
  begins = λ tail. begins_with 49 (digit_first 49 refl) tail;
  holds = λ bytes tail n clean. record { digits = 49 ∷ []; next = n; some = omega arith; are_digits = (refl, tt); as_many = ends_so is_ascii_digit refl refl [] tail clean tt; number = refl };
}

-- ---- how they are read

reads_token : {P : Unit {0} → Spelling} (bytes : List ℕ) (r : After) → Found (P tt bytes) bytes r → UsualToken P → ReadsAfter (P tt) bytes r
reads_token bytes (Ok rest) f t = record { it = f.it }
reads_token {P} bytes (Err at) f t =
    let c = token_goes bytes t in
    record { it = subst (λ (l : List ℕ). Goes {A = Unit {0}} (λ _. P tt) bytes l) (sym f.it) (record { front = c.front; place = c.place; more = c.more; value = tt; clean = c.clean; goes = c.goes }) }

pub symbol_reads : (symbol : ℕ) → is_separator symbol ≡ false → (symbol ≡ 45 → ⊥) → (bytes : List ℕ) → ReadsAfter (Symbol symbol tt) bytes (symbol_at symbol bytes)
symbol_reads symbol separates hyphen bytes = reads_token bytes _ (symbol_found symbol bytes) (symbol_usual symbol separates hyphen)

pub word_reads : (b : ℕ) (others : List ℕ) → is_plain_word (b ∷ others) ≡ true → (bytes : List ℕ) → ReadsAfter (Word (b ∷ others) tt) bytes (word_at (b ∷ others) bytes)
word_reads b others is bytes = reads_token bytes _ (word_found (b ∷ others) bytes) (word_usual b others is)

reads_value : {A : Type 0} {P : A → Spelling} (bytes : List ℕ) (r : Read A) → Found (λ x. P x.0 bytes x.1) bytes r → UsualToken P → Reads P bytes r
reads_value bytes (Ok x) f t = record { it = f.it }
reads_value {P = P} bytes (Err at) f t = record { it = subst (λ (l : List ℕ). Goes P bytes l) (sym f.it) (token_goes bytes t) }

pub name_reads : (bytes : List ℕ) → Reads Name bytes (name_at bytes)
name_reads bytes = reads_value bytes _ (name_found bytes) name_usual

pub digits_reads : (bytes : List ℕ) → Reads Digits bytes (digits_at bytes)
digits_reads bytes = reads_value bytes _ (digits_found bytes) digits_usual

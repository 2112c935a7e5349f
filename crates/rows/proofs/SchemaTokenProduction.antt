-- The tokens of a schema as productions.
use Rattle.std.proofs.Common.{◌≡◌, ℕ, false, true, List, [], ◌∷◌, ◌||◌, ◌&&◌, ◌==◌, Ok, Err, length, refl, sym, subst, arith}
use Rattle.std.specs.Prelude.{Result, Bool, nat_lt}
use Rattle.std.proofs.lemmas.Bool.{and_parts}
use Rattle.std.proofs.lemmas.Bool.Decides.{nat_tests}
use Rattle.tokens.proofs.TokenFollows.{is_plain_word}
use Rattle.tokens.proofs.PlaceSame.{Texts}
use Rattle.tokens.proofs.TokenSame.{good_by, good_symbol, good_word, good_name}
use Rattle.tokens.proofs.TokenProduction.{Gaps, Begins, Token, Phrase, Production, Any, phrase}
use Rattle.rows.specs.SchemaToken.{is_separator, next, symbol_at, word_at, name_at, digits_at}
use Rattle.rows.specs.SchemaGrammar.{BeginsToken, Symbol, Word, Name, Digits}
use Rattle.rows.proofs.SchemaSpelled.{next_is, Found, symbol_found, word_found, name_found, digits_found}
use Rattle.rows.proofs.SchemaRead.{symbol_read, word_read, name_read, digits_read}
use Rattle.rows.proofs.SchemaSame.{Tokens, texts, good_digits}
use Rattle.rows.proofs.SchemaGoing.{symbol_moves, word_moves, name_moves, digits_move, symbol_reads, word_reads, name_reads, digits_reads}

-- two schemas that are the same up to a token and in it
pub record Parting : Type 0 where
  pub first : ℕ
  pub rest : List ℕ
  pub other : List ℕ
  pub tokens : Tokens first rest other

abbrev pub texts_of : Parting → Texts
texts_of s = texts s.first s.rest s.other s.tokens

-- separators and comments are between the tokens of a schema
abbrev pub gaps : Gaps
gaps = record { Starts = BeginsToken; Parting = Parting; texts_of = texts_of }

begins_next : {X : Type 0} {Q : X → Type 0} (bytes : List ℕ) (r : Result X (List ℕ)) → Found Q bytes r → Begins gaps r
begins_next bytes (Ok x) f = record { it = tt }
begins_next bytes (Err at) f = record { it = subst BeginsToken (sym f.it) (next_is bytes (next bytes) refl).begins }

-- a byte that begins no gap
abbrev pub begins_gap : ℕ → Bool
begins_gap c = is_separator c || (c == 45)

separates : (c : ℕ) → begins_gap c ≡ false → is_separator c ≡ false
separates c is = grind (arith, nat_tests)

hyphen : (c : ℕ) → begins_gap c ≡ false → c ≡ 45 → ⊥
hyphen c is e = grind (arith, nat_tests)

pub symbol_token : (c : ℕ) → begins_gap c ≡ false → Token gaps (Symbol c tt) (symbol_at c)
symbol_token c is = record {
  moves = symbol_moves c (separates c is) (hyphen c is) tt;
  reads = symbol_reads c (separates c is) (hyphen c is);
  begins = λ bytes. begins_next bytes (symbol_at c bytes) (symbol_found c bytes);
  whole = symbol_read c tt;
  same = λ s. good_symbol (texts_of s) c;
}

pub symbol : (c : ℕ) → begins_gap c ≡ false → Phrase gaps (Symbol c tt) (symbol_at c)
symbol c is = phrase (symbol_token c is)

-- a word of letters
abbrev pub is_some_word : List ℕ → Bool
is_some_word w = is_plain_word w && nat_lt 0 (length w)

pub word : (w : List ℕ) → is_some_word w ≡ true → Phrase gaps (Word w tt) (word_at w)
word [] is = cc
word (b ∷ others) is = record {
  moves = word_moves (b ∷ others) refl tt;
  reads = word_reads b others (and_parts (is_plain_word (b ∷ others)) (nat_lt 0 (length (b ∷ others))) is).0;
  begins = λ bytes. begins_next bytes (word_at (b ∷ others) bytes) (word_found (b ∷ others) bytes);
  whole = word_read (b ∷ others) tt;
  same = λ s. good_by (texts_of s) (word_at (b ∷ others)) (good_word (texts_of s) (b ∷ others));
}

pub name : Production gaps Name Any name_at
name = record {
  moves = name_moves;
  reads = name_reads;
  begins = λ bytes. begins_next bytes (name_at bytes) (name_found bytes);
  whole = λ x bytes rest is c. name_read x bytes rest is;
  same = λ s. good_name (texts_of s);
}

pub digits : Production gaps Digits Any digits_at
digits = record {
  moves = digits_move;
  reads = digits_reads;
  begins = λ bytes. begins_next bytes (digits_at bytes) (digits_found bytes);
  whole = λ x bytes rest is c. digits_read x bytes rest is;
  same = λ s. good_digits s.first s.rest s.other s.tokens;
}

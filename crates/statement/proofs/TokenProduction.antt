-- The tokens of a line as productions.
use Rattle.std.proofs.Common.{◌≡◌, ◌<◌, ℕ, Bool, true, false, List, [], length, Ok, Err, refl, sym, ◌∙◌, subst, lit≤, arith}
use Rattle.std.specs.Prelude.{Result, ◌==◌, ◌&&◌, ◌-◌, ◌^◌, nat_lt}
use Rattle.std.proofs.lemmas.Bool.{and_parts}
use Rattle.std.proofs.lemmas.Bool.Decides.{nat_tests}
use Rattle.values.specs.Tables.{Schema}
use Rattle.tokens.specs.Token.{Read, ◌>>=◌}
use Rattle.tokens.specs.Run.{Ends}
use Rattle.tokens.specs.Digit.{capped_at}
use Rattle.statement.specs.Token.{is_blank, next, symbol_at, word_at, name_at, end_at, after_semicolon}
use Rattle.statement.specs.Literal.{number_at, literal_at, digits_at}
use Rattle.statement.specs.Condition.{table_of, table_name_at, operator_at}
use Rattle.statement.specs.Statement.{instant_at}
use Rattle.statement.specs.Grammar.{Piece, ◌⋯◌, ◌∣◌, Empty, Blanks, Symbol, Word, Name, IsNumber, IsInstant, IsOperator, IsTable, Literal, Digits}
use Rattle.tokens.proofs.TokenFollows.{is_plain_word, Moves}
use Rattle.tokens.proofs.TokenGoing.{Reads, Last, reads_last}
use Rattle.tokens.proofs.PlaceSame.{Texts, good_ok, good_after}
use Rattle.tokens.proofs.TokenSame.{good_symbol, good_word, good_name, good_by}
use Rattle.tokens.proofs.TokenProduction.{Gaps, Begins, Token, Production, Any, ok_then, begins_then, alike, by, optional}
use Rattle.statement.proofs.TokenGaps.{next_ends, next_is}
use Rattle.statement.proofs.GoingOnMissing.{AtNext}
use Rattle.statement.proofs.GrammarHolds.{Holds}
use Rattle.statement.proofs.GrammarStopping.{Stops}
use Rattle.statement.proofs.GrammarMoves.{word_moves, symbol_moves, name_moves, whole_number_moves, both_move, blanks_move, capped_moves, instant_moves, operator_moves, literal_moves, digits_move}
use Rattle.statement.proofs.TokenWhole.{word_whole, symbol_whole, name_whole, end_whole, symbol_refused_at_end}
use Rattle.statement.proofs.LiteralWhole.{number_whole, literal_whole, digits_whole}
use Rattle.statement.proofs.TokenSame.{Tokens, texts, good_end}
use Rattle.statement.proofs.StatementWhole.{instant_whole, operator_whole}
use Rattle.statement.proofs.TokenGoing.{word_reads, symbol_reads, name_reads, number_reads, instant_reads, operator_reads, literal_reads, digits_reads, end_reads, word_next, symbol_next, name_next, number_next, instant_next, operator_next, literal_next, digits_next, end_next}
use Rattle.statement.proofs.LiteralSame.{good_digits, number_fine, capped_fine, instant_fine, operator_fine, literal_fine}
use Rattle.statement.proofs.AlterationSize.{IsCapped, capped_reads, capped_next, capped_whole}

-- two lines that are the same up to a token and in it
pub record Parting : Type 0 where
  pub first : ℕ
  pub rest : List ℕ
  pub other : List ℕ
  pub tokens : Tokens first rest other
  pub no_minus : (first == 45) ≡ false
  pub no_quote : (first == 39) ≡ false

abbrev pub texts_of : Parting → Texts
texts_of s = texts s.first s.rest s.other s.tokens

-- blanks are between the tokens of a line
abbrev pub gaps : Gaps
gaps = record { Starts = Ends is_blank; Parting = Parting; texts_of = texts_of }

-- ---- what a production's laws say of its reader

sound_by : {A : Type 0} {P : A → Piece} {bytes : List ℕ} (r : Read A) → Reads P bytes r → Holds r (λ x rest. P x bytes rest)
sound_by (Ok x) s = record { it = s.it }
sound_by (Err at) s = record { it = tt }

stops_by : {A : Type 0} {P : A → Piece} {bytes : List ℕ} (r : Read A) → ((x : A) → Moves (P x)) → Reads P bytes r → Begins gaps r → Stops bytes r
stops_by {bytes = bytes} (Ok x) moves s b = let a = moves x.0 bytes x.1 s.it in record { it = record { front = a.taken; place = a.place } }
stops_by (Err at) moves s b = record { it = record { ended = record { front = (s.it).front; place = (s.it).place }; begins = b.it } }

module _ {A : Type 0} {P : A → Piece} {C : List ℕ → Type 0} {R : List ℕ → Read A} where
  pub sound : Production gaps P C R → (bytes : List ℕ) → Holds (R bytes) (λ x rest. P x bytes rest)
  sound p bytes = sound_by (R bytes) (p.reads bytes)

  pub stops : Production gaps P C R → (bytes : List ℕ) → Stops bytes (R bytes)
  stops p bytes = stops_by (R bytes) p.moves (p.reads bytes) (p.begins bytes)

-- ---- tokens

begins_next : {X : Type 0} {bytes : List ℕ} (r : Result X (List ℕ)) → AtNext bytes r → Begins gaps r
begins_next (Ok x) n = record { it = tt }
begins_next {bytes = bytes} (Err at) n = record { it = subst (Ends is_blank) (sym n.it) (next_ends bytes) }

-- a word of letters
abbrev pub is_some_word : List ℕ → Bool
is_some_word w = is_plain_word w && nat_lt 0 (length w)

some_letters : (w : List ℕ) → nat_lt 0 (length w) ≡ true → 0 < length w
some_letters w is = grind (arith, nat_tests)

pub word : (w : List ℕ) → is_some_word w ≡ true → Token gaps (Word w) (word_at w)
word w is =
    let both = and_parts (is_plain_word w) (nat_lt 0 (length w)) is in
    record {
      moves = word_moves w;
      reads = word_reads w both.0;
      begins = λ bytes. begins_next (word_at w bytes) (word_next w bytes);
      whole = word_whole w (some_letters w both.1);
      same = λ s. good_word (texts_of s) w;
    }

pub symbol : (c : ℕ) → is_blank c ≡ false → Token gaps (Symbol c) (symbol_at c)
symbol c no_blank = record {
  moves = symbol_moves c;
  reads = symbol_reads c;
  begins = λ bytes. begins_next (symbol_at c bytes) (symbol_next c bytes);
  whole = symbol_whole c no_blank;
  same = λ s. good_symbol (texts_of s) c;
}

pub name : Production gaps Name Any name_at
name = record {
  moves = name_moves;
  reads = name_reads;
  begins = λ bytes. begins_next (name_at bytes) (name_next bytes);
  whole = λ x bytes rest is c. name_whole x bytes rest is;
  same = λ s. good_name (texts_of s);
}

pub number : Production gaps IsNumber Any number_at
number = record {
  moves = whole_number_moves;
  reads = number_reads;
  begins = λ bytes. begins_next (number_at bytes) (number_next bytes);
  whole = λ x bytes rest is c. number_whole x bytes rest is;
  same = λ s. number_fine s.first s.rest s.other s.tokens s.no_minus s.no_quote;
}

pub instant : Production gaps IsInstant Any instant_at
instant = record {
  moves = instant_moves;
  reads = instant_reads;
  begins = λ bytes. begins_next (instant_at bytes) (instant_next bytes);
  whole = λ x bytes rest is c. instant_whole x bytes rest is;
  same = λ s. instant_fine s.first s.rest s.other s.tokens s.no_minus s.no_quote;
}

pub session : Production gaps (λ n. Blanks ⋯ Digits (2 ^ 63 - 1) n) Any (digits_at (2 ^ 63 - 1))
session = record {
  moves = λ n. both_move blanks_move (digits_move (2 ^ 63 - 1) n);
  reads = digits_reads (2 ^ 63 - 1) (lit≤ tt);
  begins = λ bytes. begins_next (digits_at (2 ^ 63 - 1) bytes) (digits_next (2 ^ 63 - 1) bytes);
  whole = λ x bytes rest is c. digits_whole (2 ^ 63 - 1) x bytes rest is;
  same = λ s. good_digits s.first s.rest s.other s.tokens s.no_minus s.no_quote (2 ^ 63 - 1);
}

pub operator : Production gaps IsOperator Any operator_at
operator = record {
  moves = operator_moves;
  reads = operator_reads;
  begins = λ bytes. begins_next (operator_at bytes) (operator_next bytes);
  whole = λ x bytes rest is c. operator_whole x bytes rest is;
  same = λ s. operator_fine s.first s.rest s.other s.tokens s.no_minus s.no_quote;
}

pub literal : Production gaps Literal Any literal_at
literal = record {
  moves = literal_moves;
  reads = literal_reads;
  begins = λ bytes. begins_next (literal_at bytes) (literal_next bytes);
  whole = λ x bytes rest is c. literal_whole x bytes rest is;
  same = λ s. literal_fine s.first s.rest s.other s.tokens s.no_minus s.no_quote;
}

pub capped : Production gaps IsCapped Any (capped_at next)
capped = record {
  moves = λ n. both_move blanks_move (capped_moves n);
  reads = capped_reads;
  begins = λ bytes. begins_next (capped_at next bytes) (capped_next bytes);
  whole = λ x bytes rest is c. capped_whole x bytes rest is;
  same = λ s. capped_fine s.first s.rest s.other s.tokens s.no_minus s.no_quote;
}

-- what a name stands for
abbrev pub Named : {A : Type 0} → (List ℕ → A) → A → Piece
Named f x bytes rest = (name : List ℕ) × (Name name bytes rest × (f name ≡ x))

pub named : {A : Type 0} (f : List ℕ → A) → Production gaps (Named f) Any (λ bytes. name_at bytes >>= λ x. Ok (f x.0, x.1))
named f = alike (λ x bytes rest is. (is.0, (is.1.1, sym is.1.0))) (λ x bytes rest is. (is.0, (sym is.1.1, is.1.0))) (by f name)

module _ (schema : Schema) where
  pub table : Production gaps (IsTable schema) Any (table_name_at schema)
  unfolding table_name_at
  table = named (table_of schema)

-- ---- the end of a line, with a semicolon or without one

abbrev pub AtEnd : List ℕ → Type 0
AtEnd rest = rest ≡ []

pub stop : {B : Type 0} (v : B) → Production gaps (Last v Blanks) AtEnd (λ bytes. end_at bytes >>= λ rest. Ok (v, rest))
stop v = record {
  moves = λ y bytes rest is. let a = blanks_move bytes rest is.1 in record { taken = a.taken; place = a.place; stays = λ other follows. (is.0, a.stays other follows) };
  reads = λ bytes. reads_last v (end_at bytes) (end_reads bytes);
  begins = λ bytes. begins_then (end_at bytes) _ (begins_next _ (end_next bytes)) (λ x. record { it = tt });
  whole = λ y bytes rest is at_end. ok_then _ _ (end_whole bytes (subst (λ (l : List ℕ). Blanks bytes l) at_end is.1) ∙ (λ k. Ok (sym at_end k))) (λ k. Ok (sym is.0 k, rest));
  same = λ s. good_after (texts_of s) end_at (λ rest. Ok (v, rest)) (good_by (texts_of s) end_at (good_end s.first s.rest s.other s.tokens)) (good_ok (texts_of s) v);
}

abbrev pub End : Piece
End = (Empty ∣ Symbol 59) ⋯ Blanks

pub end : {B : Type 0} (v : B) → Production gaps (Last v End) AtEnd (λ bytes. end_at (after_semicolon bytes) >>= λ rest. Ok (v, rest))
end v =
    alike (λ y bytes rest n. ((n.second).0, (n.between, (n.first, (n.second).1)))) (λ y bytes rest is. record { between = is.1.0; first = is.1.1.0; second = (is.0, is.1.1.1) })
    (optional (symbol 59 refl) (λ y bytes rest is at_end. symbol_refused_at_end 59 bytes (next_is (subst (λ (l : List ℕ). Blanks bytes l) at_end is.1) tt)) (stop v))

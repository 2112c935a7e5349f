-- What does not stand where something else does: other words, other symbols, words where a name or a symbol is.
use Rattle.std.proofs.Common.{◌≡◌, ℕ, ◌<◌, List, [], ◌∷◌, ◌++◌, ◌==◌, ◌&&◌, ◌||◌, Bool, true, false, Ok, Err, length, take, drop, cond, refl, sym, ap, ◌∙◌, arith, if◌then◌else◌}
use Rattle.std.specs.Prelude.{not, codes, nat_le, ◌+◌}
use Rattle.std.specs.List.{list_any}
use Rattle.std.specs.Char.{is_ascii_digit}
use Rattle.std.proofs.lemmas.Bool.{and_parts}
use Rattle.values.specs.Names.{same_name}
use Rattle.tokens.specs.Token.{After, prefix_while}
use Rattle.tokens.specs.Token.{symbol_at as symbol_after}
use Rattle.tokens.specs.Word.{is_name_byte, word_length}
use Rattle.tokens.specs.Word.{is_word_at as is_word_after}
use Rattle.tokens.specs.Name.{is_name, reserved_words, is_reserved, longest_name}
use Rattle.tokens.specs.Run.{AllBytes}
use Rattle.tokens.proofs.WordCases.{Refused, some_written, none_same, same_length}
use Rattle.rows.specs.SchemaToken.{symbol_at, is_word_at}
use Rattle.rows.specs.SchemaGrammar.{Symbol, Word, Name}
use Rattle.rows.proofs.SchemaRead.{next_reads, front_of}

-- no name is a word of the grammars
any_behind : (p : List ℕ → Bool) (front rest : List (List ℕ)) → list_any p rest ≡ true → list_any p (front ++ rest) ≡ true
any_behind p [] rest e = e
any_behind p (x ∷ front) rest e = one (p x) (any_behind p front rest e)
  where
    one : (t : Bool) → list_any p (front ++ rest) ≡ true → (t || list_any p (front ++ rest)) ≡ true
    one true h = refl
    one false h = h

not_reserved : (name : List ℕ) → is_name name ≡ true → is_reserved name ≡ false
unfolding is_name
not_reserved [] e = cc
not_reserved (b ∷ bs) e =
    flipped (is_reserved (b ∷ bs)) (and_parts (not (is_ascii_digit b) && nat_le (length (b ∷ bs)) longest_name) (not (is_reserved (b ∷ bs))) e).1
  where
    flipped : (t : Bool) → not t ≡ true → t ≡ false
    flipped true e = sym e
    flipped false e = refl

-- where a name stands, a word of the grammars does not
pub word_no_name : (front rest : List (List ℕ)) (word : List ℕ) → reserved_words ≡ front ++ word ∷ rest → (name bytes after : List ℕ) → Name name bytes after → is_word_at word bytes ≡ false
unfolding is_reserved is_word_after
word_no_name front rest word place name bytes after n = by_test (is_word_at word bytes) refl
  where
    is_it : is_word_at word bytes ≡ true → is_reserved name ≡ true
    is_it e =
        let first : same_name word name ≡ true = sym (ap (same_name word) (front_of name bytes after n.letters)) ∙ e in
        ap (list_any (λ word. same_name word name)) place
        ∙ any_behind (λ word. same_name word name) front (word ∷ rest) (ap (λ t. t || list_any (λ word. same_name word name) rest) first)

    by_test : (t : Bool) → is_word_at word bytes ≡ t → t ≡ false
    by_test false e = refl
    by_test true e = sym (is_it e) ∙ not_reserved name n.fits

pub period_no_name : (name bytes after : List ℕ) → Name name bytes after → is_word_at (codes "PERIOD") bytes ≡ false
unfolding reserved_words
period_no_name = word_no_name (take 30 reserved_words) (drop 31 reserved_words) (codes "PERIOD") refl

pub system_time_no_name : (name bytes after : List ℕ) → Name name bytes after → is_word_at (codes "SYSTEM_TIME") bytes ≡ false
unfolding reserved_words
system_time_no_name = word_no_name (take 40 reserved_words) (drop 41 reserved_words) (codes "SYSTEM_TIME") refl

pub primary_no_name : (name bytes after : List ℕ) → Name name bytes after → is_word_at (codes "PRIMARY") bytes ≡ false
unfolding reserved_words
primary_no_name = word_no_name (take 32 reserved_words) (drop 33 reserved_words) (codes "PRIMARY") refl

-- no word stands at a symbol, no symbol at a word, and no symbol at another
pub no_word_at_symbol : (w : ℕ) (ws : List ℕ) (symbol : ℕ) → is_name_byte symbol ≡ false → (x : Unit {0}) (bytes rest : List ℕ) → Symbol symbol x bytes rest → is_word_at (w ∷ ws) bytes ≡ false
unfolding is_word_after
no_word_at_symbol w ws symbol none x bytes rest s =
    ap (λ at. same_name (w ∷ ws) (prefix_while is_name_byte at)) (next_reads bytes (symbol ∷ rest) s.next)
    ∙ ap (λ t. same_name (w ∷ ws) (take (cond t (1 + word_length rest) 0) (symbol ∷ rest))) none
    ∙ none_same (w ∷ ws) (omega arith)

abbrev found : ℕ → List ℕ → After
found symbol at = elim at [ [] ↦ Err [] | b ∷ bs ↦ if b == symbol then Ok bs else Err (b ∷ bs) ]

pub no_symbol_at_symbol : (s t : ℕ) → (t == s) ≡ false → (x : Unit {0}) (bytes rest : List ℕ) → Symbol t x bytes rest → Refused (symbol_at s bytes)
unfolding symbol_after
no_symbol_at_symbol s t other x bytes rest is = record {
  at = t ∷ rest;
  is = ap (found s) (next_reads bytes (t ∷ rest) is.next) ∙ ap (λ u. if u then Ok rest else Err (t ∷ rest)) other;
}

other_byte : (b s : ℕ) → is_name_byte b ≡ true → is_name_byte s ≡ false → (b == s) ≡ false
other_byte b s is none = by_test (b == s) refl
  where
    by_test : (t : Bool) → (b == s) ≡ t → t ≡ false
    by_test false e = refl
    by_test true e = sym is ∙ ap is_name_byte (same_length b s e) ∙ none

pub no_symbol_at_word : (symbol : ℕ) → is_name_byte symbol ≡ false → (word : List ℕ) → 0 < length word → (x : Unit {0}) (bytes rest : List ℕ) → Word word x bytes rest → Refused (symbol_at symbol bytes)
unfolding symbol_after
no_symbol_at_word symbol none word some x bytes rest w = record {
  at = w.name ++ rest;
  is = ap (found symbol) (next_reads bytes (w.name ++ rest) w.letters.next) ∙ first w.name (some_written word w.name some w.spelled) w.letters.are_letters;
}
  where
    first : (name : List ℕ) → 0 < length name → AllBytes is_name_byte name → found symbol (name ++ rest) ≡ Err (name ++ rest)
    first [] h all = absurd (omega arith)
    first (b ∷ bs) h all = ap (λ t. if t then Ok (bs ++ rest) else Err (b ∷ (bs ++ rest))) (other_byte b symbol all.0 none)

-- What is read is of the grammar.
use Rattle.std.proofs.Common.{◌≡◌, ℕ, Bool, true, false, List, [], ◌∷◌, take, drop, Ok, Err, refl, ap, arith}
use Rattle.std.specs.Prelude.{◌==◌, if◌then◌else◌}
use Rattle.std.proofs.lemmas.Bool.Decides.{nat_tests}
use Rattle.values.specs.Names.{same_name}
use Rattle.tokens.specs.Token.{symbol_at as symbol_after}
use Rattle.tokens.specs.Word.{is_word_at as is_word_after, after_word as rest_of_word, word_at as word_after}
use Rattle.tokens.specs.Name.{name_at as name_after}
use Rattle.statement.specs.Token.{next, symbol_at}
use Rattle.tokens.specs.Word.{is_name_byte, word_length}
use Rattle.statement.specs.Token.{word_at, name_at}
use Rattle.tokens.specs.Name.{is_name}
use Rattle.statement.specs.Grammar.{Blanks, Symbol, Word, Name}
use Rattle.tokens.proofs.RunRead.{run_of}
use Rattle.statement.proofs.TokenGaps.{blanks_before}
use Rattle.statement.proofs.GrammarHolds.{Holds, Leaves}

pub same_byte : (a b : ℕ) → (a == b) ≡ true → a ≡ b
same_byte a b e = grind (arith, nat_tests)

symbol_found : (symbol : ℕ) (bytes at : List ℕ) → Blanks bytes at → Leaves (elim at [ [] ↦ Err [] | b ∷ bs ↦ if b == symbol then Ok bs else Err (b ∷ bs) ]) (λ rest. Symbol symbol bytes rest)
symbol_found symbol bytes [] blanks = record { it = tt }
symbol_found symbol bytes (b ∷ bs) blanks = by_test (b == symbol) refl
  where
    by_test : (t : Bool) → (b == symbol) ≡ t → Leaves (if t then Ok bs else Err (b ∷ bs)) (λ rest. Symbol symbol bytes rest)
    by_test true is = record { it = (b ∷ bs, (blanks, ap (λ (c : ℕ). c ∷ bs) (same_byte b symbol is))) }
    by_test false is = record { it = tt }

pub symbol_sound : (symbol : ℕ) (bytes : List ℕ) → Leaves (symbol_at symbol bytes) (λ rest. Symbol symbol bytes rest)
unfolding symbol_after
symbol_sound symbol bytes = symbol_found symbol bytes (next bytes) (blanks_before bytes)

chosen_after : {P : List ℕ → Type 0} (t : Bool) (rest at : List ℕ) → (t ≡ true → P rest) → Leaves (if t then Ok rest else Err at) P
chosen_after true rest at h = record { it = h refl }
chosen_after false rest at h = record { it = tt }

chosen : {A : Type 0} {P : A → List ℕ → Type 0} (t : Bool) (x : A) (rest at : List ℕ) → (t ≡ true → P x rest) → Holds (if t then Ok (x, rest) else Err at) P
chosen true x rest at h = record { it = h refl }
chosen false x rest at h = record { it = tt }

pub word_sound : (word bytes : List ℕ) → Leaves (word_at word bytes) (λ rest. Word word bytes rest)
unfolding is_word_after rest_of_word word_after
word_sound word bytes =
    let at = next bytes in
    chosen_after (same_name word (take (word_length at) at)) (drop (word_length at) at) at
    (λ is. (at, (blanks_before bytes, (take (word_length at) at, (run_of is_name_byte at, is)))))

pub name_sound : (bytes : List ℕ) → Holds (name_at bytes) (λ name rest. Name name bytes rest)
unfolding name_after
name_sound bytes =
    let at = next bytes in
    chosen (is_name (take (word_length at) at)) (take (word_length at) at) (drop (word_length at) at) at
    (λ is. (at, (blanks_before bytes, (run_of is_name_byte at, is))))

-- What is read is of the grammar: tokens.
use Rattle.std.proofs.Common.{◌≡◌, ℕ, ◌≤◌, List, [], ◌∷◌, ◌++◌, ◌==◌, ◌&&◌, ◌⊎◌, inl, inr, Bool, true, false, Ok, Err, length, refl, sym, subst, ap, ◌∙◌, arith, if◌then◌else◌}
use Rattle.std.specs.Prelude.{Result, not}
use Rattle.std.specs.List.{prefix_len}
use Rattle.std.proofs.lemmas.List.{take-append-drop}
use Rattle.std.proofs.lemmas.List.Folds.{length-prefix_len}
use Rattle.std.proofs.lemmas.Bool.Decides.{nat_tests}
use Rattle.std.specs.Char.{is_ascii_digit}
use Rattle.tokens.specs.Token.{prefix_while, skip_while}
use Rattle.tokens.specs.Token.{symbol_at as symbol_after}
use Rattle.tokens.specs.Word.{is_name_byte}
use Rattle.tokens.specs.Word.{is_word_at as is_word_after, after_word as rest_of_word, word_at as word_after}
use Rattle.tokens.specs.Name.{is_name}
use Rattle.tokens.specs.Name.{name_at as name_after}
use Rattle.tokens.specs.Run.{AllBytes}
use Rattle.tokens.proofs.RunRead.{front_passes, rest_ends}
use Rattle.rows.specs.SchemaToken.{is_separator, token_from, next, symbol_at, is_word_at, after_word, word_at, name_at, number_from, digits_at}
use Rattle.rows.specs.SchemaGrammar.{is_on_the_line, Piece, blank, comment, last_comment, Gap, BeginsToken, IsNext, Symbol, Letters, Word, Name, Digits}

equal : (a b : ℕ) → (a == b) ≡ true → a ≡ b
equal a b e = grind (arith, nat_tests)

-- a comment from within it: to the end of its line and on, or to the end of the text
record Line (bytes at : List ℕ) : Type 0 where
  text : List ℕ
  more : List ℕ
  gap : List Piece
  is_line : bytes ≡ text ++ 10 ∷ more
  on_line : AllBytes is_on_the_line text
  goes_on : Gap gap more at

record LastLine (bytes at : List ℕ) : Type 0 where
  on_last : AllBytes is_on_the_line bytes
  nothing : at ≡ []

abbrev Comment : List ℕ → List ℕ → Type 0
Comment bytes at = Line bytes at ⊎ LastLine bytes at

longer : (b : ℕ) (bs at : List ℕ) → is_on_the_line b ≡ true → Comment bs at → Comment (b ∷ bs) at
longer b bs at e (inl l) = inl (record { text = b ∷ l.text; more = l.more; gap = l.gap; is_line = ap (λ r. b ∷ r) l.is_line; on_line = (e, l.on_line); goes_on = l.goes_on })
longer b bs at e (inr l) = inr (record { on_last = (e, l.on_last); nothing = l.nothing })

abbrev Skipped : List ℕ → List ℕ → Type 0
Skipped bytes at = (gap : List Piece) × Gap gap bytes at

in_comment : (c : ℕ) (cs at : List ℕ) (b : ℕ) → b ≡ 45 → c ≡ 45 → Comment cs at → Skipped (b ∷ c ∷ cs) at
in_comment c cs at b d e (inl l) =
    (comment l.text ∷ l.gap, (l.more, (ap (λ n. n ∷ c ∷ cs) d ∙ ap (λ n. 45 ∷ n ∷ cs) e ∙ ap (λ r. 45 ∷ 45 ∷ r) l.is_line, (l.on_line, l.goes_on))))
in_comment c cs at b d e (inr l) = (last_comment cs ∷ [], (ap (λ n. n ∷ c ∷ cs) d ∙ ap (λ n. 45 ∷ n ∷ cs) e, (l.on_last, l.nothing)))

abbrev Reached : Bool → List ℕ → Type 0
Reached true bytes = Comment bytes (token_from true bytes)
Reached false bytes = Skipped bytes (token_from false bytes)

comment_step : (b : ℕ) (bs : List ℕ) (t : Bool) → (b == 10) ≡ t → Reached true bs → Reached false bs → Comment (b ∷ bs) (token_from (not t) bs)
comment_step b bs true e within out = inl (record { text = []; more = bs; gap = out.0; is_line = ap (λ n. n ∷ bs) (equal b 10 e); on_line = tt; goes_on = out.1 })
comment_step b bs false e within out = longer b bs (token_from true bs) (ap not e) within

token_step : (b c : ℕ) (cs : List ℕ) (s h k : Bool) → is_separator b ≡ s → (b == 45) ≡ h → (c == 45) ≡ k
    → Skipped (c ∷ cs) (token_from false (c ∷ cs)) → Reached true cs
    → Skipped (b ∷ c ∷ cs) (if s then token_from false (c ∷ cs) else if h && k then token_from true (c ∷ cs) else b ∷ c ∷ cs)
token_step b c cs true h k p q r out within = (blank b ∷ out.0, (c ∷ cs, (refl, (p, out.1))))
token_step b c cs false true true p q r out within =
    let at : token_from true cs ≡ token_from true (c ∷ cs) = ap (λ n. token_from (not (n == 10)) cs) (sym (equal c 45 r)) in
    in_comment c cs (token_from true (c ∷ cs)) b (equal b 45 q) (equal c 45 r) (subst (λ a. Comment cs a) at within)
token_step b c cs false true false p q r out within = ([], refl)
token_step b c cs false false k p q r out within = ([], refl)

last_step : (b : ℕ) (s h : Bool) → is_separator b ≡ s → Skipped (b ∷ []) (if s then [] else if h && false then [] else b ∷ [])
last_step b true h p = (blank b ∷ [], ([], (refl, (p, refl))))
last_step b false true p = ([], refl)
last_step b false false p = ([], refl)

reached : (in_comment : Bool) (bytes : List ℕ) → Reached in_comment bytes
reached true [] = inr (record { on_last = tt; nothing = refl })
reached false [] = ([], refl)
reached true (b ∷ bs) = comment_step b bs (b == 10) refl (reached true bs) (reached false bs)
reached false (b ∷ []) = last_step b (is_separator b) (b == 45) refl
reached false (b ∷ c ∷ cs) = token_step b c cs (is_separator b) (b == 45) (c == 45) refl refl refl (reached false (c ∷ cs)) (reached true cs)

-- no separator and no comment comes first
begun : (b c : ℕ) (cs : List ℕ) (s h k : Bool) → is_separator b ≡ s → (b == 45) ≡ h → (c == 45) ≡ k → BeginsToken (token_from false (c ∷ cs)) → BeginsToken (token_from true (c ∷ cs))
    → BeginsToken (if s then token_from false (c ∷ cs) else if h && k then token_from true (c ∷ cs) else b ∷ c ∷ cs)
begun b c cs true h k p q r out within = out
begun b c cs false true true p q r out within = within
begun b c cs false true false p q r out within = (p, λ d e. no c e r)
  where
    no : (c : ℕ) → c ≡ 45 → (c == 45) ≡ false → ⊥
    no c e r = grind (arith, nat_tests)
begun b c cs false false k p q r out within = (p, λ d e. no b d q)
  where
    no : (b : ℕ) → b ≡ 45 → (b == 45) ≡ false → ⊥
    no b e r = grind (arith, nat_tests)

begun_last : (b : ℕ) (s h : Bool) → is_separator b ≡ s → BeginsToken (if s then [] else if h && false then [] else b ∷ [])
begun_last b true h p = tt
begun_last b false true p = p
begun_last b false false p = p

begun_line : (t : Bool) (bs : List ℕ) → BeginsToken (token_from false bs) → BeginsToken (token_from true bs) → BeginsToken (token_from (not t) bs)
begun_line true bs out within = out
begun_line false bs out within = within

begins : (in_comment : Bool) (bytes : List ℕ) → BeginsToken (token_from in_comment bytes)
begins true [] = tt
begins false [] = tt
begins true (b ∷ bs) = begun_line (b == 10) bs (begins false bs) (begins true bs)
begins false (b ∷ []) = begun_last b (is_separator b) (b == 45) refl
begins false (b ∷ c ∷ cs) = begun b c cs (is_separator b) (b == 45) (c == 45) refl refl refl (begins false (c ∷ cs)) (begins true (c ∷ cs))

pub next_is : (bytes at : List ℕ) → next bytes ≡ at → IsNext bytes at
next_is bytes at e = subst (λ a. IsNext bytes a) e (record { gap = (reached false bytes).0; skipped = (reached false bytes).1; begins = begins false bytes })

-- letters and digits at the front, as many as come
pub front-skip : (p : ℕ → Bool) (bs : List ℕ) → prefix_while p bs ++ skip_while p bs ≡ bs
front-skip p bs = take-append-drop (prefix_len p bs) bs

letters_at : (bytes : List ℕ) → Letters (prefix_while is_name_byte (next bytes)) bytes (skip_while is_name_byte (next bytes))
letters_at bytes = record {
  next = next_is bytes _ (sym (front-skip is_name_byte (next bytes)));
  are_letters = front_passes is_name_byte (next bytes);
  as_many = rest_ends is_name_byte (next bytes);
}

-- ---- what is read at the next token: it, or the bytes from it on

abbrev IsFound : {X : Type 0} → (X → Type 0) → List ℕ → Result X (List ℕ) → Type 0
IsFound Q bytes (Ok x) = Q x
IsFound Q bytes (Err at) = at ≡ next bytes

pub record Found {X : Type 0} (Q : X → Type 0) (bytes : List ℕ) (r : Result X (List ℕ)) : Type 0 where
  pub it : IsFound Q bytes r

pub said : {X : Type 0} {Q : X → Type 0} {bytes : List ℕ} (r : Result X (List ℕ)) (x : X) → Found Q bytes r → r ≡ Ok x → Q x
said {Q = Q} {bytes = bytes} r x f is = let g : Found Q bytes (Ok x) = subst (Found Q bytes) is f in g.it

pub symbol_found : (symbol : ℕ) (bytes : List ℕ) → Found (Symbol symbol tt bytes) bytes (symbol_at symbol bytes)
unfolding symbol_after
symbol_found symbol bytes = by_next (next bytes) refl
  where
    by_byte : (b : ℕ) (bs : List ℕ) (t : Bool) → (b == symbol) ≡ t → next bytes ≡ b ∷ bs → Found {X = List ℕ} (Symbol symbol tt bytes) bytes (if t then Ok bs else Err (b ∷ bs))
    by_byte b bs true is at = record { it = record { next = next_is bytes (symbol ∷ bs) (at ∙ ap (λ n. n ∷ bs) (equal b symbol is)) } }
    by_byte b bs false is at = record { it = sym at }

    by_next : (at : List ℕ) → next bytes ≡ at → Found {X = List ℕ} (Symbol symbol tt bytes) bytes (elim at [ [] ↦ Err [] | b ∷ bs ↦ if b == symbol then Ok bs else Err (b ∷ bs) ])
    by_next [] at = record { it = sym at }
    by_next (b ∷ bs) at = by_byte b bs (b == symbol) refl at

pub word_next : (word bytes : List ℕ) → is_word_at word bytes ≡ true → Word word tt bytes (after_word bytes)
unfolding is_word_after rest_of_word
word_next word bytes e = record { name = prefix_while is_name_byte (next bytes); letters = letters_at bytes; spelled = e }

pub word_found : (word bytes : List ℕ) → Found (Word word tt bytes) bytes (word_at word bytes)
unfolding word_after
word_found word bytes = by_test (is_word_at word bytes) refl
  where
    by_test : (t : Bool) → is_word_at word bytes ≡ t → Found {X = List ℕ} (Word word tt bytes) bytes (if t then Ok (after_word bytes) else Err (next bytes))
    by_test true is = record { it = word_next word bytes is }
    by_test false is = record { it = refl }

pub name_found : (bytes : List ℕ) → Found (λ x. Name x.0 bytes x.1) bytes (name_at bytes)
unfolding name_after
name_found bytes = by_test (is_name (prefix_while is_name_byte (next bytes))) refl
  where
    by_test : (t : Bool) → is_name (prefix_while is_name_byte (next bytes)) ≡ t
        → Found {X = List ℕ × List ℕ} (λ x. Name x.0 bytes x.1) bytes (if t then Ok (prefix_while is_name_byte (next bytes), skip_while is_name_byte (next bytes)) else Err (next bytes))
    by_test true is = record { it = record { letters = letters_at bytes; fits = is } }
    by_test false is = record { it = refl }

some_digits : (bs : List ℕ) → (prefix_len is_ascii_digit bs == 0) ≡ false → 1 ≤ length (prefix_while is_ascii_digit bs)
some_digits bs is = let e = length-prefix_len is_ascii_digit bs in grind (arith, nat_tests, e)

pub digits_found : (bytes : List ℕ) → Found (λ x. Digits x.0 bytes x.1) bytes (digits_at bytes)
unfolding digits_at
digits_found bytes = by_test (prefix_len is_ascii_digit (next bytes) == 0) refl
  where
    by_test : (t : Bool) → (prefix_len is_ascii_digit (next bytes) == 0) ≡ t
        → Found {X = ℕ × List ℕ} (λ x. Digits x.0 bytes x.1) bytes (if t then Err (next bytes) else Ok (number_from 0 (prefix_while is_ascii_digit (next bytes)), skip_while is_ascii_digit (next bytes)))
    by_test true is = record { it = refl }
    by_test false is = record {
      it = record {
        digits = prefix_while is_ascii_digit (next bytes);
        next = next_is bytes _ (sym (front-skip is_ascii_digit (next bytes)));
        some = some_digits (next bytes) is;
        are_digits = front_passes is_ascii_digit (next bytes);
        as_many = rest_ends is_ascii_digit (next bytes);
        number = refl;
      };
    }

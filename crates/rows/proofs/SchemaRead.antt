-- What is of the grammar is read: tokens.
use Rattle.std.proofs.Common.{◌≡◌, ℕ, ◌≤◌, List, [], ◌∷◌, ◌++◌, ◌==◌, ◌&&◌, Bool, true, false, Ok, Err, length, refl, sym, ap, ◌∙◌, arith, if◌then◌else◌}
use Rattle.std.proofs.lemmas.Bool.Decides.{nat_tests}
use Rattle.std.specs.Char.{is_ascii_digit}
use Rattle.values.specs.Names.{same_name}
use Rattle.tokens.specs.Token.{After, prefix_while, skip_while}
use Rattle.tokens.specs.Token.{symbol_at as symbol_after}
use Rattle.tokens.specs.Word.{is_name_byte}
use Rattle.tokens.specs.Word.{is_word_at as is_word_after, after_word as rest_of_word, word_at as word_after}
use Rattle.tokens.specs.Name.{is_name}
use Rattle.tokens.specs.Name.{name_at as name_after}
use Rattle.tokens.specs.Run.{AllBytes, Ends, Run}
use Rattle.tokens.proofs.RunRead.{length_of, run_taken, run_left}
use Rattle.rows.specs.SchemaToken.{is_separator, begins_with_hyphen, token_from, next, symbol_at, is_word_at, after_word, word_at, name_at, number_from, digits_at}
use Rattle.rows.specs.SchemaGrammar.{is_on_the_line, Piece, blank, comment, last_comment, Gap, BeginsToken, IsNext, Symbol, Letters, Word, Name, Digits}

same : (a b : ℕ) → a ≡ b → (a == b) ≡ true
same a b e = grind (arith, nat_tests)

-- a token that begins is not passed over
pub at_token : (at : List ℕ) → BeginsToken at → next at ≡ at
at_token [] h = refl
at_token (b ∷ []) h = ap (λ s. if s then [] else if (b == 45) && false then [] else b ∷ []) h ∙ alone (b == 45)
  where
    alone : (t : Bool) → ◌≡◌ {A = List ℕ} (if t && false then [] else b ∷ []) (b ∷ [])
    alone true = refl
    alone false = refl
at_token (b ∷ c ∷ cs) h =
    ap (λ s. if s then token_from false (c ∷ cs) else if (b == 45) && (c == 45) then token_from true (c ∷ cs) else b ∷ c ∷ cs) h.0
    ∙ apart (b == 45) (c == 45) refl refl h.1
  where
    is : (a : ℕ) → (a == 45) ≡ true → a ≡ 45
    is a e = grind (arith, nat_tests)

    apart : (s t : Bool) → (b == 45) ≡ s → (c == 45) ≡ t → (b ≡ 45 → c ≡ 45 → ⊥) → ◌≡◌ {A = List ℕ} (if s && t then token_from true (c ∷ cs) else b ∷ c ∷ cs) (b ∷ c ∷ cs)
    apart true true p q never = absurd (never (is b p) (is c q))
    apart true false p q never = refl
    apart false t p q never = refl

-- a comment is passed over up to the end of its line
line_end : (text more : List ℕ) → AllBytes is_on_the_line text → token_from true (text ++ 10 ∷ more) ≡ token_from false more
line_end [] more h = refl
line_end (b ∷ bs) more h = ap (λ t. token_from t (bs ++ 10 ∷ more)) h.0 ∙ line_end bs more h.1

last_line : (text : List ℕ) → AllBytes is_on_the_line text → token_from true text ≡ []
last_line [] h = refl
last_line (b ∷ bs) h = ap (λ t. token_from t bs) h.0 ∙ last_line bs h.1

skipped : (gap : List Piece) (bytes at : List ℕ) → Gap gap bytes at → BeginsToken at → next bytes ≡ at
skipped [] bytes at h b = ap next h ∙ at_token at b
skipped (blank c ∷ gap) bytes at (more, (spelled, (separates, others))) b =
    ap next spelled ∙ passed c more (is_separator c) refl separates ∙ skipped gap more at others b
  where
    passed : (c : ℕ) (more : List ℕ) (s : Bool) → is_separator c ≡ s → s ≡ true → next (c ∷ more) ≡ next more
    passed c more s e f = ap (λ t. if t then token_from false more else if (c == 45) && begins_with_hyphen more then token_from true more else c ∷ more) (e ∙ f)
skipped (comment text ∷ gap) bytes at (more, (spelled, (on_line, others))) b =
    ap next spelled ∙ line_end text more on_line ∙ skipped gap more at others b
skipped (last_comment text ∷ gap) bytes at (spelled, (on_line, nothing)) b = ap next spelled ∙ last_line text on_line ∙ sym nothing

pub next_reads : (bytes at : List ℕ) → IsNext bytes at → next bytes ≡ at
next_reads bytes at n = skipped n.gap bytes at n.skipped n.begins

-- as many as come
run_at : (p : ℕ → Bool) (front bytes rest : List ℕ) → AllBytes p front → Ends p rest → IsNext bytes (front ++ rest) → Run p front (next bytes) rest
run_at p front bytes rest all ends is = record { all = all; ends = ends; spelled = next_reads bytes (front ++ rest) is }

pub front_of : (name bytes rest : List ℕ) → Letters name bytes rest → prefix_while is_name_byte (next bytes) ≡ name
front_of name bytes rest l = run_taken is_name_byte (run_at is_name_byte name bytes rest l.are_letters l.as_many l.next)

pub skip_of : (name bytes rest : List ℕ) → Letters name bytes rest → skip_while is_name_byte (next bytes) ≡ rest
skip_of name bytes rest l = run_left is_name_byte (run_at is_name_byte name bytes rest l.are_letters l.as_many l.next)

pub symbol_read : (symbol : ℕ) (x : Unit {0}) (bytes rest : List ℕ) → Symbol symbol x bytes rest → symbol_at symbol bytes ≡ Ok rest
unfolding symbol_after
symbol_read symbol x bytes rest s =
    ap (λ (at : List ℕ). elim at as (λ _. After) [ [] ↦ Err [] | b ∷ bs ↦ if b == symbol then Ok bs else Err (b ∷ bs) ]) (next_reads bytes (symbol ∷ rest) s.next)
    ∙ ap (λ t. if t then Ok rest else Err (symbol ∷ rest)) (same symbol symbol refl)

pub word_is_at : (word : List ℕ) (x : Unit {0}) (bytes rest : List ℕ) → Word word x bytes rest → is_word_at word bytes ≡ true
unfolding is_word_after
word_is_at word x bytes rest w = ap (same_name word) (front_of w.name bytes rest w.letters) ∙ w.spelled

pub word_left : (word : List ℕ) (x : Unit {0}) (bytes rest : List ℕ) → Word word x bytes rest → after_word bytes ≡ rest
unfolding rest_of_word
word_left word x bytes rest w = skip_of w.name bytes rest w.letters

pub word_read : (word : List ℕ) (x : Unit {0}) (bytes rest : List ℕ) → Word word x bytes rest → word_at word bytes ≡ Ok rest
unfolding word_after
word_read word x bytes rest w =
    ap (λ t. if t then Ok (after_word bytes) else Err (next bytes)) (word_is_at word x bytes rest w) ∙ ap (λ (r : List ℕ). Ok r) (word_left word x bytes rest w)

pub name_read : (name bytes rest : List ℕ) → Name name bytes rest → name_at bytes ≡ Ok (name, rest)
unfolding name_after
name_read name bytes rest n =
    ap (λ l. if is_name l then Ok (l, skip_while is_name_byte (next bytes)) else Err (next bytes)) (front_of name bytes rest n.letters)
    ∙ ap (λ t. if t then Ok (name, skip_while is_name_byte (next bytes)) else Err (next bytes)) n.fits
    ∙ ap (λ r. Ok (name, r)) (skip_of name bytes rest n.letters)

not_none : (n : ℕ) → 1 ≤ n → (n == 0) ≡ false
not_none n some = grind (arith, nat_tests)

pub digits_read : (n : ℕ) (bytes rest : List ℕ) → Digits n bytes rest → digits_at bytes ≡ Ok (n, rest)
unfolding digits_at
digits_read n bytes rest d =
    let run = run_at is_ascii_digit d.digits bytes rest d.are_digits d.as_many d.next in
    let left = skip_while is_ascii_digit (next bytes) in
    ap (λ t. if t then Err (next bytes) else Ok (number_from 0 (prefix_while is_ascii_digit (next bytes)), left))
    (ap (λ (c : ℕ). c == 0) (length_of is_ascii_digit run) ∙ not_none (length d.digits) d.some)
    ∙ ap (λ ds. Ok (number_from 0 ds, left)) (run_taken is_ascii_digit run)
    ∙ ap (λ m. Ok (m, left)) d.number
    ∙ ap (λ r. Ok (n, r)) (run_left is_ascii_digit run)

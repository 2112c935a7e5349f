-- What is of the grammar is read: tokens.
use Rattle.std.proofs.Common.{◌≡◌, ◌<◌, ◌+◌, ℕ, Bool, true, false, List, [], ◌∷◌, ◌++◌, length, take, drop, Ok, Err, cond, refl, ap, sym, ◌∙◌, subst, arith}
use Rattle.std.specs.Prelude.{◌==◌, if◌then◌else◌}
use Rattle.std.specs.List.{prefix_len}
use Rattle.std.proofs.lemmas.Bool.Decides.{nat_tests}
use Rattle.values.specs.Names.{same_name}
use Rattle.tokens.specs.Token.{symbol_at as symbol_after}
use Rattle.tokens.specs.Word.{is_word_at as is_word_after, after_word as rest_of_word, word_at as word_after}
use Rattle.tokens.specs.Name.{name_at as name_after}
use Rattle.tokens.proofs.WordCases.{Refused, same_number, some_written, none_same, same_length, not_same}
use Rattle.tokens.specs.Token.{After}
use Rattle.statement.specs.Token.{is_blank, next, symbol_at}
use Rattle.tokens.specs.Word.{is_name_byte, word_length}
use Rattle.statement.specs.Token.{word_at, name_at, end_at}
use Rattle.tokens.specs.Name.{is_name}
use Rattle.tokens.specs.Run.{AllBytes, Ends, Run}
use Rattle.statement.specs.Grammar.{Blanks, Symbol, Word, Name}
use Rattle.statement.proofs.TokenGaps.{next_is}
use Rattle.tokens.proofs.RunRead.{run_taken, run_left}

name_byte_is_no_blank : (b : ℕ) → is_name_byte b ≡ true → is_blank b ≡ false
name_byte_is_no_blank b is = grind (arith, nat_tests)

not_blank : (written rest : List ℕ) → 0 < length written → AllBytes is_name_byte written → Ends is_blank (written ++ rest)
not_blank [] rest some all = absurd (omega arith)
not_blank (b ∷ bs) rest some all = name_byte_is_no_blank b all.0

-- the token at the front, by its bytes and what follows it
pub next_run : {written rest : List ℕ} (bytes at : List ℕ) → Blanks bytes at → Run is_name_byte written at rest → 0 < length written → next bytes ≡ at
next_run {written} {rest} bytes at blanks run some = next_is blanks (subst (Ends is_blank) (sym run.spelled) (not_blank written rest some run.all))

pub word_whole : (word : List ℕ) → 0 < length word → (bytes rest : List ℕ) → Word word bytes rest → word_at word bytes ≡ Ok rest
unfolding is_word_after rest_of_word word_after
word_whole word some bytes rest is =
    let at = is.0 in
    let written = is.1.1.0 in
    let run = is.1.1.1.0 in
    let same = is.1.1.1.1 in
    let here : next bytes ≡ at = next_run bytes at is.1.0 run (some_written word written some same) in
    ap (λ (a : List ℕ). if same_name word (take (word_length a) a) then Ok (drop (word_length a) a) else Err a) here
    ∙ ap (λ (w : List ℕ). if same_name word w then Ok (drop (word_length at) at) else Err at) (run_taken is_name_byte run)
    ∙ ap (λ t. if t then Ok (drop (word_length at) at) else Err at) same
    ∙ ap (λ (r : List ℕ). Ok r) (run_left is_name_byte run)

name_has_bytes : (name : List ℕ) → is_name name ≡ true → 0 < length name
unfolding is_name
name_has_bytes [] is = cc
name_has_bytes (b ∷ bs) is = omega arith

pub name_whole : (name bytes rest : List ℕ) → Name name bytes rest → name_at bytes ≡ Ok (name, rest)
unfolding name_after
name_whole name bytes rest is =
    let at = is.0 in
    let run = is.1.1.0 in
    let here : next bytes ≡ at = next_run bytes at is.1.0 run (name_has_bytes name is.1.1.1) in
    ap (λ (a : List ℕ). if is_name (take (word_length a) a) then Ok (take (word_length a) a, drop (word_length a) a) else Err a) here
    ∙ ap (λ (w : List ℕ). if is_name w then Ok (w, drop (word_length at) at) else Err at) (run_taken is_name_byte run)
    ∙ ap (λ t. if t then Ok (name, drop (word_length at) at) else Err at) is.1.1.1
    ∙ ap (λ (r : List ℕ). Ok (name, r)) (run_left is_name_byte run)

abbrev symbol_of : ℕ → List ℕ → After
symbol_of symbol at = elim at [ [] ↦ Err [] | b ∷ bs ↦ if b == symbol then Ok bs else Err (b ∷ bs) ]

pub next_symbol : (symbol : ℕ) → is_blank symbol ≡ false → (bytes rest : List ℕ) → Symbol symbol bytes rest → next bytes ≡ symbol ∷ rest
next_symbol symbol no_blank bytes rest is =
    next_is is.1.0 (subst (Ends is_blank) (sym is.1.1) no_blank) ∙ is.1.1

pub symbol_whole : (symbol : ℕ) → is_blank symbol ≡ false → (bytes rest : List ℕ) → Symbol symbol bytes rest → symbol_at symbol bytes ≡ Ok rest
unfolding symbol_after
symbol_whole symbol no_blank bytes rest is =
    ap (symbol_of symbol) (next_symbol symbol no_blank bytes rest is) ∙ ap (λ t. if t then Ok rest else Err (symbol ∷ rest)) (same_number symbol)

-- refusals, by what comes next
pub symbol_refused_at_end : (symbol : ℕ) (bytes : List ℕ) → next bytes ≡ [] → Refused (symbol_at symbol bytes)
unfolding symbol_after
symbol_refused_at_end symbol bytes here = record { at = []; is = ap (symbol_of symbol) here }

pub symbol_refused : (symbol b : ℕ) (bs bytes : List ℕ) → next bytes ≡ b ∷ bs → (b == symbol) ≡ false → Refused (symbol_at symbol bytes)
unfolding symbol_after
symbol_refused symbol b bs bytes here other = record { at = b ∷ bs; is = ap (symbol_of symbol) here ∙ ap (λ t. if t then Ok bs else Err (b ∷ bs)) other }

word_of : List ℕ → List ℕ → After
word_of word a = if same_name word (take (word_length a) a) then Ok (drop (word_length a) a) else Err a

pub word_refused_at_end : (word : List ℕ) → 0 < length word → (bytes : List ℕ) → next bytes ≡ [] → Refused (word_at word bytes)
unfolding is_word_after rest_of_word word_after word_of
word_refused_at_end word some bytes here = record { at = []; is = ap (word_of word) here ∙ ap (λ t. if t then Ok [] else Err []) (none_same word some) }

pub word_refused : (word : List ℕ) → 0 < length word → (b : ℕ) (bs bytes : List ℕ) → next bytes ≡ b ∷ bs → is_name_byte b ≡ false → Refused (word_at word bytes)
unfolding is_word_after rest_of_word word_after word_of
word_refused word some b bs bytes here other = record {
  at = b ∷ bs;
  is = ap (word_of word) here
      ∙ ap (λ t. if same_name word (take (cond t (1 + prefix_len is_name_byte bs) 0) (b ∷ bs)) then Ok (drop (cond t (1 + prefix_len is_name_byte bs) 0) (b ∷ bs)) else Err (b ∷ bs)) other
      ∙ ap (λ t. if t then Ok (b ∷ bs) else Err (b ∷ bs)) (none_same word some);
}

-- where one word stands, no other does
pub other_word_refused : (v w : List ℕ) → same_name v w ≡ false → 0 < length w → (bytes rest : List ℕ) → Word w bytes rest → Refused (word_at v bytes)
unfolding is_word_after rest_of_word word_after word_of
other_word_refused v w apart some bytes rest is =
    let at = is.0 in
    let written = is.1.1.0 in
    let run = is.1.1.1.0 in
    let same = is.1.1.1.1 in
    let here : next bytes ≡ at = next_run bytes at is.1.0 run (some_written w written some same) in
    record {
      at = at;
      is = ap (word_of v) here
          ∙ ap (λ (x : List ℕ). if same_name v x then Ok (drop (word_length at) at) else Err at) (run_taken is_name_byte run)
          ∙ ap (λ t. if t then Ok (drop (word_length at) at) else Err at) (not_same v w written (same_name v written) refl apart same);
    }

-- the byte that comes next where a word stands
pub record Begun (bytes : List ℕ) : Type 0 where
  pub first : ℕ
  pub others : List ℕ
  pub here : next bytes ≡ first ∷ others
  pub of_name : is_name_byte first ≡ true

begun_by : (bytes written rest at : List ℕ) → next bytes ≡ at → at ≡ written ++ rest → AllBytes is_name_byte written → 0 < length written → Begun bytes
begun_by bytes [] rest at here spelled all some = absurd (omega arith)
begun_by bytes (b ∷ written) rest at here spelled all some = record { first = b; others = written ++ rest; here = here ∙ spelled; of_name = all.0 }

pub begun : (w : List ℕ) → 0 < length w → (bytes rest : List ℕ) → Word w bytes rest → Begun bytes
begun w some bytes rest is =
    let at = is.0 in
    let written = is.1.1.0 in
    let run = is.1.1.1.0 in
    let more = some_written w written some is.1.1.1.1 in
    begun_by bytes written rest at (next_run bytes at is.1.0 run more) run.spelled run.all more

pub symbol_refused_at_word : (symbol : ℕ) → is_name_byte symbol ≡ false → (bytes : List ℕ) → Begun bytes → Refused (symbol_at symbol bytes)
symbol_refused_at_word symbol none bytes b = symbol_refused symbol b.first b.others bytes b.here (apart (b.first == symbol) refl)
  where
    apart : (t : Bool) → (b.first == symbol) ≡ t → t ≡ false
    apart true is = let e : b.first ≡ symbol = same_length b.first symbol is in let f = ap is_name_byte e in let g = b.of_name in cc
    apart false is = refl

pub end_whole : (bytes : List ℕ) → Blanks bytes [] → end_at bytes ≡ Ok []
unfolding end_at
end_whole bytes blanks = ap (λ (at : List ℕ). elim at as (λ _. After) [ [] ↦ Ok [] | b ∷ bs ↦ Err (b ∷ bs) ]) (next_is blanks tt)

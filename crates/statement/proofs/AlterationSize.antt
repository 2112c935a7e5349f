-- The digits of a size: what is read is of the grammar, what is of the grammar is read, and where reading stops the bytes before can go on to some.
use Rattle.std.proofs.Common.{◌≡◌, ℕ, Bool, true, false, List, [], ◌∷◌, length, Ok, Err, refl, ap, ◌∙◌, arith}
use Rattle.std.specs.Prelude.{◌==◌, if◌then◌else◌}
use Rattle.std.specs.Char.{is_ascii_digit}
use Rattle.std.specs.List.{prefix_len}
use Rattle.tokens.specs.Token.{Read, prefix_while, skip_while}
use Rattle.tokens.specs.Digit.{capped_from, capped_at}
use Rattle.tokens.proofs.RunRead.{run_of, length_of, run_taken, run_left}
use Rattle.tokens.proofs.TokenFollows.{ends_so}
use Rattle.tokens.proofs.TokenGoing.{Reads}
use Rattle.statement.specs.Token.{next}
use Rattle.statement.specs.Grammar.{Piece, ◌⋯◌, Blanks, CappedDigits}
use Rattle.statement.proofs.TokenGaps.{blanks_before, next_is}
use Rattle.statement.proofs.GrammarHolds.{Holds, holds}
use Rattle.statement.proofs.GoingOnMissing.{UsualToken, AtNext, token_reads}
use Rattle.statement.proofs.LiteralSound.{some_digits}
use Rattle.statement.proofs.LiteralWhole.{first_of, digits_not_blank, not_none}

abbrev pub IsCapped : ℕ → Piece
IsCapped n = Blanks ⋯ CappedDigits n

pub capped_sound : (bytes : List ℕ) → Holds (capped_at next bytes) (λ n rest. IsCapped n bytes rest)
unfolding capped_at
capped_sound bytes = by_test (prefix_len is_ascii_digit at == 0) refl
  where
    at : List ℕ
    at = next bytes

    by_test : (t : Bool) → (prefix_len is_ascii_digit at == 0) ≡ t
        → Holds (if t then Err at else Ok (capped_from 0 (prefix_while is_ascii_digit at), skip_while is_ascii_digit at)) (λ n rest. IsCapped n bytes rest)
    by_test true is = record { it = tt }
    by_test false is = holds _ _ (at, (blanks_before bytes, record { digits = prefix_while is_ascii_digit at; some = some_digits at is; run = run_of is_ascii_digit at; value = refl }))

capped_usual : UsualToken IsCapped
capped_usual = record {
  text = 49 ∷ [];
  value = 1;
  holds = λ bytes tail blanks clean. (
    49 ∷ tail,
    (
      blanks,
      record {
        digits = 49 ∷ [];
        some = omega arith;
        run = record { all = (refl, tt); ends = ends_so is_ascii_digit refl refl [] tail clean tt; spelled = refl };
        value = refl;
      },
    ),
  );
}

pub capped_next : (bytes : List ℕ) → AtNext bytes (capped_at next bytes)
unfolding capped_at
capped_next bytes = by_test (prefix_len is_ascii_digit (next bytes) == 0)
  where
    by_test : (t : Bool) → AtNext {X = ℕ × List ℕ} bytes (if t then Err (next bytes) else Ok (capped_from 0 (prefix_while is_ascii_digit (next bytes)), skip_while is_ascii_digit (next bytes)))
    by_test true = record { it = refl }
    by_test false = record { it = tt }

pub capped_reads : (bytes : List ℕ) → Reads IsCapped bytes (capped_at next bytes)
capped_reads bytes = token_reads capped_usual _ (capped_sound bytes) (capped_next bytes)

capped_or : List ℕ → Read ℕ
capped_or at = if prefix_len is_ascii_digit at == 0 then Err at else Ok (capped_from 0 (prefix_while is_ascii_digit at), skip_while is_ascii_digit at)

pub capped_whole : (n : ℕ) (bytes rest : List ℕ) → IsCapped n bytes rest → capped_at next bytes ≡ Ok (n, rest)
unfolding capped_at capped_or
capped_whole n bytes rest is =
    let at = is.0 in
    let d = is.1.1 in
    let here : next bytes ≡ at = next_is is.1.0 (digits_not_blank (first_of d.digits at rest d.some d.run.all d.run.spelled)) in
    ap capped_or here
    ∙ ap (λ t. if t then Err at else Ok (capped_from 0 (prefix_while is_ascii_digit at), skip_while is_ascii_digit at)) (ap (λ (c : ℕ). c == 0) (length_of is_ascii_digit d.run) ∙ not_none (length d.digits) d.some)
    ∙ (λ i. Ok (capped_from 0 (run_taken is_ascii_digit d.run i), run_left is_ascii_digit d.run i))
    ∙ ap (λ (v : ℕ). Ok (v, rest)) d.value

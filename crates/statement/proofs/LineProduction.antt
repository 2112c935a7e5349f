-- Lines as productions.
use Rattle.std.proofs.Common.{◌≡◌, ◌≤◌, true, false, Bool, ℕ, List, [], ◌∷◌, inl, inr, Ok, Err, refl, sym, ap, ◌∙◌, subst, lit<, arith}
use Rattle.std.specs.Prelude.{codes, ◌&&◌, ◌==◌, ◌-◌, ◌^◌, nat_le}
use Rattle.std.specs.Char.{to_ascii_lowercase}
use Rattle.std.proofs.lemmas.Bool.{and_parts}
use Rattle.std.proofs.lemmas.Bool.Decides.{nat_tests}
use Rattle.values.specs.Tables.{Schema}
use Rattle.values.specs.declared.key.Key.{Key}
use Rattle.statement.specs.declared.line.Written.{Written}
use Rattle.statement.specs.declared.line.Written.TheVariants.{Clock, SplitKey, SplitTime, Migrate, Session, AddColumn}
use Rattle.tokens.specs.Token.{Read, ◌>>=◌}
use Rattle.statement.specs.Token.{next, symbol_at, word_at, name_at, end_at, after_semicolon}
use Rattle.statement.specs.Alteration.{type_at, alter_at, request_at, asked_at}
use Rattle.statement.specs.Condition.{table_name_at}
use Rattle.statement.specs.Literal.{digits_at}
use Rattle.statement.specs.Statement.{instant_at, statement_at}
use Rattle.statement.specs.Split.{key_at, split_key_at, split_time_at, kind_at, split_at}
use Rattle.statement.specs.Line.{begins_digit, is_nothing, clock_at, migrate_at, session_at, service_at, written_at}
use Rattle.statement.specs.ServedLine.{served_at}
use Rattle.statement.specs.Grammar.{Piece, ◌⋯◌, ◌∣◌, Empty, Blanks, Symbol, Word, Digits, IsInstant, IsKey, IsStatement, IsAlteration, IsLine, IsServedLine}
use Rattle.tokens.proofs.TokenGoing.{Then, Next, By, Last}
use Rattle.tokens.proofs.PlaceSame.{Tells}
use Rattle.statement.proofs.TokenSame.{reach_next}
use Rattle.statement.proofs.TokenGaps.{next_is}
use Rattle.statement.proofs.TokenWhole.{next_run}
use Rattle.tokens.proofs.WordCases.{some_written}
use Rattle.statement.proofs.LiteralWhole.{letter_of, letter_is_no_digit, letter_is_no_minus, FirstDigit, first_digit, digits_not_blank, digit_is_no_other}
use Rattle.statement.proofs.LiteralSame.{first_same}
use Rattle.statement.proofs.StatementWhole.{closing_before}
use Rattle.statement.proofs.GrammarHolds.{Holds}
use Rattle.statement.proofs.GrammarStopping.{Stops}
use Rattle.tokens.proofs.TokenProduction.{Production, Any, Or, alike, seq, after, tested}
use Rattle.tokens.proofs.TokenProductionParts.{skip, field, part, final, finish, alone, made}
use Rattle.tokens.proofs.TokenNothingLeft.{All, all_then, all_either, all_cases, all_if}
use Rattle.statement.proofs.TokenProduction.{Parting, texts_of, gaps, sound, stops, word, symbol, instant, session, table, AtEnd, End, end, stop}
use Rattle.statement.proofs.TokenFirstWords.{BeginsWith, Led, led_alike, last_word, or_word}
use Rattle.statement.proofs.AlterationProduction.{added, Altered, alter}
use Rattle.statement.proofs.StatementProduction.{row, statement, openings}

clock : Production gaps (By Clock (λ n. Word (codes "CLOCK") ⋯ Symbol 58 ⋯ IsInstant n ⋯ Blanks)) AtEnd clock_at
unfolding clock_at
clock = made (skip (word (codes "CLOCK") refl) (skip (symbol 58 refl) (part (λ n. n) instant (λ n. finish n (tt, refl) (λ z k. k.1) (stop (Clock n))))))

migrate : Production gaps (Next (Symbol 58) (Last Migrate Blanks)) AtEnd migrate_at
unfolding migrate_at
migrate = after (symbol 58 refl) (stop Migrate)

module _ (schema : Schema) where
  key : Production gaps (IsKey schema) Any (key_at schema)
  unfolding key_at
  key = alone (part (λ k. k.table) (table schema) (λ t. final (λ k. k.parts) (λ ps. record { table = t; parts = ps }) (λ ps. (tt, refl)) (λ ps. refl) (λ k e. λ i. record { table = e.1 i; parts = k.parts }) row))

  split_key : Production gaps (By SplitKey (λ k. IsKey schema k ⋯ Blanks)) AtEnd (split_key_at schema)
  unfolding split_key_at
  split_key = made (part (λ k. k) key (λ k. finish k (tt, refl) (λ z e. e.1) (stop (SplitKey k))))

  abbrev at_time : Key × ℕ → Written
  at_time c = SplitTime c.0 c.1

  abbrev AtTime : Key × ℕ → Piece
  AtTime c = IsKey schema c.0 ⋯ Word (codes "AT") ⋯ IsInstant c.1 ⋯ Blanks

  split_time : Production gaps (By at_time AtTime) AtEnd (split_time_at schema)
  unfolding split_time_at
  split_time = made (part (λ c. c.0) key (λ k. skip (word (codes "AT") refl) (part (λ c. c.1) instant (λ n. finish (k, n) ((tt, refl), refl) (λ c e. λ i. (e.0.1 i, e.1 i)) (stop (SplitTime k n))))))

  abbrev Kind : Written → Piece
  Kind = Or (Next (Word (codes "KEY")) (By SplitKey (λ k. IsKey schema k ⋯ Blanks))) (Next (Word (codes "TIME")) (By at_time AtTime))

  split : Production gaps (Next (Symbol 58) Kind) AtEnd (split_at schema)
  unfolding split_at kind_at
  split = after (symbol 58 refl) (or_word (codes "KEY") refl split_key (last_word (codes "TIME") refl split_time)).production

  abbrev Request : ℕ → Written → Piece
  Request n = By (Session n) (λ s. IsStatement schema s ⋯ End)

  request : (n : ℕ) → Led (openings schema) (Request n) AtEnd (request_at schema n)
  unfolding request_at
  request n = record {
    first = λ w bytes rest b. (statement schema).first b.0 bytes b.1.1.0 b.1.1.1.0;
    production = made (field (λ s. s) (statement schema).production (λ s bytes rest is f. closing_before bytes is.0 is.1.0 (subst (λ (l : List ℕ). Blanks is.0 l) f is.1.1)) (λ s. finish s (tt, refl) (λ z k. k.1) (end (Session n s))));
  }

  abbrev Asked : ℕ → Written → Piece
  Asked n = Or (Next (Word (codes "ALTER")) (By (added schema n) (Altered schema))) (Request n)

  asked : (n : ℕ) → Production gaps (Asked n) AtEnd (asked_at schema n)
  unfolding asked_at
  asked n = (or_word (codes "ALTER") refl (alter schema n) (request n)).production

  abbrev OfSession : Written → Piece
  OfSession = Then (λ n. Blanks ⋯ Digits (2 ^ 63 - 1) n) (λ n. Next (Symbol 58) (Asked n))

  of_session : Production gaps OfSession AtEnd (session_at schema)
  unfolding session_at
  of_session = seq session (λ n. after (symbol 58 refl) (asked n))

  abbrev Splits : Written → Piece
  Splits = Next (Word (codes "SPLIT")) (Next (Symbol 58) Kind)

  abbrev Migrates : Written → Piece
  Migrates = Next (Word (codes "MIGRATE")) (Next (Symbol 58) (Last Migrate Blanks))

  abbrev Service : Written → Piece
  Service = Or Splits (Or Migrates (By Clock (λ n. Word (codes "CLOCK") ⋯ Symbol 58 ⋯ IsInstant n ⋯ Blanks)))

  service : Led (codes "SPLIT" ∷ codes "MIGRATE" ∷ codes "CLOCK" ∷ []) Service AtEnd (service_at schema)
  unfolding service_at
  service = or_word (codes "SPLIT") refl split (or_word (codes "MIGRATE") refl migrate (record { first = λ w bytes rest b. inl (b.1.1.0, b.1.1.1.0); production = clock }))

  -- ---- the first byte of a line

  number_first : (n : ℕ) (bytes rest : List ℕ) → (Blanks ⋯ Digits (2 ^ 63 - 1) n) bytes rest → FirstDigit (next bytes)
  number_first n bytes rest is =
      let f = first_digit is.1.1 in
      record { first = f.first; others = f.others; spelled = next_is is.1.0 (digits_not_blank f) ∙ f.spelled; digit = f.digit }

  abbrev begins_lettered : List ℕ → Bool
  begins_lettered [] = false
  begins_lettered (b ∷ w) = nat_le 97 (to_ascii_lowercase b)

  abbrev are_lettered : List (List ℕ) → Bool
  are_lettered [] = true
  are_lettered (w ∷ ws) = begins_lettered w && are_lettered ws

  -- the first byte of a word, which is a letter
  record Letter (bytes : List ℕ) : Type 0 where
    pub first : ℕ
    pub others : List ℕ
    pub here : next bytes ≡ first ∷ others
    pub low : 97 ≤ to_ascii_lowercase first

  low_letter : (b : ℕ) → nat_le 97 (to_ascii_lowercase b) ≡ true → 97 ≤ to_ascii_lowercase b
  low_letter b is = grind (arith, nat_tests)

  word_letter : (w bytes rest : List ℕ) → begins_lettered w ≡ true → Word w bytes rest → Letter bytes
  word_letter [] bytes rest low is = cc
  word_letter (letter ∷ letters) bytes rest low is =
      let l = letter_of letter letters is.1.1.0 is.0 rest is.1.1.1.1 is.1.1.1.0.spelled in
      record { first = l.first; others = l.others; here = next_run bytes is.0 is.1.0 is.1.1.1.0 (some_written (letter ∷ letters) is.1.1.0 (omega arith) is.1.1.1.1) ∙ l.spelled; low = omega (arith, l.same, low_letter letter low) }

  first_letter : (ws : List (List ℕ)) → are_lettered ws ≡ true → (bytes : List ℕ) → BeginsWith ws bytes → Letter bytes
  first_letter [] low bytes is = absurd is
  first_letter (w ∷ ws) low bytes (inl is) = word_letter w bytes is.0 (and_parts (begins_lettered w) (are_lettered ws) low).0 is.1
  first_letter (w ∷ ws) low bytes (inr is) = first_letter ws (and_parts (begins_lettered w) (are_lettered ws) low).1 bytes is

  something : (first : ℕ) (others : List ℕ) → (first == 45) ≡ false → is_nothing (first ∷ others) ≡ false
  something first [] none = refl
  something first (b ∷ others) none = ap (λ t. t && (b == 45)) none

  lettered : (bytes : List ℕ) → Letter bytes → is_nothing (next bytes) ≡ false
  lettered bytes l = ap is_nothing l.here ∙ something l.first l.others (letter_is_no_minus l.first l.low)

  -- ---- lines

  abbrev pub LinePiece : Written → Piece
  LinePiece (Clock n) = Word (codes "CLOCK") ⋯ Symbol 58 ⋯ IsInstant n ⋯ Blanks
  LinePiece (SplitKey k) = Word (codes "SPLIT") ⋯ Symbol 58 ⋯ Word (codes "KEY") ⋯ IsKey schema k ⋯ Blanks
  LinePiece (SplitTime k n) = Word (codes "SPLIT") ⋯ Symbol 58 ⋯ Word (codes "TIME") ⋯ IsKey schema k ⋯ Word (codes "AT") ⋯ IsInstant n ⋯ Blanks
  LinePiece Migrate = Word (codes "MIGRATE") ⋯ Symbol 58 ⋯ Blanks
  LinePiece (Session o s) = (Blanks ⋯ Digits (2 ^ 63 - 1) o) ⋯ Symbol 58 ⋯ IsStatement schema s ⋯ (Empty ∣ Symbol 59) ⋯ Blanks
  LinePiece (AddColumn o t name of) = (Blanks ⋯ Digits (2 ^ 63 - 1) o) ⋯ Symbol 58 ⋯ IsAlteration schema t name of ⋯ (Empty ∣ Symbol 59) ⋯ Blanks

  pub written : Production gaps LinePiece AtEnd (written_at schema)
  unfolding written_at
  written = alike to from (tested (λ bytes. begins_digit (next bytes)) tells stands fails of_session service.production)
    where
      tells : (s : Parting) → Tells (texts_of s) (λ bytes. begins_digit (next bytes))
      tells s = record { tells = λ a c r. inl (first_same s.first s.rest s.other s.tokens s.no_minus s.no_quote begins_digit (λ d q more. refl) (reach_next s.first s.rest s.other s.tokens r)) }

      stands : (w : Written) (bytes rest : List ℕ) → OfSession w bytes rest → begins_digit (next bytes) ≡ true
      stands w bytes rest t = let f = number_first t.value bytes t.between t.first in ap begins_digit f.spelled ∙ f.digit

      fails : (w : Written) (bytes rest : List ℕ) → Service w bytes rest → AtEnd rest → begins_digit (next bytes) ≡ false
      fails w bytes rest is at_end = let l = first_letter (codes "SPLIT" ∷ codes "MIGRATE" ∷ codes "CLOCK" ∷ []) refl bytes (service.first w bytes rest is) in ap begins_digit l.here ∙ letter_is_no_digit l.first l.low

      at : (w v : Written) (bytes rest : List ℕ) → w ≡ v → LinePiece v bytes rest → LinePiece w bytes rest
      at w v bytes rest e is = subst (λ (u : Written). LinePiece u bytes rest) (sym e) is

      asks : (n : ℕ) (w : Written) (bytes a b rest : List ℕ) → (Blanks ⋯ Digits (2 ^ 63 - 1) n) bytes a → Symbol 58 a b → Asked n w b rest → LinePiece w bytes rest
      asks n w bytes a b rest one two (inl s) =
          let c = (s.second).0 in
          let p = (s.second).1.1 in
          at w (added schema n c) bytes rest (s.second).1.0
          (a, (one, (b, (two, (p.1.1.1.1.1.1.1.1.1.1.0, ((s.between, (s.first, (p.0, (p.1.0, (p.1.1.0, (p.1.1.1.0, (p.1.1.1.1.0, (p.1.1.1.1.1.0, (p.1.1.1.1.1.1.0, (p.1.1.1.1.1.1.1.0, (p.1.1.1.1.1.1.1.1.0, (p.1.1.1.1.1.1.1.1.1.0, p.1.1.1.1.1.1.1.1.1.1.1.0)))))))))))), p.1.1.1.1.1.1.1.1.1.1.1.1))))))
      asks n w bytes a b rest one two (inr s) = at w (Session n s.0) bytes rest s.1.0 (a, (one, (b, (two, s.1.1))))

      kinds : (w : Written) (bytes a b rest : List ℕ) → Word (codes "SPLIT") bytes a → Symbol 58 a b → Kind w b rest → LinePiece w bytes rest
      kinds w bytes a b rest one two (inl n) = at w (SplitKey (n.second).0) bytes rest (n.second).1.0 (a, (one, (b, (two, (n.between, (n.first, (n.second).1.1))))))
      kinds w bytes a b rest one two (inr n) = at w (at_time (n.second).0) bytes rest (n.second).1.0 (a, (one, (b, (two, (n.between, (n.first, (n.second).1.1))))))

      to : (w : Written) (bytes rest : List ℕ) → Or OfSession Service w bytes rest → LinePiece w bytes rest
      to w bytes rest (inl t) = asks t.value w bytes t.between (t.second).between rest t.first (t.second).first (t.second).second
      to w bytes rest (inr (inl n)) = kinds w bytes n.between (n.second).between rest n.first (n.second).first (n.second).second
      to w bytes rest (inr (inr (inl n))) = at w Migrate bytes rest ((n.second).second).0 (n.between, (n.first, ((n.second).between, ((n.second).first, ((n.second).second).1))))
      to w bytes rest (inr (inr (inr b))) = at w (Clock b.0) bytes rest b.1.0 b.1.1

      from : (w : Written) (bytes rest : List ℕ) → LinePiece w bytes rest → Or OfSession Service w bytes rest
      from (Clock n) bytes rest is = inr (inr (inr (n, (refl, is))))
      from (SplitKey k) bytes rest is = inr (inl (record { between = is.0; first = is.1.0; second = record { between = is.1.1.0; first = is.1.1.1.0; second = inl (record { between = is.1.1.1.1.0; first = is.1.1.1.1.1.0; second = (k, (refl, is.1.1.1.1.1.1)) }) } }))
      from (SplitTime k n) bytes rest is = inr (inl (record { between = is.0; first = is.1.0; second = record { between = is.1.1.0; first = is.1.1.1.0; second = inr (record { between = is.1.1.1.1.0; first = is.1.1.1.1.1.0; second = ((k, n), (refl, is.1.1.1.1.1.1)) }) } }))
      from Migrate bytes rest is = inr (inr (inl (record { between = is.0; first = is.1.0; second = record { between = is.1.1.0; first = is.1.1.1.0; second = (refl, is.1.1.1.1) } })))
      from (Session n s) bytes rest is = inl (record { value = n; between = is.0; first = is.1.0; second = record { between = is.1.1.0; first = is.1.1.1.0; second = inr (s, (refl, is.1.1.1.1)) } })
      from (AddColumn n t name of) bytes rest is =
          let p = is.1.1.1.1.1.0 in
          inl (record {
            value = n;
            between = is.0;
            first = is.1.0;
            second = record {
              between = is.1.1.0;
              first = is.1.1.1.0;
              second = inl (record {
                between = p.0;
                first = p.1.0;
                second = (
                  (t, (name, of)),
                  (
                    refl,
                    (p.1.1.0, (p.1.1.1.0, (p.1.1.1.1.0, (p.1.1.1.1.1.0, (p.1.1.1.1.1.1.0, (p.1.1.1.1.1.1.1.0, (p.1.1.1.1.1.1.1.1.0, (p.1.1.1.1.1.1.1.1.1.0, (p.1.1.1.1.1.1.1.1.1.1.0, (p.1.1.1.1.1.1.1.1.1.1.1.0, (is.1.1.1.1.0, (p.1.1.1.1.1.1.1.1.1.1.1.1, is.1.1.1.1.1.1)))))))))))),
                  ),
                );
              });
            };
          })

  -- ---- lines that a session sends

  abbrev pub ServedPiece : ℕ → Written → Piece
  ServedPiece o (Clock n) = λ bytes rest. ⊥
  ServedPiece o (SplitKey k) = LinePiece (SplitKey k)
  ServedPiece o (SplitTime k n) = LinePiece (SplitTime k n)
  ServedPiece o Migrate = LinePiece Migrate
  ServedPiece o (AddColumn number t name of) = λ bytes rest. ⊥
  ServedPiece o (Session number s) = λ bytes rest. (number ≡ o) × (IsStatement schema s ⋯ (Empty ∣ Symbol 59) ⋯ Blanks) bytes rest

  abbrev served_openings : List (List ℕ)
  served_openings = codes "SPLIT" ∷ codes "MIGRATE" ∷ openings schema

  pub served : (n : ℕ) → Led served_openings (ServedPiece n) AtEnd (served_at schema n)
  unfolding served_at
  served n = led_alike to from (or_word (codes "SPLIT") refl split (or_word (codes "MIGRATE") refl migrate (request n)))
    where
      at : (w v : Written) (bytes rest : List ℕ) → w ≡ v → ServedPiece n v bytes rest → ServedPiece n w bytes rest
      at w v bytes rest e is = subst (λ (u : Written). ServedPiece n u bytes rest) (sym e) is

      kinds : (w : Written) (bytes a b rest : List ℕ) → Word (codes "SPLIT") bytes a → Symbol 58 a b → Kind w b rest → ServedPiece n w bytes rest
      kinds w bytes a b rest one two (inl k) = at w (SplitKey (k.second).0) bytes rest (k.second).1.0 (a, (one, (b, (two, (k.between, (k.first, (k.second).1.1))))))
      kinds w bytes a b rest one two (inr k) = at w (at_time (k.second).0) bytes rest (k.second).1.0 (a, (one, (b, (two, (k.between, (k.first, (k.second).1.1))))))

      to : (w : Written) (bytes rest : List ℕ) → Or Splits (Or Migrates (Request n)) w bytes rest → ServedPiece n w bytes rest
      to w bytes rest (inl k) = kinds w bytes k.between (k.second).between rest k.first (k.second).first (k.second).second
      to w bytes rest (inr (inl k)) = at w Migrate bytes rest ((k.second).second).0 (k.between, (k.first, ((k.second).between, ((k.second).first, ((k.second).second).1))))
      to w bytes rest (inr (inr b)) = at w (Session n b.0) bytes rest b.1.0 (refl, b.1.1)

      from : (w : Written) (bytes rest : List ℕ) → ServedPiece n w bytes rest → Or Splits (Or Migrates (Request n)) w bytes rest
      from (Clock m) bytes rest is = absurd is
      from (SplitKey k) bytes rest is = inl (record { between = is.0; first = is.1.0; second = record { between = is.1.1.0; first = is.1.1.1.0; second = inl (record { between = is.1.1.1.1.0; first = is.1.1.1.1.1.0; second = (k, (refl, is.1.1.1.1.1.1)) }) } })
      from (SplitTime k m) bytes rest is = inl (record { between = is.0; first = is.1.0; second = record { between = is.1.1.0; first = is.1.1.1.0; second = inr (record { between = is.1.1.1.1.0; first = is.1.1.1.1.1.0; second = ((k, m), (refl, is.1.1.1.1.1.1)) }) } })
      from Migrate bytes rest is = inr (inl (record { between = is.0; first = is.1.0; second = record { between = is.1.1.0; first = is.1.1.1.0; second = (refl, is.1.1.1.1) } }))
      from (AddColumn m t name of) bytes rest is = absurd is
      from (Session m s) bytes rest is = inr (inr (s, (λ i. Session (is.0 i) s, is.1)))

  -- ---- nothing is left of a line

  all_stop : {B : Type 0} (w : B) (bytes : List ℕ) → All (end_at bytes >>= λ rest. Ok (w, rest))
  unfolding end_at
  all_stop w bytes = at_token (next bytes)
    where
      at_token : (at : List ℕ) → All (elim at [ [] ↦ Ok [] | b ∷ bs ↦ Err (b ∷ bs) ] >>= λ rest. Ok (w, rest))
      at_token [] = record { it = refl }
      at_token (b ∷ bs) = record { it = tt }

  request_all : (n : ℕ) (bytes : List ℕ) → All (request_at schema n bytes)
  unfolding request_at
  request_all n bytes = all_then (statement_at schema bytes) _ (λ x. all_stop _ (after_semicolon x.1))

  alter_all : (n : ℕ) (bytes : List ℕ) → All (alter_at schema n bytes)
  unfolding alter_at
  alter_all n bytes =
      all_then (word_at (codes "TABLE") bytes) _ (λ a.
      all_then (table_name_at schema a) _ (λ t.
      all_then (word_at (codes "ADD") t.1) _ (λ b.
      all_then (word_at (codes "COLUMN") b) _ (λ c.
      all_then (name_at c) _ (λ name.
      all_then (type_at name.1) _ (λ of.
      all_stop _ (after_semicolon of.1)))))))

  asked_all : (n : ℕ) (bytes : List ℕ) → All (asked_at schema n bytes)
  unfolding asked_at
  asked_all n bytes = all_either (word_at (codes "ALTER") bytes) (alter_at schema n) (λ _. request_at schema n bytes) (alter_all n) (λ _. request_all n bytes)

  split_key_all : (bytes : List ℕ) → All (split_key_at schema bytes)
  unfolding split_key_at
  split_key_all bytes = all_then (key_at schema bytes) _ (λ k. all_stop _ k.1)

  split_time_all : (bytes : List ℕ) → All (split_time_at schema bytes)
  unfolding split_time_at
  split_time_all bytes = all_then (key_at schema bytes) _ (λ k. all_then (word_at (codes "AT") k.1) _ (λ a. all_then (instant_at a) _ (λ n. all_stop _ n.1)))

  kind_all : (bytes : List ℕ) → All (kind_at schema bytes)
  unfolding kind_at
  kind_all bytes = all_either (word_at (codes "KEY") bytes) (split_key_at schema) _ split_key_all (λ _. all_cases (word_at (codes "TIME") bytes) (split_time_at schema) split_time_all)

  split_all : (bytes : List ℕ) → All (split_at schema bytes)
  unfolding split_at
  split_all bytes = all_then (symbol_at 58 bytes) (kind_at schema) kind_all

  migrate_all : (bytes : List ℕ) → All (migrate_at bytes)
  unfolding migrate_at
  migrate_all bytes = all_then (symbol_at 58 bytes) _ (λ a. all_stop _ a)

  clock_all : (bytes : List ℕ) → All (clock_at bytes)
  unfolding clock_at
  clock_all bytes = all_then (word_at (codes "CLOCK") bytes) _ (λ a. all_then (symbol_at 58 a) _ (λ b. all_then (instant_at b) _ (λ n. all_stop _ n.1)))

  session_all : (bytes : List ℕ) → All (session_at schema bytes)
  unfolding session_at
  session_all bytes = all_then (digits_at (2 ^ 63 - 1) bytes) _ (λ n. all_then (symbol_at 58 n.1) (asked_at schema n.0) (asked_all n.0))

  service_all : (bytes : List ℕ) → All (service_at schema bytes)
  unfolding service_at
  service_all bytes =
      all_either (word_at (codes "SPLIT") bytes) (split_at schema) _ split_all (λ _. all_either (word_at (codes "MIGRATE") bytes) migrate_at (λ _. clock_at bytes) migrate_all (λ _. clock_all bytes))

  written_all : (bytes : List ℕ) → All (written_at schema bytes)
  unfolding written_at
  written_all bytes = all_if (begins_digit (next bytes)) (session_at schema bytes) (service_at schema bytes) (session_all bytes) (service_all bytes)

  served_all : (n : ℕ) (bytes : List ℕ) → All (served_at schema n bytes)
  unfolding served_at
  served_all n bytes =
      all_either (word_at (codes "SPLIT") bytes) (split_at schema) _ split_all (λ _. all_either (word_at (codes "MIGRATE") bytes) migrate_at (λ _. request_at schema n bytes) migrate_all (λ _. request_all n bytes))

  -- ---- the laws of lines

  pub line_of : (w : Written) (bytes : List ℕ) → LinePiece w bytes [] → IsLine schema w bytes
  line_of (Clock n) bytes is = is
  line_of (SplitKey k) bytes is = is
  line_of (SplitTime k n) bytes is = is
  line_of Migrate bytes is = is
  line_of (Session o s) bytes is = is
  line_of (AddColumn o t name of) bytes is = is

  of_line : (w : Written) (bytes : List ℕ) → IsLine schema w bytes → LinePiece w bytes []
  of_line (Clock n) bytes is = is
  of_line (SplitKey k) bytes is = is
  of_line (SplitTime k n) bytes is = is
  of_line Migrate bytes is = is
  of_line (Session o s) bytes is = is
  of_line (AddColumn o t name of) bytes is = is

  pub served_line_of : (session : ℕ) (w : Written) (bytes : List ℕ) → ServedPiece session w bytes [] → IsServedLine schema session w bytes
  served_line_of o (Clock n) bytes is = absurd is
  served_line_of o (SplitKey k) bytes is = is
  served_line_of o (SplitTime k n) bytes is = is
  served_line_of o Migrate bytes is = is
  served_line_of o (Session number s) bytes is = is
  served_line_of o (AddColumn number t name of) bytes is = absurd is

  of_served_line : (session : ℕ) (w : Written) (bytes : List ℕ) → IsServedLine schema session w bytes → ServedPiece session w bytes []
  of_served_line o (Clock n) bytes is = absurd is
  of_served_line o (SplitKey k) bytes is = is
  of_served_line o (SplitTime k n) bytes is = is
  of_served_line o Migrate bytes is = is
  of_served_line o (Session number s) bytes is = is
  of_served_line o (AddColumn number t name of) bytes is = absurd is

  sound_all : {A : Type 0} {P : A → List ℕ → Type 0} {Q : A → Type 0} (r : Read A) → ((x : A) → P x [] → Q x) → Holds r P → All r → Holds r (λ x rest. Q x)
  sound_all {P = P} (Ok x) of h a = record { it = of x.0 (subst (P x.0) a.it h.it) }
  sound_all (Err at) of h a = record { it = tt }

  pub written_sound : (bytes : List ℕ) → Holds (written_at schema bytes) (λ w rest. IsLine schema w bytes)
  written_sound bytes = sound_all (written_at schema bytes) (λ w. line_of w bytes) (sound written bytes) (written_all bytes)

  pub line_whole : (w : Written) (bytes : List ℕ) → IsLine schema w bytes → written_at schema bytes ≡ Ok (w, [])
  line_whole w bytes is = written.whole w bytes [] (of_line w bytes is) refl

  pub written_stops : (bytes : List ℕ) → Stops bytes (written_at schema bytes)
  written_stops = stops written

  pub served_sound : (n : ℕ) (bytes : List ℕ) → Holds (served_at schema n bytes) (λ w rest. IsServedLine schema n w bytes)
  served_sound n bytes = sound_all (served_at schema n bytes) (λ w. served_line_of n w bytes) (sound (served n).production bytes) (served_all n bytes)

  pub served_whole : (n : ℕ) (w : Written) (bytes : List ℕ) → IsServedLine schema n w bytes → served_at schema n bytes ≡ Ok (w, [])
  served_whole n w bytes is = ((served n).production).whole w bytes [] (of_served_line n w bytes is) refl

  pub served_stops : (n : ℕ) (bytes : List ℕ) → Stops bytes (served_at schema n bytes)
  served_stops n = stops (served n).production

  -- no line is blank or a comment
  numbered : (n : ℕ) (bytes rest : List ℕ) → (Blanks ⋯ Digits (2 ^ 63 - 1) n) bytes rest → is_nothing (next bytes) ≡ false
  numbered n bytes rest is = let f = number_first n bytes rest is in ap is_nothing f.spelled ∙ something f.first f.others (digit_is_no_other f.first 45 (lit< tt) f.digit)

  pub line_is_something : (w : Written) (bytes : List ℕ) → IsLine schema w bytes → is_nothing (next bytes) ≡ false
  line_is_something (Clock n) bytes is = lettered bytes (word_letter (codes "CLOCK") bytes is.0 refl is.1.0)
  line_is_something (SplitKey k) bytes is = lettered bytes (word_letter (codes "SPLIT") bytes is.0 refl is.1.0)
  line_is_something (SplitTime k n) bytes is = lettered bytes (word_letter (codes "SPLIT") bytes is.0 refl is.1.0)
  line_is_something Migrate bytes is = lettered bytes (word_letter (codes "MIGRATE") bytes is.0 refl is.1.0)
  line_is_something (Session o s) bytes is = numbered o bytes is.0 is.1.0
  line_is_something (AddColumn o t name of) bytes is = numbered o bytes is.0 is.1.0

  pub served_is_something : (n : ℕ) (w : Written) (bytes : List ℕ) → IsServedLine schema n w bytes → is_nothing (next bytes) ≡ false
  served_is_something n w bytes is = lettered bytes (first_letter served_openings refl bytes ((served n).first w bytes [] (of_served_line n w bytes is)))

-- Reading from the left reads the lines of the grammar and no others.
use Rattle.std.proofs.Common.{arith, ◌++◌, ◌≡◌, ◌⊎◌, ℕ, Bool, true, false, List, [], ◌∷◌, length, Ok, Err, inl, inr, refl, ap, sym, ◌∙◌, subst}
use Rattle.std.specs.Prelude.{Result, ◌==◌, ◌-◌, if◌then◌else◌}
use Rattle.std.proofs.lemmas.Bool.{and_parts, false≢true}
use Rattle.values.specs.Tables.{Schema}
use Rattle.values.specs.declared.refusal.Refusal.{Refusal}
use Rattle.values.specs.declared.refusal.Refusal.TheVariants.{Syntax}
use Rattle.statement.specs.declared.line.Line.{Line}
use Rattle.statement.specs.declared.line.Line.TheVariants.{Nothing}
use Rattle.statement.specs.declared.line.Written.{Written}
use Rattle.tokens.specs.Place.{TokenAt}
use Rattle.tokens.specs.Token.{Read}
use Rattle.statement.specs.Token.{is_blank, next}
use Rattle.statement.specs.Line.{is_nothing, written_at, meaning_of, body_says}
use Rattle.tokens.specs.Run.{Ends}
use Rattle.statement.specs.ServedLine.{served_at, served_body_says}
use Rattle.statement.specs.Grammar.{Blanks, IsNothing, IsLine, IsServedLine}
use Rattle.statement.specs.GrammarLaw.{Lines, LinesAreRead, LinesSayOneThing, NothingIsRead, IsRefused, OnlyLinesAreRead, FaultsAreAtTokens}
use Rattle.statement.proofs.TokenGaps.{blanks_before, next_is}
use Rattle.statement.proofs.GrammarSound.{same_byte}
use Rattle.std.proofs.lemmas.List.{length-append}
use Rattle.statement.proofs.GrammarHolds.{Holds, holds_at}
use Rattle.statement.proofs.GrammarStopping.{Stops, stopped_at}
use Rattle.statement.proofs.MeaningOfLines.{never_syntax}
use Rattle.statement.proofs.LineProduction.{written_stops, served_stops, written_sound, served_sound, line_is_something, line_whole, served_is_something, served_whole}

nothing_found : (bytes at : List ℕ) → Blanks bytes at → is_nothing at ≡ true → IsNothing bytes
nothing_found bytes [] blanks is = inl blanks
nothing_found bytes (a ∷ []) blanks is = absurd (false≢true is)
nothing_found bytes (a ∷ b ∷ rest) blanks is =
    let p = and_parts (a == 45) (b == 45) is in
    inr (rest, (a ∷ b ∷ rest, (blanks, ap (λ (c : ℕ). c ∷ b ∷ rest) (same_byte a 45 p.0) ∙ ap (λ (c : ℕ). 45 ∷ c ∷ rest) (same_byte b 45 p.1))))

nothing_whole : (bytes : List ℕ) → IsNothing bytes → is_nothing (next bytes) ≡ true
nothing_whole bytes (inl blanks) = ap is_nothing (next_is blanks tt)
nothing_whole bytes (inr is) = ap is_nothing (next_is is.1.1.0 (ends is.1.0 is.0 is.1.1.1) ∙ is.1.1.1)
  where
    ends : (at rest : List ℕ) → at ≡ 45 ∷ 45 ∷ rest → Ends is_blank at
    ends at rest spelled = subst (Ends is_blank) (sym spelled) refl

-- what is answered for the bytes of a line's tokens, by a reader of written lines
module _ (schema : Schema) (at : List ℕ → Read Written) where
  abbrev pub answered : ℕ → List ℕ → Read Written → Result Line Refusal
  answered reading bytes r = elim r [ Err at ↦ Err (Syntax (length bytes - length at)) | Ok x ↦ meaning_of schema reading x.0 ]

  abbrev pub says : ℕ → List ℕ → Result Line Refusal
  says reading bytes = if is_nothing (next bytes) then Ok Nothing else answered reading bytes (at bytes)

module _ (schema : Schema) (Is : Lines) (at : List ℕ → Read Written)
    (sound : (bytes : List ℕ) → Holds (at bytes) (λ written rest. Is written bytes))
    (whole : (written : Written) (bytes : List ℕ) → Is written bytes → at bytes ≡ Ok (written, []))
    (something : (written : Written) (bytes : List ℕ) → Is written bytes → is_nothing (next bytes) ≡ false)
    (stops : (bytes : List ℕ) → Stops bytes (at bytes)) where
  abbrev answer : ℕ → List ℕ → Read Written → Result Line Refusal
  answer reading bytes r = answered schema at reading bytes r

  read : LinesAreRead schema Is (says schema at)
  read reading bytes written is =
      ap (λ t. if t then Ok Nothing else answer reading bytes (at bytes)) (something written bytes is)
      ∙ ap (answer reading bytes) (whole written bytes is)

  abbrev by_value : Written → Read Written → Written
  by_value other r = elim r [ Ok x ↦ x.0 | Err at ↦ other ]

  one_thing : LinesSayOneThing Is
  one_thing bytes written other is too = ap (by_value written) (sym (whole written bytes is) ∙ whole other bytes too)

  nothing : NothingIsRead schema Is (says schema at)
  nothing reading bytes is =
      let none = nothing_whole bytes is in (
        ap (λ t. if t then Ok Nothing else answer reading bytes (at bytes)) none,
        λ written line. false≢true (sym (something written bytes line) ∙ none),
      )

  refused_at : (bytes stop : List ℕ) → at bytes ≡ Err stop → (written : Written) → Is written bytes → ⊥
  refused_at bytes stop is written line = let a = whole written bytes line in cc

  by_reading : (reading : ℕ) (bytes : List ℕ) (r : Read Written) → at bytes ≡ r → is_nothing (next bytes) ≡ false
      → ((written : Written) × Is written bytes) ⊎ IsRefused schema Is (says schema at) reading bytes
  by_reading reading bytes (Ok x) is some = inl (x.0, holds_at (sound bytes) is)
  by_reading reading bytes (Err stop) is some = inr (
    length bytes - length stop,
    (
      ap (λ t. if t then Ok Nothing else answer reading bytes (at bytes)) some ∙ ap (answer reading bytes) is,
      refused_at bytes stop is,
    ),
  )

  only : OnlyLinesAreRead schema Is (says schema at)
  only reading bytes = by_test (is_nothing (next bytes)) refl
    where
      by_test : (t : Bool) → is_nothing (next bytes) ≡ t → IsNothing bytes ⊎ (((written : Written) × Is written bytes) ⊎ IsRefused schema Is (says schema at) reading bytes)
      by_test true is = inl (nothing_found bytes (next bytes) (blanks_before bytes) is)
      by_test false is = inr (by_reading reading bytes (at bytes) refl is)

  -- the byte of a fault of syntax
  at_tokens : FaultsAreAtTokens (says schema at)
  at_tokens reading bytes byte is = by_test (is_nothing (next bytes)) is
    where
      number : Result Line Refusal → ℕ
      number (Err (Syntax k)) = k
      number _ = byte

      told : (stop front : List ℕ) → length bytes ≡ length (front ++ stop) → length bytes - length stop ≡ byte → byte ≡ length front
      told stop front all e = omega (arith, all, e, length-append front stop)

      by_read : (r : Read Written) → at bytes ≡ r → answer reading bytes r ≡ Err (Syntax byte) → TokenAt (Ends is_blank) bytes byte
      by_read (Ok x) is e = absurd (never_syntax schema reading x.0 byte e)
      by_read (Err stop) is e =
          let r = stopped_at (stops bytes) is in
          record { before = r.ended.front; from = stop; place = r.ended.place; counted = told stop r.ended.front (ap length r.ended.place) (ap number e); begins = r.begins }

      by_test : (t : Bool) → (if t then Ok Nothing else answer reading bytes (at bytes)) ≡ Err (Syntax byte) → TokenAt (Ends is_blank) bytes byte
      by_test true e = let no : ◌≡◌ {A = Result Line Refusal} (Ok Nothing) (Err (Syntax byte)) = e in cc
      by_test false e = by_read (at bytes) refl e

-- of the lines of a script
module _ (schema : Schema) where
  pub script_read : LinesAreRead schema (IsLine schema) (body_says schema)
  unfolding body_says
  script_read = read schema (IsLine schema) (written_at schema) (written_sound schema) (line_whole schema) (line_is_something schema) (written_stops schema)

  pub script_one_thing : LinesSayOneThing (IsLine schema)
  script_one_thing = one_thing schema (IsLine schema) (written_at schema) (written_sound schema) (line_whole schema) (line_is_something schema) (written_stops schema)

  pub script_nothing : NothingIsRead schema (IsLine schema) (body_says schema)
  unfolding body_says
  script_nothing = nothing schema (IsLine schema) (written_at schema) (written_sound schema) (line_whole schema) (line_is_something schema) (written_stops schema)

  pub script_only : OnlyLinesAreRead schema (IsLine schema) (body_says schema)
  unfolding body_says
  script_only = only schema (IsLine schema) (written_at schema) (written_sound schema) (line_whole schema) (line_is_something schema) (written_stops schema)

  pub script_at_tokens : FaultsAreAtTokens (body_says schema)
  unfolding body_says
  script_at_tokens = at_tokens schema (IsLine schema) (written_at schema) (written_sound schema) (line_whole schema) (line_is_something schema) (written_stops schema)

-- of the lines that a session sends
module _ (schema : Schema) (session : ℕ) where
  pub served_read : LinesAreRead schema (IsServedLine schema session) (served_body_says schema session)
  unfolding served_body_says
  served_read = read schema (IsServedLine schema session) (served_at schema session) (served_sound schema session) (served_whole schema session) (served_is_something schema session) (served_stops schema session)

  pub served_one_thing : LinesSayOneThing (IsServedLine schema session)
  served_one_thing = one_thing schema (IsServedLine schema session) (served_at schema session) (served_sound schema session) (served_whole schema session) (served_is_something schema session) (served_stops schema session)

  pub served_nothing : NothingIsRead schema (IsServedLine schema session) (served_body_says schema session)
  unfolding served_body_says
  served_nothing = nothing schema (IsServedLine schema session) (served_at schema session) (served_sound schema session) (served_whole schema session) (served_is_something schema session) (served_stops schema session)

  pub served_only : OnlyLinesAreRead schema (IsServedLine schema session) (served_body_says schema session)
  unfolding served_body_says
  served_only = only schema (IsServedLine schema session) (served_at schema session) (served_sound schema session) (served_whole schema session) (served_is_something schema session) (served_stops schema session)

  pub served_at_tokens : FaultsAreAtTokens (served_body_says schema session)
  unfolding served_body_says
  served_at_tokens = at_tokens schema (IsServedLine schema session) (served_at schema session) (served_sound schema session) (served_whole schema session) (served_is_something schema session) (served_stops schema session)

-- With the token at a fault of syntax no bytes make a line.
use Rattle.std.proofs.Common.{◌≡◌, ◌≤◌, ℕ, suc, Bool, true, false, List, [], ◌∷◌, ◌++◌, ◌-◌, Ok, Err, length, ap, arith, if◌then◌else◌}
use Rattle.std.specs.Prelude.{Result, ◌==◌}
use Rattle.std.proofs.lemmas.List.{length-append}
use Rattle.std.proofs.lemmas.Bool.Decides.{nat_tests}
use Rattle.values.specs.Tables.{Schema}
use Rattle.values.specs.declared.refusal.Refusal.{Refusal}
use Rattle.values.specs.declared.refusal.Refusal.TheVariants.{Syntax}
use Rattle.tokens.specs.Token.{Read}
use Rattle.statement.specs.declared.line.Line.{Line}
use Rattle.statement.specs.declared.line.Line.TheVariants.{Nothing}
use Rattle.statement.specs.declared.line.Written.{Written}
use Rattle.statement.specs.Token.{next}
use Rattle.statement.specs.Line.{is_nothing, written_at, body_says}
use Rattle.statement.specs.ServedLine.{served_at, served_body_says}
use Rattle.statement.specs.Grammar.{IsLine, IsServedLine}
use Rattle.statement.specs.GrammarLaw.{Lines}
use Rattle.statement.proofs.GrammarReads.{answered, says}
use Rattle.statement.specs.GoingOn.{FaultsAreFinal}
use Rattle.statement.proofs.MeaningOfLines.{never_syntax}
use Rattle.tokens.proofs.PlaceSame.{Good, Same}
use Rattle.tokens.proofs.TokenSame.{token_agrees}
use Rattle.statement.proofs.TokenSame.{near_front}
use Rattle.statement.proofs.TokenProduction.{Parting, texts_of}
use Rattle.statement.proofs.GrammarStopping.{Stops}
use Rattle.statement.proofs.LineProduction.{written, served, line_whole, served_whole, written_stops, served_stops}

other_byte : (b symbol : ℕ) → (b ≡ symbol → ⊥) → (b == symbol) ≡ false
other_byte b symbol h = grind (arith, nat_tests)

-- of a grammar and its reader, which is the same up to a token and in it
module _ (schema : Schema) (Is : Lines) (at : List ℕ → Read Written)
    (whole : (written : Written) (bytes : List ℕ) → Is written bytes → at bytes ≡ Ok (written, []))
    (stops : (bytes : List ℕ) → Stops bytes (at bytes))
    (fine : (s : Parting) → Good (texts_of s) at) where
  abbrev answer : ℕ → List ℕ → Read Written → Result Line Refusal
  answer reading bytes r = answered schema at reading bytes r

  final : FaultsAreFinal Is (says schema at)
  final reading before first others rest p fault other written q line = by_test (is_nothing (next bytes)) fault
    where
      s : List ℕ
      s = others ++ rest

      t : List ℕ
      t = others ++ other

      bytes : List ℕ
      bytes = before ++ first ∷ s

      read : at (before ++ first ∷ t) ≡ Ok (written, [])
      read = whole written (before ++ first ∷ t) line

      both : Parting
      both = record {
        first = first;
        rest = s;
        other = t;
        tokens = record { no_blank = p.no_blank; runs = λ f within. token_agrees f within rest other first others p.token q.token };
        no_minus = other_byte first 45 p.no_minus;
        no_quote = other_byte first 39 p.no_quote;
      }

      same : Same (texts_of both) (at bytes) (at (before ++ first ∷ t))
      same = (fine both).same _ _ (near_front first s t both.tokens before)

      number : Result Line Refusal → ℕ
      number (Err (Syntax k)) = k
      number _ = length before

      from_token : (stop : List ℕ) → length stop ≤ length bytes → length bytes - length stop ≡ length before → length stop ≡ suc (length s)
      from_token stop h e = omega (arith, h, e, length-append before (first ∷ s))

      clash : (r u : Read Written) → Same (texts_of both) r u → u ≡ Ok (written, []) → Stops bytes r → answer reading bytes r ≡ Err (Syntax (length before)) → ⊥
      clash (Ok x) u w is stop e = never_syntax schema reading x.0 (length before) e
      clash (Err left) (Err c) w is stop e = cc
      clash (Err left) (Ok y) w is stop e =
          let r = stop.it in
          let short : length left ≤ length bytes = omega (arith, ap length (r.ended).place, length-append (r.ended).front left) in
          w.it (from_token left short (ap number e))

      by_test : (u : Bool) → (if u then Ok Nothing else answer reading bytes (at bytes)) ≡ Err (Syntax (length before)) → ⊥
      by_test true e = let no : ◌≡◌ {A = Result Line Refusal} (Ok Nothing) (Err (Syntax (length before))) = e in cc
      by_test false e = clash (at bytes) (at (before ++ first ∷ t)) same read (stops bytes) e

pub script_final : (schema : Schema) → FaultsAreFinal (IsLine schema) (body_says schema)
unfolding body_says
script_final schema = final schema (IsLine schema) (written_at schema) (line_whole schema) (written_stops schema) (written schema).same

pub served_final : (schema : Schema) (session : ℕ) → FaultsAreFinal (IsServedLine schema session) (served_body_says schema session)
unfolding served_body_says
served_final schema session = final schema (IsServedLine schema session) (served_at schema session) (served_whole schema session) (served_stops schema session) (served schema session).production.same

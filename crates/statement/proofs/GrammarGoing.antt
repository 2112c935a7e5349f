-- The bytes before a fault of syntax can go on to a line.
use Rattle.std.proofs.Common.{◌≡◌, ℕ, Bool, true, false, List, [], ◌++◌, Ok, Err, length, ap, subst, if◌then◌else◌}
use Rattle.std.specs.Prelude.{Result}
use Rattle.values.specs.Tables.{Schema}
use Rattle.values.specs.declared.refusal.Refusal.{Refusal}
use Rattle.values.specs.declared.refusal.Refusal.TheVariants.{Syntax}
use Rattle.tokens.specs.Token.{Read}
use Rattle.statement.specs.declared.line.Line.{Line}
use Rattle.statement.specs.declared.line.Line.TheVariants.{Nothing}
use Rattle.statement.specs.declared.line.Written.{Written}
use Rattle.statement.specs.Token.{next}
use Rattle.statement.specs.Line.{is_nothing, written_at, body_says}
use Rattle.statement.specs.ServedLine.{served_at, served_body_says}
use Rattle.statement.specs.Grammar.{Piece, IsLine, IsServedLine}
use Rattle.statement.specs.GrammarLaw.{Lines}
use Rattle.statement.specs.GoingOn.{PrefixesGoOn}
use Rattle.tokens.proofs.TokenFollows.{same_front}
use Rattle.tokens.proofs.TokenGoing.{Reads}
use Rattle.statement.proofs.GrammarReads.{answered, says}
use Rattle.statement.proofs.MeaningOfLines.{never_syntax}
use Rattle.statement.proofs.LineProduction.{LinePiece, ServedPiece, written, served, line_of, served_line_of}

-- ---- where a fault is

number : ℕ → Result Line Refusal → ℕ
number n (Err (Syntax k)) = k
number n _ = n

module _ (schema : Schema) (Is : Lines) (at : List ℕ → Read Written) (P : Written → Piece)
    (reads : (bytes : List ℕ) → Reads P bytes (at bytes))
    (of : (w : Written) (bytes : List ℕ) → P w bytes [] → Is w bytes) where
  abbrev answer : ℕ → List ℕ → Read Written → Result Line Refusal
  answer reading bytes r = answered schema at reading bytes r

  fronts : PrefixesGoOn Is (says schema at)
  unfolding number
  fronts reading before rest fault = by_test (is_nothing (next bytes)) fault
    where
      bytes : List ℕ
      bytes = before ++ rest

      by_read : (r : Read Written) → Reads P bytes r → answer reading bytes r ≡ Err (Syntax (length before)) → (more : List ℕ) × ((written : Written) × Is written (before ++ more))
      by_read (Ok x) s e = absurd (never_syntax schema reading x.0 (length before) e)
      by_read (Err stop) s e =
          let c = s.it in
          let here : c.front ≡ before = same_front c.front before stop rest c.place (ap (number (length before)) e) in
          (c.more ++ [], (c.value, of c.value (before ++ (c.more ++ [])) (subst (λ (l : List ℕ). P c.value (l ++ (c.more ++ [])) []) here (c.goes [] tt))))

      by_test : (u : Bool) → (if u then Ok Nothing else answer reading bytes (at bytes)) ≡ Err (Syntax (length before)) → (more : List ℕ) × ((written : Written) × Is written (before ++ more))
      by_test true e = let no : ◌≡◌ {A = Result Line Refusal} (Ok Nothing) (Err (Syntax (length before))) = e in cc
      by_test false e = by_read (at bytes) (reads bytes) e

pub script_fronts : (schema : Schema) → PrefixesGoOn (IsLine schema) (body_says schema)
unfolding body_says
script_fronts schema = fronts schema (IsLine schema) (written_at schema) (LinePiece schema) (written schema).reads (line_of schema)

pub served_fronts : (schema : Schema) (session : ℕ) → PrefixesGoOn (IsServedLine schema session) (served_body_says schema session)
unfolding served_body_says
served_fronts schema session = fronts schema (IsServedLine schema session) (served_at schema session) (ServedPiece schema session) ((served schema session).production).reads (served_line_of schema session)

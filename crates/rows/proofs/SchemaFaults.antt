-- Where a fault of syntax is: at a token, behind bytes that can go on to a schema; with the token they cannot.
use Rattle.std.proofs.Common.{◌≡◌, ◌≤◌, ◌-◌, ℕ, List, [], ◌∷◌, ◌++◌, Ok, Err, length, refl, ap, sym, ◌∙◌, subst, arith, if◌then◌else◌}
use Rattle.std.specs.Prelude.{Result}
use Rattle.std.proofs.lemmas.List.{length-append}
use Rattle.values.specs.Tables.{Schema}
use Rattle.rows.specs.declared.declaration.Declaration.{Declaration}
use Rattle.rows.specs.declared.schema_reading.SchemaFault.{SchemaFault}
use Rattle.rows.specs.declared.schema_reading.SchemaFault.TheVariants.{Syntax}
use Rattle.tokens.specs.Token.{Read}
use Rattle.tokens.proofs.TokenFollows.{same_front}
use Rattle.tokens.proofs.TokenGoing.{Goes, Reads}
use Rattle.tokens.proofs.PlaceSame.{Within, Same}
use Rattle.tokens.proofs.TokenSame.{token_agrees}
use Rattle.tokens.proofs.TokenProduction.{Begins}
use Rattle.rows.specs.Declaration.{creates_at}
use Rattle.rows.specs.SchemaTable.{read_schema}
use Rattle.rows.specs.SchemaGrammar.{SchemaText}
use Rattle.rows.specs.SchemaGrammarLaw.{FaultsAreAtTokens, PrefixesGoOn, FaultsAreFinal}
use Rattle.rows.proofs.SchemaReads.{short, no_syntax, read_as}
use Rattle.rows.proofs.SchemaTokenProduction.{Parting, texts_of, gaps}
use Rattle.rows.proofs.SchemaProduction.{Creates, creates, text_read, text_at_end}

number : ℕ → Result Schema SchemaFault → ℕ
number n (Err (Syntax k)) = k
number n _ = n

-- a fault at this byte: reading stopped there
record Fault (text : List ℕ) (n : ℕ) : Type 0 where
  at : List ℕ
  stops : creates_at text ≡ Err at
  counted : length text - length at ≡ n
  goes : Goes Creates text at

fault_of : (text : List ℕ) (n : ℕ) → length text ≤ 65536 → read_schema text ≡ Err (Syntax n) → Fault text n
unfolding read_schema number
fault_of text n few fault = by_read (creates_at text) refl (creates.reads text) (sym (ap (λ t. if t then Err (Syntax 65536) else read_as text (creates_at text)) (short (length text) few)) ∙ fault)
  where
    by_read : (r : Read (List Declaration)) → creates_at text ≡ r → Reads Creates text r → read_as text r ≡ Err (Syntax n) → Fault text n
    by_read (Ok x) is s e = absurd (no_syntax x.0 [] n e)
    by_read (Err at) is s e = record { at = at; stops = is; counted = ap (number n) e; goes = s.it }

pub at_tokens : FaultsAreAtTokens
at_tokens text n few fault =
    let f = fault_of text n few fault in
    let b : Begins gaps {X = List Declaration × List ℕ} (Err f.at) = subst (Begins gaps) f.stops (creates.begins text) in
    record { before = (f.goes).front; from = f.at; place = (f.goes).place; counted = omega (arith, f.counted, ap length (f.goes).place, length-append (f.goes).front f.at); begins = b.it }

pub prefixes_go_on : PrefixesGoOn
prefixes_go_on before rest few fault =
    let f = fault_of (before ++ rest) (length before) few fault in
    let g : Goes Creates (before ++ rest) f.at = f.goes in
    (g.more ++ [], (g.value, subst (λ (l : List ℕ). SchemaText g.value (l ++ (g.more ++ []))) (same_front g.front before f.at rest g.place f.counted) (text_at_end g.value (g.front ++ (g.more ++ [])) (g.goes [] tt))))

pub faults_are_final : FaultsAreFinal
faults_are_final before first others rest p few fault other q declarations spelled =
    let f = fault_of text (length before) few fault in
    let read = text_read declarations those spelled in
    let same : Same (texts_of s) {A = List Declaration} (Err f.at) (Ok (declarations, read.0)) =
    subst (λ u. Same (texts_of s) (Err f.at) u) read.1 (subst (λ r. Same (texts_of s) r (creates_at those)) f.stops ((creates.same s).same text those (record { front = before; left = refl; right = refl }))) in
    let inside : Within (texts_of s) {A = List Declaration} text (Err f.at) = subst (Within (texts_of s) text) f.stops ((creates.same s).within text) in
    same.it (omega (arith, inside.it, (texts_of s).shorter text, f.counted, length-append before (first ∷ (others ++ rest))))
  where
    text : List ℕ
    text = before ++ first ∷ (others ++ rest)

    those : List ℕ
    those = before ++ first ∷ (others ++ other)

    s : Parting
    s = record { first = first; rest = others ++ rest; other = others ++ other; tokens = record { one = p.begins; two = q.begins; runs = λ f within. token_agrees f within rest other first others p.token q.token } }

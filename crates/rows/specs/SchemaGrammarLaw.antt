-- What is read of the texts of the grammar.
use Rattle.std.specs.Prelude.{◌≡◌, ℕ, ◌<◌, ◌≤◌, List, [], ◌∷◌, ◌++◌, ◌⊎◌, ◌↔◌, Result, Ok, Err, length}
use Rattle.values.specs.Tables.{Schema}
use Rattle.rows.specs.declared.schema_reading.SchemaFault.{SchemaFault}
use Rattle.rows.specs.declared.schema_reading.SchemaFault.TheVariants.{Syntax}
use Rattle.rows.specs.declared.declaration.Declaration.{Declaration}
use Rattle.tokens.specs.Place.{TokenAt, IsToken}
use Rattle.rows.specs.SchemaTable.{longest_schema, tables_from, read_schema}
use Rattle.rows.specs.SchemaToken.{symbol_at, word_at, name_at, digits_at}
use Rattle.rows.specs.SchemaGrammar.{BeginsToken, Symbol, Word, Name, Digits, SchemaText}

abbrev pub HasSyntaxFault : Result Schema SchemaFault → Type 0
HasSyntaxFault r = (at : ℕ) × (r ≡ Err (Syntax at))

-- the text says some declarations, and they decide what is read
pub record OfTheGrammar (text : List ℕ) (r : Result Schema SchemaFault) : Type 0 where
  pub declarations : List Declaration
  pub spelled : SchemaText declarations text
  pub decided : r ≡ tables_from [] declarations

-- where no fault of syntax is found, the text is of the grammar
abbrev pub WhatIsReadIsOfTheGrammar : Type 0
WhatIsReadIsOfTheGrammar =
    (text : List ℕ) → HasSyntaxFault (read_schema text) ⊎ OfTheGrammar text (read_schema text)

-- a symbol, a word, a name and digits are read where they come next, and nowhere else
pub record TokensAreRead : Type 0 where
  pub symbols : (symbol : ℕ) (x : Unit {0}) (bytes rest : List ℕ)
      → (symbol_at symbol bytes ≡ Ok rest) ↔ Symbol symbol x bytes rest
  pub words : (word : List ℕ) (x : Unit {0}) (bytes rest : List ℕ)
      → (word_at word bytes ≡ Ok rest) ↔ Word word x bytes rest
  pub names : (name bytes rest : List ℕ) → (name_at bytes ≡ Ok (name, rest)) ↔ Name name bytes rest
  pub digits : (n : ℕ) (bytes rest : List ℕ)
      → (digits_at bytes ≡ Ok (n, rest)) ↔ Digits n bytes rest

-- every text of the grammar that is short enough is read, as what it says
abbrev pub TheGrammarIsRead : Type 0
TheGrammarIsRead =
    (text : List ℕ) (declarations : List Declaration) → length text ≤ longest_schema
    → SchemaText declarations text → read_schema text ≡ tables_from [] declarations

-- no text says two things
abbrev pub TextsSayOneThing : Type 0
TextsSayOneThing =
    (text : List ℕ) (these those : List Declaration) → SchemaText these text → SchemaText those text
    → these ≡ those

-- the text is not of the grammar
abbrev pub SaysNothing : List ℕ → Type 0
SaysNothing text = (declarations : List Declaration) → SchemaText declarations text → ⊥

-- a fault of syntax is found where the text is too long or says nothing, and nowhere else
abbrev pub OnlyTheGrammarIsRead : Type 0
OnlyTheGrammarIsRead =
    (text : List ℕ)
    → HasSyntaxFault (read_schema text)
    ↔ ((longest_schema < length text) ⊎ SaysNothing text)

-- a fault of syntax in a text that is short enough is reported at a token or at the end
abbrev pub FaultsAreAtTokens : Type 0
FaultsAreAtTokens =
    (text : List ℕ) (n : ℕ) → length text ≤ longest_schema → read_schema text ≡ Err (Syntax n)
    → TokenAt BeginsToken text n

-- in a text that is short enough the bytes before a fault of syntax can go on to a text of the grammar
abbrev pub PrefixesGoOn : Type 0
PrefixesGoOn =
    (before rest : List ℕ) → length (before ++ rest) ≤ longest_schema
    → read_schema (before ++ rest) ≡ Err (Syntax (length before))
    → (more : List ℕ)
    × ((declarations : List Declaration) × SchemaText declarations (before ++ more))

-- a token by its first byte and the others, before the rest: it is whole, and no gap comes first
pub record IsNextToken (first : ℕ) (others rest : List ℕ) : Type 0 where
  pub token : IsToken first others rest
  pub begins : BeginsToken (first ∷ (others ++ rest))

-- with the token at a fault of syntax, in a text that is short enough, no bytes after it make a text
-- of the grammar of it and the bytes before it
abbrev pub FaultsAreFinal : Type 0
FaultsAreFinal =
    (before : List ℕ) (first : ℕ) (others rest : List ℕ) → IsNextToken first others rest
    → length (before ++ first ∷ (others ++ rest)) ≤ longest_schema
    → read_schema (before ++ first ∷ (others ++ rest)) ≡ Err (Syntax (length before))
    → (other : List ℕ) → IsNextToken first others other
    → SaysNothing (before ++ first ∷ (others ++ other))

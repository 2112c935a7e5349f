-- Where memory can run out, and which lines take none to be read.
use Rattle.std.specs.Prelude.{◌≡◌, ℕ, ◌^◌, ◌-◌, ◌||◌, List, Bool, true, false, Result, Ok, Err, codes}
use Rattle.std.specs.Result.{is_ok}
use Rattle.std.specs.Borrow.{Bor}
use Rattle.values.specs.declared.refusal.Refusal.{Refusal}
use Rattle.values.specs.declared.refusal.Refusal.TheVariants.{Memory}
use Rattle.tokens.specs.declared.token.Stop.{Stop}
use Rattle.tokens.specs.declared.token.Stop.TheVariants.{At, Memory as OutOfMemory}
use Rattle.statement.specs.declared.statement.Statement.{Statement}
use Rattle.statement.specs.declared.statement.Statement.TheVariants.{Insert}
use Rattle.statement.specs.declared.line.Written.{Written}
use Rattle.statement.specs.declared.line.Written.TheVariants.{Clock, SplitKey, SplitTime, Migrate, Session, AddColumn}
use Rattle.statement.specs.Token.{symbol_at, word_at}
use Rattle.statement.specs.Literal.{digits_at}
use Rattle.statement.specs.Line.{body_of}

-- the answer, unless memory ran out
abbrev pub UnlessMemory : {A : Type 0} → Result A Refusal → Result A Refusal → Type 0
UnlessMemory (Err Memory) answer = Unit {0}
UnlessMemory result answer = answer ≡ result

-- the bytes go on with a word that begins a statement on rows
abbrev pub is_on_rows : List ℕ → Bool
is_on_rows bytes =
    is_ok (word_at (codes "INSERT") bytes)
    || (is_ok (word_at (codes "UPDATE") bytes)
    || (is_ok (word_at (codes "DELETE") bytes) || is_ok (word_at (codes "SELECT") bytes)))

-- a session's ALTER, whose name is kept, or its statement on rows
abbrev pub asks_by_name : List ℕ → Bool
asks_by_name bytes = is_ok (word_at (codes "ALTER") bytes) || is_on_rows bytes

-- such a line of a session
abbrev pub asks_for_rows : List ℕ → Bool
asks_for_rows bytes = elim (digits_at (2 ^ 63 - 1) bytes) [
  | Err _ ↦ false
  | Ok session ↦ elim (symbol_at 58 session.1) [ Err _ ↦ false | Ok rest ↦ asks_by_name rest ]
]

-- a split, which names a key
abbrev pub asks_to_split : List ℕ → Bool
asks_to_split bytes =
    elim (word_at (codes "SPLIT") bytes) [ Err _ ↦ false | Ok rest ↦ is_ok (symbol_at 58 rest) ]

-- what is said of rows or of a column, and of a key
abbrev pub asks_for_values : List ℕ → Bool
asks_for_values bytes = asks_for_rows bytes || asks_to_split bytes

-- the same in a line that a session sends
abbrev pub serves_values : List ℕ → Bool
serves_values bytes = is_on_rows bytes || asks_to_split bytes

-- reading a line that a session sends takes memory
abbrev pub serving_takes_memory : List ℕ → Bool
serving_takes_memory line = serves_values (body_of line)

-- reading the line takes memory: only where values may come, or a name that is kept, does it
abbrev pub takes_memory : List ℕ → Bool
takes_memory line = asks_for_values (body_of line)

-- the rows of an INSERT are put in the table's order, which takes memory once more
abbrev pub is_insert : Statement → Bool
is_insert (Insert _ _ _) = true
is_insert _ = false

abbrev pub inserts : Written → Bool
inserts (Clock _) = false
inserts (SplitKey _) = false
inserts (SplitTime _ _) = false
inserts Migrate = false
inserts (Session _ statement) = is_insert statement
inserts (AddColumn _ _ _ _) = false

-- memory ran out, or can still run out over what was read
abbrev pub can_run_out : {A : Type 0} → (A → Bool) → Result (A × Bor (List ℕ)) Stop → Bool
can_run_out more (Ok x) = more x.0
can_run_out more (Err (At _)) = false
can_run_out more (Err OutOfMemory) = true

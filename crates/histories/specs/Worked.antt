-- Worked examples, each a list of steps with its replies.
use Rattle.std.specs.Prelude.{◌≡◌, ℕ, List, [], ◌∷◌, ◌++◌, Option, Some, None, codes, pos, map, reverse}
use Rattle.values.specs.declared.value.Value.{Value}
use Rattle.values.specs.declared.value.Value.TheVariants.{Int, Text, Null}
use Rattle.values.specs.declared.query.Form.TheVariants.{Plain, AsOf, FromTo, Between}
use Rattle.values.specs.declared.query.Operator.TheVariants.{Equal}
use Rattle.values.specs.declared.query.Keys.{Keys}
use Rattle.values.specs.declared.query.Set.{Set}
use Rattle.values.specs.declared.query.Shown.{Shown}
use Rattle.values.specs.declared.refusal.Refusal.TheVariants.{NoTable, BadRow, NoSession, NoTransaction, InTransaction, DuplicateKey, Conflict, ClockEnd, TransactionsOpen}
use Rattle.values.specs.declared.table.ColumnType.TheVariants.{Int as IsInt, Text as IsText, Varchar as IsVarchar}
use Rattle.values.specs.Sample.{sample}
use Rattle.values.specs.Log.{Row}
use Rattle.values.specs.Commits.{max_instant}
use Rattle.values.specs.declared.key.Key.{Key}
use Rattle.steps.specs.declared.step.Step.{Step}
use Rattle.steps.specs.declared.step.Step.TheVariants.{Begin, Insert, Update, Delete, Select, Commit, Rollback, AddColumn}
use Rattle.steps.specs.declared.step.Listing.TheVariants.{Rows, Periods}
use Rattle.steps.specs.declared.step.Reply.{Reply}
use Rattle.steps.specs.declared.step.Reply.TheVariants.{Begun, Inserted, Updated, Deleted, Shown as Shows, Committed, RolledBack, Altered, Refused}
use Rattle.histories.specs.History.{replies}
use Rattle.histories.specs.Winners.{Winner, winners}

abbrev pub emp : ℕ → List ℕ → Row
emp n name = Int (pos n) ∷ Text name ∷ []

abbrev pub all : Keys
all = record { table = 1; comparisons = [] }

abbrev pub number : ℕ → Keys
number n = record {
  table = 1;
  comparisons = record { column = 1; operator = Equal; value = Int (pos n) } ∷ [];
}

abbrev pub rename : List ℕ → List Set
rename name = record { column = 2; value = Text name } ∷ []

abbrev pub version : Row → ℕ → Option ℕ → Shown
version row from to = record { row = row; from = from; to = to }

abbrev pub number_key : ℕ → Key
number_key n = record { table = 1; parts = Int (pos n) ∷ [] }

abbrev pub rows : List Row → Reply
rows shown = Shows (Rows shown)

abbrev pub periods : List Shown → Reply
periods shown = Shows (Periods shown)

abbrev pub ann : Row
ann = emp 1 (codes "Ann")

abbrev pub bea : Row
bea = emp 1 (codes "Bea")

-- from an empty store on, these steps have these replies
abbrev pub Answers : List Step → List Reply → Type 0
Answers steps expected = replies sample [] steps ≡ expected

-- a period is closed at its start
abbrev pub first : List Step
first =
    Begin 1 ∷ Insert 1 1 (ann ∷ []) ∷ Commit 1 100
    ∷ Select 1 (AsOf 99) all ∷ Select 1 (AsOf 100) all ∷ []

abbrev pub first_replies : List Reply
first_replies = Begun 0 ∷ Inserted 1 ∷ Committed (Some 100) ∷ rows [] ∷ rows (ann ∷ []) ∷ []

abbrev pub ClosedStart : Type 0
ClosedStart = Answers first first_replies

-- and open at its end
abbrev pub second : List Step
second =
    first ++ Begin 1 ∷ Update 1 (number 1) (rename (codes "Bea")) ∷ Commit 1 200
    ∷ Select 1 (AsOf 199) all ∷ Select 1 (AsOf 200) all
    ∷ Select 1 (FromTo 100 200) all ∷ Select 1 (Between 100 200) all ∷ []

abbrev pub second_replies : List Reply
second_replies =
    first_replies ++ Begun 100 ∷ Updated 1 ∷ Committed (Some 200)
    ∷ rows (ann ∷ []) ∷ rows (bea ∷ [])
    ∷ periods (version ann 100 (Some 200) ∷ [])
    ∷ periods (version ann 100 (Some 200) ∷ version bea 200 None ∷ []) ∷ []

abbrev pub OpenEnd : Type 0
OpenEnd = Answers second second_replies

-- a time that ends where it begins, or before, has no rows, but for one that counts its end in
abbrev pub third : List Step
third =
    second ++ Select 1 (FromTo 150 150) all ∷ Select 1 (Between 200 200) all
    ∷ Select 1 (FromTo 300 100) all ∷ []

abbrev pub third_replies : List Reply
third_replies =
    second_replies ++ periods [] ∷ periods (version bea 200 None ∷ []) ∷ periods [] ∷ []

abbrev pub DegeneratePeriods : Type 0
DegeneratePeriods = Answers third third_replies

-- a clock that runs back does not take the instants back
abbrev pub fourth : List Step
fourth = third ++ Begin 1 ∷ Insert 1 1 (emp 2 (codes "Cy") ∷ []) ∷ Commit 1 50 ∷ []

abbrev pub fourth_replies : List Reply
fourth_replies = third_replies ++ Begun 200 ∷ Inserted 1 ∷ Committed (Some 201) ∷ []

abbrev pub ClockRunsBack : Type 0
ClockRunsBack = Answers fourth fourth_replies

-- of two transactions that change one key, the first to commit wins
abbrev pub FirstCommitter : Type 0
FirstCommitter =
    Answers (third ++ Begin 1 ∷ Begin 2
    ∷ Update 1 (number 1) (rename (codes "Cat")) ∷ Update 2 (number 1) (rename (codes "Dan"))
    ∷ Commit 1 200 ∷ Commit 2 200 ∷ [])
    (third_replies ++ Begun 200 ∷ Begun 200
    ∷ Updated 1 ∷ Updated 1
    ∷ Committed (Some 201) ∷ Refused (Conflict (number_key 1) 201) ∷ [])

-- two that change different keys both commit
abbrev pub sixth : List Step
sixth =
    fourth ++ Begin 1 ∷ Begin 2
    ∷ Update 1 (number 2) (rename (codes "Cat")) ∷ Update 2 (number 1) (rename (codes "Dan"))
    ∷ Commit 1 50 ∷ Commit 2 50 ∷ []

abbrev pub sixth_replies : List Reply
sixth_replies =
    fourth_replies ++ Begun 201 ∷ Begun 201
    ∷ Updated 1 ∷ Updated 1
    ∷ Committed (Some 202) ∷ Committed (Some 203) ∷ []

abbrev pub WriteSkew : Type 0
WriteSkew = Answers sixth sixth_replies

abbrev pub span : Winner → ℕ × ℕ
span w = (w.start, w.transaction.instant)

-- the last two of its committed transactions, by start and instant, each began before the other was
-- committed
abbrev pub ConcurrentWinners : Type 0
ConcurrentWinners =
    map span (winners sample (reverse sixth))
    ≡ (0, 100) ∷ (100, 200) ∷ (200, 201) ∷ (201, 202) ∷ (201, 203) ∷ []

-- a row that was inserted and deleted leaves no change, and takes no instant
abbrev pub NetChange : Type 0
NetChange =
    Answers (sixth ++ Begin 1 ∷ Insert 1 1 (emp 9 (codes "tmp") ∷ []) ∷ Delete 1 (number 9)
    ∷ Commit 1 50 ∷ Begin 1 ∷ [])
    (sixth_replies ++ Begun 203 ∷ Inserted 1 ∷ Deleted 1 ∷ Committed None ∷ Begun 203 ∷ [])

-- so such a transaction meets no other
abbrev pub NoChangeNoConflict : Type 0
NoChangeNoConflict =
    Answers (fourth ++ Begin 1 ∷ Begin 2
    ∷ Insert 1 1 (emp 8 (codes "a") ∷ []) ∷ Delete 1 (number 8)
    ∷ Insert 2 1 (emp 8 (codes "b") ∷ []) ∷ Commit 2 50 ∷ Commit 1 50 ∷ [])
    (fourth_replies ++ Begun 201 ∷ Begun 201
    ∷ Inserted 1 ∷ Deleted 1
    ∷ Inserted 1 ∷ Committed (Some 202) ∷ Committed None ∷ [])

-- own writes have no instant
abbrev pub OwnWrites : Type 0
OwnWrites =
    Answers (fourth ++ Begin 1 ∷ Insert 1 1 (emp 5 (codes "Gus") ∷ [])
    ∷ Select 1 Plain (number 5) ∷ Select 1 (AsOf 201) (number 5) ∷ Rollback 1 ∷ [])
    (fourth_replies ++ Begun 201 ∷ Inserted 1
    ∷ rows (emp 5 (codes "Gus") ∷ []) ∷ rows [] ∷ RolledBack ∷ [])

-- after the greatest instant there is none
abbrev pub LargestInstant : Type 0
LargestInstant =
    Answers (Begin 1 ∷ Insert 1 1 (ann ∷ []) ∷ Commit 1 max_instant
    ∷ Begin 1 ∷ Update 1 (number 1) (rename (codes "Bea")) ∷ Commit 1 max_instant ∷ [])
    (Begun 0 ∷ Inserted 1 ∷ Committed (Some max_instant)
    ∷ Begun max_instant ∷ Updated 1 ∷ Refused ClockEnd ∷ [])

-- of several refusals the first of their order is answered
abbrev pub RefusalsInOrder : Type 0
RefusalsInOrder =
    Answers (Select 1 Plain (record { table = 2; comparisons = [] })
    ∷ Insert 1 1 ((Text (codes "x") ∷ Text (codes "Ann") ∷ []) ∷ [])
    ∷ Insert 1 1 ((Int (pos 1) ∷ []) ∷ [])
    ∷ Insert 1 1 (ann ∷ [])
    ∷ Begin 1 ∷ Begin 1
    ∷ Insert 1 1 (emp 1 (codes "a") ∷ emp 1 (codes "b") ∷ [])
    ∷ Select 1 Plain all ∷ [])
    (Refused NoTable
    ∷ Refused (BadRow 1)
    ∷ Refused (BadRow 0)
    ∷ Refused NoTransaction
    ∷ Begun 0 ∷ Refused InTransaction
    ∷ Refused (DuplicateKey (number_key 1))
    ∷ rows [] ∷ [])

abbrev pub full : ℕ → List ℕ → Value → Row
full n name dept = Int (pos n) ∷ Text name ∷ dept ∷ []

-- a table gets a column while no session has a transaction open: rows that were stored before are
-- read with NULL in it, at every instant
abbrev pub added : List Step
added =
    first ++ Begin 1 ∷ AddColumn 2 1 (codes "dept") IsText ∷ Rollback 1
    ∷ AddColumn 2 1 (codes "dept") IsText ∷ Select 1 (AsOf 100) all
    ∷ Begin 1 ∷ Select 1 Plain all
    ∷ Update 1 all (record { column = 3; value = Text (codes "x") } ∷ []) ∷ Commit 1 200
    ∷ Select 1 (FromTo 100 300) all
    ∷ Insert 1 1 (emp 2 (codes "Bo") ∷ []) ∷ []

abbrev pub added_replies : List Reply
added_replies =
    first_replies ++ Begun 100 ∷ Refused TransactionsOpen ∷ RolledBack
    ∷ Altered ∷ rows (full 1 (codes "Ann") Null ∷ [])
    ∷ Begun 100 ∷ rows (full 1 (codes "Ann") Null ∷ [])
    ∷ Updated 1 ∷ Committed (Some 200)
    ∷ periods (version (full 1 (codes "Ann") Null) 100 (Some 200)
    ∷ version (full 1 (codes "Ann") (Text (codes "x"))) 200 None ∷ [])
    ∷ Refused (BadRow 0) ∷ []

abbrev pub ColumnAdded : Type 0
ColumnAdded = Answers added added_replies

-- a row that is written with what it has is a new version, of the table's width then
abbrev pub WrittenWide : Type 0
WrittenWide =
    Answers (first ++ AddColumn 1 1 (codes "dept") IsInt
    ∷ Begin 1 ∷ Update 1 all (record { column = 3; value = Null } ∷ []) ∷ Commit 1 0
    ∷ Select 1 (FromTo 100 300) all ∷ [])
    (first_replies ++ Altered
    ∷ Begun 100 ∷ Updated 1 ∷ Committed (Some 101)
    ∷ periods (version (full 1 (codes "Ann") Null) 100 (Some 101)
    ∷ version (full 1 (codes "Ann") Null) 101 None ∷ []) ∷ [])

-- why a column cannot be added: the session, the table, the name or the type, an open transaction
abbrev pub AdditionsRefused : Type 0
AdditionsRefused =
    Answers (Begin 3 ∷ AddColumn 65 2 (codes "no") IsInt ∷ AddColumn 1 2 (codes "no") IsInt
    ∷ AddColumn 1 1 (codes "NO") IsInt ∷ AddColumn 1 1 (codes "Sys_End") IsInt
    ∷ AddColumn 1 1 (codes "d") (IsVarchar 0) ∷ AddColumn 1 1 (codes "d") (IsVarchar 1001)
    ∷ AddColumn 1 1 (codes "d") (IsVarchar 1) ∷ AddColumn 3 1 (codes "d") (IsVarchar 1) ∷ Rollback 3
    ∷ AddColumn 3 1 (codes "d") (IsVarchar 1) ∷ AddColumn 3 1 (codes "D") (IsVarchar 1) ∷ [])
    (Begun 0 ∷ Refused NoSession ∷ Refused NoTable
    ∷ Refused (BadRow 0) ∷ Refused (BadRow 0)
    ∷ Refused (BadRow 0) ∷ Refused (BadRow 0)
    ∷ Refused TransactionsOpen ∷ Refused TransactionsOpen ∷ RolledBack
    ∷ Altered ∷ Refused (BadRow 0) ∷ [])

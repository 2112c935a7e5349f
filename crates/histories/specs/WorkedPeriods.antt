-- Worked examples in a table with a period of application time, each a list of steps with its
-- replies.
use Rattle.std.specs.Prelude.{◌≡◌, ℕ, List, [], ◌∷◌, ◌++◌, Some, None, codes, pos, true, false}
use Rattle.values.specs.declared.period.Span.{Span}
use Rattle.values.specs.declared.value.Value.{Value}
use Rattle.values.specs.declared.value.Value.TheVariants.{Int, Text, Null}
use Rattle.values.specs.declared.query.Form.TheVariants.{Plain, Between}
use Rattle.values.specs.declared.query.Operator.TheVariants.{Equal}
use Rattle.values.specs.declared.query.Comparison.{Comparison}
use Rattle.values.specs.declared.query.Keys.{Keys}
use Rattle.values.specs.declared.query.Set.{Set}
use Rattle.values.specs.declared.query.Shown.{Shown}
use Rattle.values.specs.declared.refusal.Refusal.TheVariants.{BadRow, NoTransaction, DuplicateKey, Overlap, BadPeriod, Conflict}
use Rattle.values.specs.declared.table.ColumnType.TheVariants.{Int as IsInt, Text as IsText}
use Rattle.values.specs.declared.table.Table.{Table}
use Rattle.values.specs.declared.key.Key.{Key}
use Rattle.values.specs.Tables.{Schema}
use Rattle.values.specs.TableRules.{AreTables}
use Rattle.values.specs.Log.{Row}
use Rattle.steps.specs.declared.step.Step.{Step}
use Rattle.steps.specs.declared.step.Step.TheVariants.{Begin, Insert, Update, Delete, UpdatePortion, DeletePortion, Select, Commit, Rollback, AddColumn}
use Rattle.steps.specs.declared.step.Listing.TheVariants.{Rows, Periods}
use Rattle.steps.specs.declared.step.Reply.{Reply}
use Rattle.steps.specs.declared.step.Reply.TheVariants.{Begun, Inserted, Updated, Deleted, Shown as Shows, Committed, RolledBack, Altered, Refused}
use Rattle.histories.specs.History.{replies}

-- policies: a number, from when, until when, and a rate
abbrev pub policies : Table
policies = record {
  number = 1;
  name = codes "pol";
  columns =
      record { name = codes "id"; of = IsInt; not_null = true }
      ∷ record { name = codes "a"; of = IsInt; not_null = true }
      ∷ record { name = codes "b"; of = IsInt; not_null = true }
      ∷ record { name = codes "rate"; of = IsInt; not_null = false } ∷ [];
  key = 1 ∷ 2 ∷ [];
  row_start = codes "sys_start";
  row_end = codes "sys_end";
  period = Some (record { name = codes "valid"; from = 2; to = 3 });
}

-- the same, with no period
abbrev pub plain : Table
plain = record {
  number = 2;
  name = codes "old";
  columns = policies.columns;
  key = 1 ∷ 2 ∷ [];
  row_start = codes "sys_start";
  row_end = codes "sys_end";
  period = None;
}

abbrev pub both : Schema
both = record { tables = policies ∷ plain ∷ [] }

-- these are good tables
abbrev pub GoodTables : Type 0
GoodTables = AreTables 1 both.tables

-- from an empty store on, these steps have these replies
abbrev pub Answers : List Step → List Reply → Type 0
Answers steps expected = replies both [] steps ≡ expected

abbrev pub policy : ℕ → ℕ → ℕ → ℕ → Row
policy id a b rate = Int (pos id) ∷ Int (pos a) ∷ Int (pos b) ∷ Int (pos rate) ∷ []

abbrev pub insert : ℕ → Row → Step
insert i row = Insert i 1 (row ∷ [])

abbrev pub all : Keys
all = record { table = 1; comparisons = [] }

abbrev pub is_equal : ℕ → ℕ → Comparison
is_equal column n = record { column = column; operator = Equal; value = Int (pos n) }

abbrev pub of_id : ℕ → Keys
of_id id = record { table = 1; comparisons = is_equal 1 id ∷ [] }

abbrev pub at_start : ℕ → ℕ → Keys
at_start id a = record { table = 1; comparisons = is_equal 1 id ∷ is_equal 2 a ∷ [] }

abbrev pub from_to : ℕ → ℕ → Span
from_to a b = record { from = pos a; to = pos b }

abbrev pub set : ℕ → ℕ → List Set
set column n = record { column = column; value = Int (pos n) } ∷ []

abbrev pub rate : ℕ → List Set
rate n = set 4 n

abbrev pub entity : ℕ → Key
entity id = record { table = 1; parts = Int (pos id) ∷ [] }

abbrev pub key : ℕ → ℕ → Key
key id a = record { table = 1; parts = Int (pos id) ∷ Int (pos a) ∷ [] }

abbrev pub rows : List Row → Reply
rows shown = Shows (Rows shown)

abbrev pub version : Row → ℕ → ℕ → Shown
version row from to = record { row = row; from = from; to = Some to }

-- rows of one entity that overlap are refused; those that only touch are not
abbrev pub inserted : List Step
inserted =
    Begin 1 ∷ insert 1 (policy 7 0 100 5)
    ∷ insert 1 (policy 7 50 60 6) ∷ insert 1 (policy 7 0 5 6) ∷ insert 1 (policy 7 100 100 6)
    ∷ insert 1 (policy 7 100 120 6) ∷ Commit 1 10 ∷ []

abbrev pub inserted_replies : List Reply
inserted_replies =
    Begun 0 ∷ Inserted 1
    ∷ Refused (Overlap (key 7 50)) ∷ Refused (DuplicateKey (key 7 0)) ∷ Refused BadPeriod
    ∷ Inserted 1 ∷ Committed (Some 10) ∷ []

abbrev pub OverlapsRefused : Type 0
OverlapsRefused = Answers inserted inserted_replies

-- new values for a portion: what is left of each row before it and behind it stays
abbrev pub updated : List Step
updated =
    inserted ++ Begin 1 ∷ UpdatePortion 1 all (from_to 30 110) (rate 9) ∷ Select 1 Plain all
    ∷ Commit 1 20 ∷ []

abbrev pub updated_replies : List Reply
updated_replies =
    inserted_replies ++ Begun 10 ∷ Updated 2
    ∷ rows (policy 7 0 30 5 ∷ policy 7 30 100 9 ∷ policy 7 100 110 9 ∷ policy 7 110 120 6 ∷ [])
    ∷ Committed (Some 20) ∷ []

abbrev pub PortionUpdated : Type 0
PortionUpdated = Answers updated updated_replies

-- and no rows in one that is deleted
abbrev pub deleted : List Step
deleted =
    updated ++ Begin 1 ∷ DeletePortion 1 (of_id 7) (from_to 50 105) ∷ Commit 1 30
    ∷ Select 1 Plain all ∷ Select 1 (Between 10 30) (at_start 7 100)
    ∷ DeletePortion 1 all (from_to 40 40) ∷ []

abbrev pub deleted_replies : List Reply
deleted_replies =
    updated_replies ++ Begun 20 ∷ Deleted 2 ∷ Committed (Some 30)
    ∷ rows (policy 7 0 30 5 ∷ policy 7 30 50 9 ∷ policy 7 105 110 9 ∷ policy 7 110 120 6 ∷ [])
    ∷ Shows (Periods (version (policy 7 100 120 6) 10 20 ∷ version (policy 7 100 110 9) 20 30 ∷ []))
    ∷ Refused BadPeriod ∷ []

abbrev pub PortionDeleted : Type 0
PortionDeleted = Answers deleted deleted_replies

-- of two transactions that change one entity, the first to commit wins, whichever keys they wrote
abbrev pub EntityConflict : Type 0
EntityConflict =
    Answers (deleted ++ Begin 1 ∷ Begin 2
    ∷ UpdatePortion 1 all (from_to 0 10) (rate 1) ∷ insert 2 (policy 7 200 210 2)
    ∷ Commit 1 40 ∷ Commit 2 40 ∷ [])
    (deleted_replies ++ Begun 30 ∷ Begun 30
    ∷ Updated 1 ∷ Inserted 1
    ∷ Committed (Some 40) ∷ Refused (Conflict (entity 7) 40) ∷ [])

-- of two entities in conflict the least is named, whichever was written first, and of its commits since
-- the transaction began the last
abbrev pub LeastConflict : Type 0
LeastConflict =
    Answers (inserted ++ Begin 2
    ∷ Begin 1 ∷ insert 1 (policy 7 300 310 1) ∷ Commit 1 20
    ∷ Begin 1 ∷ insert 1 (policy 9 0 10 1) ∷ Commit 1 30
    ∷ Begin 1 ∷ insert 1 (policy 7 320 330 1) ∷ Commit 1 40
    ∷ insert 2 (policy 9 20 30 2) ∷ insert 2 (policy 7 200 210 2) ∷ Commit 2 50 ∷ [])
    (inserted_replies ++ Begun 10
    ∷ Begun 10 ∷ Inserted 1 ∷ Committed (Some 20)
    ∷ Begun 20 ∷ Inserted 1 ∷ Committed (Some 30)
    ∷ Begun 30 ∷ Inserted 1 ∷ Committed (Some 40)
    ∷ Inserted 1 ∷ Inserted 1 ∷ Refused (Conflict (entity 7) 40) ∷ [])

-- two that change two entities both commit; so do two that change two keys of a table without a
-- period
abbrev pub EntitiesApart : Type 0
EntitiesApart =
    Answers (inserted ++ Begin 1 ∷ Begin 2
    ∷ Insert 1 1 (policy 8 0 10 1 ∷ []) ∷ Insert 1 2 (policy 7 0 10 1 ∷ [])
    ∷ Insert 2 1 (policy 9 0 10 2 ∷ []) ∷ Insert 2 2 (policy 7 5 10 2 ∷ [])
    ∷ Commit 1 20 ∷ Commit 2 20 ∷ [])
    (inserted_replies ++ Begun 10 ∷ Begun 10
    ∷ Inserted 1 ∷ Inserted 1
    ∷ Inserted 1 ∷ Inserted 1
    ∷ Committed (Some 20) ∷ Committed (Some 21) ∷ [])

-- what is then committed is, of each entity, what its transaction saw; a transaction that is refused
-- adds nothing
abbrev pub CommitsJoined : Type 0
CommitsJoined =
    Answers (inserted ++ Begin 1 ∷ Begin 2 ∷ Begin 3
    ∷ UpdatePortion 1 all (from_to 30 110) (rate 9) ∷ insert 2 (policy 8 0 10 1)
    ∷ insert 3 (policy 9 0 10 2) ∷ DeletePortion 3 (of_id 7) (from_to 0 50)
    ∷ Commit 1 20 ∷ Select 2 Plain all ∷ Commit 2 20 ∷ Commit 3 20 ∷ Select 1 Plain all ∷ [])
    (inserted_replies ++ Begun 10 ∷ Begun 10 ∷ Begun 10
    ∷ Updated 2 ∷ Inserted 1
    ∷ Inserted 1 ∷ Deleted 1
    ∷ Committed (Some 20)
    ∷ rows (policy 7 0 100 5 ∷ policy 7 100 120 6 ∷ policy 8 0 10 1 ∷ [])
    ∷ Committed (Some 21) ∷ Refused (Conflict (entity 7) 20)
    ∷ rows (policy 7 0 30 5 ∷ policy 7 30 100 9 ∷ policy 7 100 110 9 ∷ policy 7 110 120 6
    ∷ policy 8 0 10 1 ∷ []) ∷ [])

-- an INSERT looks at the rows that the transaction sees, its own and without those that it deleted,
-- and at earlier rows of its own; a duplicate key of any row comes before an overlap of any
abbrev pub OwnRowsCount : Type 0
OwnRowsCount =
    Answers (inserted ++ Begin 1 ∷ Delete 1 (at_start 7 0) ∷ insert 1 (policy 7 90 101 1)
    ∷ insert 1 (policy 7 90 100 1) ∷ insert 1 (policy 7 80 91 1)
    ∷ Insert 1 1 (policy 8 0 10 1 ∷ policy 8 9 20 1 ∷ [])
    ∷ Insert 1 1 (policy 8 0 10 1 ∷ policy 8 9 20 1 ∷ policy 8 0 5 1 ∷ [])
    ∷ Insert 1 1 (policy 8 9 9 1 ∷ policy 8 9 20 1 ∷ [])
    ∷ Select 1 Plain all ∷ Rollback 1 ∷ [])
    (inserted_replies ++ Begun 10 ∷ Deleted 1 ∷ Refused (Overlap (key 7 90))
    ∷ Inserted 1 ∷ Refused (Overlap (key 7 80))
    ∷ Refused (Overlap (key 8 9))
    ∷ Refused (DuplicateKey (key 8 0))
    ∷ Refused BadPeriod
    ∷ rows (policy 7 90 100 1 ∷ policy 7 100 120 6 ∷ []) ∷ RolledBack ∷ [])

-- no statement sets a column of the period; a table without one has no portions; what does not fit
-- comes before there being no transaction
abbrev pub PeriodColumnsStay : Type 0
PeriodColumnsStay =
    Answers (inserted ++ Begin 1
    ∷ Update 1 all (set 2 1) ∷ Update 1 all (set 3 1) ∷ UpdatePortion 1 all (from_to 1 2) (set 3 1)
    ∷ UpdatePortion 1 all (from_to 2 1) (set 3 1) ∷ UpdatePortion 1 all (from_to 2 1) (rate 1)
    ∷ DeletePortion 1 (record { table = 2; comparisons = [] }) (from_to 1 2)
    ∷ DeletePortion 2 all (from_to 2 2) ∷ DeletePortion 2 all (from_to 1 2)
    ∷ Update 1 all (rate 7) ∷ Select 1 Plain all ∷ [])
    (inserted_replies ++ Begun 10
    ∷ Refused (BadRow 2) ∷ Refused (BadRow 3) ∷ Refused (BadRow 3)
    ∷ Refused (BadRow 3) ∷ Refused BadPeriod
    ∷ Refused (BadRow 0)
    ∷ Refused BadPeriod ∷ Refused NoTransaction
    ∷ Updated 2 ∷ rows (policy 7 0 100 7 ∷ policy 7 100 120 7 ∷ []) ∷ [])

abbrev pub noted : Row → Value → Row
noted row note = row ++ note ∷ []

-- what is left of a row that was stored before a column was added has NULL in it
abbrev pub PortionsWiden : Type 0
PortionsWiden =
    Answers (inserted ++ AddColumn 1 1 (codes "note") IsText ∷ Begin 1
    ∷ UpdatePortion 1 (at_start 7 0) (from_to 50 60)
    (record { column = 5; value = Text (codes "x") } ∷ [])
    ∷ Commit 1 20 ∷ Select 1 Plain all ∷ [])
    (inserted_replies ++ Altered ∷ Begun 10
    ∷ Updated 1
    ∷ Committed (Some 20)
    ∷ rows (noted (policy 7 0 50 5) Null ∷ noted (policy 7 50 60 5) (Text (codes "x"))
    ∷ noted (policy 7 60 100 5) Null ∷ noted (policy 7 100 120 6) Null ∷ []) ∷ [])

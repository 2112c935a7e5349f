-- Worked runs: what is no history, what is no run, and what is not refused.
use Rattle.std.specs.Prelude.{◌≡◌, ◌≢◌, ℕ, ◌+◌, List, [], ◌∷◌, ◌++◌, Option, Some, None, Ok, false, codes, length, pos}
use Rattle.values.specs.declared.value.Value.TheVariants.{Int, Text}
use Rattle.values.specs.declared.query.Form.TheVariants.{Plain}
use Rattle.values.specs.declared.refusal.Refusal.TheVariants.{JournalFull, Memory}
use Rattle.values.specs.Sample.{sample}
use Rattle.values.specs.Log.{Row}
use Rattle.values.specs.Tables.{Schema}
use Rattle.growlog.specs.Origin.{Origin}
use Rattle.steps.specs.declared.step.Step.{Step}
use Rattle.steps.specs.declared.step.Step.TheVariants.{Begin, Insert, Select, Commit}
use Rattle.steps.specs.declared.step.Listing.TheVariants.{Rows}
use Rattle.steps.specs.declared.step.Reply.{Reply}
use Rattle.steps.specs.declared.step.Reply.TheVariants.{Begun, Inserted, Shown, Committed}
use Rattle.statement.specs.declared.line.Line.TheVariants.{Step as Asks}
use Rattle.statement.specs.Print.{refusal_text}
use Rattle.lines.specs.Partial.{Partial}
use Rattle.serving.specs.journal.declared.entry.Entry.{Entry}
use Rattle.serving.specs.book.Book.{BookState}
use Rattle.serving.specs.Progress.{Given}
use Rattle.serving.specs.ServedSession.{reading_takes, said}
use Rattle.runs.specs.Event.{Event, AreRight}
use Rattle.runs.specs.Run.{IsRun, Part, all_given}
use Rattle.runs.specs.Tells.{Tells}

-- ---- a long fork: two sessions see two commits in different orders

abbrev pub ann : Row
ann = Int (pos 1) ∷ Text (codes "Ann") ∷ []

abbrev pub bea : Row
bea = Int (pos 2) ∷ Text (codes "Bea") ∷ []

abbrev pub answered : (part number : ℕ) → Option Entry → Step → Reply → Event
answered part number entry step reply =
    record { part = part; number = number; entry = entry; step = Some (step, reply) }

-- a session commits a row, from its begin's number on, where this was committed last
abbrev pub hires : (ℕ → Option Entry) → (part number last : ℕ) → Row → (instant : ℕ) → List Event
hires entry part number last row instant =
    answered part number (entry number) (Begin part) (Begun last)
    ∷ answered part number None (Insert part 1 (row ∷ [])) (Inserted 1)
    ∷ answered part (number + 1) (entry (number + 1)) (Commit part instant) (Committed (Some instant)) ∷ []

-- a session with no transaction open is shown these rows
abbrev pub sees : (ℕ → Option Entry) → (part number : ℕ) → List Row → List Event
sees entry part number rows =
    answered part number (entry number) (Select part Plain (record { table = 1; comparisons = [] }))
    (Shown (Rows rows)) ∷ []

-- a session commits a row, and another one sees these rows; then the same of two more
abbrev pub commits_twice : (ℕ → Option Entry) → (first second : ℕ × ℕ × Row × List Row) → List Event
commits_twice entry (i, j, row, rows) (k, l, next, more) =
    hires entry i 1 0 row 100 ++ (sees entry j 3 rows
    ++ (hires entry k 4 100 next 200 ++ sees entry l 6 more))

-- session 3 sees one of them and session 4 the other: in neither order of the commits this is a history,
-- whatever the entries are
abbrev pub NoLongFork : Type 0
NoLongFork =
    (entry : ℕ → Option Entry)
    → (AreRight sample []
    (commits_twice entry (1, 3, ann, ann ∷ []) (2, 4, bea, bea ∷ [])) → ⊥)
    × (AreRight sample []
    (commits_twice entry (2, 4, bea, bea ∷ []) (1, 3, ann, ann ∷ [])) → ⊥)

-- where session 4 sees both it is one
abbrev pub OneAfterTheOther : Type 0
OneAfterTheOther =
    (entry : ℕ → Option Entry)
    → AreRight sample []
    (commits_twice entry (1, 3, ann, ann ∷ []) (2, 4, bea, ann ∷ bea ∷ []))

-- ---- a receipt that is used twice

-- of a run no two receipts have one number, be they of one session or of two
abbrev pub NoReceiptTwice : Type 0
NoReceiptTwice =
    (o : Origin) (b : BookState) (table : ℕ) (rows : List Row) (loaded : List Given)
    (parts : List Part) (service front between back : List Given) (g h : Given)
    → all_given loaded parts service ≡ front ++ g ∷ (between ++ h ∷ back) → g.number ≡ h.number
    → IsRun o b table rows loaded parts service → ⊥

-- ---- what is not refused

-- where a session's first line is a COMMIT, it is not sent that memory ran out: with none open a COMMIT
-- takes none
abbrev pub NoMemoryForNothing : Type 0
NoMemoryForNothing =
    (schema : Schema) (most : ℕ) (b : BookState) (i : ℕ) (line : Partial) (events : List Event)
    → said schema i line ≡ Ok (Asks (Commit i 0)) → reading_takes schema i line ≡ false
    → AreRight schema [] events
    → Tells schema (length b.entries ≡ most) i [] (line ∷ []) events (refusal_text Memory) → ⊥

-- where it is a BEGIN, it is sent that the journal is full only if it is
abbrev pub NoFullJournalWithRoom : Type 0
NoFullJournalWithRoom =
    (schema : Schema) (most : ℕ) (b : BookState) (i : ℕ) (line : Partial) (events : List Event)
    → said schema i line ≡ Ok (Asks (Begin i)) → length b.entries ≢ most
    → AreRight schema [] events
    → Tells schema (length b.entries ≡ most) i [] (line ∷ []) events (refusal_text JournalFull) → ⊥

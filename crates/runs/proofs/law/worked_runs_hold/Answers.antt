use Rattle.std.proofs.Common.{◌≡◌, ℕ, ap, arith, length, map, refl, subst, IsPermutation}
use Rattle.steps.specs.declared.step.Listing.{Listing}
use Rattle.steps.specs.declared.step.Listing.TheVariants.{Rows, Periods}
use Rattle.steps.specs.declared.step.Reply.{Reply}
use Rattle.steps.specs.declared.step.Reply.TheVariants.{Begun, Inserted, Updated, Deleted, Shown, Committed, RolledBack, Altered, Done, Refused}
use Rattle.serving.specs.journal.Entries.{numbers}
use Rattle.runs.proofs.WorkedRefused as worked
use Rattle.runs.proofs.WorkedTwice.{not_twice}
use Rattle.runs.proofs.law.worked_runs_hold.Goals as goal

-- how many rows a reply shows
abbrev in_listing : Listing → ℕ
in_listing (Rows rows) = length rows
in_listing (Periods rows) = length rows

abbrev shown : Reply → ℕ
shown (Shown listing) = in_listing listing
shown (Begun n) = 0
shown (Inserted n) = 0
shown (Updated n) = 0
shown (Deleted n) = 0
shown (Committed n) = 0
shown RolledBack = 0
shown Altered = 0
shown Done = 0
shown (Refused refusal) = 0

pub returns-clause-no_long_fork : goal.returns-clause-no_long_fork
returns-clause-no_long_fork c = λ entry. (
  (λ r. let e : 1 ≡ 2 = ap shown r.1.1.1.1.1.1.1.0 in omega (arith, e)),
  (λ r. let e : 1 ≡ 2 = ap shown r.1.1.1.1.1.1.1.0 in omega (arith, e)),
)

pub returns-clause-one_after_the_other : goal.returns-clause-one_after_the_other
returns-clause-one_after_the_other c = λ entry. (refl, (refl, (refl, (refl, (refl, (refl, (refl, (refl, tt))))))))

pub returns-clause-no_receipt_twice : goal.returns-clause-no_receipt_twice
returns-clause-no_receipt_twice c = λ schema b table rows loaded parts service front between back g h are same run.
    not_twice (λ r. r.number) front between back g h (length b.entries) same
    (subst (λ gs. IsPermutation (map (λ r. r.number) gs) (numbers (length b.entries))) are run.once)

pub returns-clause-no_memory_for_nothing : goal.returns-clause-no_memory_for_nothing
returns-clause-no_memory_for_nothing c = worked.no_memory_for_nothing

pub returns-clause-no_full_journal_with_room : goal.returns-clause-no_full_journal_with_room
returns-clause-no_full_journal_with_room c = worked.no_full_journal_with_room

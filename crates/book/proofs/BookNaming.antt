-- No commit names an entry that is still to come.
use Rattle.std.proofs.Common.{◌≡◌, ℕ, ◌+◌, ◌<◌, ◌==◌, ◌||◌, ◌&&◌, [], ◌∷◌, length, Option, Some, None, Bool, true, false, not, refl, ap, ◌∙◌, arith}
use Rattle.std.proofs.lemmas.Bool.Decides.{nat_tests}
use Rattle.growlog.specs.Origin.{Origin}
use Rattle.validation.specs.tsbtree.View.{TreeState, last}
use Rattle.journal.specs.BegunState.{BegunState}
use Rattle.journal.specs.declared.entry.Entry.{Entry}
use Rattle.journal.specs.declared.entry.Entry.TheVariants.{Begin, Commit, Split, Install}
use Rattle.journal.specs.Entries.{Entries, entry_at, has_ended, is_begin, is_commit_of, is_open}
use Rattle.journal.specs.Legal.{IsLegal, MayFollow, MayCommit}
use Rattle.journal.proofs.JournalNumbering.{IsWithin, entry_within}

other : (begin n : ℕ) → begin < n → (begin == n) ≡ false
other begin n h = grind (arith, nat_tests)

ahead : (o : Origin) (j : Entries) (e : Entry) (n : ℕ) → MayFollow o j e → length j < n → is_commit_of n e ≡ false
ahead o j (Begin session earlier view) n may h = refl
ahead o j (Commit session begin net reading end) n may h =
    let may : MayCommit o j session begin net reading end = may in
    let within : IsWithin j begin = entry_within j begin (Begin session may.earlier may.view) may.begun in
    other begin n (omega arith)
ahead o j (Split cut done) n may h = refl
ahead o j (Install rect block done) n may h = refl

pub none_ahead : (o : Origin) (j : Entries) (n : ℕ) → IsLegal o j → length j < n → has_ended j n ≡ false
none_ahead o [] n legal h = refl
none_ahead o (e ∷ j) n legal h = ap (λ b. b || has_ended j n) (ahead o j e n legal.0 (omega arith)) ∙ none_ahead o j n legal.1 (omega arith)

-- of an entry that may follow
pub fresh : (o : Origin) (j : Entries) (e : Entry) → IsLegal o j → MayFollow o j e → has_ended (e ∷ j) (length j + 1) ≡ false
fresh o j e legal may = ap (λ b. b || has_ended j (length j + 1)) (ahead o j e (length j + 1) may (omega arith)) ∙ none_ahead o j (length j + 1) legal (omega arith)

-- ---- a begin that is open

pub record IsFound (j : Entries) (session : ℕ) (begun : BegunState) : Type 0 where
  pub earlier : ℕ
  pub view : TreeState
  pub there : entry_at j begun.number ≡ Some (Begin session earlier view)
  pub start_is : last view ≡ begun.start
  pub first : has_ended j begun.number ≡ false

record IsBegin (session : ℕ) (begun : BegunState) (o : Option Entry) : Type 0 where
  pub earlier : ℕ
  pub view : TreeState
  pub is : o ≡ Some (Begin session earlier view)
  pub start_is : last view ≡ begun.start

abbrev begins : ℕ → BegunState → Option Entry → Bool
begins session begun o = elim o [ None ↦ false | Some e ↦ is_begin session begun e ]

both : (x y : Bool) → (x && y) ≡ true → (x ≡ true) × (y ≡ true)
both true y h = (refl, h)
both false y h = absurd (cc)

unnamed : (b : Bool) → not b ≡ true → b ≡ false
unnamed false h = refl
unnamed true h = absurd (cc)

begin_is : (session : ℕ) (begun : BegunState) (o : Option Entry) → begins session begun o ≡ true → IsBegin session begun o
begin_is session begun None h = absurd (cc)
begin_is session begun (Some (Begin i earlier view)) h =
    let parts : (((i == session) && (earlier == begun.earlier)) ≡ true) × ((last view == begun.start) ≡ true) = both _ _ h in
    let firsts : ((i == session) ≡ true) × ((earlier == begun.earlier) ≡ true) = both _ _ parts.0 in
    let own : i ≡ session = grind (arith, nat_tests, firsts.0) in
    let start : last view ≡ begun.start = grind (arith, nat_tests, parts.1) in
    record { earlier = earlier; view = view; is = (λ k. Some (Begin (own k) earlier view)); start_is = start }
begin_is session begun (Some (Commit i begin net reading end)) h = absurd (cc)
begin_is session begun (Some (Split cut done)) h = absurd (cc)
begin_is session begun (Some (Install rect block done)) h = absurd (cc)

pub found : (j : Entries) (session : ℕ) (begun : BegunState) → is_open j session begun ≡ true → IsFound j session begun
found j session begun h =
    let parts : (begins session begun (entry_at j begun.number) ≡ true) × (not (has_ended j begun.number) ≡ true) = both _ _ h in
    let b : IsBegin session begun (entry_at j begun.number) = begin_is session begun (entry_at j begun.number) parts.0 in
    record { earlier = b.earlier; view = b.view; there = b.is; start_is = b.start_is; first = unnamed _ parts.1 }

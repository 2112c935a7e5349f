-- What a query as of an instant showed one session it shows every session, then and later.
use Rattle.std.proofs.Common.{◌≡◌, ℕ, ◌≤◌, Bool, true, false, List, [], ◌∷◌, ◌++◌, Option, Some, None, refl, sym, ap, subst, ◌∙◌, arith}
use Rattle.std.specs.Prelude.{if◌then◌else◌, nat_lt, nat_le}
use Rattle.std.proofs.lemmas.Bool.Decides.{nat_tests}
use Rattle.values.specs.declared.query.Form.TheVariants.{AsOf}
use Rattle.values.specs.declared.query.Keys.{Keys}
use Rattle.values.specs.declared.table.Table.{Table}
use Rattle.values.specs.Tables.{Schema}
use Rattle.values.specs.Log.{Log, last, upto, replay, changes}
use Rattle.values.specs.Law.{IsLog, shown_rows}
use Rattle.values.proofs.LawAsOf.{as_of_shows_state, Rises-upto, upto-append}
use Rattle.steps.specs.Misfit.{max_session}
use Rattle.steps.specs.declared.step.Step.{Step}
use Rattle.steps.specs.declared.step.Listing.TheVariants.{Rows}
use Rattle.histories.specs.History.{History, log, log_at_begin, snap, snap_of}
use Rattle.steps.specs.Listing.{rows_taken}
use Rattle.histories.specs.Law.{PastIsReadAlike, PastIsAnsweredAlike}
use Rattle.histories.proofs.HistoryGrowth.{log_rises, later_steps_add}
use Rattle.histories.proofs.HistoryPrefixes.{opened_below}
use Rattle.histories.proofs.HistorySnapshots.{select_by}

-- ---- a snapshot is at or before the last instant

pub snap_below : (schema : Schema) (h : History) (i : ℕ) → snap schema h i ≤ last (log schema h)
snap_below schema h i = by (log_at_begin schema h i) (opened_below schema h i)
  where
    by : (o : Option Log) → ((before : Log) → o ≡ Some before → last before ≤ last (log schema h)) → snap_of (log schema h) o ≤ last (log schema h)
    by None below = omega arith
    by (Some before) below = below before refl

-- ---- up to an instant before a snapshot

later_than : (a s t : ℕ) → t ≤ s → nat_le a s ≡ false → nat_le a t ≡ false
later_than a s t below e = grind (arith, nat_tests)

nested : (log : Log) (s t : ℕ) → t ≤ s → upto (upto log s) t ≡ upto log t
nested [] s t below = refl
nested (u ∷ log) s t below = by (nat_le u.instant s) refl (nested log s t below)
  where
    by : (b : Bool) → nat_le u.instant s ≡ b → upto (upto log s) t ≡ upto log t → upto (if b then u ∷ upto log s else upto log s) t ≡ upto (u ∷ log) t
    by true e rest = ap (λ (l : Log). if nat_le u.instant t then u ∷ l else l) rest
    by false e rest = rest ∙ sym (ap (λ b. if b then u ∷ upto log t else upto log t) (later_than u.instant s t below e))

pub shown_at : (log : Log) (s t : ℕ) (table : Table) (keys : Keys) → IsLog log → t ≤ s → shown_rows (changes (upto log s)) table (AsOf t) keys ≡ rows_taken table keys (replay [] (upto log t))
shown_at log s t table keys rises below =
    as_of_shows_state (upto log s) t table keys (Rises-upto log 0 s rises) ∙ ap (λ (l : Log). rows_taken table keys (replay [] l)) (nested log s t below)

upto_stays : (schema : Schema) (h : History) (later : List Step) (t : ℕ) → t ≤ last (log schema h) → upto (log schema (later ++ h)) t ≡ upto (log schema h) t
upto_stays schema h later t below =
    let more = later_steps_add schema h later in
    ap (λ (l : Log). upto l t) more.1 ∙ upto-append (log schema h) more.0 0 t below (subst IsLog more.1 (log_rises schema (later ++ h)))

pub read_alike : (schema : Schema) → PastIsReadAlike schema
read_alike schema h later i j t table keys at_first later_on =
    ap Rows
    (shown_at (log schema (later ++ h)) (snap schema (later ++ h) j) t table keys (log_rises schema (later ++ h)) later_on
    ∙ ap (λ (l : Log). rows_taken table keys (replay [] l)) (upto_stays schema h later t (omega (arith, at_first, snap_below schema h i)))
    ∙ sym (shown_at (log schema h) (snap schema h i) t table keys (log_rises schema h) at_first))

pub within : (i : ℕ) → i ≤ max_session → nat_lt max_session i ≡ false
within i small = grind (arith, nat_tests)

pub told_alike : (schema : Schema) → PastIsAnsweredAlike schema
told_alike schema h later i j t keys i_small j_small at_first later_on same_tables =
    λ k. select_by schema (same_tables k) keys ((within j j_small ∙ sym (within i i_small)) k) (λ table. read_alike schema h later i j t table keys at_first later_on k)

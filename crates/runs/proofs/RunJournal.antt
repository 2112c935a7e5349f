-- A journal as it grows: its log rises, what was committed before stays, and entries that are numbered in turn are its entries.
use Rattle.std.proofs.Common.{◌≡◌, ℕ, Bool, true, false, cond, List, [], ◌∷◌, ◌++◌, Some, None, sym, ap, subst, ◌∙◌, arith, append-nil, append_assoc, nat_le}
use Rattle.std.proofs.lemmas.List.Elements.{All-head, All-tail, All-cons}
use Rattle.std.specs.Map.{keys_of}
use Rattle.values.specs.declared.key.Point.{Point}
use Rattle.growlog.specs.Origin.{Origin}
use Rattle.values.specs.Log.{Log, Changes, last, upto, changes}
use Rattle.values.specs.Law.{IsLog, changes_upto}
use Rattle.values.specs.Period.{periods_of}
use Rattle.values.specs.Commits.{after}
use Rattle.values.specs.Events.{IsKeyIn, AreChangesIn}
use Rattle.values.proofs.LawAsOf.{upto-append}
use Rattle.values.proofs.LogPush.{upto_all}
use Rattle.values.proofs.LogUpto.{changes_upto_is}
use Rattle.values.proofs.CommitsAbove.{outcome_above}
use Rattle.histories.proofs.HistoryGrowth.{adds_ended, rises_ended}
use Rattle.serving.specs.journal.declared.entry.Entry.{Entry}
use Rattle.serving.specs.journal.declared.entry.Entry.TheVariants.{Begin, Commit, Split, Install}
use Rattle.serving.specs.journal.Entries.{Entries, entry_at, start_of, log}

-- ---- its log

pub journal_rises : (origin : Origin) → IsLog origin.log → (j : Entries) → IsLog (log origin j)
journal_rises origin first [] = first
journal_rises origin first (Commit session begin net reading end ∷ j) =
    elim (start_of (entry_at j begin)) as (λ o. IsLog (elim o [ None ↦ log origin j | Some start ↦ after (periods_of origin.schema) (log origin j) start net reading ])) [
      | None ↦ journal_rises origin first j
      | Some start ↦ rises_ended (log origin j) net _ (λ i e. outcome_above (periods_of origin.schema) (changes (log origin j)) (last (log origin j)) start net reading i e) (journal_rises origin first j)
    ]
journal_rises origin first (Begin session earlier view ∷ j) = journal_rises origin first j
journal_rises origin first (Split cut done ∷ j) = journal_rises origin first j
journal_rises origin first (Install rect block done ∷ j) = journal_rises origin first j

entry_adds : (origin : Origin) (e : Entry) (j : Entries) → (added : Log) × (log origin (e ∷ j) ≡ log origin j ++ added)
entry_adds origin (Commit session begin net reading end) j =
    elim (start_of (entry_at j begin)) as (λ o. (added : Log) × (elim o [ None ↦ log origin j | Some start ↦ after (periods_of origin.schema) (log origin j) start net reading ] ≡ log origin j ++ added)) [
      | None ↦ ([], sym (append-nil (log origin j)))
      | Some start ↦ adds_ended (log origin j) net _
    ]
entry_adds origin (Begin session earlier view) j = ([], sym (append-nil (log origin j)))
entry_adds origin (Split cut done) j = ([], sym (append-nil (log origin j)))
entry_adds origin (Install rect block done) j = ([], sym (append-nil (log origin j)))

-- entries in turn over those before
abbrev pub onto : List Entry → Entries → Entries
onto [] j = j
onto (e ∷ es) j = onto es (e ∷ j)

entries_add : (origin : Origin) (es : List Entry) (j : Entries) → (added : Log) × (log origin (onto es j) ≡ log origin j ++ added)
entries_add origin [] j = ([], sym (append-nil (log origin j)))
entries_add origin (e ∷ es) j =
    let now = entry_adds origin e j in
    let later = entries_add origin es (e ∷ j) in
    (now.0 ++ later.0, later.1 ∙ ap (λ (l : Log). l ++ later.0) now.1 ∙ append_assoc (log origin j) now.0 later.0)

-- ---- keys

module _ (origin : Origin) (first : IsLog origin.log) where
  abbrev In : Point → Type 0
  In p = IsKeyIn origin.schema p.key

  few_in : (m : Changes) (t : ℕ) → AreChangesIn origin.schema m → AreChangesIn origin.schema (changes_upto m t)
  few_in [] t keys = keys
  few_in (c ∷ cs) t keys = by (nat_le c.0.instant t) (few_in cs t (All-tail In c.0 (keys_of cs) keys))
    where
      by : (b : Bool) → AreChangesIn origin.schema (changes_upto cs t) → AreChangesIn origin.schema (cond b (c ∷ changes_upto cs t) (changes_upto cs t))
      by true rest = All-cons In c.0 (keys_of (changes_upto cs t)) (All-head In c.0 (keys_of cs) keys) rest
      by false rest = rest

  -- the keys that were changed before are among those that are changed at the end
  pub keys_before : (es : List Entry) (j : Entries) → AreChangesIn origin.schema (changes (log origin (onto es j))) → AreChangesIn origin.schema (changes (log origin j))
  keys_before es j keys =
      let more = entries_add origin es j in
      let rises : IsLog (log origin j ++ more.0) = subst IsLog more.1 (journal_rises origin first (onto es j)) in
      let same : upto (log origin (onto es j)) (last (log origin j)) ≡ log origin j =
      ap (λ l. upto l (last (log origin j))) more.1
      ∙ upto-append (log origin j) more.0 0 (last (log origin j)) (omega arith) rises
      ∙ upto_all (log origin j) 0 (last (log origin j)) (journal_rises origin first j) (omega arith) in
      subst (AreChangesIn origin.schema) (sym (changes_upto_is (log origin (onto es j)) (last (log origin j))) ∙ ap changes same)
      (few_in (changes (log origin (onto es j))) (last (log origin j)) keys)

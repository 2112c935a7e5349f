-- A part's own event is right where it stands, and keeps the part beside the whole.
use Rattle.std.proofs.Common.{◌≡◌, ℕ, ◌≤◌, inl, inr, Bool, List, [], ◌∷◌, Option, Some, None, refl, sym, ap, subst, ◌∙◌}
use Rattle.values.specs.declared.key.Key.{Key}
use Rattle.values.specs.declared.query.Form.{Form}
use Rattle.values.specs.declared.query.Keys.{Keys}
use Rattle.values.specs.declared.refusal.Refusal.{Refusal}
use Rattle.values.specs.Tables.{Schema}
use Rattle.growlog.specs.Origin.{Origin}
use Rattle.values.specs.RowsAfter.{rows_after}
use Rattle.values.specs.Writes.{net_of}
use Rattle.values.specs.KeyEncoding.{bytes_of_key}
use Rattle.serving.specs.staging.Own.{own as own_over}
use Rattle.serving.specs.validation.declared.cut.Cut.{Cut}
use Rattle.serving.specs.validation.declared.cut.Cut.TheVariants.{Key as KeyCut, Time as TimeCut}
use Rattle.steps.specs.declared.step.Step.{Step}
use Rattle.steps.specs.declared.step.Step.TheVariants.{Begin, Insert, Update, Delete, UpdatePortion, DeletePortion, Select, Commit, Rollback, AddColumn, SplitKey, SplitTime, Migrate}
use Rattle.steps.specs.declared.step.Reply.{Reply}
use Rattle.steps.specs.declared.step.Reply.TheVariants.{Done, Refused}
use Rattle.steps.specs.Misfit.{max_session, misfit, key_misfit}
use Rattle.steps.specs.Write.{writer}
use Rattle.histories.specs.History.{History, reply, reply_in, schema_after}
use Rattle.serving.specs.journal.declared.entry.Entry.{Entry}
use Rattle.serving.specs.journal.declared.entry.Entry.TheVariants.{Commit as Commits}
use Rattle.serving.specs.Progress.{Given, Progress, Replies, ServedTransaction, Takes, TakesBegin, TakesCommit, TakesQuery, TakesSplit, TakesWrite, after, takes_split}
use Rattle.runs.specs.Event.{Event, IsRight, with_step}
use Rattle.runs.proofs.TellsEvents.{read_by}
use Rattle.runs.proofs.OneHistoryBeside.{World, Beside, Held, IsIdle, IsOwnStep, IsRead, May, MayBy, Moves, MovesBy, Packs, Right, add, given_by, with_entry}
use Rattle.runs.proofs.OneHistoryBegin.{IsStill, beside_idle, beside_still, begin_refused, begins_right, rollback_refused, rollback_right, select_alone, select_open}
use Rattle.runs.proofs.OneHistoryWrite.{commit_refused, commit_right, write_right}

-- ---- receipts of an event

same_first : (g r : Given) (gs rs : List Given) → ◌≡◌ {A = List Given} (g ∷ gs) (r ∷ rs) → g ≡ r
same_first g r gs rs is = cc

module _ (may_give : ℕ → Bool) (first : Schema) (origin : Origin) (w : World) (i number : ℕ) (small : i ≤ max_session) where
  abbrev h : History
  h = w.history

  abbrev Ends : Option Entry → Step → Reply → Held → Type 0
  Ends entry step r t' = (r ≡ reply first h step) × Beside first origin (record { entries = with_entry entry w.entries; history = step ∷ h }) i t'

  -- no receipt, this reply and what it leaves
  replied : (entry : Option Entry) (said r : Reply) (receipt next : ℕ) (t t' : Held) (step : Step)
      → Replies said (after receipt t) (given_by number entry) r (after next t') → (said ≡ reply first h step) × Beside first origin (record { entries = w.entries; history = step ∷ h }) i t
      → Ends entry step r t'
  replied None said r receipt next t t' step did right =
      (did.reply_is ∙ right.0, subst (Beside first origin (record { entries = w.entries; history = step ∷ h }) i) (sym (ap (λ (p : Progress). p.transaction) did.left)) right.1)
  replied (Some e) said r receipt next t t' step did right = absurd (let none : ◌≡◌ {A = List Given} (record { number = number; entry = e } ∷ []) [] = did.takes in cc)

  -- ---- BEGIN, and SELECT with none open

  begin_case : (entry : Option Entry) (r : Reply) (receipt next : ℕ) (t' : Held) → TakesBegin origin.schema i (after receipt None) (given_by number entry) r (after next t') → MayBy first origin w number entry → Beside first origin w i None → Ends entry (Begin i) r t'
  begin_case None r receipt next t' did may is = absurd (let none : ◌≡◌ {A = List Given} [] (did.receipt ∷ []) = did.takes in cc)
  begin_case (Some e) r receipt next t' did may is =
      let g : record { number = number; entry = e } ≡ did.receipt = same_first (record { number = number; entry = e }) did.receipt [] [] did.takes in
      let right = begins_right first origin w i small number did.begins.earlier did.view did.changes e is may (ap (λ (g : Given). g.entry) g ∙ did.begins.entry_is) did.begins.held in
      let left : t' ≡ Some (record { begin = number; changes = did.changes; own = own_over did.changes [] }) =
      ap (λ (p : Progress). p.transaction) did.left ∙ (λ k. Some (record { begin = (sym g k).number; changes = did.changes; own = own_over did.changes [] })) in
      (did.reply_is ∙ right.0, subst (Beside first origin (record { entries = e ∷ w.entries; history = Begin i ∷ h }) i) (sym left) right.1)

  query_case : (entry : Option Entry) (form : Form) (keys : Keys) (r : Reply) (receipt next : ℕ) (t' : Held) → TakesQuery origin.schema i form keys (after receipt None) (given_by number entry) r (after next t') → MayBy first origin w number entry → Beside first origin w i None → Ends entry (Select i form keys) r t'
  query_case None form keys r receipt next t' did may is = absurd (let none : ◌≡◌ {A = List Given} [] (did.receipt ∷ []) = did.takes in cc)
  query_case (Some e) form keys r receipt next t' did may is =
      let g : record { number = number; entry = e } ≡ did.receipt = same_first (record { number = number; entry = e }) did.receipt [] [] did.takes in
      let right = select_alone first origin w i number did.begins.earlier did.view did.changes e form keys is may (ap (λ (g : Given). g.entry) g ∙ did.begins.entry_is) did.begins.held in
      (did.reply_is ∙ right.0, subst (Beside first origin (record { entries = e ∷ w.entries; history = Select i form keys ∷ h }) i) (sym (ap (λ (p : Progress). p.transaction) did.left)) right.1)

  -- ---- writes, COMMIT, SPLIT

  write_case : (entry : Option Entry) (step : Step) → writer step ≡ Some i → (r : Reply) (receipt next : ℕ) (t t' : Held) → TakesWrite origin.schema i step (after receipt t) (given_by number entry) r (after next t') → Beside first origin w i t → Ends entry step r t'
  write_case None step its r receipt next t t' did is =
      let right = write_right first origin w i step its t is in
      (did.reply_is ∙ right.0, subst (Beside first origin (record { entries = w.entries; history = step ∷ h }) i) (sym (ap (λ (p : Progress). p.transaction) did.left)) right.1)
  write_case (Some e) step its r receipt next t t' did is = absurd (let none : ◌≡◌ {A = List Given} (record { number = number; entry = e } ∷ []) [] = did.takes in cc)

  commit_case : (entry : Option Entry) (said : ℕ) (r : Reply) (next : ℕ) (t : ServedTransaction) (t' : Held) → IsRead entry (Commit i said) → TakesCommit may_give origin.schema i t (given_by number entry) r (after next t') → MayBy first origin w number entry → Beside first origin w i (Some t) → Ends entry (Commit i said) r t'
  commit_case None said r next t t' read did may is = absurd (let none : ◌≡◌ {A = List Given} [] (did.receipt ∷ []) = did.takes in cc)
  commit_case (Some e) said r next t t' read did may is =
      let g : record { number = number; entry = e } ≡ did.receipt = same_first (record { number = number; entry = e }) did.receipt [] [] did.takes in
      let entry_is : e ≡ Commits i t.begin (net_of (rows_after [] t.changes) t.own.rows t.own.written) did.reading did.end = ap (λ (g : Given). g.entry) g ∙ did.entry_is in
      let right = commit_right first origin w i small t number did.reading did.end is e may entry_is in
      let step : Commit i said ≡ Commit i did.reading = read ∙ ap (λ e. read_by e (Commit i said)) entry_is in
      subst (λ step. Ends (Some e) step r t') (sym step)
      (did.reply_is ∙ right.0, subst (Beside first origin (record { entries = e ∷ w.entries; history = Commit i did.reading ∷ h }) i) (sym (ap (λ (p : Progress). p.transaction) did.left)) right.1)

  module _ (key : Key) (cut : Cut) (step : Step) (fits : (s : Schema) → misfit s step ≡ key_misfit s key) (done : reply_in first h step ≡ Done) (still : IsStill first origin h step i) where
    reply_by : (u : Option Refusal) → key_misfit origin.schema key ≡ u → schema_after first h ≡ origin.schema → elim u [ Some refusal ↦ Refused refusal | None ↦ Done ] ≡ reply first h step
    reply_by u e stay =
        ap (λ (u : Option Refusal). elim u [ Some refusal ↦ Refused refusal | None ↦ Done ]) (sym e ∙ ap (λ s. key_misfit s key) (sym stay) ∙ sym (fits (schema_after first h)))
        ∙ (λ k. elim (misfit (schema_after first h) step) [ Some refusal ↦ Refused refusal | None ↦ sym done k ])

    split_done : (entry : Option Entry) (r : Reply) (receipt next : ℕ) (t t' : Held) → Done ≡ reply first h step → TakesSplit origin.schema i cut (after receipt t) (given_by number entry) r (after next t') → Beside first origin w i t → Ends entry step r t'
    split_done None r receipt next t t' right did is = absurd (let none : ◌≡◌ {A = List Given} [] (did.receipt ∷ []) = did.takes in cc)
    split_done (Some e) r receipt next t t' right did is =
        let g : record { number = number; entry = e } ≡ did.receipt = same_first (record { number = number; entry = e }) did.receipt [] [] did.takes in (
          did.reply_is ∙ right,
          subst (Beside first origin (record { entries = e ∷ w.entries; history = step ∷ h }) i) (sym (ap (λ (p : Progress). p.transaction) did.left))
              (beside_idle first origin (record { entries = w.entries; history = step ∷ h }) i e t (subst IsIdle (sym (ap (λ (g : Given). g.entry) g ∙ did.entry_is)) tt) (beside_still first origin w i step t still is)),
        )

    abbrev SplitBy : Option Entry → Reply → ℕ → ℕ → Held → Held → Option Refusal → Type 0
    SplitBy entry r receipt next t t' u = elim u [
      | Some refusal ↦ Replies (Refused refusal) (after receipt t) (given_by number entry) r (after next t')
      | None ↦ TakesSplit origin.schema i cut (after receipt t) (given_by number entry) r (after next t')
    ]

    split_case : (entry : Option Entry) (r : Reply) (receipt next : ℕ) (t t' : Held) → takes_split origin.schema i key cut (after receipt t) (given_by number entry) r (after next t') → Beside first origin w i t → Ends entry step r t'
    split_case entry r receipt next t t' did is = by (key_misfit origin.schema key) refl did
      where
        by : (u : Option Refusal) → key_misfit origin.schema key ≡ u → SplitBy entry r receipt next t t' u → Ends entry step r t'
        by (Some refusal) e did = replied entry (Refused refusal) r receipt next t t' step did (reply_by (Some refusal) e is.tables_are, beside_still first origin w i step t still is)
        by None e did = split_done entry r receipt next t t' (reply_by None e is.tables_are) did is

  -- ---- any step

  steps_by : (entry : Option Entry) (step : Step) (r : Reply) (receipt next : ℕ) (t t' : Held) → IsOwnStep i step → IsRead entry step
      → Takes may_give origin.schema i step (after receipt t) (given_by number entry) r (after next t') → MayBy first origin w number entry → Beside first origin w i t → Ends entry step r t'
  steps_by entry (Begin j) r receipt next None t' its read did may is = subst (λ j. Ends entry (Begin j) r t') (sym its) (begin_case entry r receipt next t' did may is)
  steps_by entry (Begin j) r receipt next (Some t) t' its read did may is = subst (λ j. Ends entry (Begin j) r t') (sym its) (replied entry _ r receipt next (Some t) t' (Begin i) did (begin_refused first origin w i small t is))
  steps_by entry (Insert j table rows) r receipt next t t' its read did may is = subst (λ j. Ends entry (Insert j table rows) r t') (sym its) (write_case entry (Insert i table rows) refl r receipt next t t' did is)
  steps_by entry (Update j keys sets) r receipt next t t' its read did may is = subst (λ j. Ends entry (Update j keys sets) r t') (sym its) (write_case entry (Update i keys sets) refl r receipt next t t' did is)
  steps_by entry (Delete j keys) r receipt next t t' its read did may is = subst (λ j. Ends entry (Delete j keys) r t') (sym its) (write_case entry (Delete i keys) refl r receipt next t t' did is)
  steps_by entry (UpdatePortion j keys cut sets) r receipt next t t' its read did may is = subst (λ j. Ends entry (UpdatePortion j keys cut sets) r t') (sym its) (write_case entry (UpdatePortion i keys cut sets) refl r receipt next t t' did is)
  steps_by entry (DeletePortion j keys cut) r receipt next t t' its read did may is = subst (λ j. Ends entry (DeletePortion j keys cut) r t') (sym its) (write_case entry (DeletePortion i keys cut) refl r receipt next t t' did is)
  steps_by entry (Select j form keys) r receipt next None t' its read did may is = subst (λ j. Ends entry (Select j form keys) r t') (sym its) (query_case entry form keys r receipt next t' did may is)
  steps_by entry (Select j form keys) r receipt next (Some t) t' its read did may is = subst (λ j. Ends entry (Select j form keys) r t') (sym its) (replied entry _ r receipt next (Some t) t' (Select i form keys) did (select_open first origin w i t form keys is))
  steps_by entry (Commit j said) r receipt next None t' its read did may is = subst (λ j. Ends entry (Commit j said) r t') (sym its) (replied entry _ r receipt next None t' (Commit i said) did (commit_refused first origin w i small said is))
  steps_by entry (Commit j said) r receipt next (Some t) t' its read did may is =
      subst (λ j. Ends entry (Commit j said) r t') (sym its) (commit_case entry said r next t t' (subst (λ j. IsRead entry (Commit j said)) its read) did may is)
  steps_by entry (Rollback j) r receipt next None t' its read did may is = subst (λ j. Ends entry (Rollback j) r t') (sym its) (replied entry _ r receipt next None t' (Rollback i) did (rollback_refused first origin w i small is))
  steps_by entry (Rollback j) r receipt next (Some t) t' its read did may is =
      subst (λ j. Ends entry (Rollback j) r t') (sym its) (replied entry _ r receipt next None t' (Rollback i) did (rollback_right first origin w i small t is))
  steps_by entry (AddColumn j table name of) r receipt next t t' its read did may is = absurd its
  steps_by entry (SplitKey key) r receipt next t t' its read did may is =
      split_case key (KeyCut (bytes_of_key key)) (SplitKey key) (λ s. refl) refl (record { same_tables = refl; same_log = refl; same_begin = refl; same_own = refl }) entry r receipt next t t' did is
  steps_by entry (SplitTime key instant) r receipt next t t' its read did may is =
      split_case key (TimeCut (bytes_of_key key) instant) (SplitTime key instant) (λ s. refl) refl (record { same_tables = refl; same_log = refl; same_begin = refl; same_own = refl }) entry r receipt next t t' did is
  steps_by entry Migrate r receipt next t t' its read did may is = absurd its

module _ (first : Schema) (origin : Origin) (w : World) (i number : ℕ) where
  packs_right : (entry : Option Entry) (s : Step × Reply) (t t' : Held) → Packs origin.schema entry s t t' → Beside first origin w i t
      → (s.1 ≡ reply first w.history s.0) × Beside first origin (record { entries = with_entry entry w.entries; history = s.0 ∷ w.history }) i t'
  packs_right entry s t t' did is = (
    did.reply_is ∙ ap (reply first w.history) (sym did.step_is),
    subst (λ entry. Beside first origin (record { entries = with_entry entry w.entries; history = s.0 ∷ w.history }) i t') (sym did.entry_is)
        (subst (λ step. Beside first origin (record { entries = did.e ∷ w.entries; history = step ∷ w.history }) i t') (sym did.step_is)
        (subst (Beside first origin (record { entries = did.e ∷ w.entries; history = Migrate ∷ w.history }) i) (sym did.left)
        (beside_idle first origin (record { entries = w.entries; history = Migrate ∷ w.history }) i did.e t did.idle
        (beside_still first origin w i Migrate t (record { same_tables = refl; same_log = refl; same_begin = refl; same_own = refl }) is)))),
  )

  own_by : (entry : Option Entry) (step : Option (Step × Reply)) (t t' : Held) → MovesBy origin.schema i number entry step t t' → MayBy first origin w number entry → Beside first origin w i t
      → IsRight first w.history step × Beside first origin (record { entries = with_entry entry w.entries; history = with_step step w.history }) i t'
  own_by None None t t' did may is = (tt, subst (Beside first origin w i) (sym did) is)
  own_by (Some e) None t t' did may is = (tt, subst (Beside first origin (record { entries = e ∷ w.entries; history = w.history }) i) (sym did.1) (beside_idle first origin w i e t did.0 is))
  own_by None (Some s) t t' (inl did) may is = steps_by did.may_give first origin w i number did.in_range None s.0 s.1 did.receipt did.next t t' did.its did.read did.takes may is
  own_by None (Some s) t t' (inr did) may is = packs_right None s t t' did is
  own_by (Some e) (Some s) t t' (inl did) may is = steps_by did.may_give first origin w i number did.in_range (Some e) s.0 s.1 did.receipt did.next t t' did.its did.read did.takes may is
  own_by (Some e) (Some s) t t' (inr did) may is = packs_right (Some e) s t t' did is

pub own : (first : Schema) (origin : Origin) (w : World) (x : Event) (old new : Held) → May first origin w x → Beside first origin w x.part old → Moves origin.schema x old new
    → Right first origin w x × Beside first origin (add x w) x.part new
own first origin w x old new may is did = own_by first origin w x.part x.number x.entry x.step old new did may is

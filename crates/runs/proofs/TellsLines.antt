-- The events of a session's lines: how the session moves by them, and what it was told.
use Rattle.std.proofs.Common.{◌≡◌, ℕ, ◌≤◌, ◌⊎◌, inl, inr, Bool, true, List, [], ◌∷◌, ◌++◌, Option, Some, None, Result, Ok, Err, length, refl, sym, ap, subst, ◌∙◌}
use Rattle.std.specs.List.{AllByRecursion}
use Rattle.values.specs.declared.refusal.Refusal.{Refusal}
use Rattle.values.specs.declared.refusal.Refusal.TheVariants.{JournalFull, Memory, NoTransaction}
use Rattle.values.specs.declared.key.Key.{Key}
use Rattle.values.specs.Tables.{Schema}
use Rattle.values.specs.KeyEncoding.{bytes_of_key}
use Rattle.serving.specs.validation.declared.cut.Cut.{Cut}
use Rattle.serving.specs.validation.declared.cut.Cut.TheVariants.{Key as KeyCut, Time as TimeCut}
use Rattle.serving.specs.tsbtree.View.{TreeState}
use Rattle.steps.specs.declared.step.Step.{Step}
use Rattle.steps.specs.declared.step.Step.TheVariants.{Begin, Insert, Update, Delete, UpdatePortion, DeletePortion, Select, Commit, Rollback, AddColumn, SplitKey, SplitTime, Migrate}
use Rattle.steps.specs.declared.step.Reply.{Reply}
use Rattle.steps.specs.declared.step.Reply.TheVariants.{Refused}
use Rattle.steps.specs.Misfit.{max_session, key_misfit}
use Rattle.histories.specs.History.{History, has_open}
use Rattle.statement.specs.declared.line.Line.{Line}
use Rattle.statement.specs.declared.line.Line.TheVariants.{Nothing, Clock, Step as Asks}
use Rattle.statement.specs.Print.{refusal_text}
use Rattle.lines.specs.Partial.{Partial}
use Rattle.serving.specs.journal.declared.entry.Entry.{Entry}
use Rattle.serving.specs.journal.declared.entry.Entry.TheVariants.{Begin as Begins, Commit as Commits, Split as Splits, Install as Installs}
use Rattle.serving.specs.Progress.{Given, IsRefusedStep, PacksFirst, Progress, Replies, Takes, TakesMigrate, TakesSplit, after, takes_split}
use Rattle.serving.specs.ServedSession.{Answers, IsKept, IsRefusedLine, IsUnread, Serves, Told, reading_takes, said}
use Rattle.runs.specs.Event.{Event, history_after}
use Rattle.runs.specs.Run.{IsRefusedRightly, Rises, is_reading, last_of}
use Rattle.runs.specs.Tells.{Says, Tells, with_reading}
use Rattle.runs.proofs.TellsEvents.{events_of, read_by}
use Rattle.runs.proofs.RunAlong.{Chain, chain_append}
use Rattle.runs.proofs.OneHistoryBeside.{Held, IsIdle, IsOwnStep, Moves}
use Rattle.runs.proofs.EventAfter.{after_both}
use Rattle.runs.proofs.TellsFacts.{Before, last_join, line as one_line, none_before, rises_first, rises_later, joined_before}
use Rattle.runs.proofs.TellsOpen.{Opens, none_opens, open_in, own_moves, refused_stays, step_opens}
use Rattle.runs.proofs.TellsSaid.{answered, refused}
use Rattle.runs.proofs.TellsSteps.{IsServedStep, served_step}

-- ---- a step by the reading of its entry

module _ (may_give : ℕ → Bool) (schema : Schema) (i : ℕ) (p : Progress) (given : List Given) (reply : Reply) (p' : Progress) where
  record AsRead (step : Step) (r : ℕ) : Type 0 where
    its : IsOwnStep i (with_reading r step)
    takes : Takes may_give schema i (with_reading r step) p given reply p'
    again : with_reading r step ≡ with_reading r (with_reading r step)

  as_read : (step : Step) (r : ℕ) → IsOwnStep i step → Takes may_give schema i step p given reply p' → AsRead step r
  as_read (Begin j) r its did = record { its = its; takes = did; again = refl }
  as_read (Insert j table rows) r its did = record { its = its; takes = did; again = refl }
  as_read (Update j keys sets) r its did = record { its = its; takes = did; again = refl }
  as_read (Delete j keys) r its did = record { its = its; takes = did; again = refl }
  as_read (UpdatePortion j keys cut sets) r its did = record { its = its; takes = did; again = refl }
  as_read (DeletePortion j keys cut) r its did = record { its = its; takes = did; again = refl }
  as_read (Select j form keys) r its did = record { its = its; takes = did; again = refl }
  as_read (Commit j said) r its did = record { its = its; takes = did; again = refl }
  as_read (Rollback j) r its did = record { its = its; takes = did; again = refl }
  as_read (AddColumn j table name of) r its did = absurd its
  as_read (SplitKey key) r its did = record { its = its; takes = did; again = refl }
  as_read (SplitTime key instant) r its did = record { its = its; takes = did; again = refl }
  as_read Migrate r its did = absurd its

module _ (schema : Schema) (Full : Type 0) (i : ℕ) (small : i ≤ max_session) where
  abbrev Goes : Held → List Event → Held → Type 0
  Goes = Chain (Moves schema)

  -- ---- one event

  silent_goes : (last : ℕ) (step : Step) (reply : Reply) (receipt next : ℕ) (t t' : Held) → IsOwnStep i step → Takes is_reading schema i step (after receipt t) [] reply (after next t')
      → Goes t (events_of i last (Some (step, reply)) []) t'
  silent_goes last step reply receipt next t t' its did =
      (t', (inl (record { may_give = is_reading; in_range = small; its = its; read = tt; receipt = receipt; next = next; takes = did }), refl))

  taking_goes : (last number : ℕ) (e : Entry) (step : Step) (reply : Reply) (receipt next : ℕ) (t t' : Held) → IsOwnStep i step → Takes is_reading schema i step (after receipt t) (record { number = number; entry = e } ∷ []) reply (after next t')
      → Goes t (events_of i last (Some (step, reply)) (record { number = number; entry = e } ∷ [])) t'
  taking_goes last number (Commits session begin net reading end) step reply receipt next t t' its did =
      let by = as_read is_reading schema i (after receipt t) (record { number = number; entry = Commits session begin net reading end } ∷ []) reply (after next t') step reading its did in
      (t', (inl (record { may_give = is_reading; in_range = small; its = by.its; read = by.again; receipt = receipt; next = next; takes = by.takes }), refl))
  taking_goes last number (Begins session earlier view) step reply receipt next t t' its did =
      (t', (inl (record { may_give = is_reading; in_range = small; its = its; read = refl; receipt = receipt; next = next; takes = did }), refl))
  taking_goes last number (Splits cut done) step reply receipt next t t' its did =
      (t', (inl (record { may_give = is_reading; in_range = small; its = its; read = refl; receipt = receipt; next = next; takes = did }), refl))
  taking_goes last number (Installs rect block done) step reply receipt next t t' its did =
      (t', (inl (record { may_give = is_reading; in_range = small; its = its; read = refl; receipt = receipt; next = next; takes = did }), refl))

  -- ---- a step takes at most one receipt

  abbrev Few : List Given → Type 0
  Few given = (given ≡ []) ⊎ ((g : Given) × (given ≡ g ∷ []))

  abbrev SplitBy : Cut → Progress → Progress → List Given → Reply → Option Refusal → Type 0
  SplitBy cut p p' given reply u = elim u [
    | Some refusal ↦ Replies (Refused refusal) p given reply p'
    | None ↦ TakesSplit schema i cut p given reply p'
  ]

  split_few : (key : Key) (cut : Cut) (p p' : Progress) (given : List Given) (reply : Reply) → takes_split schema i key cut p given reply p' → Few given
  split_few key cut p p' given reply did = by (key_misfit schema key) did
    where
      by : (u : Option Refusal) → SplitBy cut p p' given reply u → Few given
      by (Some refusal) did = inl did.takes
      by None did = inr (did.receipt, did.takes)

  few : (step : Step) (receipt next : ℕ) (t t' : Held) (given : List Given) (reply : Reply) → IsOwnStep i step → Takes is_reading schema i step (after receipt t) given reply (after next t') → Few given
  few (Begin j) receipt next None t' given reply its did = inr (did.receipt, did.takes)
  few (Begin j) receipt next (Some t) t' given reply its did = inl did.takes
  few (Insert j table rows) receipt next t t' given reply its did = inl did.takes
  few (Update j keys sets) receipt next t t' given reply its did = inl did.takes
  few (Delete j keys) receipt next t t' given reply its did = inl did.takes
  few (UpdatePortion j keys cut sets) receipt next t t' given reply its did = inl did.takes
  few (DeletePortion j keys cut) receipt next t t' given reply its did = inl did.takes
  few (Select j form keys) receipt next None t' given reply its did = inr (did.receipt, did.takes)
  few (Select j form keys) receipt next (Some t) t' given reply its did = inl did.takes
  few (Commit j said) receipt next None t' given reply its did = inl did.takes
  few (Commit j said) receipt next (Some t) t' given reply its did = inr (did.receipt, did.takes)
  few (Rollback j) receipt next None t' given reply its did = inl did.takes
  few (Rollback j) receipt next (Some t) t' given reply its did = inl did.takes
  few (AddColumn j table name of) receipt next t t' given reply its did = absurd its
  few (SplitKey key) receipt next t t' given reply its did = split_few key (KeyCut (bytes_of_key key)) (after receipt t) (after next t') given reply did
  few (SplitTime key instant) receipt next t t' given reply its did = split_few key (TimeCut (bytes_of_key key) instant) (after receipt t) (after next t') given reply did
  few Migrate receipt next t t' given reply its did = absurd its

  own_goes : (last : ℕ) (step : Step) (reply : Reply) (p p' : Progress) (given : List Given) → IsOwnStep i step → Takes is_reading schema i step p given reply p'
      → Goes p.transaction (events_of i last (Some (step, reply)) given) p'.transaction
  own_goes last step reply p p' given its did = by (few step p.receipt p'.receipt p.transaction p'.transaction given reply its did)
    where
      by : Few given → Goes p.transaction (events_of i last (Some (step, reply)) given) p'.transaction
      by (inl none) =
          subst (λ given. Goes p.transaction (events_of i last (Some (step, reply)) given) p'.transaction) (sym none)
          (silent_goes last step reply p.receipt p'.receipt p.transaction p'.transaction its (subst (λ given. Takes is_reading schema i step p given reply p') none did))
      by (inr one) =
          subst (λ given. Goes p.transaction (events_of i last (Some (step, reply)) given) p'.transaction) (sym one.1)
          (taking_goes last one.0.number one.0.entry step reply p.receipt p'.receipt p.transaction p'.transaction its (subst (λ given. Takes is_reading schema i step p given reply p') one.1 did))

  -- ---- MIGRATE

  idle_begin : (session earlier : ℕ) (view : TreeState) (e : Entry) → e ≡ Begins session earlier view → IsIdle e
  idle_begin session earlier view e is = subst IsIdle (sym is) tt

  migrate_goes : (last : ℕ) (reply : Reply) (p p' : Progress) (given : List Given) → TakesMigrate schema i p given reply p' → Goes p.transaction (events_of i last (Some (Migrate, reply)) given) p'.transaction
  migrate_goes last reply p p' given did =
      subst (λ given. Goes p.transaction (events_of i last (Some (Migrate, reply)) given) p'.transaction) (sym did.takes) (by did.packed did.packs)
    where
      first_idle : IsIdle did.receipt.entry
      first_idle = idle_begin 0 did.begins.earlier did.view did.receipt.entry did.begins.entry_is

      left : p'.transaction ≡ p.transaction
      left = ap (λ (p : Progress). p.transaction) did.left

      by : (packed : List Given) → PacksFirst did.view packed → Goes p.transaction (events_of i last (Some (Migrate, reply)) (did.receipt ∷ packed)) p'.transaction
      by [] packs = (p'.transaction, (inr (record { e = did.receipt.entry; entry_is = refl; idle = first_idle; step_is = ap (λ e. read_by e Migrate) did.begins.entry_is; reply_is = did.reply_is; left = left }), refl))
      by (g ∷ []) packs = (
        p.transaction,
        (
          (first_idle, refl),
          (p'.transaction, (inr (record { e = g.entry; entry_is = refl; idle = subst IsIdle (sym packs.entry_is) tt; step_is = ap (λ e. read_by e Migrate) packs.entry_is; reply_is = did.reply_is; left = left }), refl)),
        ),
      )
      by (g ∷ f ∷ more) packs = absurd packs

  step_goes : (last : ℕ) (step : Step) (reply : Reply) (p p' : Progress) (given : List Given) → IsServedStep schema i step → Takes is_reading schema i step p given reply p'
      → Goes p.transaction (events_of i last (Some (step, reply)) given) p'.transaction
  step_goes last step reply p p' given (inl its) did = own_goes last step reply p p' given its did
  step_goes last step reply p p' given (inr is) did =
      subst (λ step. Goes p.transaction (events_of i last (Some (step, reply)) given) p'.transaction) (sym is)
      (migrate_goes last reply p p' given (subst (λ step. Takes is_reading schema i step p given reply p') is did))

  -- ---- what is refused since there is no room

  none_goes : (last : ℕ) (p p' : Progress) (given : List Given) → given ≡ [] → p' ≡ p → Goes p.transaction (events_of i last None given) p'.transaction
  none_goes last p p' given none left =
      subst (λ given. Goes p.transaction (events_of i last None given) p'.transaction) (sym none) (ap (λ (p : Progress). p.transaction) left)

  one_goes : (last : ℕ) (t t' : Held) (given : List Given) (receipt : Given) (session earlier : ℕ) (view : TreeState) → given ≡ receipt ∷ [] → receipt.entry ≡ Begins session earlier view → t' ≡ t → Goes t (events_of i last None given) t'
  one_goes last t t' given receipt session earlier view one entry_is left =
      subst (λ given. Goes t (events_of i last None given) t') (sym one) (t', ((idle_begin session earlier view receipt.entry entry_is, left), refl))

  refused_goes : (last : ℕ) (step : Step) (p p' : Progress) (given : List Given) (refusal : Refusal) → IsRefusedStep schema i step p given refusal p' → Goes p.transaction (events_of i last None given) p'.transaction
  refused_goes last step p p' [] refusal did = none_goes last p p' [] did.takes did.left
  refused_goes last (Select j form keys) p p' (g ∷ given) refusal did =
      let unread = did.1.1 in
      one_goes last p.transaction p'.transaction (g ∷ given) unread.receipt i unread.begins.earlier unread.view unread.takes unread.begins.entry_is
      (ap (λ (p : Progress). p.transaction) unread.left ∙ sym did.0)
  refused_goes last Migrate p p' (g ∷ given) refusal did =
      one_goes last p.transaction p'.transaction (g ∷ given) did.receipt 0 did.begins.earlier did.view did.takes did.begins.entry_is (ap (λ (p : Progress). p.transaction) did.left)
  refused_goes last (Begin j) p p' (g ∷ given) refusal did = absurd did
  refused_goes last (Insert j table rows) p p' (g ∷ given) refusal did = absurd did
  refused_goes last (Update j keys sets) p p' (g ∷ given) refusal did = absurd did
  refused_goes last (Delete j keys) p p' (g ∷ given) refusal did = absurd did
  refused_goes last (UpdatePortion j keys cut sets) p p' (g ∷ given) refusal did = absurd did
  refused_goes last (DeletePortion j keys cut) p p' (g ∷ given) refusal did = absurd did
  refused_goes last (Commit j said) p p' (g ∷ given) refusal did = absurd did
  refused_goes last (Rollback j) p p' (g ∷ given) refusal did = absurd did
  refused_goes last (AddColumn j table name of) p p' (g ∷ given) refusal did = absurd did
  refused_goes last (SplitKey key) p p' (g ∷ given) refusal did = absurd did
  refused_goes last (SplitTime key instant) p p' (g ∷ given) refusal did = absurd did

  line_refused : (last : ℕ) (line : Partial) (says : Result Line Refusal) (p p' : Progress) (given : List Given) (refusal : Refusal) → IsRefusedLine schema i line says p given refusal p' → Goes p.transaction (events_of i last None given) p'.transaction
  line_refused last line (Ok (Asks step)) p p' given refusal (inl unread) = none_goes last p p' given unread.1.1.0 unread.1.1.1
  line_refused last line (Ok (Asks step)) p p' given refusal (inr did) = refused_goes last step p p' given refusal did
  line_refused last line (Ok Nothing) p p' given refusal unread = none_goes last p p' given unread.1.1.0 unread.1.1.1
  line_refused last line (Ok (Clock reading)) p p' given refusal unread = none_goes last p p' given unread.1.1.0 unread.1.1.1
  line_refused last line (Err e) p p' given refusal unread = none_goes last p p' given unread.1.1.0 unread.1.1.1

  -- what is told of a line that says this
  abbrev IsTold : Partial → Result Line Refusal → Bool → List Event → List ℕ → Type 0
  IsTold line says is_open events text =
      Says schema Full i is_open says events text
      ⊎ ((reading_takes schema i line ≡ true) × (events ≡ []) × (text ≡ refusal_text Memory))

  none_told : (last : ℕ) (given : List Given) → given ≡ [] → events_of i last None given ≡ []
  none_told last given none = ap (events_of i last None) none

  unread_told : (last : ℕ) (line : Partial) (says : Result Line Refusal) (p p' : Progress) (given : List Given) (refusal : Refusal) (text : List ℕ) → IsUnread schema i line p given refusal p' → text ≡ refusal_text refusal → IsTold line says (open_in p) (events_of i last None given) text
  unread_told last line says p p' given refusal text unread text_is = inr (unread.0, none_told last given unread.1.1.0, text_is ∙ ap refusal_text unread.1.0)

  abbrev IsFull : Refusal → Type 0
  IsFull refusal = ◌≡◌ {A = Option Refusal} (Some refusal) (Some JournalFull) → Full

  abbrev IsOpen : Refusal → Type 0
  IsOpen refusal = ◌≡◌ {A = Option Refusal} (Some refusal) (Some NoTransaction) → ⊥

  refused_told : (last : ℕ) (line : Partial) (says : Result Line Refusal) (p p' : Progress) (given : List Given) (refusal : Refusal) (text : List ℕ) → IsRefusedLine schema i line says p given refusal p' → text ≡ refusal_text refusal → IsFull refusal → IsOpen refusal
      → IsTold line says (open_in p) (events_of i last None given) text
  refused_told last line (Ok (Asks step)) p p' given refusal text (inl unread) text_is full not_open = unread_told last line (Ok (Asks step)) p p' given refusal text unread text_is
  refused_told last line (Ok (Asks step)) p p' given refusal text (inr did) text_is full not_open =
      let is = refused schema Full i last step p p' given refusal did full not_open in
      inl (inr (refusal, text_is, is.0, is.1))
  refused_told last line (Ok Nothing) p p' given refusal text unread text_is full not_open = unread_told last line (Ok Nothing) p p' given refusal text unread text_is
  refused_told last line (Ok (Clock reading)) p p' given refusal text unread text_is full not_open = unread_told last line (Ok (Clock reading)) p p' given refusal text unread text_is
  refused_told last line (Err e) p p' given refusal text unread text_is full not_open = unread_told last line (Err e) p p' given refusal text unread text_is

  same_open : (p p' : Progress) → p' ≡ p → open_in p' ≡ open_in p
  same_open p p' left = ap open_in left

  refused_open : (line : Partial) (says : Result Line Refusal) (p p' : Progress) (given : List Given) (refusal : Refusal) → IsRefusedLine schema i line says p given refusal p' → open_in p' ≡ open_in p
  refused_open line (Ok (Asks step)) p p' given refusal (inl unread) = same_open p p' unread.1.1.1
  refused_open line (Ok (Asks step)) p p' given refusal (inr did) = refused_stays schema i small step p p' given refusal did
  refused_open line (Ok Nothing) p p' given refusal unread = same_open p p' unread.1.1.1
  refused_open line (Ok (Clock reading)) p p' given refusal unread = same_open p p' unread.1.1.1
  refused_open line (Err e) p p' given refusal unread = same_open p p' unread.1.1.1

  step_open : (step : Step) (reply : Reply) (p p' : Progress) (given : List Given) → IsServedStep schema i step → Takes is_reading schema i step p given reply p' → (h : History) → has_open h i ≡ open_in p → has_open (step ∷ h) i ≡ open_in p'
  step_open step reply p p' given (inl its) did h is = own_moves schema i small h p.receipt given reply p' step p.transaction its did is
  step_open step reply p p' given (inr migrate) did h is =
      let moved : TakesMigrate schema i p given reply p' = subst (λ step. Takes is_reading schema i step p given reply p') migrate did in
      subst (λ step. has_open (step ∷ h) i ≡ open_in p') (sym migrate) (is ∙ sym (ap open_in moved.left))

  -- ---- a line

  record LineGoes (last : ℕ) (line : Partial) (says : Result Line Refusal) (p p' : Progress) (given : List Given) (text : List ℕ) : Type 0 where
    step : Option (Step × Reply)
    told : IsTold line says (open_in p) (events_of i last step given) text
    opens : Opens i last p p' step given
    goes : Goes p.transaction (events_of i last step given) p'.transaction

  printed : (last : ℕ) (line : Partial) (says : Result Line Refusal) (p p' : Progress) (given : List Given) (text : List ℕ) → (events_of i last None given ≡ [] → Says schema Full i (open_in p) says (events_of i last None given) text) → given ≡ [] → p' ≡ p → LineGoes last line says p p' given text
  printed last line says p p' given text told none left = record {
    step = None;
    told = inl (told (none_told last given none));
    opens = none_opens i last p p' given (same_open p p' left);
    goes = none_goes last p p' given none left;
  }

  line_answered : (last : ℕ) (line : Partial) (says : Result Line Refusal) → said schema i line ≡ says → (p p' : Progress) (given : List Given) (text : List ℕ) → Answers is_reading schema i says p given text p' → LineGoes last line says p p' given text
  line_answered last line (Err refusal) e p p' given text did = printed last line (Err refusal) p p' given text (λ none. (none, did.out_is)) did.takes did.left
  line_answered last line (Ok Nothing) e p p' given text did = printed last line (Ok Nothing) p p' given text (λ none. (none, did.out_is)) did.takes did.left
  line_answered last line (Ok (Clock reading)) e p p' given text did = printed last line (Ok (Clock reading)) p p' given text (λ none. (none, did.out_is)) did.takes did.left
  line_answered last line (Ok (Asks step)) e p p' given text did = record {
    step = Some (step, did.reply);
    told = inl (inl (did.reply, did.out_is, answered schema i last step p p' given did.reply (served_step schema i line step e) did.taken));
    opens = step_opens i last p p' step did.reply given (step_open step did.reply p p' given (served_step schema i line step e) did.taken);
    goes = step_goes last step did.reply p p' given (served_step schema i line step e) did.taken;
  }

  kept : (last : ℕ) (line : Partial) (refused : Option Refusal) (p p' : Progress) (given : List Given) (text : List ℕ) → IsKept is_reading schema i refused line p given text p' → (refused ≡ Some JournalFull → Full) → (refused ≡ Some NoTransaction → ⊥)
      → LineGoes last line (said schema i line) p p' given text
  kept last line (Some refusal) p p' given text did full not_open = record {
    step = None;
    told = refused_told last line (said schema i line) p p' given refusal text did.refused did.out_is full not_open;
    opens = none_opens i last p p' given (refused_open line (said schema i line) p p' given refusal did.refused);
    goes = line_refused last line (said schema i line) p p' given refusal did.refused;
  }
  kept last line None p p' given text did full not_open = line_answered last line (said schema i line) refl p p' given text did

  -- ---- all lines

  pub record LinesGo (h : History) (last : ℕ) (lines : List Partial) (p p' : Progress) (given : List Given) (text : List ℕ) : Type 0 where
    pub events : List Event
    pub tells : Tells schema Full i h lines events text
    pub known : Rises last given → Before i last (last_of last given) given events
    pub goes : Goes p.transaction events p'.transaction
    pub opens : has_open (history_after h events) i ≡ open_in p'

  pub lines_go : (h : History) (last : ℕ) (lines : List Partial) (told : List Told) (p p' : Progress) (given : List Given) (text : List ℕ) → AllByRecursion (IsRefusedRightly Full) told → has_open h i ≡ open_in p → Serves is_reading schema i lines told p given text p'
      → LinesGo h last lines p p' given text
  lines_go h last [] [] p p' given text rightly is_open did = record {
    events = [];
    tells = (refl, did.1.0);
    known = λ rises. subst (λ given. Before i last (last_of last given) given []) (sym did.0) (none_before i last);
    goes = ap (λ (p : Progress). p.transaction) did.1.1;
    opens = is_open ∙ sym (ap open_in did.1.1);
  }
  lines_go h last (line ∷ lines) (t ∷ told) p p' given text rightly is_open (own, (more, (sent, (rest, (between, (given_is, (text_is, (did, later)))))))) =
      let now = kept last line t.refused p between own sent did.kept rightly.0.full rightly.0.is_open in
      let first = events_of i last now.step own in
      let behind = lines_go (history_after h first) (last_of last own) lines told between p' more rest rightly.1 (now.opens h is_open) later in
      record {
        events = first ++ behind.events;
        tells = (
          first,
          behind.events,
          sent,
          rest,
          refl,
          text_is,
          subst (λ is_open. IsTold line (said schema i line) is_open first sent) (sym is_open) now.told,
          behind.tells,
        );
        known = λ rises. subst (λ given. Before i last (last_of last given) given (first ++ behind.events)) (sym given_is) (both own more first behind.events now.step refl (subst (Rises last) given_is rises) behind.known);
        goes = chain_append (Moves schema) p.transaction between.transaction p'.transaction first behind.events now.goes behind.goes;
        opens = ap (λ h. has_open h i) (after_both h first behind.events) ∙ behind.opens;
      }
    where
      both : (own more : List Given) (xs ys : List Event) (step : Option (Step × Reply)) → xs ≡ events_of i last step own → Rises last (own ++ more) → (Rises (last_of last own) more → Before i (last_of last own) (last_of (last_of last own) more) more ys)
          → Before i last (last_of last (own ++ more)) (own ++ more) (xs ++ ys)
      both own more xs ys step is rises known =
          subst (λ end. Before i last end (own ++ more) (xs ++ ys)) (sym (last_join last own more))
          (joined_before i last (last_of last own) (last_of (last_of last own) more) own more xs ys (subst (Before i last (last_of last own) own) (sym is) (one_line i last step own (rises_first last own more rises))) (known (rises_later last own more rises)))
  lines_go h last [] (t ∷ told) p p' given text rightly is_open did = absurd did
  lines_go h last (line ∷ lines) [] p p' given text rightly is_open did = absurd did

-- What a line's events say of its step, where it is answered and where it is refused.
use Rattle.std.proofs.Common.{◌≡◌, ℕ, ◌≤◌, ◌⊎◌, inl, inr, Bool, true, false, List, [], ◌∷◌, Option, Some, None, is_some, nat_le, refl, sym, ap, subst, ◌∙◌, arith, length}
use Rattle.std.proofs.lemmas.Bool.Decides.{nat_tests}
use Rattle.std.specs.Option.{is_none}
use Rattle.values.specs.declared.refusal.Refusal.{Refusal}
use Rattle.values.specs.declared.refusal.Refusal.TheVariants.{Syntax, NoTable, BadRow, NoTransaction, InTransaction, DuplicateKey, Conflict, ClockEnd, TooManyWrites, Memory, NoSession, LineTooLong, JournalFull, Overlap, BadPeriod, TransactionsOpen}
use Rattle.values.specs.declared.key.Key.{Key}
use Rattle.values.specs.Tables.{Schema}
use Rattle.values.specs.KeyEncoding.{bytes_of_key}
use Rattle.steps.specs.declared.step.Step.{Step}
use Rattle.steps.specs.declared.step.Step.TheVariants.{Begin, Insert, Update, Delete, UpdatePortion, DeletePortion, Select, Commit, Rollback, AddColumn, SplitKey, SplitTime, Migrate}
use Rattle.steps.specs.declared.step.Reply.{Reply}
use Rattle.steps.specs.declared.step.Reply.TheVariants.{Done, Refused}
use Rattle.steps.specs.Misfit.{key_misfit}
use Rattle.steps.specs.Reply.{takes_no_memory_by}
use Rattle.serving.specs.tsbtree.View.{TreeState}
use Rattle.serving.specs.journal.declared.entry.Entry.{Entry}
use Rattle.serving.specs.journal.declared.entry.Entry.TheVariants.{Begin as Begins, Split as Splits}
use Rattle.serving.specs.validation.declared.cut.Cut.{Cut}
use Rattle.serving.specs.validation.declared.cut.Cut.TheVariants.{Key as KeyCut, Time as TimeCut}
use Rattle.serving.specs.Progress.{Given, IsRefusedStep, PacksFirst, Progress, Replies, Takes, TakesMigrate, TakesSplit, after, asks_store, may_be_refused, may_run_out, takes_split}
use Rattle.runs.specs.Run.{is_reading}
use Rattle.runs.specs.Tells.{AreEventsOf, AreLeft, IsBegun, IsEntryOf, IsPacked, MayBeRefused, with_reading}
use Rattle.runs.proofs.TellsEvents.{events_of, read_by, taking}
use Rattle.runs.proofs.OneHistoryBeside.{Held, IsOwnStep}
use Rattle.runs.proofs.TellsOpen.{open_in}

below : (a b : ℕ) → nat_le a b ≡ true → a ≤ b
below a b h = grind (arith, nat_tests, h)

module _ (i last : ℕ) where
  -- ---- one event

  taken : (g : Given) (step : Step) (reply : Reply) (e : Entry) (reading : ℕ) → g.entry ≡ e → IsEntryOf i step reading reply e → read_by e step ≡ with_reading reading step
      → AreEventsOf i true (events_of i last (Some (step, reply)) (g ∷ [])) step reply
  taken g step reply e reading is its same = (
    g.entry,
    reading,
    refl,
    subst (IsEntryOf i step reading reply) (sym is) its,
    ap (λ e. Some (read_by e step, reply)) is ∙ ap (λ s. Some (s, reply)) same,
  )

  -- these receipts, or none
  by_receipt : (step : Step) (reply : Reply) (given : List Given) (g : Given) (e : Entry) (reading : ℕ) → given ≡ g ∷ [] → g.entry ≡ e → IsEntryOf i step reading reply e → read_by e step ≡ with_reading reading step
      → AreEventsOf i true (events_of i last (Some (step, reply)) given) step reply
  by_receipt step reply given g e reading one is its same =
      subst (λ given. AreEventsOf i true (events_of i last (Some (step, reply)) given) step reply) (sym one) (taken g step reply e reading is its same)

  by_none : (step : Step) (reply : Reply) (given : List Given) → given ≡ [] → AreEventsOf i false (events_of i last (Some (step, reply)) given) step reply
  by_none step reply given none = subst (λ given. AreEventsOf i false (events_of i last (Some (step, reply)) given) step reply) (sym none) (refl, refl)

  begun : (g : Given) (session earlier : ℕ) (view : TreeState) (step : Option (Step × Reply)) → g.entry ≡ Begins session earlier view → IsBegun session (taking i g None)
  begun g session earlier view step is = (earlier, view, ap Some is, refl)

module _ (schema : Schema) (i last : ℕ) where
  -- ---- a step that is answered

  abbrev Are : Step → Bool → List Given → Reply → Type 0
  Are step asks given reply = AreEventsOf i asks (events_of i last (Some (step, reply)) given) step reply

  abbrev SplitBy : Cut → Progress → Progress → List Given → Reply → Option Refusal → Type 0
  SplitBy cut p p' given reply u = elim u [
    | Some refusal ↦ Replies (Refused refusal) p given reply p'
    | None ↦ TakesSplit schema i cut p given reply p'
  ]

  split : (step : Step) (key : Key) (cut : Cut) (p p' : Progress) (given : List Given) (reply : Reply) → ((done : Bool) → reply ≡ Done → IsEntryOf i step 0 reply (Splits cut done)) → ((done : Bool) → read_by (Splits cut done) step ≡ with_reading 0 step)
      → takes_split schema i key cut p given reply p' → Are step (is_none (key_misfit schema key)) given reply
  split step key cut p p' given reply its same did = by (key_misfit schema key) did
    where
      by : (u : Option Refusal) → SplitBy cut p p' given reply u → Are step (is_none u) given reply
      by (Some refusal) did = by_none i last step reply given did.takes
      by None did = by_receipt i last step reply given did.receipt (Splits cut did.done) 0 did.takes did.entry_is (its did.done did.reply_is) (same did.done)

  migrated : (p p' : Progress) (given : List Given) (reply : Reply) → TakesMigrate schema i p given reply p' → Are Migrate true given reply
  migrated p p' given reply did = subst (λ given. Are Migrate true given reply) (sym did.takes) (by did.packed did.packs)
    where
      by : (packed : List Given) → PacksFirst did.view packed → Are Migrate true (did.receipt ∷ packed) reply
      by [] packs = taken i last did.receipt Migrate reply (Begins 0 did.begins.earlier did.view) 0 did.begins.entry_is (refl, did.reply_is) refl
      by (g ∷ []) packs = (
        begun i last did.receipt 0 did.begins.earlier did.view None did.begins.entry_is,
        subst (λ e. IsPacked (Some e) (Some (read_by e Migrate, reply))) (sym packs.entry_is) (ap (λ r. Some (Migrate, r)) did.reply_is),
        did.reply_is,
      )
      by (g ∷ f ∷ more) packs = absurd packs

  own_answered : (step : Step) (receipt : ℕ) (t : Held) (p' : Progress) (given : List Given) (reply : Reply) → IsOwnStep i step → Takes is_reading schema i step (after receipt t) given reply p' → Are step (asks_store schema i step (is_some t)) given reply
  own_answered (Begin j) receipt None p' given reply its did =
      by_receipt i last (Begin j) reply given did.receipt (Begins i did.begins.earlier did.view) 0 did.takes did.begins.entry_is (refl, did.reply_is) refl
  own_answered (Begin j) receipt (Some t) p' given reply its did = by_none i last (Begin j) reply given did.takes
  own_answered (Insert j table rows) receipt t p' given reply its did = by_none i last (Insert j table rows) reply given did.takes
  own_answered (Update j keys sets) receipt t p' given reply its did = by_none i last (Update j keys sets) reply given did.takes
  own_answered (Delete j keys) receipt t p' given reply its did = by_none i last (Delete j keys) reply given did.takes
  own_answered (UpdatePortion j keys cut sets) receipt t p' given reply its did = by_none i last (UpdatePortion j keys cut sets) reply given did.takes
  own_answered (DeletePortion j keys cut) receipt t p' given reply its did = by_none i last (DeletePortion j keys cut) reply given did.takes
  own_answered (Select j form keys) receipt None p' given reply its did =
      by_receipt i last (Select j form keys) reply given did.receipt (Begins i did.begins.earlier did.view) 0 did.takes did.begins.entry_is refl refl
  own_answered (Select j form keys) receipt (Some t) p' given reply its did = by_none i last (Select j form keys) reply given did.takes
  own_answered (Commit j said) receipt None p' given reply its did = by_none i last (Commit j said) reply given did.takes
  own_answered (Commit j said) receipt (Some t) p' given reply its did =
      by_receipt i last (Commit j said) reply given did.receipt _ did.reading did.takes did.entry_is (refl, refl, below did.reading _ did.may, did.reply_is) refl
  own_answered (Rollback j) receipt None p' given reply its did = by_none i last (Rollback j) reply given did.takes
  own_answered (Rollback j) receipt (Some t) p' given reply its did = by_none i last (Rollback j) reply given did.takes
  own_answered (AddColumn j table name of) receipt t p' given reply its did = absurd its
  own_answered (SplitKey key) receipt t p' given reply its did = split (SplitKey key) key (KeyCut (bytes_of_key key)) (after receipt t) p' given reply (λ done e. e) (λ done. refl) did
  own_answered (SplitTime key instant) receipt t p' given reply its did = split (SplitTime key instant) key (TimeCut (bytes_of_key key) instant) (after receipt t) p' given reply (λ done e. e) (λ done. refl) did
  own_answered Migrate receipt t p' given reply its did = absurd its

  pub answered : (step : Step) (p p' : Progress) (given : List Given) (reply : Reply) → IsOwnStep i step ⊎ (step ≡ Migrate) → Takes is_reading schema i step p given reply p' → Are step (asks_store schema i step (open_in p)) given reply
  answered step p p' given reply (inl its) did = own_answered step p.receipt p.transaction p' given reply its did
  answered step p p' given reply (inr is) did =
      subst (λ step. Are step (asks_store schema i step (open_in p)) given reply) (sym is)
      (migrated p p' given reply (subst (λ step. Takes is_reading schema i step p given reply p') is did))

module _ (schema : Schema) (Full : Type 0) (i last : ℕ) where
  -- ---- a step that is refused

  memory_may : (step : Step) (is_open : Bool) → may_run_out schema i step is_open ≡ true → takes_no_memory_by (λ j. is_open) step ≡ false
  memory_may (Begin j) true e = absurd (cc e)
  memory_may (Begin j) false e = refl
  memory_may (Insert j table rows) true e = refl
  memory_may (Insert j table rows) false e = absurd (cc e)
  memory_may (Update j keys sets) true e = refl
  memory_may (Update j keys sets) false e = absurd (cc e)
  memory_may (Delete j keys) true e = refl
  memory_may (Delete j keys) false e = absurd (cc e)
  memory_may (UpdatePortion j keys cut sets) true e = refl
  memory_may (UpdatePortion j keys cut sets) false e = absurd (cc e)
  memory_may (DeletePortion j keys cut) true e = refl
  memory_may (DeletePortion j keys cut) false e = absurd (cc e)
  memory_may (Select j form keys) is_open e = refl
  memory_may (Commit j said) true e = refl
  memory_may (Commit j said) false e = absurd (cc e)
  memory_may (Rollback j) is_open e = absurd (cc e)
  memory_may (AddColumn j table name of) is_open e = absurd (cc e)
  memory_may (SplitKey key) is_open e = refl
  memory_may (SplitTime key instant) is_open e = refl
  memory_may Migrate is_open e = refl

  abbrev IsFull : Refusal → Type 0
  IsFull refusal = ◌≡◌ {A = Option Refusal} (Some refusal) (Some JournalFull) → Full

  abbrev IsOpen : Refusal → Type 0
  IsOpen refusal = ◌≡◌ {A = Option Refusal} (Some refusal) (Some NoTransaction) → ⊥

  may : (step : Step) (t : Held) (refusal : Refusal) → may_be_refused schema i step t refusal ≡ true → IsFull refusal → IsOpen refusal → MayBeRefused schema Full i (is_some t) step refusal
  may step t Memory e full not_open = memory_may step (is_some t) e
  may step t JournalFull e full not_open = (e, full refl)
  may step t NoTransaction e full not_open = absurd (not_open refl)
  may step t (Syntax byte) e full not_open = absurd (cc e)
  may step t NoTable e full not_open = absurd (cc e)
  may step t (BadRow column) e full not_open = absurd (cc e)
  may step t InTransaction e full not_open = absurd (cc e)
  may step t (DuplicateKey key) e full not_open = absurd (cc e)
  may step t (Conflict key instant) e full not_open = absurd (cc e)
  may step t ClockEnd e full not_open = absurd (cc e)
  may step t TooManyWrites e full not_open = absurd (cc e)
  may step t NoSession e full not_open = absurd (cc e)
  may step t LineTooLong e full not_open = absurd (cc e)
  may step t (Overlap key) e full not_open = absurd (cc e)
  may step t BadPeriod e full not_open = absurd (cc e)
  may step t TransactionsOpen e full not_open = absurd (cc e)

  abbrev Left : Bool → List Given → Refusal → Step → Type 0
  Left is_open given refusal step = AreLeft i is_open (events_of i last None given) refusal step

  abbrev Denied : Bool → List Given → Refusal → Step → Type 0
  Denied is_open given refusal step = MayBeRefused schema Full i is_open step refusal × Left is_open given refusal step

  pub refused : (step : Step) (p p' : Progress) (given : List Given) (refusal : Refusal) → IsRefusedStep schema i step p given refusal p' → IsFull refusal → IsOpen refusal → Denied (open_in p) given refusal step
  refused step p p' [] refusal did full not_open = (may step p.transaction refusal did.may full not_open, tt)
  refused (Select j form keys) p p' (g ∷ given) refusal did full not_open =
      let unread = did.1.1 in
      subst (λ refusal. Denied (open_in p) (g ∷ given) refusal (Select j form keys)) (sym unread.refusal_is)
      (subst (λ given. Denied (open_in p) given Memory (Select j form keys)) (sym unread.takes)
      (refl, (ap is_some did.0, begun i last unread.receipt i unread.begins.earlier unread.view None unread.begins.entry_is)))
  refused Migrate p p' (g ∷ given) refusal did full not_open =
      subst (λ given. Denied (open_in p) given refusal Migrate) (sym did.takes) (by did.why)
    where
      is_begun : IsBegun 0 (taking i did.receipt None)
      is_begun = begun i last did.receipt 0 did.begins.earlier did.view None did.begins.entry_is

      by : (refusal ≡ JournalFull) ⊎ (refusal ≡ Memory) → Denied (open_in p) (did.receipt ∷ []) refusal Migrate
      by (inl e) = subst (λ refusal. Denied (open_in p) (did.receipt ∷ []) refusal Migrate) (sym e) ((refl, full (ap Some e)), is_begun)
      by (inr e) = subst (λ refusal. Denied (open_in p) (did.receipt ∷ []) refusal Migrate) (sym e) (refl, is_begun)
  refused (Begin j) p p' (g ∷ given) refusal did full not_open = absurd did
  refused (Insert j table rows) p p' (g ∷ given) refusal did full not_open = absurd did
  refused (Update j keys sets) p p' (g ∷ given) refusal did full not_open = absurd did
  refused (Delete j keys) p p' (g ∷ given) refusal did full not_open = absurd did
  refused (UpdatePortion j keys cut sets) p p' (g ∷ given) refusal did full not_open = absurd did
  refused (DeletePortion j keys cut) p p' (g ∷ given) refusal did full not_open = absurd did
  refused (Commit j said) p p' (g ∷ given) refusal did full not_open = absurd did
  refused (Rollback j) p p' (g ∷ given) refusal did full not_open = absurd did
  refused (AddColumn j table name of) p p' (g ∷ given) refusal did full not_open = absurd did
  refused (SplitKey key) p p' (g ∷ given) refusal did full not_open = absurd did
  refused (SplitTime key instant) p p' (g ∷ given) refusal did full not_open = absurd did

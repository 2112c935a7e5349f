-- The steps of a served run: each is of a line, or of a load, or of the service.
use Rattle.std.proofs.Common.{◌≡◌, ◌⊎◌, ℕ, Bool, true, false, List, [], ◌∷◌, ◌++◌, Option, Some, None, map, refl, sym, subst, inl, inr}
use Rattle.std.specs.Prelude.{Ok, Err, Result}
use Rattle.std.specs.List.{AllByRecursion}
use Rattle.values.specs.Log.{Row}
use Rattle.values.specs.Tables.{Schema}
use Rattle.values.specs.declared.refusal.Refusal.{Refusal}
use Rattle.values.specs.declared.refusal.Refusal.TheVariants.{Syntax, NoTable, BadRow, NoTransaction, InTransaction, DuplicateKey, Conflict, ClockEnd, TooManyWrites, Memory, NoSession, LineTooLong, JournalFull, Overlap, BadPeriod, TransactionsOpen}
use Rattle.steps.specs.declared.step.Step.{Step}
use Rattle.steps.specs.declared.step.Step.TheVariants.{Begin, Insert, Update, Delete, UpdatePortion, DeletePortion, Select, Commit, Rollback, AddColumn, SplitKey, SplitTime, Migrate}
use Rattle.steps.specs.declared.step.Reply.{Reply}
use Rattle.histories.specs.History.{History, has_open}
use Rattle.lines.specs.Partial.{Partial}
use Rattle.statement.specs.declared.line.Line.{Line}
use Rattle.statement.specs.declared.line.Line.TheVariants.{Nothing, Clock, Step as Asks}
use Rattle.statement.specs.GrammarLaw.{ArePlain}
use Rattle.serving.specs.journal.declared.entry.Entry.{Entry}
use Rattle.serving.specs.journal.declared.entry.Entry.TheVariants.{Begin as Begins, Commit as Commits, Split as Splits, Install as Installs}
use Rattle.serving.specs.Progress.{asks_store}
use Rattle.serving.specs.ServedSession.{said}
use Rattle.runs.specs.Event.{Event, history_after}
use Rattle.runs.specs.OneHistory.{TellsLoaded}
use Rattle.runs.specs.Tells.{AreEventsOf, AreLeft, IsBegun, IsPacked, MayBeRefused, Says, Tells, TellsAll, TellsLine, let_go, with_reading}
use Rattle.runs.proofs.TellsSteps.{IsServedStep, served_step}
use Rattle.dump_reading.specs.ReadableHistories.{IsReadableStep}
use Rattle.dump_reading.proofs.ReadableHistoriesSteps.{served_steps_are_readable}

-- it adds no column
abbrev pub AddsNone : Step → Type 0
AddsNone (AddColumn i number name of) = ⊥
AddsNone step = Unit {0}

module _ (R : Type 0) where
  -- it is read again, where this holds, and adds no column
  abbrev pub IsGood : Step → Type 0
  IsGood step = (R → IsReadableStep step) × AddsNone step

  abbrev pub IsGoodFor : Option (Step × Reply) → Type 0
  IsGoodFor None = Unit {0}
  IsGoodFor (Some s) = IsGood s.0

  abbrev pub IsGoodEvent : Event → Type 0
  IsGoodEvent e = IsGoodFor e.step

  abbrev pub AreGood : List Event → Type 0
  AreGood events = AllByRecursion IsGoodEvent events

  good_for : (found s : Option (Step × Reply)) → found ≡ s → IsGoodFor s → IsGoodFor found
  good_for found s is good = subst IsGoodFor (sym is) good

  pub good_joined : (xs ys : List Event) → AreGood xs → AreGood ys → AreGood (xs ++ ys)
  good_joined [] ys good rest = rest
  good_joined (x ∷ xs) ys good rest = (good.0, good_joined xs ys good.1 rest)

  good_steps : (events : List Event) (steps : List (Option (Step × Reply))) → map (λ e. e.step) events ≡ steps → AllByRecursion IsGoodFor steps → AreGood events
  good_steps events steps is good = by events (subst (AllByRecursion IsGoodFor) (sym is) good)
    where
      by : (events : List Event) → AllByRecursion IsGoodFor (map (λ e. e.step) events) → AreGood events
      by [] good = tt
      by (e ∷ events) good = (good.0, by events good.1)

  -- ---- a line's step

  module _ (schema : Schema) (i : ℕ) where
    own_adds_none : (step : Step) → IsServedStep schema i step → AddsNone step
    own_adds_none (Begin j) its = tt
    own_adds_none (Insert j number rows) its = tt
    own_adds_none (Update j keys sets) its = tt
    own_adds_none (Delete j keys) its = tt
    own_adds_none (UpdatePortion j keys cut sets) its = tt
    own_adds_none (DeletePortion j keys cut) its = tt
    own_adds_none (Select j form keys) its = tt
    own_adds_none (Commit j reading) its = tt
    own_adds_none (Rollback j) its = tt
    own_adds_none (AddColumn j number name of) (inl its) = its
    own_adds_none (AddColumn j number name of) (inr is) = cc
    own_adds_none (SplitKey key) its = tt
    own_adds_none (SplitTime key instant) its = tt
    own_adds_none Migrate its = tt

    said_is_good : (line : Partial) (step : Step) → said schema i line ≡ Ok (Asks step) → IsGood step
    said_is_good None step is = cc
    said_is_good (Some bytes) step is = (λ r. served_steps_are_readable schema i 0 bytes step is, own_adds_none step (served_step schema i (Some bytes) step is))

  read_is_good : (reading : ℕ) (step : Step) → IsGood step → IsGood (with_reading reading step)
  read_is_good reading (Begin j) good = good
  read_is_good reading (Insert j number rows) good = good
  read_is_good reading (Update j keys sets) good = good
  read_is_good reading (Delete j keys) good = good
  read_is_good reading (UpdatePortion j keys cut sets) good = good
  read_is_good reading (DeletePortion j keys cut) good = good
  read_is_good reading (Select j form keys) good = good
  read_is_good reading (Commit j before) good = (λ r. tt, tt)
  read_is_good reading (Rollback j) good = good
  read_is_good reading (AddColumn j number name of) good = good
  read_is_good reading (SplitKey key) good = good
  read_is_good reading (SplitTime key instant) good = good
  read_is_good reading Migrate good = good

  -- ---- its events

  begun_is_good : (i : ℕ) (e : Event) → IsBegun i e → IsGoodEvent e
  begun_is_good i e is = good_for e.step None is.3 tt

  packed_is_good : (entry : Option Entry) (step : Option (Step × Reply)) → IsPacked entry step → IsGoodFor step
  packed_is_good None step is = absurd is
  packed_is_good (Some (Begins session earlier view)) step is = absurd is
  packed_is_good (Some (Commits session begin net reading end)) step is = absurd is
  packed_is_good (Some (Splits cut done)) step is = absurd is
  packed_is_good (Some (Installs rect block done)) step is = good_for step _ is (λ r. tt, tt)

  module _ (i : ℕ) where
    packing : (e f : Event) (step : Step) (reply : Reply) → AreEventsOf i true (e ∷ f ∷ []) step reply → AreGood (e ∷ f ∷ [])
    packing e f (Begin j) reply are = absurd are
    packing e f (Insert j number rows) reply are = absurd are
    packing e f (Update j keys sets) reply are = absurd are
    packing e f (Delete j keys) reply are = absurd are
    packing e f (UpdatePortion j keys cut sets) reply are = absurd are
    packing e f (DeletePortion j keys cut) reply are = absurd are
    packing e f (Select j form keys) reply are = absurd are
    packing e f (Commit j reading) reply are = absurd are
    packing e f (Rollback j) reply are = absurd are
    packing e f (AddColumn j number name of) reply are = absurd are
    packing e f (SplitKey key) reply are = absurd are
    packing e f (SplitTime key instant) reply are = absurd are
    packing e f Migrate reply are = (begun_is_good 0 e are.0, (packed_is_good f.entry f.step are.1, tt))

    answered : (adds : Bool) (events : List Event) (step : Step) (reply : Reply) → IsGood step → AreEventsOf i adds events step reply → AreGood events
    answered false [] step reply good are = tt
    answered false (e ∷ []) step reply good are = (good_for e.step (Some (step, reply)) are.1 good, tt)
    answered false (e ∷ f ∷ events) step reply good are = absurd are
    answered true [] step reply good are = tt
    answered true (e ∷ []) step reply good are =
        (good_for e.step (Some (with_reading are.1 step, reply)) are.4 (read_is_good are.1 step good), tt)
    answered true (e ∷ f ∷ []) step reply good are = packing e f step reply are
    answered true (e ∷ f ∷ g ∷ events) step reply good are = absurd are

    -- what is refused for room has no step

    memory_left : (is_open : Bool) (e : Event) (step : Step) → AreLeft i is_open (e ∷ []) Memory step → IsGoodEvent e
    memory_left is_open e (Begin j) left = absurd left
    memory_left is_open e (Insert j number rows) left = absurd left
    memory_left is_open e (Update j keys sets) left = absurd left
    memory_left is_open e (Delete j keys) left = absurd left
    memory_left is_open e (UpdatePortion j keys cut sets) left = absurd left
    memory_left is_open e (DeletePortion j keys cut) left = absurd left
    memory_left is_open e (Select j form keys) left = begun_is_good i e left.1
    memory_left is_open e (Commit j reading) left = absurd left
    memory_left is_open e (Rollback j) left = absurd left
    memory_left is_open e (AddColumn j number name of) left = absurd left
    memory_left is_open e (SplitKey key) left = absurd left
    memory_left is_open e (SplitTime key instant) left = absurd left
    memory_left is_open e Migrate left = begun_is_good 0 e left

    full_left : (is_open : Bool) (e : Event) (step : Step) → AreLeft i is_open (e ∷ []) JournalFull step → IsGoodEvent e
    full_left is_open e (Begin j) left = absurd left
    full_left is_open e (Insert j number rows) left = absurd left
    full_left is_open e (Update j keys sets) left = absurd left
    full_left is_open e (Delete j keys) left = absurd left
    full_left is_open e (UpdatePortion j keys cut sets) left = absurd left
    full_left is_open e (DeletePortion j keys cut) left = absurd left
    full_left is_open e (Select j form keys) left = absurd left
    full_left is_open e (Commit j reading) left = absurd left
    full_left is_open e (Rollback j) left = absurd left
    full_left is_open e (AddColumn j number name of) left = absurd left
    full_left is_open e (SplitKey key) left = absurd left
    full_left is_open e (SplitTime key instant) left = absurd left
    full_left is_open e Migrate left = begun_is_good 0 e left

    module _ (schema : Schema) (IsFull : Type 0) where
      one_left : (is_open : Bool) (e : Event) (refusal : Refusal) (step : Step) → MayBeRefused schema IsFull i is_open step refusal → AreLeft i is_open (e ∷ []) refusal step → IsGoodEvent e
      one_left is_open e (Syntax at) step may left = absurd may
      one_left is_open e NoTable step may left = absurd may
      one_left is_open e (BadRow at) step may left = absurd may
      one_left is_open e NoTransaction step may left = absurd may
      one_left is_open e InTransaction step may left = absurd may
      one_left is_open e (DuplicateKey key) step may left = absurd may
      one_left is_open e (Conflict key instant) step may left = absurd may
      one_left is_open e ClockEnd step may left = absurd may
      one_left is_open e TooManyWrites step may left = absurd may
      one_left is_open e Memory step may left = memory_left is_open e step left
      one_left is_open e NoSession step may left = absurd may
      one_left is_open e LineTooLong step may left = absurd may
      one_left is_open e JournalFull step may left = full_left is_open e step left
      one_left is_open e (Overlap key) step may left = absurd may
      one_left is_open e BadPeriod step may left = absurd may
      one_left is_open e TransactionsOpen step may left = absurd may

      refused : (is_open : Bool) (events : List Event) (refusal : Refusal) (step : Step) → MayBeRefused schema IsFull i is_open step refusal → AreLeft i is_open events refusal step → AreGood events
      refused is_open [] refusal step may left = tt
      refused is_open (e ∷ []) refusal step may left = (one_left is_open e refusal step may left, tt)
      refused is_open (e ∷ f ∷ events) refusal step may left = none refusal may left
        where
          none : (refusal : Refusal) → MayBeRefused schema IsFull i is_open step refusal → AreLeft i is_open (e ∷ f ∷ events) refusal step → AreGood (e ∷ f ∷ events)
          none refusal may left = absurd left

      -- ---- lines, and connections

      says : (is_open : Bool) (r : Result Line Refusal) → ((step : Step) → r ≡ Ok (Asks step) → IsGood step) → (events : List Event) (text : List ℕ) → Says schema IsFull i is_open r events text → AreGood events
      says is_open (Err refusal) good events text so = subst AreGood (sym so.0) tt
      says is_open (Ok Nothing) good events text so = subst AreGood (sym so.0) tt
      says is_open (Ok (Clock reading)) good events text so = subst AreGood (sym so.0) tt
      says is_open (Ok (Asks step)) good events text (inl so) = answered (asks_store schema i step is_open) events step so.0 (good step refl) so.2
      says is_open (Ok (Asks step)) good events text (inr so) = refused is_open events so.0 step so.2 so.3

      line_tells : (is_open : Bool) (line : Partial) (events : List Event) (text : List ℕ) → TellsLine schema IsFull i is_open line events text → AreGood events
      line_tells is_open line events text (inl so) = says is_open (said schema i line) (said_is_good schema i line) events text so
      line_tells is_open line events text (inr so) = subst AreGood (sym so.1) tt

      tells : (h : History) (lines : List Partial) (events : List Event) (text : List ℕ) → Tells schema IsFull i h lines events text → AreGood events
      tells h [] events text so = subst AreGood (sym so.0) tt
      tells h (line ∷ lines) events text (now, later, sent, rest, is, of_text, told, goes) =
          subst AreGood (sym is) (good_joined now later (line_tells (has_open h i) line now sent told) (tells (history_after h now) lines later rest goes))

      gone : (is_open : Bool) (events : List Event) → map (λ e. (e.entry, e.step)) events ≡ let_go i is_open → AreGood events
      gone is_open events is = by is_open events is
        where
          steps_of : (events : List Event) → AllByRecursion (λ (p : Option Entry × Option (Step × Reply)). IsGoodFor p.1) (map (λ e. (e.entry, e.step)) events) → AreGood events
          steps_of [] good = tt
          steps_of (e ∷ events) good = (good.0, steps_of events good.1)

          by : (is_open : Bool) (events : List Event) → map (λ e. (e.entry, e.step)) events ≡ let_go i is_open → AreGood events
          by false events is = steps_of events (subst (AllByRecursion (λ (p : Option Entry × Option (Step × Reply)). IsGoodFor p.1)) (sym is) tt)
          by true events is = steps_of events (subst (AllByRecursion (λ (p : Option Entry × Option (Step × Reply)). IsGoodFor p.1)) (sym is) ((λ r. tt, tt), tt))

      pub all_tell : (h : History) (talks : List (List Partial × List ℕ)) (events : List Event) → TellsAll schema IsFull i h talks events → AreGood events
      all_tell h [] events is = subst AreGood (sym is) tt
      all_tell h (talk ∷ talks) events (now, left, later, is, told, ends, goes) =
          subst AreGood (sym is) (good_joined now (left ++ later) (tells h talk.0 now talk.1 told)
          (good_joined left later (gone (has_open (history_after h now) i) left ends) (all_tell (history_after (history_after h now) left) talks later goes)))

  -- ---- the load, and the service

  pub load_tells : (table : ℕ) (rows : List Row) (events : List Event) → (R → AllByRecursion ArePlain rows) → TellsLoaded table rows events → AreGood events
  load_tells table [] events plain is = subst AreGood (sym is) tt
  load_tells table (row ∷ rows) events plain told = good_steps events _ told.steps ((λ r. tt, tt), ((plain, tt), ((λ r. tt, tt), tt)))

  pub service_tells : (events : List Event) → AllByRecursion (λ e. IsBegun 0 e ⊎ IsPacked e.entry e.step) events → AreGood events
  service_tells [] all = tt
  service_tells (e ∷ events) (inl begun, all) = (begun_is_good 0 e begun, service_tells events all)
  service_tells (e ∷ events) (inr packed, all) = (packed_is_good e.entry e.step packed, service_tells events all)

-- A run whose store closed has one history: the events of all parts, in the order of their receipts.
use Rattle.std.proofs.Common.{◌≡◌, ◌≢◌, ℕ, ◌≤◌, ◌==◌, Bool, true, false, cond, List, [], ◌∷◌, ◌++◌, Option, Some, None, is_some, refl, sym, ap, subst, ◌∙◌, arith, append-nil, append_assoc, filter, length, map, reverse, IsPermutation}
use Rattle.std.specs.Prelude.{◌⊎◌}
use Rattle.std.specs.List.{AllByRecursion, cons_option, flat_map}
use Rattle.std.specs.Option.{option_map}
use Rattle.std.proofs.lemmas.Bool.Decides.{nat_tests}
use Rattle.std.proofs.lemmas.List.Elements.{filter-append, filter_map-append}
use Rattle.values.specs.Tables.{Schema}
use Rattle.growlog.specs.Origin.{Origin}
use Rattle.values.specs.Log.{Row}
use Rattle.steps.specs.Misfit.{max_session}
use Rattle.steps.specs.Idle.{is_idle}
use Rattle.histories.specs.History.{History, has_open, log}
use Rattle.histories.proofs.HistoryGrowth.{log_rises}
use Rattle.histories.proofs.HistoryOwn.{none_begun}
use Rattle.serving.specs.journal.declared.entry.Entry.{Entry}
use Rattle.serving.specs.journal.Entries.{Entries, entry_at, numbers, log as journal_log}
use Rattle.serving.specs.book.Book.{BookState}
use Rattle.serving.specs.Progress.{Given}
use Rattle.runs.specs.Event.{Event, AreRight, history_after, of_part, receipt_of, receipts_of, with_step}
use Rattle.runs.specs.OneHistory.{OneHistory, come_to, ServedRunsAreHistories, TellsLoaded, dialogue_of, service_part}
use Rattle.runs.specs.Run.{AreApart, IsPart, IsRefusedRightly, IsRun, Part, all_given, given_of, last_of, told_of}
use Rattle.runs.specs.Tells.{TellsAll}
use Rattle.runs.proofs.RunAlong.{Chain, RightAll, after_all, run, same_number}
use Rattle.runs.proofs.OneHistoryBeside.{World, Beside, Held, May, Moves, Right, add, with_entry}
use Rattle.runs.proofs.TellsConnections.{all_go}
use Rattle.runs.proofs.TellsFacts.{Facts, facts, number_of, numbers_of, took}
use Rattle.runs.proofs.RunFirst.{numbered_first}
use Rattle.runs.proofs.RunInTurn.{Climbs, Each, each_join, each_split, filter_in_turn, in_turn, in_turn_already, in_turn_each}
use Rattle.runs.proofs.RunJournal.{onto}
use Rattle.runs.proofs.RunLegal.{all_may_come, entries_in_turn, entries_of, whole_journal}
use Rattle.runs.proofs.RunLoaded.{IsServiceEvent, LoadEvents, load_events, service_events, service_goes, service_its, service_takes, service_tells}
use Rattle.runs.proofs.RunNumbered.{numbered}
use Rattle.runs.proofs.OneHistoryOthers.{other}
use Rattle.runs.proofs.OneHistoryOwn.{own}
use Rattle.runs.proofs.RunPieces.{Apart, IsPiece, Piece, all_events, each_of, first_of, goes_of, later_of, mine, none_of, not_mine}

-- ---- receipts of events in turn

numbers_same : (xs : List Event) → numbers_of (receipts_of xs) ≡ map number_of (filter took xs)
numbers_same [] = refl
numbers_same (x ∷ xs) = by x.entry (numbers_same xs)
  where
    by : (entry : Option Entry) → numbers_of (receipts_of xs) ≡ map number_of (filter took xs)
        → numbers_of (cons_option (option_map (λ entry. record { number = x.number; entry = entry }) entry) (receipts_of xs)) ≡ map number_of (cond (is_some entry) (x ∷ filter took xs) (filter took xs))
    by None rest = rest
    by (Some e) rest = ap (λ ns. x.number ∷ ns) rest

abbrev StandsBy : Entries → ℕ → Option Entry → Type 0
StandsBy j number None = Unit {0}
StandsBy j number (Some e) = entry_at j number ≡ Some e

abbrev EntryStands : Entries → Event → Type 0
EntryStands j x = StandsBy j x.number x.entry

abbrev AllStand : Entries → List Given → Type 0
AllStand j given = AllByRecursion (λ g. entry_at j g.number ≡ Some g.entry) given

stand_each : (j : Entries) (xs : List Event) → AllStand j (receipts_of xs) → Each number_of (EntryStands j) xs
stand_each j [] stand = tt
stand_each j (x ∷ xs) stand = by x.entry stand (λ stand. stand_each j xs stand)
  where
    by : (entry : Option Entry) → AllStand j (cons_option (option_map (λ entry. record { number = x.number; entry = entry }) entry) (receipts_of xs)) → (AllStand j (receipts_of xs) → Each number_of (EntryStands j) xs)
        → StandsBy j x.number entry × Each number_of (EntryStands j) xs
    by None stand rest = (tt, rest stand)
    by (Some e) stand rest = (stand.0, rest stand.1)

each_stands : (j : Entries) (xs : List Event) → Each number_of (EntryStands j) xs → AllStand j (receipts_of xs)
each_stands j [] each = tt
each_stands j (x ∷ xs) each = by x.entry each.0 (each_stands j xs each.1)
  where
    by : (entry : Option Entry) → StandsBy j x.number entry → AllStand j (receipts_of xs)
        → AllStand j (cons_option (option_map (λ entry. record { number = x.number; entry = entry }) entry) (receipts_of xs))
    by None here rest = rest
    by (Some e) here rest = (here, rest)

-- ---- what is reached

module _ (first : Schema) (origin : Origin) where
  abbrev After : World → List Event → World
  After = after_all (λ (e : Event). e.part) add (Moves origin.schema) (May first origin) (Right first origin) (Beside first origin)

  reached : (xs : List Event) (w : World) → After w xs ≡ record { entries = onto (entries_of (receipts_of xs)) w.entries; history = history_after w.history xs }
  reached [] w = refl
  reached (x ∷ xs) w = reached xs (add x w) ∙ by x.entry
    where
      by : (entry : Option Entry) → ◌≡◌ {A = World} (record { entries = onto (entries_of (receipts_of xs)) (with_entry entry w.entries); history = history_after (with_step x.step w.history) xs })
          (record { entries = onto (entries_of (cons_option (option_map (λ entry. record { number = x.number; entry = entry }) entry) (receipts_of xs))) w.entries; history = history_after (with_step x.step w.history) xs })
      by None = refl
      by (Some e) = refl

  right_all : (xs : List Event) (w : World) → RightAll (λ (e : Event). e.part) add (Moves origin.schema) (May first origin) (Right first origin) (Beside first origin) w xs → AreRight first w.history xs
  right_all [] w right = tt
  right_all (x ∷ xs) w right = (right.0, right_all xs (add x w) right.1)

module _ (schema : Schema) (IsFull : Type 0) where
  -- ---- the parts of sessions

  record Session (p : Part) : Type 0 where
    events : List Event
    tells : TellsAll schema IsFull p.number [] (map (λ s. (s.lines, s.text)) p.sent) events
    known : Facts p.number 0 (given_of p) events
    goes : Chain (Moves schema) None events None
    some : 1 ≤ p.number
    small : p.number ≤ max_session

  session : (p : Part) → IsPart schema p → AllByRecursion (IsRefusedRightly IsFull) (told_of p) → Session p
  session p is refused =
      let go = all_go schema IsFull p.number is.in_range [] 0 p.sent refused refl is.serves in
      record {
        events = go.events;
        tells = go.tells;
        known = facts p.number 0 (last_of 0 (given_of p)) (given_of p) go.events (go.known is.rises);
        goes = go.goes;
        some = is.some;
        small = is.in_range;
      }

  abbrev piece : (p : Part) → Session p → Piece
  piece p s = record { part = p.number; events = s.events }

  abbrev Sessions : List Part → Type 0
  Sessions [] = Unit {0}
  Sessions (p ∷ parts) = Session p × Sessions parts

  sessions : (parts : List Part) → AllByRecursion (IsPart schema) parts → AllByRecursion (λ p. AllByRecursion (IsRefusedRightly IsFull) (told_of p)) parts → Sessions parts
  sessions [] are refused = tt
  sessions (p ∷ parts) are refused = (session p are.0 refused.0, sessions parts are.1 refused.1)

  abbrev pieces : (parts : List Part) → Sessions parts → List Piece
  pieces [] s = []
  pieces (p ∷ parts) s = piece p s.0 ∷ pieces parts s.1

  climbing : (events : List Event) → Climbs number_of 0 events → in_turn number_of events ≡ events
  climbing events climbs = in_turn_already number_of 0 events climbs

  is_piece : (p : Part) (s : Session p) → IsPiece schema (piece p s)
  is_piece p s = record { its = s.known.its; end = None; goes = subst (λ xs. Chain (Moves schema) None xs None) (sym (climbing s.events s.known.climbs)) s.goes }

  are_pieces : (parts : List Part) (s : Sessions parts) (last : Piece) → IsPiece schema last → AllByRecursion (IsPiece schema) (pieces parts s ++ last ∷ [])
  are_pieces [] s last is = (is, tt)
  are_pieces (p ∷ parts) s last is = (is_piece p s.0, are_pieces parts s.1 last is)

  differ : (a b : ℕ) → a ≢ b → (a == b) ≡ false
  differ a b other = grind (arith, nat_tests, other)

  all_differ : (p : Part) (parts : List Part) (s : Sessions parts) (last : Piece) → AllByRecursion (λ n. n ≢ p.number) (map (λ q. q.number) parts) → (last.part == p.number) ≡ false → AllByRecursion (λ q. (q.part == p.number) ≡ false) (pieces parts s ++ last ∷ [])
  all_differ p [] s last apart other = (other, tt)
  all_differ p (q ∷ parts) s last apart other = (differ q.number p.number apart.0, all_differ p parts s.1 last apart.1 other)

  behind_all : (n : ℕ) → n ≤ max_session → (service_part == n) ≡ false
  behind_all n small = grind (arith, nat_tests)

  are_apart : (parts : List Part) (s : Sessions parts) (last : Piece) → last.part ≡ service_part → AreApart (map (λ p. p.number) parts) → Apart (pieces parts s ++ last ∷ [])
  are_apart [] s last is apart = (tt, tt)
  are_apart (p ∷ parts) s last is apart =
      (all_differ p parts s.1 last apart.0 (ap (λ n. n == p.number) is ∙ behind_all p.number s.0.small), are_apart parts s.1 last is apart.1)

  some_number : (n : ℕ) → 1 ≤ n → (n == 0) ≡ false
  some_number n some = grind (arith, nat_tests)

  none_zero : (parts : List Part) (s : Sessions parts) (last : Piece) → (last.part == 0) ≡ false → AllByRecursion (λ q. (q.part == 0) ≡ false) (pieces parts s ++ last ∷ [])
  none_zero [] s last other = (other, tt)
  none_zero (p ∷ parts) s last other = (some_number p.number s.0.some, none_zero parts s.1 last other)

  receipts_joined : (xs ys : List Event) → receipts_of (xs ++ ys) ≡ receipts_of xs ++ receipts_of ys
  receipts_joined xs ys = filter_map-append receipt_of xs ys

  all_receipts : (parts : List Part) (s : Sessions parts) (last : Piece) → receipts_of (all_events (pieces parts s ++ last ∷ [])) ≡ flat_map given_of parts ++ receipts_of last.events
  all_receipts [] s last = ap receipts_of (append-nil last.events)
  all_receipts (p ∷ parts) s last =
      receipts_joined s.0.events (all_events (pieces parts s.1 ++ last ∷ []))
      ∙ (λ k. s.0.known.takes k ++ all_receipts parts s.1 last k)
      ∙ sym (append_assoc (given_of p) (flat_map given_of parts) (receipts_of last.events))

-- ---- the whole

module _ (first : Schema) (before : History) (idle : is_idle (has_open before) ≡ true) (most : ℕ) (b : BookState) where
  abbrev origin : Origin
  origin = come_to first before most

  abbrev IsFull : Type 0
  IsFull = length b.entries ≡ most

  module _ (table : ℕ) (rows : List Row) (loaded : List Given) (parts : List Part) (service : List Given) (is : IsRun origin b table rows loaded parts service) where
    load : LoadEvents origin.schema table rows loaded
    load = load_events origin.schema table rows loaded is.is_loaded

    served : Sessions origin.schema IsFull parts
    served = sessions origin.schema IsFull parts is.are_parts is.refused

    abbrev load_piece : Piece
    load_piece = record { part = 0; events = load.events }

    abbrev service_piece : Piece
    service_piece = record { part = service_part; events = service_events service }

    abbrev others : List Piece
    others = pieces origin.schema IsFull parts served ++ service_piece ∷ []

    abbrev all : List Piece
    all = load_piece ∷ others

    -- those of the load come first, and then all others in turn
    abbrev events : List Event
    events = load.events ++ in_turn number_of (all_events others)

    are : AllByRecursion (IsPiece origin.schema) all
    are = (
      record { its = load.its; end = None; goes = subst (λ xs. Chain (Moves origin.schema) None xs None) (sym (climbing origin.schema IsFull load.events load.climbs)) load.goes },
      are_pieces origin.schema IsFull parts served service_piece (record { its = service_its service; end = None; goes = service_goes origin.schema service is.serviced }),
    )

    apart : Apart all
    apart = (none_zero origin.schema IsFull parts served service_piece refl, are_apart origin.schema IsFull parts served service_piece refl is.apart)

    receipts_are : receipts_of (all_events all) ≡ all_given loaded parts service
    receipts_are =
        receipts_joined origin.schema IsFull load.events (all_events (pieces origin.schema IsFull parts served ++ service_piece ∷ []))
        ∙ (λ k. load.takes k ++ (all_receipts origin.schema IsFull parts served service_piece ∙ ap (λ gs. flat_map given_of parts ++ gs) (service_takes service)) k)

    -- the events that took a receipt
    split : filter took (all_events all) ≡ filter took load.events ++ filter took (all_events others)
    split = filter-append took load.events (all_events others)

    all_numbered : map number_of (in_turn number_of (filter took load.events ++ filter took (all_events others))) ≡ numbers (length b.entries)
    all_numbered =
        subst (λ xs. map number_of (in_turn number_of xs) ≡ numbers (length b.entries)) split
        (numbered number_of (filter took (all_events all)) (length b.entries)
        (subst (λ ns. IsPermutation ns (numbers (length b.entries))) (sym (ap numbers_of receipts_are) ∙ numbers_same (all_events all)) is.once))

    abbrev OneTwo : List ℕ → Type 0
    OneTwo ns = (ns ≡ []) ⊎ (ns ≡ 1 ∷ 2 ∷ [])

    load_numbers : OneTwo (map number_of (filter took load.events))
    load_numbers = subst OneTwo (sym (ap numbers_of load.takes) ∙ numbers_same load.events) load.numbers_are

    numbers_are : numbers_of (receipts_of events) ≡ numbers (length b.entries)
    numbers_are =
        numbers_same events
        ∙ ap (map number_of) (filter-append took load.events (in_turn number_of (all_events others)) ∙ ap (λ xs. filter took load.events ++ xs) (filter_in_turn number_of took (all_events others)))
        ∙ numbered_first number_of (filter took load.events) (filter took (all_events others)) (length b.entries) load_numbers all_numbered

    stand : AllStand b.entries (receipts_of events)
    stand =
        let each = stand_each b.entries (all_events all) (subst (AllStand b.entries) (sym receipts_are) is.stand) in
        let parts = each_split number_of (EntryStands b.entries) load.events (all_events others) each in
        each_stands b.entries events (each_join number_of (EntryStands b.entries) load.events (in_turn number_of (all_events others)) parts.0 (in_turn_each number_of (EntryStands b.entries) (all_events others) parts.1))

    entries_are : entries_of (receipts_of events) ≡ reverse b.entries
    entries_are = entries_in_turn b.entries (receipts_of events) numbers_are stand

    parted : (i : ℕ) → of_part i events ≡ of_part i load.events ++ in_turn number_of (of_part i (all_events others))
    parted i =
        filter-append (λ e. e.part == i) load.events (in_turn number_of (all_events others))
        ∙ ap (λ xs. of_part i load.events ++ xs) (filter_in_turn number_of (λ e. e.part == i) (all_events others))

    abbrev InTurn : ℕ → Type 0
    InTurn i = of_part i events ≡ in_turn number_of (of_part i (all_events all))

    -- the load's, since nothing else is of its part; and those of any other part are in turn
    of_all : (i : ℕ) → InTurn i
    of_all i = by (0 == i) refl
      where
        by : (b : Bool) → (0 == i) ≡ b → InTurn i
        by true h = subst InTurn (same_number 0 i h) (
            parted 0
            ∙ (λ k. mine 0 load.events load.its k ++ in_turn number_of (none_of origin.schema 0 others are.1 apart.0 k))
            ∙ append-nil load.events
            ∙ sym (climbing origin.schema IsFull load.events load.climbs)
            ∙ ap (in_turn number_of) (sym (first_of origin.schema load_piece others are apart)))
        by false h =
            parted i
            ∙ ap (λ xs. xs ++ in_turn number_of (of_part i (all_events others))) (not_mine i 0 load.events h load.its)
            ∙ ap (in_turn number_of) (sym (later_of origin.schema i load_piece others are.0 h))

    loaded_is : of_part 0 events ≡ load.events
    loaded_is = of_all 0 ∙ ap (in_turn number_of) (first_of origin.schema load_piece others are apart) ∙ climbing origin.schema IsFull load.events load.climbs

    abbrev start : World
    start = record { entries = []; history = before }

    comes : (i : ℕ) → (t : Held) × Chain (Moves origin.schema) None (of_part i events) t
    comes i = subst (λ xs. (t : Held) × Chain (Moves origin.schema) None xs t) (sym (of_all i)) (goes_of origin.schema i all are apart)

    ran : RightAll (λ (e : Event). e.part) add (Moves origin.schema) (May first origin) (Right first origin) (Beside first origin) start events
        × ((i : ℕ) → Beside first origin (After first origin start events) i (comes i).0)
    ran = run (λ (e : Event). e.part) add (Moves origin.schema) (May first origin) (Right first origin) (Beside first origin)
        (record { own = own first origin; other = other first origin }) events start (λ i. None) (λ i. (comes i).0)
        (all_may_come first origin (log_rises first before) before b.entries events is.is_book.legal is.is_book.holds.keys entries_are numbers_are)
        (λ i. record { tables_are = refl; log_is = refl; opened = none_begun first before i idle })
        (λ i. (comes i).1)

    abbrev LogIs : World → Type 0
    LogIs w = journal_log origin w.entries ≡ log first w.history

    log_is : journal_log origin b.entries ≡ log first (history_after before events)
    log_is =
        subst (λ j. journal_log origin j ≡ log first (history_after before events)) (ap (λ es. onto es []) entries_are ∙ whole_journal b.entries)
        (subst LogIs (reached first origin events start) (ran.1 0).log_is)

    each : AllByRecursion (λ p. of_part p.part (all_events all) ≡ p.events) all
    each = each_of origin.schema all are apart

    tells : (parts : List Part) (s : Sessions origin.schema IsFull parts) (last : Piece) → AllByRecursion (λ p. of_part p.part (all_events all) ≡ p.events) (pieces origin.schema IsFull parts s ++ last ∷ [])
        → AllByRecursion (λ d. TellsAll origin.schema IsFull d.number [] d.talks (of_part d.number events)) (map dialogue_of parts) × (of_part last.part (all_events all) ≡ last.events)
    tells [] s last each = (tt, each.0)
    tells (p ∷ parts) s last each =
        let rest = tells parts s.1 last each.1 in
        let same : of_part p.number events ≡ s.0.events = of_all p.number ∙ ap (in_turn number_of) each.0 ∙ climbing origin.schema IsFull s.0.events s.0.known.climbs in
        ((subst (TellsAll origin.schema IsFull p.number [] (map (λ s. (s.lines, s.text)) p.sent)) (sym same) s.0.tells, rest.0), rest.1)

    not_of : (i : ℕ) (parts : List Part) (s : Sessions origin.schema IsFull parts) (last : Piece) → (last.part == i) ≡ false → AllByRecursion (λ d. d.number ≢ i) (map dialogue_of parts) → AllByRecursion (λ q. (q.part == i) ≡ false) (pieces origin.schema IsFull parts s ++ last ∷ [])
    not_of i [] s last other apart = (other, tt)
    not_of i (p ∷ parts) s last other apart = (differ origin.schema IsFull p.number i apart.0, not_of i parts s.1 last other apart.1)

    turned : (m n : ℕ) → n ≢ m → (m == n) ≡ false
    turned m n apart = differ origin.schema IsFull m n (λ e. apart (sym e))

    one : OneHistory first before most b table rows (map dialogue_of parts) events
    one = record {
      entries_are = entries_are;
      numbered = numbers_are;
      right = right_all first origin events start ran.0;
      log_is = log_is;
      loaded = subst (TellsLoaded table rows) (sym loaded_is) load.tells;
      loaded_first = (in_turn number_of (all_events others), ap (λ xs. xs ++ in_turn number_of (all_events others)) (sym loaded_is));
      sent = (tells parts served service_piece each.1).0;
      service = subst (AllByRecursion IsServiceEvent) (sym (of_all service_part ∙ ap (in_turn number_of) (tells parts served service_piece each.1).1)) (service_tells service is.serviced);
      no_other = λ i some inside apart. of_all i ∙ ap (in_turn number_of) (none_of origin.schema i all are (turned 0 i some, not_of i parts served service_piece (turned service_part i inside) apart));
    }

pub served_runs_are_histories : ServedRunsAreHistories
served_runs_are_histories first before o b table rows loaded parts service carries is =
    let run : IsRun (come_to first before o.most_entries) b table rows loaded parts service = subst (λ o. IsRun o b table rows loaded parts service) carries.origin_is is in
    (events first before carries.idle o.most_entries b table rows loaded parts service run, one first before carries.idle o.most_entries b table rows loaded parts service run)

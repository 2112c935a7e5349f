-- The events of a load, and of the service.
use Rattle.std.proofs.Common.{◌≡◌, ℕ, ◌≤◌, ◌==◌, ◌||◌, inl, inr, Bool, true, false, List, [], ◌∷◌, Option, Some, None, Result, Ok, refl, sym, ap, ◌∙◌, arith, map}
use Rattle.std.specs.List.{AllByRecursion}
use Rattle.std.specs.Prelude.{◌⊎◌}
use Rattle.std.proofs.lemmas.Bool.Decides.{nat_tests}
use Rattle.values.specs.Tables.{Schema}
use Rattle.values.specs.Log.{Row}
use Rattle.values.specs.Writes.{Own}
use Rattle.serving.specs.tsbtree.View.{last as view_last}
use Rattle.serving.specs.staging.Own.{own}
use Rattle.steps.specs.declared.step.Step.{Step}
use Rattle.steps.specs.declared.step.Step.TheVariants.{Begin, Insert, Commit, Migrate}
use Rattle.steps.specs.declared.step.Reply.{Reply}
use Rattle.steps.specs.declared.step.Reply.TheVariants.{Begun, Committed, Done, Inserted}
use Rattle.steps.specs.Misfit.{max_session, misfit}
use Rattle.steps.specs.Reply.{written_reply}
use Rattle.values.specs.declared.refusal.Refusal.{Refusal}
use Rattle.serving.specs.journal.declared.entry.Entry.{Entry}
use Rattle.serving.specs.journal.declared.entry.Entry.TheVariants.{Begin as Begins, Commit as Commits, Split as Splits, Install as Installs}
use Rattle.serving.specs.sessions.SessionState.{write_by}
use Rattle.serving.specs.Progress.{Given, ServedTransaction, after, with_own}
use Rattle.runs.specs.Event.{Event, receipts_of}
use Rattle.runs.specs.OneHistory.{TellsLoaded, service_part}
use Rattle.runs.specs.Tells.{IsBegun, IsPacked}
use Rattle.runs.specs.Run.{IsLoad, IsLoaded, IsOfService}
use Rattle.runs.proofs.RunAlong.{Chain}
use Rattle.runs.proofs.OneHistoryBeside.{Held, Moves}
use Rattle.runs.proofs.TellsFacts.{number_of, numbers_of}
use Rattle.runs.proofs.RunInTurn.{Climbs, Each, in_turn, in_turn_each}

-- ---- a load

pub record LoadEvents (schema : Schema) (table : ℕ) (rows : List Row) (given : List Given) : Type 0 where
  pub events : List Event
  pub its : AllByRecursion (λ e. e.part ≡ 0) events
  pub climbs : Climbs number_of 0 events
  pub takes : receipts_of events ≡ given
  pub goes : Chain (Moves schema) None events None
  pub tells : TellsLoaded table rows events
  pub numbers_are : (numbers_of given ≡ []) ⊎ (numbers_of given ≡ 1 ∷ 2 ∷ [])

named : (n : ℕ) → ((n == 0) || (n == n)) ≡ true
named n = by (n == 0) (let h : (n == n) ≡ true = grind (arith, nat_tests) in h)
  where
    by : (b : Bool) → (n == n) ≡ true → (b || (n == n)) ≡ true
    by true h = refl
    by false h = h

module _ (schema : Schema) (table : ℕ) (row : Row) (more : List Row) (given : List Given) (l : IsLoad schema table (row ∷ more) given) where
  abbrev step : Step
  step = Insert 0 table (row ∷ more)

  abbrev first : Given
  first = record { number = 1; entry = Begins 0 l.earlier l.view }

  abbrev second : Given
  second = record { number = 2; entry = Commits 0 1 l.net 0 (Ok (Some l.instant)) }

  abbrev begun : ServedTransaction
  begun = record { begin = 1; changes = l.shown; own = own l.shown [] }

  abbrev written : ServedTransaction
  written = record { begin = 1; changes = l.shown; own = own l.shown l.writes }

  abbrev events : List Event
  events =
      record { part = 0; number = 1; entry = Some first.entry; step = Some (Begin 0, Begun (view_last l.view)) }
      ∷ record { part = 0; number = 1; entry = None; step = Some (step, Inserted l.count) }
      ∷ record { part = 0; number = 2; entry = Some second.entry; step = Some (Commit 0 0, Committed (Some l.instant)) } ∷ []

  answered : write_by schema step (misfit schema step) (Some (own l.shown [])) ≡ (Ok l.count, Some (own l.shown l.writes))
  answered = (λ k. write_by schema step (l.fits k) (Some (own l.shown []))) ∙ ap (λ (x : Result ℕ Refusal × Own). (x.0, Some x.1)) l.inserted

  small : 0 ≤ max_session
  small = omega arith

  abbrev Goes : Held → List Event → Held → Type 0
  Goes = Chain (Moves schema)

  goes : Goes None events None
  goes = (
    Some begun,
    (
      inl (record {
        may_give = λ reading. true;
        in_range = small;
        its = refl;
        read = refl;
        receipt = l.earlier;
        next = 1;
        takes = record {
          receipt = first;
          changes = l.shown;
          view = l.view;
          takes = refl;
          begins = record { earlier = l.earlier; entry_is = refl; names = named l.earlier; held = l.held };
          reply_is = refl;
          left = refl;
        };
      }),
      (
        Some written,
        (
          inl (record {
            may_give = λ reading. true;
            in_range = small;
            its = refl;
            read = tt;
            receipt = 1;
            next = 1;
            takes = record {
              takes = refl;
              reply_is = sym (ap (λ (x : Result ℕ Refusal × Option Own). written_reply step x.0) answered);
              left = sym (ap (λ (x : Result ℕ Refusal × Option Own). after 1 (with_own (Some begun) x.1)) answered);
            };
          }),
          (
            None,
            (
              inl (record {
                may_give = λ reading. true;
                in_range = small;
                its = refl;
                read = refl;
                receipt = 1;
                next = 2;
                takes = record {
                  receipt = second;
                  reading = 0;
                  end = Ok (Some l.instant);
                  may = refl;
                  takes = refl;
                  entry_is = ap (λ net. Commits 0 1 net 0 (Ok (Some l.instant))) l.net_is;
                  reply_is = refl;
                  left = refl;
                };
              }),
              refl,
            ),
          ),
        ),
      ),
    ),
  )

  pub made : LoadEvents schema table (row ∷ more) given
  made = record {
    events = events;
    its = (refl, (refl, (refl, tt)));
    climbs = (omega arith, (omega arith, (omega arith, tt)));
    takes = sym l.given_is;
    goes = goes;
    tells = record { begun = view_last l.view; count = l.count; instant = l.instant; steps = refl };
    numbers_are = inr (ap numbers_of l.given_is);
  }

pub load_events : (schema : Schema) (table : ℕ) (rows : List Row) (given : List Given) → IsLoaded schema table rows given → LoadEvents schema table rows given
load_events schema table [] given none = record { events = []; its = tt; climbs = tt; takes = sym none; goes = refl; tells = refl; numbers_are = inl (ap numbers_of none) }
load_events schema table (row ∷ rows) given l = made schema table row rows given l

-- ---- the service

-- it begins, or packs a node
abbrev pub IsServiceEvent : Event → Type 0
IsServiceEvent e = IsBegun 0 e ⊎ IsPacked e.entry e.step

-- an install is a MIGRATE that is done, and a begin is none
abbrev service_step : Entry → Option (Step × Reply)
service_step (Installs rect block done) = Some (Migrate, Done)
service_step (Begins session earlier view) = None
service_step (Commits session begin net reading end) = None
service_step (Splits cut done) = None

abbrev pub service_event : Given → Event
service_event g = record { part = service_part; number = g.number; entry = Some g.entry; step = service_step g.entry }

abbrev pub service_events : List Given → List Event
service_events service = map service_event service

pub service_its : (service : List Given) → AllByRecursion (λ e. e.part ≡ service_part) (service_events service)
service_its [] = tt
service_its (g ∷ service) = (refl, service_its service)

pub service_takes : (service : List Given) → receipts_of (service_events service) ≡ service
service_takes [] = refl
service_takes (g ∷ service) = ap (λ gs. g ∷ gs) (service_takes service)

module _ (schema : Schema) where
  moves_by : (number : ℕ) (e : Entry) → IsOfService e → Moves schema (record { part = service_part; number = number; entry = Some e; step = service_step e }) None None
  moves_by number (Begins session earlier view) is = (tt, refl)
  moves_by number (Installs rect block done) is = inr (record { e = Installs rect block done; entry_is = refl; idle = tt; step_is = refl; reply_is = refl; left = refl })
  moves_by number (Commits session begin net reading end) is = absurd is
  moves_by number (Splits cut done) is = absurd is

  all_move : (service : List Given) → AllByRecursion (λ g. IsOfService g.entry) service → Each number_of (λ e. Moves schema e None None) (service_events service)
  all_move [] are = tt
  all_move (g ∷ service) are = (moves_by g.number g.entry are.0, all_move service are.1)

  chained : (xs : List Event) → Each number_of (λ e. Moves schema e None None) xs → Chain (Moves schema) None xs None
  chained [] each = refl
  chained (x ∷ xs) each = (None, (each.0, chained xs each.1))

  pub service_goes : (service : List Given) → AllByRecursion (λ g. IsOfService g.entry) service → Chain (Moves schema) None (in_turn number_of (service_events service)) None
  service_goes service are = chained (in_turn number_of (service_events service)) (in_turn_each number_of (λ e. Moves schema e None None) (service_events service) (all_move service are))

is_event : (number : ℕ) (e : Entry) → IsOfService e → IsServiceEvent (record { part = service_part; number = number; entry = Some e; step = service_step e })
is_event number (Begins session earlier view) is = inl (earlier, view, ap (λ i. Some (Begins i earlier view)) is, refl)
is_event number (Installs rect block done) is = inr refl
is_event number (Commits session begin net reading end) is = absurd is
is_event number (Splits cut done) is = absurd is

all_events : (service : List Given) → AllByRecursion (λ g. IsOfService g.entry) service → Each number_of IsServiceEvent (service_events service)
all_events [] are = tt
all_events (g ∷ service) are = (is_event g.number g.entry are.0, all_events service are.1)

same_all : (xs : List Event) → Each number_of IsServiceEvent xs → AllByRecursion IsServiceEvent xs
same_all [] each = tt
same_all (x ∷ xs) each = (each.0, same_all xs each.1)

pub service_tells : (service : List Given) → AllByRecursion (λ g. IsOfService g.entry) service → AllByRecursion IsServiceEvent (in_turn number_of (service_events service))
service_tells service are = same_all (in_turn number_of (service_events service)) (in_turn_each number_of IsServiceEvent (service_events service) (all_events service are))

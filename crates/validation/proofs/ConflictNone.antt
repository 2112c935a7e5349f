-- Where nothing was committed since the start, no unit was changed since, so nothing conflicts.
use Rattle.std.proofs.Common.{◌≡◌, ℕ, ◌≤◌, Bool, true, false, [], ◌∷◌, Option, Some, None, refl, sym, ap, subst, ◌∙◌, arith, All}
use Rattle.std.specs.Option.{option_map}
use Rattle.std.specs.Prelude.{nat_lt, ◌&&◌, if◌then◌else◌}
use Rattle.std.specs.List.{slice_get, cons_option}
use Rattle.std.proofs.lemmas.Bool.Decides.{nat_tests}
use Rattle.std.proofs.lemmas.List.Elements.{All-head, All-tail}
use Rattle.values.specs.declared.key.Key.{Key}
use Rattle.values.specs.Event.{Event}
use Rattle.values.specs.Order.{is_key}
use Rattle.values.specs.Tables.{Schema}
use Rattle.values.specs.Entity.{unit_of}
use Rattle.values.specs.Period.{Periods}
use Rattle.values.specs.Log.{Changes, Net}
use Rattle.values.specs.Commits.{latest_of, changed_among, unit_changed_since, LookUp, conflicts_by, by_unit}
use Rattle.values.specs.ChangedSince.{conflicts}
use Rattle.values.specs.Events.{events_of, event_of}
use Rattle.staging.specs.tsbtree.View.{TreeState, events}
use Rattle.staging.specs.View.{Holds}

not_after : (a b start : ℕ) → a ≤ b → b ≤ start → nat_lt start a ≡ false
not_after a b start upto before = grind (arith, nat_tests)

neither : (o : Option ℕ) (test after : Bool) (x : ℕ) → o ≡ None → after ≡ false → latest_of o (if test && after then Some x else None) ≡ None
neither o test after x none off = λ i. latest_of (none i) (untested test i)
  where
    untested : (test : Bool) → (if test && after then Some x else None) ≡ None
    untested true = λ i. if off i then Some x else None
    untested false = refl

-- no change is above the start
none_among : (test : Key → Bool) (last start : ℕ) → last ≤ start → (m : Changes) → All (λ (e : Event). e.at ≤ last) (events_of m) → changed_among test m start ≡ None
none_among test last start before [] upto = refl
none_among test last start before (c ∷ cs) upto =
    neither (changed_among test cs start) (test c.0.key) (nat_lt start c.0.instant) c.0.instant
    (none_among test last start before cs (All-tail (λ (e : Event). e.at ≤ last) (event_of c) (events_of cs) upto))
    (not_after c.0.instant last start (All-head (λ (e : Event). e.at ≤ last) (event_of c) (events_of cs) upto) before)

-- no unit was changed
none_by : (changed : LookUp) → ((k : Key) → changed k ≡ None) → (net : Net) → conflicts_by changed net ≡ []
none_by changed never [] = refl
none_by changed never (c ∷ net) =
    ap (λ o. cons_option (option_map (λ (instant : ℕ). (c.0, instant)) o) (conflicts_by changed net)) (never c.0)
    ∙ none_by changed never net

-- the events end by the last instant, which is no later than the start
pub none_since : (schema : Schema) (periods : Periods) (view : TreeState) (m : Changes) (last start : ℕ) (net : Net) → All (λ (e : Event). e.at ≤ last) (events view) → last ≤ start → Holds schema view m
    → None ≡ slice_get (conflicts periods m start net) 0
none_since schema periods view m last start net upto before held =
    λ i. slice_get (sym nothing i) 0
  where
    known : All (λ (e : Event). e.at ≤ last) (events_of m)
    known = subst (All (λ (e : Event). e.at ≤ last)) held.events_are upto

    nothing : conflicts periods m start net ≡ []
    nothing = none_by (unit_changed_since periods m start) (λ unit. none_among (λ k. is_key unit (unit_of periods k)) last start before m known) (by_unit periods net)

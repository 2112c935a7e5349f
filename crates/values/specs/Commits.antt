-- How a transaction ends: the first committer wins.
use Rattle.std.specs.Prelude.{ℕ, List, [], ◌∷◌, ◌++◌, ◌+◌, Option, Some, None, Result, Ok, Err, nat_lt, max, map, filter_map, Bool, ◌&&◌, if◌then◌else◌}
use Rattle.std.specs.Option.{option_map}
use Rattle.values.specs.declared.key.Key.{Key}
use Rattle.values.specs.declared.refusal.Refusal.{Refusal}
use Rattle.values.specs.declared.refusal.Refusal.TheVariants.{Conflict, ClockEnd}
use Rattle.values.specs.Order.{is_key}
use Rattle.values.specs.Log.{Log, Net, Changes, last, changes}
use Rattle.values.specs.Period.{Periods}
use Rattle.values.specs.Entity.{unit_of}

abbrev pub max_instant : ℕ
max_instant = 999999999999999999

-- what tells of a key the latest instant at which it was changed since a transaction's start, if it was
abbrev pub LookUp : Type 0
LookUp = Key → Option ℕ

-- the keys of the net changes that were changed since, each with the latest instant, by key
abbrev pub conflicts_by : LookUp → Net → List (Key × ℕ)
conflicts_by changed net =
    filter_map (λ c. option_map (λ instant. (c.0, instant)) (changed c.0)) net

-- how a transaction ends, by what was changed since its start and the last instant
abbrev pub outcome_by : LookUp → ℕ → Net → ℕ → Result (Option ℕ) Refusal
outcome_by changed latest [] reading = Ok None
outcome_by changed latest (change ∷ net) reading = elim (conflicts_by changed (change ∷ net)) [
  | first ∷ others ↦ Err (Conflict first.0 first.1)
  | [] ↦
      let instant = max reading (latest + 1) in
      if nat_lt max_instant instant then Err ClockEnd else Ok (Some instant)
]

-- the later of two instants, where there are such
abbrev pub latest_of : Option ℕ → Option ℕ → Option ℕ
latest_of None b = b
latest_of (Some a) None = Some a
latest_of (Some a) (Some b) = Some (max a b)

-- the latest instant above start at which a key was changed that passes a test
abbrev pub changed_among : (Key → Bool) → Changes → ℕ → Option ℕ
changed_among test [] start = None
changed_among test (c ∷ cs) start =
    latest_of (changed_among test cs start)
    (if test c.0.key && nat_lt start c.0.instant then Some c.0.instant else None)

-- the latest instant above start at which a key of the unit was changed
abbrev pub unit_changed_since : Periods → Changes → ℕ → LookUp
unit_changed_since periods m start unit =
    changed_among (λ k. is_key unit (unit_of periods k)) m start

-- net changes, each by its unit
abbrev pub by_unit : Periods → Net → Net
by_unit periods net = map (λ c. (unit_of periods c.0, c.1)) net

-- how a transaction ends, by the changes that were committed and the last instant: of a table with
-- a period conflicts are by entity, of another by key
abbrev pub outcome : Periods → Changes → ℕ → ℕ → Net → ℕ → Result (Option ℕ) Refusal
outcome periods m latest start net reading =
    outcome_by (unit_changed_since periods m start) latest (by_unit periods net) reading

-- the log once a transaction has ended this way
abbrev pub log_after : Log → Net → Result (Option ℕ) Refusal → Log
log_after log net (Ok (Some instant)) = log ++ record { instant = instant; net = net } ∷ []
log_after log net _ = log

abbrev pub after : Periods → Log → ℕ → Net → ℕ → Log
after periods log start net reading =
    log_after log net (outcome periods (changes log) (last log) start net reading)

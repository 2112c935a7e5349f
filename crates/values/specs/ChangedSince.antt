-- When a key was last changed, and all conflicts of a net change.
use Rattle.std.specs.Prelude.{ℕ, List, [], ◌∷◌, Option, Some, None, nat_lt, ◌&&◌, if◌then◌else◌}
use Rattle.values.specs.declared.key.Key.{Key}
use Rattle.values.specs.Order.{is_key}
use Rattle.values.specs.Log.{Net, Changes}
use Rattle.values.specs.Period.{Periods}
use Rattle.values.specs.Commits.{conflicts_by, unit_changed_since, by_unit}

abbrev pub or_else : Option ℕ → Option ℕ → Option ℕ
or_else (Some a) b = Some a
or_else None b = b

-- the latest instant above start at which the key was changed: changes of a key are in order, so it is the last
abbrev pub changed_since : Changes → ℕ → Key → Option ℕ
changed_since [] start key = None
changed_since (c ∷ cs) start key =
    or_else (changed_since cs start key)
    (if is_key key c.0.key && nat_lt start c.0.instant then Some c.0.instant else None)

-- the units of the net changes that were changed since, each with the latest instant, by key
abbrev pub conflicts : Periods → Changes → ℕ → Net → List (Key × ℕ)
conflicts periods m start net =
    conflicts_by (unit_changed_since periods m start) (by_unit periods net)

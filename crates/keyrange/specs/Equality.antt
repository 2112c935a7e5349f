-- Rectangles are equal where their ranges are.
use Rattle.std.specs.Prelude.{Bool}
use Rattle.std.specs.Cmp.{IsPartialEquivalence, on_per, and_per}
use Rattle.std.specs.Ordering.{on, eq_of_both}
use Rattle.keyrange.specs.contracts.range.KeyRangePartialEq.TheImpl as keys
use Rattle.keyrange.specs.contracts.range.KeyRangePartialEq.TheImpl.Laws as keys_laws
use Rattle.keyrange.specs.contracts.range.TimeRangePartialEq.TheImpl as time
use Rattle.keyrange.specs.contracts.range.TimeRangePartialEq.TheImpl.Laws as time_laws
use Rattle.keyrange.specs.Rect.{Area}

abbrev pub area_eq : Area → Area → Bool
area_eq = eq_of_both (on (λ (r : Area). r.keys) (keys.ghosts).eq) (on (λ (r : Area). r.time) (time.ghosts).eq)

pub area_eq_laws : IsPartialEquivalence area_eq
area_eq_laws = and_per (on_per (λ (r : Area). r.keys) keys_laws.laws-law) (on_per (λ (r : Area). r.time) time_laws.laws-law)

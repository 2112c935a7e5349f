-- The transactions of a history, by the instants of its changes.
use Rattle.std.specs.Prelude.{◌≡◌, ℕ, ◌<◌, List, [], ◌∷◌, ◌++◌, ◌==◌, filter, length}
use Rattle.std.specs.List.{AllByRecursion, flat_map, range_with_len}
use Rattle.std.specs.List.Sorted.{IsStrictlySortedBy}
use Rattle.std.specs.Ordering.{nat_cmp}
use Rattle.values.specs.Event.{Event}
use Rattle.values.specs.Events.{AreChangesIn, events_of}
use Rattle.values.specs.Log.{Log, changes}
use Rattle.values.specs.Tables.{Schema}
use Rattle.values.specs.declared.table.Table.{Table}
use Rattle.tsbtree.specs.View.{TreeState, events}
use Rattle.dump_steps.specs.Widths.{Widths, width_at}
use Rattle.dumping.specs.Column.{columns_text}
use Rattle.dumping.specs.Order.{instant_at}
use Rattle.dumping.specs.Transaction.{all_widened, transaction_text, widenings_text}

-- a view holds the changes of a log, whose keys are of the tables
pub record HoldsLog (tables : Schema) (view : TreeState) (log : Log) : Type 0 where
  pub events_are : events view ≡ events_of (changes log)
  pub keys : AreChangesIn tables (changes log)

-- the places of the changes at an instant
abbrev pub places_at : List Event → ℕ → List ℕ
places_at es instant = filter (λ place. instant_at es place == instant) (range_with_len 0 (length es))

-- places are those of instants that rise, and at each something changed
pub record AreRuns (es : List Event) (instants places : List ℕ) : Type 0 where
  pub rising : IsStrictlySortedBy nat_cmp instants
  pub some : AllByRecursion (λ i. 0 < length (places_at es i)) instants
  pub places_are : places ≡ flat_map (places_at es) instants

-- the columns that no row has
abbrev pub last_columns_text : Widths → Table → List ℕ
last_columns_text w table = columns_text table (width_at w table.number) (length table.columns)

module _ (tables : Schema) (es : List Event) where
  -- a transaction, behind the columns that its rows have and their tables have not
  abbrev pub instant_text : Widths → (instant : ℕ) → (places : List ℕ) → List ℕ
  instant_text w instant places = widenings_text tables es w places ++ transaction_text tables es instant places

  abbrev pub instants_text : Widths → (instants : List ℕ) → List ℕ
  instants_text w [] = []
  instants_text w (i ∷ is) =
      instant_text w i (places_at es i) ++ instants_text (all_widened tables es w (places_at es i)) is

  abbrev pub widths_behind : Widths → (instants : List ℕ) → Widths
  widths_behind w [] = w
  widths_behind w (i ∷ is) = widths_behind (all_widened tables es w (places_at es i)) is

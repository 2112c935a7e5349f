-- The text of a transaction, by the places of its changes.
use Rattle.std.specs.Prelude.{ℕ, List, [], ◌∷◌, ◌++◌, codes}
use Rattle.std.specs.List.{flat_map}
use Rattle.values.specs.Event.{Event}
use Rattle.values.specs.Tables.{Schema}
use Rattle.statement.specs.Print.{numbered}
use Rattle.dump_steps.specs.Widths.{Widths}
use Rattle.dumping.specs.Change.{deletion_text, insertion_text, widened, widening_text}

abbrev pub begin_text : ℕ → List ℕ
begin_text instant = numbered (codes "clock: ") instant ++ codes "1: BEGIN\n"

module _ (tables : Schema) (es : List Event) where
  -- all deletions come before all insertions
  abbrev pub transaction_text : ℕ → (places : List ℕ) → List ℕ
  transaction_text instant places =
      begin_text instant
      ++ (flat_map (deletion_text tables es) places
      ++ (flat_map (insertion_text tables es) places ++ codes "1: COMMIT\n"))

  -- the columns that rows have and their tables have not, row by row
  abbrev pub widenings_text : Widths → (places : List ℕ) → List ℕ
  widenings_text w [] = []
  widenings_text w (place ∷ places) =
      widening_text tables es w place ++ widenings_text (widened tables es w place) places

  abbrev pub all_widened : Widths → (places : List ℕ) → Widths
  all_widened w [] = w
  all_widened w (place ∷ places) = all_widened (widened tables es w place) places

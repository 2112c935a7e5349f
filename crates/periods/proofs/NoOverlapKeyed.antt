-- What is left of rows, each with the key of its own columns.
use Rattle.std.proofs.Common.{List, [], ◌∷◌, ◌++◌, Option, Some, None, if◌then◌else◌}
use Rattle.std.specs.List.{flat_map}
use Rattle.values.specs.declared.period.Period.{Period}
use Rattle.values.specs.declared.period.Span.{Span}
use Rattle.values.specs.declared.table.Table.{Table}
use Rattle.values.specs.declared.query.Keys.{Keys}
use Rattle.values.specs.declared.query.Set.{Set}
use Rattle.values.specs.Log.{State, Row}
use Rattle.values.specs.Writes.{keyed, full_rows, insert_all}
use Rattle.values.specs.Period.{span_of, is_span, common, before, behind, with_span}
use Rattle.values.specs.Portion.{changed, taken, not_taken}

abbrev pub piece : Table → Period → Row → Span → State
piece table p row s = if is_span s then keyed table (with_span p s row) ∷ [] else []

abbrev pub piece_of : Table → Period → Option Row → Span → State
piece_of table p None s = []
piece_of table p (Some row) s = piece table p row s

abbrev pub pieces : Table → Period → Span → Option (List Set) → Row → State
pieces table p cut sets row =
    piece table p row (before (span_of p row) cut)
    ++ (piece_of table p (changed sets row) (common (span_of p row) cut)
    ++ piece table p row (behind (span_of p row) cut))

abbrev pub all_pieces : Table → Period → Span → Option (List Set) → State → State
all_pieces table p cut sets es = flat_map (λ e. pieces table p cut sets e.1) es

abbrev pub all_left : Table → Period → Keys → Span → Option (List Set) → State → State
all_left table p keys cut sets m =
    all_pieces table p cut sets (full_rows table (taken table p keys cut m))

abbrev pub change_portion : Table → Period → Keys → Span → Option (List Set) → State → State
change_portion table p keys cut sets m =
    insert_all (not_taken table p keys cut m) (all_left table p keys cut sets m)

-- What a query shows, as rows or with their periods.
use Rattle.std.specs.Prelude.{List}
use Rattle.values.specs.declared.table.Table.{Table}
use Rattle.values.specs.declared.query.Form.{Form}
use Rattle.values.specs.declared.query.Form.TheVariants.{Plain, AsOf, FromTo, Between}
use Rattle.values.specs.declared.query.Keys.{Keys}
use Rattle.values.specs.declared.query.Shown.{Shown as Version}
use Rattle.values.specs.Log.{Changes, Net}
use Rattle.values.specs.Versions.{answer}
use Rattle.systime_query.specs.staging.Own.{rows_seen}
use Rattle.steps.specs.declared.step.Listing.{Listing}
use Rattle.steps.specs.declared.step.Listing.TheVariants.{Rows, Periods}
use Rattle.steps.specs.Listing.{rows_taken, rows_of}

-- versions: their rows, or the rows with their periods
abbrev pub as_listing : Form → List Version → Listing
as_listing Plain shown = Rows (rows_of shown)
as_listing (AsOf t) shown = Rows (rows_of shown)
as_listing (FromTo a b) shown = Periods shown
as_listing (Between a b) shown = Periods shown

-- what a transaction shows that wrote this over these changes
abbrev pub listing_in : Changes → Net → Table → Form → Keys → Listing
listing_in m writes table Plain keys = Rows (rows_taken table keys (rows_seen m writes))
listing_in m writes table (AsOf t) keys = as_listing (AsOf t) (answer m table (AsOf t) keys)
listing_in m writes table (FromTo a b) keys =
    as_listing (FromTo a b) (answer m table (FromTo a b) keys)
listing_in m writes table (Between a b) keys =
    as_listing (Between a b) (answer m table (Between a b) keys)

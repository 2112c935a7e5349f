-- What a query shows in a transaction.
use Rattle.std.proofs.Common.{◌≡◌, List, Bool, true, false, refl, ap, ◌∙◌, subst, sym, Result, Ok, Err, IfOk, map, filter}
use Rattle.values.specs.declared.table.Table.{Table}
use Rattle.values.specs.declared.query.Form.{Form}
use Rattle.values.specs.declared.query.Form.TheVariants.{Plain, AsOf, FromTo, Between}
use Rattle.values.specs.declared.query.Keys.{Keys}
use Rattle.values.specs.declared.refusal.Refusal.{Refusal}
use Rattle.values.specs.Log.{Changes, State, Net, Row}
use Rattle.values.specs.Versions.{answer, matches}
use Rattle.systime_query.specs.staging.Own.{WhenRead, rows_seen}
use Rattle.values.specs.Writes.{full_rows}
use Rattle.systime_query.proofs.staging.StagedWide.{rows_full}
use Rattle.systime_query.specs.Selection.{WhenShown}
use Rattle.steps.specs.declared.step.Listing.{Listing}
use Rattle.steps.specs.declared.step.Listing.TheVariants.{Rows}
use Rattle.transaction.specs.OpenTransactionState.{OpenTransactionState}
use Rattle.transaction.specs.Listing.{as_listing, listing_in}

-- ---- a form that is not the plain one

abbrev pub is_plain : Form → Bool
is_plain Plain = true
is_plain (AsOf t) = false
is_plain (FromTo a b) = false
is_plain (Between a b) = false

listed_past : (m : Changes) (writes : Net) (table : Table) (form : Form) (keys : Keys) → is_plain form ≡ false → as_listing form (answer m table form keys) ≡ listing_in m writes table form keys
listed_past m writes table Plain keys h = cc
listed_past m writes table (AsOf t) keys h = refl
listed_past m writes table (FromTo a b) keys h = refl
listed_past m writes table (Between a b) keys h = refl

abbrev ShownIn : OpenTransactionState → Table → Form → Keys → Listing → Type 0
ShownIn t table form keys l = WhenRead table t.view t.writes (λ schema m. l ≡ listing_in m t.writes table form keys)

-- what is shown of what was committed until its start
pub past_shown : (r : Result Listing Refusal) (t u : OpenTransactionState) (table : Table) (form : Form) (keys : Keys) → t ≡ u → keys.table ≡ table.number → is_plain form ≡ false
    → IfOk r (λ l. WhenShown t.view table keys (λ m. l ≡ as_listing form (answer m table form keys))) → IfOk r (ShownIn u table form keys)
past_shown (Err refusal) t u table form keys is same past h = h
past_shown (Ok l) t u table form keys is same past h =
    subst (λ u. ShownIn u table form keys l) is
    (λ schema m reads. h schema m reads.held reads.is_table same ∙ listed_past m t.writes table form keys past)

-- what a plain query shows
pub plain_shown : (t u : OpenTransactionState) (table : Table) (form : Form) (keys : Keys) (found : State) (rows : List Row) → t ≡ u → form ≡ Plain → rows ≡ map (λ e. e.1) found
    → WhenRead table t.view t.writes (λ schema m. found ≡ full_rows table (filter (λ e. matches table keys e.0) (rows_seen m t.writes)))
    → ShownIn u table form keys (Rows rows)
plain_shown t u table form keys found rows is plain are did =
    subst (λ u. ShownIn u table form keys (Rows rows)) is
    (λ schema m reads. ap Rows (are ∙ ap (map (λ e. e.1)) (did schema m reads) ∙ rows_full table (filter (λ e. matches table keys e.0) (rows_seen m t.writes))) ∙ (λ i. listing_in m t.writes table (sym plain i) keys))

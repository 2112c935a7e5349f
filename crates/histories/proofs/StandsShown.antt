-- What a SELECT shows of a system is what it shows of the history.
use Rattle.std.proofs.Common.{◌≡◌, ℕ, ◌≤◌, Option, Some, None, refl, sym, ap, ◌∙◌}
use Rattle.values.specs.declared.table.Table.{Table}
use Rattle.values.specs.declared.query.Form.{Form}
use Rattle.values.specs.declared.query.Form.TheVariants.{Plain, AsOf, FromTo, Between}
use Rattle.values.specs.declared.query.Keys.{Keys}
use Rattle.values.specs.declared.refusal.Refusal.TheVariants.{NoTable}
use Rattle.values.specs.Log.{Log, changes, upto}
use Rattle.values.specs.Law.{changes_upto}
use Rattle.values.specs.Tables.{Schema, table_at}
use Rattle.values.specs.Versions.{answer}
use Rattle.values.proofs.LogUpto.{changes_upto_is}
use Rattle.steps.specs.Misfit.{max_session}
use Rattle.steps.specs.declared.step.Listing.TheVariants.{Rows, Periods}
use Rattle.steps.specs.declared.step.Reply.{Reply}
use Rattle.steps.specs.declared.step.Reply.TheVariants.{Refused, Shown}
use Rattle.steps.specs.declared.step.Step.TheVariants.{Select}
use Rattle.histories.specs.History as history
use Rattle.histories.specs.History.{History, schema_after, log, log_at_begin, own, snap, snap_of, mine_of, reply_in}
use Rattle.steps.specs.Listing.{rows_taken, rows_of}
use Rattle.histories.specs.World.{OpenTransaction, World}
use Rattle.histories.specs.Stands.{Stands, open_in, open_at, open_from}
use Rattle.histories.specs.Turn.{start_of, listing, select_reply}

start_is : (first : Schema) (w : World) (h : History) (i : ℕ) (o : Option Log) → Stands first w h → start_of w (open_from (schema_after first h) (log first h) o (own first h i)) ≡ snap_of (log first h) o
start_is first w h i None stands = stands.latest_is
start_is first w h i (Some before) stands = refl

-- the changes up to the transaction's start
seen_changes : (first : Schema) (w : World) (h : History) (i : ℕ) → Stands first w h → changes_upto w.changes (start_of w (open_in first h i)) ≡ changes (upto (log first h) (snap first h i))
seen_changes first w h i stands = (λ k. changes_upto (stands.changes_are k) (start_is first w h i (log_at_begin first h i) stands k)) ∙ sym (changes_upto_is (log first h) (snap first h i))

plain_for : (first : Schema) (w : World) (h : History) (i : ℕ) (table : Table) (keys : Keys) (o : Option Log) → log_at_begin first h i ≡ o → Stands first w h
    → listing w (open_from (schema_after first h) (log first h) o (own first h i)) Plain table keys ≡ history.listing first h i Plain table keys
plain_for first w h i table keys None is stands =
    ap (λ m. Rows (rows_of (answer m table Plain keys)))
    ((λ k. changes_upto w.changes (start_of w (open_from (schema_after first h) (log first h) (sym is k) (own first h i)))) ∙ seen_changes first w h i stands)
    ∙ (λ k. elim (sym is k) [ Some before ↦ Rows (rows_taken table keys (mine_of (schema_after first h) (log first h) (sym is k) (own first h i))) | None ↦ Rows (rows_of (answer (changes (upto (log first h) (snap first h i))) table Plain keys)) ])
plain_for first w h i table keys (Some before) is stands =
    λ k. elim (sym is k) [ Some before ↦ Rows (rows_taken table keys (mine_of (schema_after first h) (log first h) (sym is k) (own first h i))) | None ↦ Rows (rows_of (answer (changes (upto (log first h) (snap first h i))) table Plain keys)) ]

listing_for : (first : Schema) (w : World) (h : History) (i : ℕ) (form : Form) (table : Table) (keys : Keys) → Stands first w h → listing w (open_in first h i) form table keys ≡ history.listing first h i form table keys
listing_for first w h i Plain table keys stands = plain_for first w h i table keys (log_at_begin first h i) refl stands
listing_for first w h i (AsOf t) table keys stands = as_of (open_in first h i) ∙ ap (λ m. Rows (rows_of (answer m table (AsOf t) keys))) (seen_changes first w h i stands)
  where
    as_of : (s : Option OpenTransaction) → listing w s (AsOf t) table keys ≡ Rows (rows_of (answer (changes_upto w.changes (start_of w s)) table (AsOf t) keys))
    as_of None = refl
    as_of (Some s) = refl
listing_for first w h i (FromTo a b) table keys stands = from_to (open_in first h i) ∙ ap (λ m. Periods (answer m table (FromTo a b) keys)) (seen_changes first w h i stands)
  where
    from_to : (s : Option OpenTransaction) → listing w s (FromTo a b) table keys ≡ Periods (answer (changes_upto w.changes (start_of w s)) table (FromTo a b) keys)
    from_to None = refl
    from_to (Some s) = refl
listing_for first w h i (Between a b) table keys stands = between (open_in first h i) ∙ ap (λ m. Periods (answer m table (Between a b) keys)) (seen_changes first w h i stands)
  where
    between : (s : Option OpenTransaction) → listing w s (Between a b) table keys ≡ Periods (answer (changes_upto w.changes (start_of w s)) table (Between a b) keys)
    between None = refl
    between (Some s) = refl

pub listing_is : (first : Schema) (w : World) (h : History) (i : ℕ) (form : Form) (table : Table) (keys : Keys) → i ≤ max_session → Stands first w h → listing w (open_at w i) form table keys ≡ history.listing first h i form table keys
listing_is first w h i form table keys small stands = ap (λ s. listing w s form table keys) (stands.sessions_are i small) ∙ listing_for first w h i form table keys stands

pub select_is : (first : Schema) (w : World) (h : History) (i : ℕ) (form : Form) (keys : Keys) → i ≤ max_session → Stands first w h → select_reply w i form keys ≡ reply_in first h (Select i form keys)
select_is first w h i form keys small stands =
    (λ k. elim (table_at (stands.schema_is k) keys.table) [ None ↦ Refused NoTable | Some table ↦ Shown (listing w (open_at w i) form table keys) ]) ∙ by (table_at (schema_after first h) keys.table)
  where
    by : (t : Option Table) → ◌≡◌ {A = Reply} (elim t [ None ↦ Refused NoTable | Some table ↦ Shown (listing w (open_at w i) form table keys) ]) (elim t [ None ↦ Refused NoTable | Some table ↦ Shown (history.listing first h i form table keys) ])
    by None = refl
    by (Some table) = ap Shown (listing_is first w h i form table keys small stands)

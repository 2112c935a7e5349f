-- What a session is shown beside a history is what the history's replies show.
use Rattle.std.proofs.Common.{◌≡◌, [], Option, Some, None, Ok, Err, refl, sym, ap, ◌∙◌}
use Rattle.std.specs.Option.{option_map}
use Rattle.values.specs.declared.table.Table.{Table}
use Rattle.values.specs.declared.query.Form.{Form}
use Rattle.values.specs.declared.query.Form.TheVariants.{Plain, AsOf, FromTo, Between}
use Rattle.values.specs.declared.query.Keys.{Keys}
use Rattle.values.specs.declared.refusal.Refusal.{Refusal}
use Rattle.values.specs.declared.refusal.Refusal.TheVariants.{NoTable, NoTransaction}
use Rattle.values.specs.Tables.{Schema, table_at}
use Rattle.values.specs.Log.{Log, Changes, State, upto, changes}
use Rattle.values.specs.Versions.{answer}
use Rattle.values.specs.Writes.{Own}
use Rattle.book.specs.staging.Own.{own as own_over}
use Rattle.book.specs.transaction.Listing.{listing_in}
use Rattle.steps.specs.declared.step.Listing.TheVariants.{Rows, Periods}
use Rattle.steps.specs.declared.step.Step.TheVariants.{Select}
use Rattle.steps.specs.declared.step.Reply.TheVariants.{Refused, Shown}
use Rattle.steps.specs.Misfit.{misfit}
use Rattle.histories.specs.History as history
use Rattle.histories.specs.History.{History, schema_after, log, log_at_begin, own, own_of, mine_of, snap}
use Rattle.steps.specs.Listing.{rows_of, rows_taken}
use Rattle.sessions.specs.SessionState.{SessionTransactionState, SessionState}
use Rattle.sessions.specs.OfHistory.{IsIn, shown_reply, QueriesAnswerAlike}

abbrev rows_or_none : Option Own → State
rows_or_none None = []
rows_or_none (Some o) = o.rows

module _ (first : Schema) (m : Changes) (s : SessionState) (h : History) (is : IsIn first m s h) where
  abbrev at : Option Log → Own
  at lab = own_of (schema_after first h) (log first h) lab (own first h s.number)

  same_own : (t : SessionTransactionState) (lab : Option Log) → s.transaction ≡ Some t → log_at_begin first h s.number ≡ lab → ◌≡◌ {A = Option Own} (Some (own_over m t.writes)) (option_map (λ before. at (Some before)) lab)
  same_own t lab ran begun = (λ k. option_map (λ (t : SessionTransactionState). own_over m t.writes) (sym ran k)) ∙ is.own_is ∙ (λ k. option_map (λ before. at (Some before)) (begun k))

  listed : (t : SessionTransactionState) (lab : Option Log) (form : Form) (table : Table) (keys : Keys) → s.transaction ≡ Some t → log_at_begin first h s.number ≡ lab
      → listing_in m t.writes table form keys ≡ history.listing first h s.number form table keys
  listed t None Plain table keys ran begun =
      let clash : ◌≡◌ {A = Option Own} (Some (own_over m t.writes)) None = same_own t None ran begun in cc
  listed t (Some before) Plain table keys ran begun =
      ap (λ o. Rows (rows_taken table keys (rows_or_none o))) (same_own t (Some before) ran begun)
      ∙ (λ k. elim (sym begun k) [ Some before ↦ Rows (rows_taken table keys (mine_of (schema_after first h) (log first h) (sym begun k) (own first h s.number))) | None ↦ Rows (rows_of (answer (changes (upto (log first h) (snap first h s.number))) table Plain keys)) ])
  listed t lab (AsOf a) table keys ran begun = ap (λ m. Rows (rows_of (answer m table (AsOf a) keys))) is.snapshot
  listed t lab (FromTo a b) table keys ran begun = ap (λ m. Periods (answer m table (FromTo a b) keys)) is.snapshot
  listed t lab (Between a b) table keys ran begun = ap (λ m. Periods (answer m table (Between a b) keys)) is.snapshot

pub queries_answer_alike : QueriesAnswerAlike
queries_answer_alike first m s h form keys is ran =
    by (misfit s.schema (Select s.number form keys)) s.transaction refl
    ∙ (λ k. elim (misfit (sym is.tables_are k) (Select s.number form keys)) [
      | Some refusal ↦ Refused refusal
      | None ↦ elim (table_at (sym is.tables_are k) keys.table) [ None ↦ Refused NoTable | Some table ↦ Shown (history.listing first h s.number form table keys) ]
    ])
  where
    by : (u : Option Refusal) (o : Option SessionTransactionState) → s.transaction ≡ o
        → shown_reply (elim u [ Some refusal ↦ Err refusal | None ↦ elim o [ None ↦ Err NoTransaction | Some t ↦ elim (table_at s.schema keys.table) [ None ↦ Err NoTable | Some table ↦ Ok (listing_in m t.writes table form keys) ] ] ])
        ≡ elim u [ Some refusal ↦ Refused refusal | None ↦ elim (table_at s.schema keys.table) [ None ↦ Refused NoTable | Some table ↦ Shown (history.listing first h s.number form table keys) ] ]
    by (Some refusal) o e = refl
    by None None e = absurd (ran e)
    by None (Some r) e = of_table (table_at s.schema keys.table)
      where
        of_table : (t : Option Table) → shown_reply (elim t [ None ↦ Err NoTable | Some table ↦ Ok (listing_in m r.writes table form keys) ]) ≡ elim t [ None ↦ Refused NoTable | Some table ↦ Shown (history.listing first h s.number form table keys) ]
        of_table None = refl
        of_table (Some table) = ap Shown (listed first m s h is r (log_at_begin first h s.number) form table keys e refl)

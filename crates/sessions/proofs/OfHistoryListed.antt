-- What a session reads at a key is what a plain query shows that takes this key alone.
use Rattle.std.proofs.Common.{◌≡◌, Bool, true, false, cond, T, [], ◌∷◌, map, filter, Option, Some, None, Result, Ok, Err, refl, sym, ap, ◌∙◌, subst, arith}
use Rattle.std.specs.Prelude.{◌==◌}
use Rattle.std.specs.List.{list_all}
use Rattle.std.specs.Option.{option_map}
use Rattle.std.specs.Ordering.{is_eq}
use Rattle.std.proofs.lemmas.Bool.{and_parts}
use Rattle.std.proofs.lemmas.Bool.Decides.{nat_tests}
use Rattle.std.proofs.lemmas.Cmp.{tied_itself}
use Rattle.std.specs.BTreeMap.{is_at}
use Rattle.std.specs.Map.{lookup}
use Rattle.std.specs.FinMap.{is_sorted}
use Rattle.std.specs.FinMap.Entries.{is_sorted-where_key}
use Rattle.values.specs.declared.key.Key.{Key}
use Rattle.values.specs.declared.query.Form.TheVariants.{Plain}
use Rattle.values.specs.declared.query.Keys.{Keys}
use Rattle.values.specs.declared.table.Table.{Table}
use Rattle.values.specs.Tables.{table_at, full_row}
use Rattle.values.specs.Versions.{holds, matches}
use Rattle.values.specs.declared.refusal.Refusal.{Refusal}
use Rattle.values.specs.declared.refusal.Refusal.TheVariants.{NoTable, NoTransaction}
use Rattle.values.specs.Order.{key_cmp, is_key}
use Rattle.values.specs.Log.{State, Row, row_at}
use Rattle.values.specs.RowsAfter.{rows_after}
use Rattle.values.proofs.OrderTotal.{key_cmp_total, key_cmp-IsAntisymmetric}
use Rattle.values.proofs.LogMaps.{same_map}
use Rattle.book.specs.staging.Own.{rows_seen}
use Rattle.book.proofs.staging.ViewBridge.{sorted_base}
use Rattle.book.proofs.staging.StagedEntries.{lookup-filter, same_key, sorted_apply}
use Rattle.book.specs.transaction.Listing.{listing_in}
use Rattle.steps.specs.declared.step.Listing.TheVariants.{Rows}
use Rattle.steps.specs.declared.step.Step.TheVariants.{Select}
use Rattle.steps.specs.declared.step.Reply.TheVariants.{Shown}
use Rattle.steps.specs.Misfit.{key_misfit}
use Rattle.histories.specs.History.{reply}
use Rattle.sessions.specs.SessionState.{SessionTransactionState}
use Rattle.sessions.specs.OfHistory.{row_alone, shown_reply, GetsAsListed}
use Rattle.sessions.proofs.OfHistoryShown.{queries_answer_alike}

abbrev entry_alone : Key → Option Row → State
entry_alone key None = []
entry_alone key (Some row) = (key, row) ∷ []

at_alone : (key q : Key) (o : Option Row) → lookup (is_at (key_cmp q)) (entry_alone key o) ≡ cond (is_key q key) o None
at_alone key q None = none (is_key q key)
  where
    none : (b : Bool) → ◌≡◌ {A = Option Row} None (cond b None None)
    none true = refl
    none false = refl
at_alone key q (Some row) = refl

sorted_alone : (key : Key) (o : Option Row) → T (is_sorted key_cmp (entry_alone key o))
sorted_alone key None = tt
sorted_alone key (Some row) = tt

-- of rows by key, those with this key
entry_at : (s : State) (key : Key) → T (is_sorted key_cmp s) → filter (λ e. is_key key e.0) s ≡ entry_alone key (row_at s key)
entry_at s key sorted =
    same_map key_cmp_total key_cmp-IsAntisymmetric (filter (λ e. is_key key e.0) s) (entry_alone key (row_at s key)) (is_sorted-where_key key_cmp (is_key key) s sorted) (sorted_alone key (row_at s key))
    (λ q. lookup-filter (is_key key) q s ∙ by q (is_key key q) refl)
  where
    by : (q : Key) (b : Bool) → is_key key q ≡ b → cond (is_key key q) (row_at s q) None ≡ lookup (is_at (key_cmp q)) (entry_alone key (row_at s key))
    by q true e =
        subst (λ x. cond (is_key key x) (row_at s x) None ≡ lookup (is_at (key_cmp x)) (entry_alone key (row_at s key))) (same_key key q e)
        (sym (at_alone key key (row_at s key)))
    by q false e = (λ k. cond (e k) (row_at s q) None) ∙ sym (at_alone key q (row_at s key) ∙ (λ k. cond (other (is_key q key) refl k) (row_at s key) None))
      where
        other : (b : Bool) → is_key q key ≡ b → is_key q key ≡ false
        other false f = f
        other true f = let same : q ≡ key = same_key q key f in let turned : is_key q key ≡ is_key key q = (λ k. is_key (same k) (sym same k)) in cc (sym e, turned)

rows_are : (table : Table) (key : Key) (o : Option Row) → map (λ e. full_row table e.1) (entry_alone key o) ≡ row_alone (option_map (full_row table) o)
rows_are table key None = refl
rows_are table key (Some row) = refl

same_some : {A : Type 0} (x y : A) → ◌≡◌ {A = Option A} (Some x) (Some y) → x ≡ y
same_some x y e = cc

-- the key is of the table of a query that takes it
its_table : (table : Table) (keys : Keys) (key : Key) → ((k : Key) → matches table keys k ≡ is_key key k) → key.table ≡ keys.table
its_table table keys key alone =
    let same : (key.table == keys.table) ≡ true = (and_parts (key.table == keys.table) (list_all (holds table key) keys.comparisons) (alone key ∙ ap is_eq (tied_itself key_cmp_total key))).0 in
    grind (arith, nat_tests)

pub gets_as_listed : GetsAsListed
gets_as_listed first m s h key keys table row is got fits there alone = by (key_misfit s.schema key) s.transaction (table_at s.schema key.table) refl refl got
  where
    listed : (t : SessionTransactionState) → s.transaction ≡ Some t → option_map (full_row table) (row_at (rows_seen m t.writes) key) ≡ row → reply first h (Select s.number Plain keys) ≡ Shown (Rows (row_alone row))
    listed t ran at =
        sym (queries_answer_alike first m s h Plain keys is (λ none. cc (sym ran ∙ none)))
        ∙ (λ k. shown_reply (elim (fits k) [
          | Some refusal ↦ Err refusal
          | None ↦ elim (ran k) [ None ↦ Err NoTransaction | Some t ↦ elim (there k) [ None ↦ Err NoTable | Some table ↦ Ok (listing_in m t.writes table Plain keys) ] ]
        ]))
        ∙ (λ k. Shown (Rows (map (λ e. full_row table e.1) (filter (λ e. alone e.0 k) (rows_seen m t.writes)))))
        ∙ ap (λ (es : State). Shown (Rows (map (λ e. full_row table e.1) es))) (entry_at (rows_seen m t.writes) key (sorted_apply t.writes (rows_after [] m) (sorted_base m)))
        ∙ ap (λ rows. Shown (Rows rows)) (rows_are table key (row_at (rows_seen m t.writes) key) ∙ ap row_alone at)

    by : (u : Option Refusal) (o : Option SessionTransactionState) (found : Option Table) → s.transaction ≡ o → table_at s.schema key.table ≡ found
        → ◌≡◌ {A = Result (Option Row) Refusal} (elim u [
          | Some refusal ↦ Err refusal
          | None ↦ elim o [ None ↦ Err NoTransaction | Some t ↦ elim found [ None ↦ Err NoTable | Some table ↦ Ok (option_map (full_row table) (row_at (rows_seen m t.writes) key)) ] ]
        ]) (Ok row)
        → reply first h (Select s.number Plain keys) ≡ Shown (Rows (row_alone row))
    by (Some refusal) o found ran at_key got = absurd (cc)
    by None None found ran at_key got = absurd (cc)
    by None (Some t) None ran at_key got = absurd (cc)
    by None (Some t) (Some own) ran at_key got =
        let same : own ≡ table = same_some own table (sym at_key ∙ ap (table_at s.schema) (its_table table keys key alone) ∙ there) in
        let at : option_map (full_row own) (row_at (rows_seen m t.writes) key) ≡ row = cc in
        listed t ran (subst (λ table. option_map (full_row table) (row_at (rows_seen m t.writes) key) ≡ row) same at)

-- Of the rows that a transaction sees a search of one key takes the row of that key.
use Rattle.std.proofs.Common.{◌≡◌, ℕ, ◌≤◌, Bool, true, false, cond, ◌&&◌, ◌==◌, T, [], ◌∷◌, Option, Some, refl, sym, ap, ◌∙◌, arith, filter, All}
use Rattle.std.proofs.lemmas.Bool.Decides.{nat_tests}
use Rattle.std.specs.FinMap.{is_sorted}
use Rattle.std.specs.FinMap.Entries.{below_all}
use Rattle.std.specs.List.{AllByRecursion, cons_option, list_all}
use Rattle.std.specs.List.Sorted.{IsStrictlySortedBy}
use Rattle.std.specs.Map.{keys_of}
use Rattle.std.specs.Option.{option_map}
use Rattle.std.specs.Ordering.{is_eq, is_lt}
use Rattle.std.specs.declared.cmp.Ordering.{Ordering}
use Rattle.std.specs.declared.cmp.Ordering.TheVariants.{Less, Equal, Greater}
use Rattle.values.specs.declared.key.Key.{Key}
use Rattle.values.specs.declared.table.Table.{Table}
use Rattle.values.specs.declared.query.Keys.{Keys}
use Rattle.values.specs.Log.{Changes, Net, Row, State, row_at}
use Rattle.values.specs.RowsAfter.{rows_after}
use Rattle.values.specs.Order.{key_cmp, is_key}
use Rattle.values.specs.Tables.{Schema, table_at}
use Rattle.values.specs.Versions.{holds, matches}
use Rattle.values.specs.Events.{event_cmp, IsKeyIn}
use Rattle.values.proofs.OrderTotal.{first, second}
use Rattle.searchrange.specs.OnlyKey.{IsOnly}
use Rattle.tsbtree.specs.View.{TreeState, events}
use Rattle.staging.specs.Own.{Reads, rows_seen}
use Rattle.staging.specs.Staged.{row_alone}
use Rattle.staging.proofs.StagedAnswered.{all_seen}
use Rattle.staging.proofs.StagedCalls.{row_of_view}
use Rattle.staging.proofs.StagedEntries.{same_key, sorted_apply}
use Rattle.staging.proofs.ViewBridge.{own_key, sorted_base}

clash : ◌≡◌ {A = Bool} true false → ⊥
clash h = cc

never : (b : Bool) → (b ≡ true → ⊥) → b ≡ false
never true h = absurd (h refl)
never false h = refl

equal : (a b : ℕ) → (a == b) ≡ true → a ≡ b
equal a b e = grind (arith, nat_tests)

same_number : (a b : ℕ) → a ≡ b → (a == b) ≡ true
same_number a b e = grind (arith, nat_tests)

-- of all keys of a schema the one of a search is taken and no other
pub is_one : (schema : Schema) (table : Table) (keys : Keys) (key : Key) → IsOnly table keys key → table_at schema table.number ≡ Some table → keys.table ≡ table.number
    → (k : Key) → IsKeyIn schema k → matches table keys k ≡ is_key key k
is_one schema table keys key only is_table of_table k h = by (k.table == table.number) refl
  where
    by : (b : Bool) → (k.table == table.number) ≡ b → matches table keys k ≡ is_key key k
    by true e = only.takes k (own_key schema table k is_table (equal k.table table.number e) h)
    by false e =
        ap (λ n. (k.table == n) && list_all (holds table k) keys.comparisons) of_table
        ∙ ap (λ b. b && list_all (holds table k) keys.comparisons) e
        ∙ sym (never (is_key key k) (λ same. clash (sym (same_number k.table table.number (sym (ap (λ (k : Key). k.table) (same_key key k same)) ∙ only.own.own)) ∙ e)))

module _ (schema : Schema) (table : Table) (keys : Keys) (key : Key) (alike : (k : Key) → IsKeyIn schema k → matches table keys k ≡ is_key key k) where
  abbrev chosen : State → State
  chosen s = filter (λ e. matches table keys e.0) s

  abbrev alone : Option Row → State
  alone row = cons_option (option_map (λ row. (key, row)) row) []

  none_above : (s : State) (k : Key) → key ≡ k → T (below_all key_cmp k s) → AllByRecursion (λ e. IsKeyIn schema e.0) s → chosen s ≡ []
  none_above [] k same h own = refl
  none_above (e ∷ s) k same h own =
      ap (λ b. cond b (e ∷ chosen s) (chosen s)) (alike e.0 own.0 ∙ ap (λ x. is_key x e.0) same ∙ apart (key_cmp k e.0) (first _ _ h))
      ∙ none_above s k same (second _ _ h) own.1
    where
      apart : (o : Ordering) → T (is_lt o) → is_eq o ≡ false
      apart Less lt = refl
      apart Equal lt = absurd lt
      apart Greater lt = refl

  one_chosen : (s : State) → T (is_sorted key_cmp s) → AllByRecursion (λ e. IsKeyIn schema e.0) s → alone (row_at s key) ≡ chosen s
  one_chosen [] h own = refl
  one_chosen (e ∷ s) h own = by (is_key key e.0) refl (one_chosen s (second _ _ h) own.1) ∙ sym (ap (λ b. cond b (e ∷ chosen s) (chosen s)) (alike e.0 own.0))
    where
      by : (b : Bool) → is_key key e.0 ≡ b → alone (row_at s key) ≡ chosen s → alone (cond (is_key key e.0) (Some e.1) (row_at s key)) ≡ cond (is_key key e.0) (e ∷ chosen s) (chosen s)
      by false is rest =
          ap (λ b. alone (cond b (Some e.1) (row_at s key))) is ∙ rest ∙ sym (ap (λ b. cond b (e ∷ chosen s) (chosen s)) is)
      by true is rest =
          let same : key ≡ e.0 = same_key key e.0 is in
          ap (λ b. alone (cond b (Some e.1) (row_at s key))) is
          ∙ (λ i. (same i, e.1) ∷ sym (none_above s e.0 same (first _ _ h) own.1) i)
          ∙ sym (ap (λ b. cond b (e ∷ chosen s) (chosen s)) is)

pub one_of_view : (schema : Schema) (table : Table) (keys : Keys) (view : TreeState) (t : ℕ) (m : Changes) (w : Net) (key : Key) → Reads schema table view w m → keys.table ≡ table.number → IsOnly table keys key
    → IsStrictlySortedBy event_cmp (events view) → All (λ e. e.at ≤ t) (events view) → IsStrictlySortedBy key_cmp (keys_of w)
    → row_alone (events view) t w key ≡ filter (λ e. matches table keys e.0) (rows_seen m w)
one_of_view schema table keys view t m w key reads same only sorted upto ordered =
    ap (λ o. cons_option (option_map (λ row. (key, row)) o) []) (row_of_view schema table view t m w key reads only.own sorted upto ordered)
    ∙ one_chosen schema table keys key (is_one schema table keys key only reads.is_table same) (rows_seen m w) (sorted_apply w (rows_after [] m) (sorted_base m)) (all_seen schema table view m w reads)

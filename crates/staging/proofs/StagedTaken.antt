-- The rows of events that a search takes, one event after the other.
use Rattle.std.proofs.Common.{◌≡◌, ℕ, ◌+◌, ◌<◌, List, [], ◌∷◌, ◌++◌, append_assoc, append-nil, Option, Some, None, drop, filter, filter_map, get_or, length, sym, ap, subst, ◌∙◌, All}
use Rattle.std.proofs.lemmas.List.{drop_more}
use Rattle.std.proofs.lemmas.List.Elements.{All-get_or, All-push}
use Rattle.std.specs.Prelude.{IfSome}
use Rattle.std.specs.List.{cons_option}
use Rattle.values.specs.declared.key.Key.{Key}
use Rattle.values.specs.declared.table.Table.{Table}
use Rattle.values.specs.declared.query.Keys.{Keys}
use Rattle.values.specs.Event.{Event}
use Rattle.values.specs.Log.{Net, Row, State}
use Rattle.values.specs.Versions.{matches}
use Rattle.values.specs.Writes.{full_rows}
use Rattle.values.specs.KeyEncoding.{IsShortKey}
use Rattle.keyrange.specs.declared.range.KeyRange.{KeyRange}
use Rattle.searchrange.specs.Search.{IsInSearch, entry_taken}
use Rattle.tsbtree.specs.View.{TreeState}
use Rattle.staging.specs.Own.{WhenRead, rows_seen}
use Rattle.staging.specs.Staged.{AreInSearch}

joined : (found : State) (o : Option (Key × Row)) (es : State) → (found ++ cons_option o []) ++ es ≡ found ++ cons_option o es
joined found None es = append_assoc found [] es
joined found (Some e) es = append_assoc found (e ∷ []) es

pub one_more : (table : Table) (keys : Keys) (range : KeyRange) (es : List Event) (i : ℕ) (item : Event) (found new : State) (entry : Option (Key × Row))
    → i < length es → item ≡ get_or es i item → (IsInSearch table range item.key → entry ≡ entry_taken table keys item) → new ≡ found ++ cons_option entry [] → AreInSearch table range es
    → new ++ filter_map (entry_taken table keys) (drop (i + 1) es) ≡ found ++ filter_map (entry_taken table keys) (drop i es)
one_more table keys range es i item found new entry lt at taken is all =
    ap (λ s. s ++ rest) (is ∙ ap (λ o. found ++ cons_option o []) (taken inside))
    ∙ joined found (entry_taken table keys item) rest
    ∙ ap (λ e. found ++ cons_option (entry_taken table keys e) rest) at
    ∙ sym (ap (λ ds. found ++ filter_map (entry_taken table keys) ds) (drop_more es i item lt))
  where
    rest : State
    rest = filter_map (entry_taken table keys) (drop (i + 1) es)

    inside : IsInSearch table range item.key
    inside = subst (λ (e : Event). IsInSearch table range e.key) (sym at) (All-get_or (λ e. IsInSearch table range e.key) es i item lt all)

-- what is found by a search over a table and keys
pub found_by : (view : TreeState) (w : Net) (found : State) (t table : Table) (k keys : Keys) → t ≡ table → k ≡ keys
    → WhenRead t view w (λ schema m. found ≡ filter (λ e. matches t k e.0) (rows_seen m w)) → WhenRead table view w (λ schema m. found ≡ filter (λ e. matches table keys e.0) (rows_seen m w))
found_by view w found t table k keys same alike h =
    subst (λ (p : Table × Keys). WhenRead p.0 view w (λ schema m. found ≡ filter (λ e. matches p.0 p.1 e.0) (rows_seen m w))) (λ i. (same i, alike i)) h

-- and of rows that are as wide as the table
pub wide_by : (view : TreeState) (w : Net) (found : State) (t table : Table) (k keys : Keys) → t ≡ table → k ≡ keys
    → WhenRead t view w (λ schema m. found ≡ full_rows t (filter (λ e. matches t k e.0) (rows_seen m w))) → WhenRead table view w (λ schema m. found ≡ full_rows table (filter (λ e. matches table keys e.0) (rows_seen m w)))
wide_by view w found t table k keys same alike h =
    subst (λ (p : Table × Keys). WhenRead p.0 view w (λ schema m. found ≡ full_rows p.0 (filter (λ e. matches p.0 p.1 e.0) (rows_seen m w)))) (λ i. (same i, alike i)) h

-- a short key is put behind others
pub put_short : (found new : State) (o : Option (Key × Row)) → new ≡ found ++ cons_option o [] → All (λ e. IsShortKey e.0) found → IfSome o (λ e. IsShortKey e.0) → All (λ e. IsShortKey e.0) new
put_short found new None is h k = subst (All (λ e. IsShortKey e.0)) (sym (is ∙ append-nil found)) h
put_short found new (Some e) is h k = subst (All (λ e. IsShortKey e.0)) (sym is) (All-push (λ e. IsShortKey e.0) found e h k)

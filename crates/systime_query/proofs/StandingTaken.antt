-- The rows and the versions of events that a search takes, one event after the other.
use Rattle.std.proofs.Common.{◌≡◌, ℕ, ◌+◌, ◌-◌, ◌<◌, ◌≤◌, List, [], ◌∷◌, ◌++◌, Option, Some, None, drop, filter_map, get_or, length, sym, ap, subst, ◌∙◌, arith, take}
use Rattle.std.proofs.lemmas.List.{append_assoc, drop_more, length-drop, take_all}
use Rattle.std.proofs.lemmas.List.Elements.{All-get_or, All-head, All-tail}
use Rattle.std.specs.List.{cons_option}
use Rattle.values.specs.declared.table.Table.{Table}
use Rattle.values.specs.declared.query.Form.{Form}
use Rattle.values.specs.declared.query.Keys.{Keys}
use Rattle.values.specs.declared.query.Shown.{Shown}
use Rattle.values.specs.Event.{Event}
use Rattle.values.specs.Log.{Row}
use Rattle.keyrange.specs.declared.range.KeyRange.{KeyRange}
use Rattle.searchrange.specs.Search.{IsInSearch, row_taken}
use Rattle.staging.specs.Staged.{AreInSearch}
use Rattle.systime_query.specs.Selection.{shown_of}
use Rattle.systime_query.specs.Window.{end_of, shown_in}

pub appended : {X : Type 0} (xs : List X) (o : Option X) (ys : List X) → (xs ++ cons_option o []) ++ ys ≡ xs ++ cons_option o ys
appended xs None ys = append_assoc xs [] ys
appended xs (Some x) ys = append_assoc xs (x ∷ []) ys

pub one_more : (table : Table) (keys : Keys) (range : KeyRange) (es : List Event) (i : ℕ) (item : Event) (rows new : List Row) (row : Option Row)
    → i < length es → item ≡ get_or es i item → (IsInSearch table range item.key → row ≡ row_taken table keys item) → new ≡ rows ++ cons_option row [] → AreInSearch table range es
    → new ++ filter_map (row_taken table keys) (drop (i + 1) es) ≡ rows ++ filter_map (row_taken table keys) (drop i es)
one_more table keys range es i item rows new row lt at taken is all =
    ap (λ l. l ++ rest) (is ∙ ap (λ o. rows ++ cons_option o []) (taken inside))
    ∙ appended rows (row_taken table keys item) rest
    ∙ ap (λ e. rows ++ cons_option (row_taken table keys e) rest) at
    ∙ sym (ap (λ ds. rows ++ filter_map (row_taken table keys) ds) (drop_more es i item lt))
  where
    rest : List Row
    rest = filter_map (row_taken table keys) (drop (i + 1) es)

    inside : IsInSearch table range item.key
    inside = subst (λ (e : Event). IsInSearch table range e.key) (sym at) (All-get_or (λ e. IsInSearch table range e.key) es i item lt all)

-- ---- the first of those that are left, and those behind it

behind_is : (es : List Event) → take (length es - 1) (drop 1 es) ≡ drop 1 es
behind_is es = take_all (length es - 1) (drop 1 es) (let e = length-drop 1 es in omega (arith, e))

first_is : (es : List Event) (item : Event) → 1 ≤ length es → item ≡ get_or es 0 item → es ≡ item ∷ drop 1 es
first_is es item le at = drop_more es 0 item (omega (arith, le)) ∙ ap (λ e. e ∷ drop 1 es) (sym at)

module _ (table : Table) (range : KeyRange) (rest : List Event) (item : Event) (le : 1 ≤ length rest) (at : item ≡ get_or rest 0 item) (all : AreInSearch table range rest) where
  both : IsInSearch table range item.key × AreInSearch table range (drop 1 rest)
  both =
      let split : AreInSearch table range (item ∷ drop 1 rest) = subst (AreInSearch table range) (first_is rest item le at) all in
      (All-head (λ e. IsInSearch table range e.key) item (drop 1 rest) split, All-tail (λ e. IsInSearch table range e.key) item (drop 1 rest) split)

  pub next_inside : AreInSearch table range (take (length rest - 1) (drop 1 rest))
  next_inside = subst (AreInSearch table range) (sym (behind_is rest)) both.1

  pub next_shown : (es : List Event) (last : ℕ) (form : Form) (keys : Keys) (to : Option ℕ) (shown new : List Shown) (version : Option Shown)
      → to ≡ end_of es last item (take (length rest - 1) (drop 1 rest)) → (IsInSearch table range item.key → version ≡ shown_of table form keys item to) → new ≡ shown ++ cons_option version []
      → new ++ shown_in es last table form keys (take (length rest - 1) (drop 1 rest)) ≡ shown ++ shown_in es last table form keys rest
  next_shown es last form keys to shown new version ends taken is =
      let behind : List Event = take (length rest - 1) (drop 1 rest) in
      ap (λ l. l ++ shown_in es last table form keys behind) (is ∙ ap (λ o. shown ++ cons_option o []) (taken both.0 ∙ ap (shown_of table form keys item) ends))
      ∙ appended shown (shown_of table form keys item (end_of es last item behind)) (shown_in es last table form keys behind)
      ∙ sym (ap (λ ds. shown ++ shown_in es last table form keys ds) (first_is rest item le at ∙ ap (λ b. item ∷ b) (sym (behind_is rest))))

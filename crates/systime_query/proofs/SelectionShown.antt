-- Which events show nothing, whose next one stays where others go, and what a query without a form shows.
use Rattle.std.proofs.Common.{◌≡◌, ℕ, ◌≤◌, Bool, true, false, ◌&&◌, List, [], ◌∷◌, Option, Some, None, refl, sym, ap, subst, ◌∙◌, arith, cond, nat_le, nat_lt, filter}
use Rattle.std.specs.Ordering.{is_eq}
use Rattle.std.specs.declared.cmp.Ordering.TheVariants.{Less}
use Rattle.std.specs.List.{AllByRecursion, cons_option}
use Rattle.std.specs.List.Sorted.{IsStrictlySortedBy}
use Rattle.std.proofs.lemmas.Bool.Decides.{nat_tests}
use Rattle.values.specs.Event.{Event}
use Rattle.values.specs.declared.table.Table.{Table}
use Rattle.values.specs.declared.key.Key.{Key}
use Rattle.values.specs.declared.query.Form.{Form}
use Rattle.values.specs.declared.query.Form.TheVariants.{Plain, AsOf}
use Rattle.values.specs.declared.query.Keys.{Keys}
use Rattle.values.specs.declared.query.Shown.{Shown}
use Rattle.values.specs.Log.{Row}
use Rattle.values.specs.Tables.{full_row}
use Rattle.values.specs.KeyReading.{key_from}
use Rattle.values.specs.Versions.{selects, matches}
use Rattle.values.specs.Events.{bytes_cmp, is_bytes, event_cmp}
use Rattle.eventlist.proofs.PlaceOrder.{bytes_total, same_bytes, is_lower, sorted_head}
use Rattle.staging.proofs.ViewNarrowed.{IsOut}
use Rattle.searchrange.specs.Search.{is_taken}
use Rattle.systime_query.specs.Selection.{next_of, shown_of, selected_by}

clash : ◌≡◌ {A = Bool} true false → ⊥
clash h = cc

never : (b : Bool) → (b ≡ true → ⊥) → b ≡ false
never true h = absurd (h refl)
never false h = refl

-- ---- what is not selected, or not taken, is not shown

module _ (table : Table) (form : Form) (keys : Keys) where
  by_row : (e : Event) (to : Option ℕ) (row : Option Row) → selects form e.at to ≡ false
      → ◌≡◌ {A = Option Shown} (elim row [ None ↦ None | Some row ↦ cond (selects form e.at to && is_taken table keys e.key) (Some (record { row = full_row table row; from = e.at; to = to })) None ]) None
  by_row e to None h = refl
  by_row e to (Some row) h = ap (λ b. cond (b && is_taken table keys e.key) (Some (record { row = full_row table row; from = e.at; to = to })) None) h

  pub not_shown : (e : Event) (to : Option ℕ) → selects form e.at to ≡ false → shown_of table form keys e to ≡ None
  not_shown e to h = by_row e to e.row h

  taken_row : (e : Event) (to : Option ℕ) (row : Option Row) → is_taken table keys e.key ≡ false
      → ◌≡◌ {A = Option Shown} (elim row [ None ↦ None | Some row ↦ cond (selects form e.at to && is_taken table keys e.key) (Some (record { row = full_row table row; from = e.at; to = to })) None ]) None
  taken_row e to None h = refl
  taken_row e to (Some row) h = ap (λ b. cond (selects form e.at to && b) (Some (record { row = full_row table row; from = e.at; to = to })) None) h ∙ none (selects form e.at to)
    where
      none : (b : Bool) → ◌≡◌ {A = Option Shown} (cond (b && false) (Some (record { row = full_row table row; from = e.at; to = to })) None) None
      none true = refl
      none false = refl

  pub not_taken : (e : Event) (to : Option ℕ) → is_taken table keys e.key ≡ false → shown_of table form keys e to ≡ None
  not_taken e to h = taken_row e to e.row h

  pub none_selected : ((from : ℕ) (to : Option ℕ) → selects form from to ≡ false) → (es : List Event) → selected_by table form keys es ≡ []
  none_selected h [] = refl
  none_selected h (e ∷ es) = ap (λ o. cons_option o (selected_by table form keys es)) (not_shown e (next_of e es) (h e.at (next_of e es))) ∙ none_selected h es

-- no key of the bytes is taken
pub out_taken : (table : Table) (keys : Keys) (bytes : List ℕ) → IsOut table keys bytes → is_taken table keys bytes ≡ false
out_taken table keys bytes out = by (key_from table bytes) refl
  where
    by : (o : Option Key) → key_from table bytes ≡ o → ◌≡◌ {A = Bool} (elim o [ None ↦ false | Some key ↦ matches table keys key ]) false
    by None is = refl
    by (Some key) is = out key is

-- ---- keys that a test passes

module _ (p : List ℕ → Bool) where
  abbrev of : Event → Bool
  of e = p e.key

  -- an event's next one is of its keys, or there is none
  pub next_kept : (e : Event) (es : List Event) → of e ≡ true → AllByRecursion (λ d. event_cmp e d ≡ Less) es → IsStrictlySortedBy event_cmp es → next_of e es ≡ next_of e (filter of es)
  next_kept e [] own above sorted = refl
  next_kept e (d ∷ ds) own above sorted = by (of d) refl
    where
      other : of d ≡ false → is_bytes e.key d.key ≡ false
      other is = within (is_bytes e.key d.key) refl
        where
          within : (b : Bool) → is_bytes e.key d.key ≡ b → b ≡ false
          within false same = refl
          within true same = sym own ∙ ap p (same_bytes e.key d.key same) ∙ is

      past : of d ≡ false → (ys : List Event) → AllByRecursion (λ y. event_cmp d y ≡ Less) ys → next_of e (filter of ys) ≡ None
      past is [] h = refl
      past is (y ∷ ys) h = within (of y) refl (past is ys h.1)
        where
          apart : is_bytes e.key y.key ≡ true → ⊥
          apart same =
              let one : e.key ≡ y.key = same_bytes e.key y.key same in
              let low : bytes_cmp e.key d.key ≡ Less = (is_lower e d above.0).other (λ k. clash (sym own ∙ ap p k ∙ is)) in
              let high : bytes_cmp d.key y.key ≡ Less = (is_lower d y h.0).other (λ k. clash (sym own ∙ ap p (one ∙ sym k) ∙ is)) in
              clash (sym same ∙ ap is_eq (bytes_total.trans e.key d.key y.key low high))

          within : (b : Bool) → of y ≡ b → next_of e (filter of ys) ≡ None → next_of e (cond b (y ∷ filter of ys) (filter of ys)) ≡ None
          within false at more = more
          within true at more = ap (λ b. cond b (Some y.at) None) (never (is_bytes e.key y.key) apart)

      by : (b : Bool) → of d ≡ b → cond (is_bytes e.key d.key) (Some d.at) None ≡ next_of e (cond b (d ∷ filter of ds) (filter of ds))
      by true is = refl
      by false is = ap (λ b. cond b (Some d.at) None) (other is) ∙ sym (past is ds (sorted_head event_cmp d ds sorted))

-- ---- without a form of time: at an instant that no event is after

module _ (table : Table) (last : ℕ) (keys : Keys) where
  now_is : (from : ℕ) (to : Option ℕ) → from ≤ last → ((end : ℕ) → to ≡ Some end → end ≤ last) → selects Plain from to ≡ selects (AsOf last) from to
  now_is from None le upto = sym (within from le)
    where
      within : (i : ℕ) → i ≤ last → (nat_le i last && true) ≡ true
      within i h = grind (arith, nat_tests)
  now_is from (Some end) le upto = sym (ended (upto end refl))
    where
      ended : end ≤ last → (nat_le from last && nat_lt last end) ≡ false
      ended h = grind (arith, nat_tests)

  same_row : (e : Event) (to : Option ℕ) (row : Option Row) → selects Plain e.at to ≡ selects (AsOf last) e.at to
      → ◌≡◌ {A = Option Shown} (elim row [ None ↦ None | Some row ↦ cond (selects Plain e.at to && is_taken table keys e.key) (Some (record { row = full_row table row; from = e.at; to = to })) None ])
      (elim row [ None ↦ None | Some row ↦ cond (selects (AsOf last) e.at to && is_taken table keys e.key) (Some (record { row = full_row table row; from = e.at; to = to })) None ])
  same_row e to None h = refl
  same_row e to (Some row) h = ap (λ b. cond (b && is_taken table keys e.key) (Some (record { row = full_row table row; from = e.at; to = to })) None) h

  next_upto : (e : Event) (es : List Event) → AllByRecursion (λ d. d.at ≤ last) es → (end : ℕ) → next_of e es ≡ Some end → end ≤ last
  next_upto e [] h end is = cc
  next_upto e (d ∷ ds) h end is = by (is_bytes e.key d.key) is
    where
      by : (b : Bool) → cond b (Some d.at) None ≡ Some end → end ≤ last
      by true is = let same : d.at ≡ end = cc in subst (λ i. i ≤ last) same h.0
      by false is = cc

  pub now_shown : (es : List Event) → AllByRecursion (λ e. e.at ≤ last) es → selected_by table (AsOf last) keys es ≡ selected_by table Plain keys es
  now_shown [] h = refl
  now_shown (e ∷ es) h =
      λ i. cons_option (sym (same_row e (next_of e es) e.row (now_is e.at (next_of e es) h.0 (next_upto e es h.1))) i) (now_shown es h.1 i)

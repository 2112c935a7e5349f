-- The versions that a form selects are those of the events in its window.
use Rattle.std.proofs.Common.{◌≡◌, ℕ, ◌<◌, ◌≤◌, Bool, true, false, cond, ◌&&◌, ◌||◌, not, List, [], ◌∷◌, Option, Some, None, refl, sym, ap, subst, ◌∙◌, arith, filter, nat_le, nat_lt, is_some}
use Rattle.std.proofs.lemmas.Bool.{and_parts}
use Rattle.std.proofs.lemmas.Bool.Decides.{nat_tests}
use Rattle.std.specs.List.{AllByRecursion, slice_get, cons_option, list_any}
use Rattle.std.specs.List.Sorted.{IsStrictlySortedBy}
use Rattle.std.specs.declared.cmp.Ordering.TheVariants.{Less}
use Rattle.values.specs.Event.{Event}
use Rattle.values.specs.declared.table.Table.{Table}
use Rattle.values.specs.Tables.{full_row}
use Rattle.values.specs.declared.query.Form.{Form}
use Rattle.values.specs.declared.query.Keys.{Keys}
use Rattle.values.specs.declared.query.Shown.{Shown}
use Rattle.values.specs.Log.{Row}
use Rattle.values.specs.Versions.{selects, ends_after}
use Rattle.values.specs.Events.{is_bytes, event_cmp, bytes_cmp, later}
use Rattle.eventlist.specs.Overtaking.{overtakes}
use Rattle.eventlist.specs.Listing.{is_in_window, stands_at}
use Rattle.eventlist.proofs.PlaceOrder.{bytes_total, is_own, same_bytes, is_lower, sorted_head, sorted_tail}
use Rattle.eventlist.proofs.OvertakingNext.{never, not_earlier, stands_before, stands_is, is_overtakes}
use Rattle.datanode.specs.NextChange.{event_after}
use Rattle.searchrange.specs.Search.{is_taken}
use Rattle.systime_query.specs.Selection.{next_of, shown_of, selected_by}
use Rattle.systime_query.specs.Window.{IsWindow, end_of, shown_in}
use Rattle.systime_query.proofs.StandingRows.{ends}

clash : ◌≡◌ {A = Bool} true false → ⊥
clash h = cc

at_most : (i j : ℕ) → nat_le i j ≡ true → i ≤ j
at_most i j h = grind (arith, nat_tests)

below : (i j : ℕ) → nat_lt i j ≡ true → i < j
below i j h = grind (arith, nat_tests)

is_below : (i j : ℕ) → i < j → nat_lt i j ≡ true
is_below i j h = grind (arith, nat_tests)

is_at_most : (i j : ℕ) → i ≤ j → nat_le i j ≡ true
is_at_most i j h = grind (arith, nat_tests)

not_most : (i j : ℕ) → nat_le i j ≡ false → j < i
not_most i j h = grind (arith, nat_tests)

or_parts : {P : Type 0} (b c : Bool) → (b || c) ≡ true → (b ≡ true → P) → (c ≡ true → P) → P
or_parts true c h f g = f refl
or_parts false c h f g = g h

or_none : (b c : Bool) → (b || c) ≡ false → (b ≡ false) × (c ≡ false)
or_none true c h = absurd (clash h)
or_none false c h = (refl, h)

module _ (P : Event → Type 0) where
  pub all_kept : (p : Event → Bool) (ds : List Event) → AllByRecursion P ds → AllByRecursion P (filter p ds)
  all_kept p [] h = tt
  all_kept p (d ∷ ds) h = elim (p d) as (λ b. AllByRecursion P (cond b (d ∷ filter p ds) (filter p ds))) [ true ↦ (h.0, all_kept p ds h.1) | false ↦ all_kept p ds h.1 ]

-- ---- what a form asks of

module _ (a z : ℕ) (le : a ≤ z) where
  abbrev win : List Event → List Event → List Event
  win es ds = filter (is_in_window es a z) ds

  -- ---- an earlier event changes nothing of those behind it

  same_window : (c : Event) (es ds : List Event) → AllByRecursion (λ d. event_cmp c d ≡ Less) ds → win (c ∷ es) ds ≡ win es ds
  unfolding stands_at
  same_window c es [] h = refl
  same_window c es (d ∷ ds) h =
      λ i. cond ((nat_le d.at a && (is_some d.row && not (not_earlier c d a h.0 i || list_any (overtakes d a) es))) || (nat_lt a d.at && nat_le d.at z)) (d ∷ same_window c es ds h.1 i) (same_window c es ds h.1 i)

  -- an event in the window is not after its last instant
  in_time : (es : List Event) (d : Event) → is_in_window es a z d ≡ true → d.at ≤ z
  unfolding stands_at
  in_time es d h =
      or_parts (stands_at es a d) (nat_lt a d.at && nat_le d.at z) h
      (λ s. (let early : d.at ≤ a = at_most d.at a (and_parts (nat_le d.at a) _ s).0 in omega arith))
      (λ s. at_most d.at z (and_parts (nat_lt a d.at) _ s).1)

  all_in_time : (es ds : List Event) → AllByRecursion (λ d. d.at ≤ z) (win es ds)
  all_in_time es [] = tt
  all_in_time es (d ∷ ds) = by (is_in_window es a z d) refl (all_in_time es ds)
    where
      by : (b : Bool) → is_in_window es a z d ≡ b → AllByRecursion (λ d. d.at ≤ z) (win es ds) → AllByRecursion (λ d. d.at ≤ z) (cond b (d ∷ win es ds) (win es ds))
      by true is rest = (in_time es d is, rest)
      by false is rest = rest

  same_end : (c d : Event) (es : List Event) → event_cmp c d ≡ Less → d.at ≤ z → event_after (c ∷ es) z d.key ≡ event_after es z d.key
  same_end c d es less early = ap (λ b. cond b (Some c.at) (event_after es z d.key)) (never (is_bytes d.key c.key && nat_lt z c.at) both)
    where
      both : (is_bytes d.key c.key && nat_lt z c.at) ≡ true → ⊥
      both h =
          let same : d.key ≡ c.key = same_bytes d.key c.key (and_parts (is_bytes d.key c.key) _ h).0 in
          let before : c.at < d.at = (is_lower c d less).same (sym same) in
          let past : z < c.at = below z c.at (and_parts (is_bytes d.key c.key) _ h).1 in
          omega arith

  module _ (table : Table) (form : Form) (keys : Keys) where
    same_shown : (c : Event) (es ds : List Event) → AllByRecursion (λ d. event_cmp c d ≡ Less) ds → AllByRecursion (λ d. d.at ≤ z) ds → shown_in (c ∷ es) z table form keys ds ≡ shown_in es z table form keys ds
    same_shown c es [] h k = refl
    same_shown c es (d ∷ ds) h k =
        λ i. cons_option (shown_of table form keys d (later (next_of d ds) (same_end c d es h.0 k.0 i))) (same_shown c es ds h.1 k.1 i)

  -- ---- when the version of an event in the window ends

  next_none : (c : Event) (ds : List Event) → AllByRecursion (λ d. is_bytes c.key d.key ≡ false) ds → next_of c ds ≡ None
  next_none c [] h = refl
  next_none c (d ∷ ds) h = ap (λ b. cond b (Some d.at) None) h.0

  after_none : (c : Event) (ds : List Event) → AllByRecursion (λ d. is_bytes c.key d.key ≡ false) ds → event_after ds z c.key ≡ None
  after_none c [] h = refl
  after_none c (d ∷ ds) h = ap (λ b. cond (b && nat_lt z d.at) (Some d.at) (event_after ds z c.key)) h.0 ∙ after_none c ds h.1

  -- keys behind another one are others
  other_keys : (c d : Event) (ds : List Event) → event_cmp c d ≡ Less → is_bytes c.key d.key ≡ false → AllByRecursion (λ x. event_cmp d x ≡ Less) ds → AllByRecursion (λ x. is_bytes c.key x.key ≡ false) ds
  other_keys c d [] less is h = tt
  other_keys c d (x ∷ xs) less is h = (never (is_bytes c.key x.key) apart, other_keys c d xs less is h.1)
    where
      apart : is_bytes c.key x.key ≡ true → ⊥
      apart same =
          let one : c.key ≡ x.key = same_bytes c.key x.key same in
          let far : c.key ≡ d.key → ⊥ = λ k. clash (sym (subst (λ k. is_bytes c.key k ≡ true) k (is_own c.key)) ∙ is) in
          let low : bytes_cmp c.key d.key ≡ Less = (is_lower c d less).other far in
          let high : bytes_cmp d.key x.key ≡ Less = (is_lower d x h.0).other (λ k. far (one ∙ sym k)) in
          let loop : bytes_cmp c.key x.key ≡ Less = bytes_total.trans c.key d.key x.key low high in
          let tie : bytes_cmp c.key c.key ≡ Less = subst (λ k. bytes_cmp c.key k ≡ Less) (sym one) loop in
          clash (sym (is_own c.key) ∙ ap Rattle.std.specs.Ordering.is_eq tie)

  -- of the key of an event that is after the last instant no later one is in time
  none_in_time : (c d : Event) (ds : List Event) → is_bytes c.key d.key ≡ true → z < d.at → AllByRecursion (λ x. event_cmp d x ≡ Less) ds → AllByRecursion (λ x. x.at ≤ z → is_bytes c.key x.key ≡ false) ds
  none_in_time c d [] same past h = tt
  none_in_time c d (x ∷ xs) same past h = (
    λ early. never (is_bytes c.key x.key) (λ is. (
        let one : d.key ≡ x.key = sym (same_bytes c.key d.key same) ∙ same_bytes c.key x.key is in
        let before : d.at < x.at = (is_lower d x h.0).same one in omega arith)),
    none_in_time c d xs same past h.1,
  )

  both : (c : Event) (ds : List Event) → AllByRecursion (λ x. x.at ≤ z → is_bytes c.key x.key ≡ false) ds → AllByRecursion (λ x. x.at ≤ z) ds → AllByRecursion (λ x. is_bytes c.key x.key ≡ false) ds
  both c [] h k = tt
  both c (x ∷ xs) h k = (h.0 k.0, both c xs h.1 k.1)

  not_past : (c : Event) (es : List Event) → c.at ≤ z → event_after (c ∷ es) z c.key ≡ event_after es z c.key
  not_past c es early = ap (λ b. cond b (Some c.at) (event_after es z c.key)) (never (is_bytes c.key c.key && nat_lt z c.at) (λ h. (let past : z < c.at = below z c.at (and_parts (is_bytes c.key c.key) _ h).1 in omega arith)))

  -- what comes next of the key is in the window, or after it
  next_in : (c d : Event) (es : List Event) → IsStrictlySortedBy event_cmp (c ∷ d ∷ es) → is_in_window (c ∷ d ∷ es) a z c ≡ true → is_bytes c.key d.key ≡ true → d.at ≤ z → is_in_window (d ∷ es) a z d ≡ true
  unfolding stands_at
  next_in c d es sorted inside same early =
      or_parts (stands_at (c ∷ d ∷ es) a c) (nat_lt a c.at && nat_le c.at z) inside
      (λ s. late (over (and_parts (is_some c.row) _ (and_parts (nat_le c.at a) _ s).1).1))
      (λ s. late (let past : a < c.at = below a c.at (and_parts (nat_lt a c.at) _ s).0 in let next : c.at < d.at = before in omega arith))
    where
      before : c.at < d.at
      before = (is_lower c d (sorted_head event_cmp c (d ∷ es) sorted).0).same (same_bytes c.key d.key same)

      late : a < d.at → is_in_window (d ∷ es) a z d ≡ true
      late past = (λ i. stands_at (d ∷ es) a d || (is_below a d.at past i && is_at_most d.at z early i)) ∙ or_true (stands_at (d ∷ es) a d)
        where
          or_true : (b : Bool) → (b || true) ≡ true
          or_true true = refl
          or_true false = refl

      over : not (list_any (overtakes c a) (c ∷ d ∷ es)) ≡ true → a < d.at
      over none = by (nat_le d.at a) refl
        where
          by : (b : Bool) → nat_le d.at a ≡ b → a < d.at
          by false is = not_most d.at a is
          by true is =
              let taken : overtakes c a d ≡ true = is_overtakes c a d (record { of_key = same_bytes c.key d.key same; after = before; until = at_most d.at a is }) in
              absurd (clash (sym none ∙ ap not (any_second (overtakes c a c) (overtakes c a d) (list_any (overtakes c a) es) taken)))
            where
              any_second : (p q r : Bool) → q ≡ true → (p || (q || r)) ≡ true
              any_second true q r h = refl
              any_second false q r h = ap (λ b. b || r) h

  ended : (c : Event) (es : List Event) → IsStrictlySortedBy event_cmp (c ∷ es) → is_in_window (c ∷ es) a z c ≡ true → end_of (c ∷ es) z c (win es es) ≡ next_of c es
  ended c [] sorted inside = not_past c [] (in_time (c ∷ []) c inside)
  ended c (d ∷ ds) sorted inside = by (is_bytes c.key d.key) refl
    where
      rest : List Event
      rest = d ∷ ds

      less : event_cmp c d ≡ Less
      less = (sorted_head event_cmp c rest sorted).0

      behind : AllByRecursion (λ x. event_cmp d x ≡ Less) ds
      behind = sorted_head event_cmp d ds (sorted_tail event_cmp c rest sorted)

      early : c.at ≤ z
      early = in_time (c ∷ rest) c inside

      by : (b : Bool) → is_bytes c.key d.key ≡ b → later (next_of c (win rest rest)) (event_after (c ∷ rest) z c.key) ≡ cond (is_bytes c.key d.key) (Some d.at) None
      by false is =
          (λ i. later (next_none c (win rest rest) (all_kept (λ x. is_bytes c.key x.key ≡ false) (is_in_window rest a z) rest (is, other_keys c d ds less is behind)) i) (event_after (c ∷ rest) z c.key))
          ∙ not_past c rest early
          ∙ after_none c rest (is, other_keys c d ds less is behind)
          ∙ sym (ap (λ b. cond b (Some d.at) None) is)
      by true is = timed (nat_le d.at z) refl
        where
          timed : (b : Bool) → nat_le d.at z ≡ b → later (next_of c (win rest rest)) (event_after (c ∷ rest) z c.key) ≡ cond (is_bytes c.key d.key) (Some d.at) None
          timed true soon =
              let there : is_in_window rest a z d ≡ true = next_in c d ds sorted inside is (at_most d.at z soon) in
              (λ i. later (next_of c (cond (there i) (d ∷ win rest ds) (win rest ds))) (event_after (c ∷ rest) z c.key))
              ∙ ap (λ b. later (cond b (Some d.at) None) (event_after (c ∷ rest) z c.key)) is
              ∙ sym (ap (λ b. cond b (Some d.at) None) is)
          timed false far =
              let past : z < d.at = not_most d.at z far in
              let alone : AllByRecursion (λ x. x.at ≤ z → is_bytes c.key x.key ≡ false) rest = (λ soon. absurd (omega arith), none_in_time c d ds is past behind) in
              (λ i. later (next_none c (win rest rest) (both c (win rest rest) (all_kept (λ x. x.at ≤ z → is_bytes c.key x.key ≡ false) (is_in_window rest a z) rest alone) (all_in_time rest rest)) i) (event_after (c ∷ rest) z c.key))
              ∙ not_past c rest early
              ∙ (λ i. cond (is i && is_below z d.at past i) (Some d.at) (event_after ds z c.key))
              ∙ sym (ap (λ b. cond b (Some d.at) None) is)

  -- ---- what is selected

  module _ (table : Table) (form : Form) (keys : Keys) (window : IsWindow form a z) where
    -- an event out of the window begins no version that is selected
    none_shown : (c : Event) (es : List Event) → IsStrictlySortedBy event_cmp (c ∷ es) → is_in_window (c ∷ es) a z c ≡ false → shown_of table form keys c (next_of c es) ≡ None
    none_shown c es sorted out = by c.row refl
      where
        at : stands_before c a (slice_get es 0) ≡ false
        at = sym (stands_is (c ∷ es) 0 c a sorted refl) ∙ (or_none (stands_at (c ∷ es) a c) (nat_lt a c.at && nat_le c.at z) out).0

        late : (nat_lt a c.at && nat_le c.at z) ≡ false
        late = (or_none (stands_at (c ∷ es) a c) (nat_lt a c.at && nat_le c.at z) out).1

        unselected : is_some c.row ≡ true → (nat_le c.at z && ends_after (next_of c es) a) ≡ false
        unselected some = never (nat_le c.at z && ends_after (next_of c es) a) (λ h. split (nat_le c.at a) refl h)
          where
            split : (b : Bool) → nat_le c.at a ≡ b → (nat_le c.at z && ends_after (next_of c es) a) ≡ true → ⊥
            split true early h =
                clash (sym (λ i. early i && (some i && (ends a c es (sorted_head event_cmp c es sorted) ∙ (and_parts (nat_le c.at z) _ h).1) i)) ∙ at)
            split false early h =
                clash (sym (λ i. is_below a c.at (not_most c.at a early) i && (and_parts (nat_le c.at z) _ h).0 i) ∙ late)

        by : (row : Option Row) → c.row ≡ row → ◌≡◌ {A = Option Shown} (elim row [
          | None ↦ None
          | Some row ↦ cond (selects form c.at (next_of c es) && is_taken table keys c.key) (Some (record { row = full_row table row; from = c.at; to = next_of c es })) None
        ]) None
        by None is = refl
        by (Some row) is = ap (λ b. cond (b && is_taken table keys c.key) (Some (record { row = full_row table row; from = c.at; to = next_of c es })) None) (window c.at (next_of c es) ∙ unselected (ap is_some is))

    pub selected_in : (es : List Event) → IsStrictlySortedBy event_cmp es → selected_by table form keys es ≡ shown_in es z table form keys (win es es)
    selected_in [] sorted = refl
    selected_in (c ∷ es) sorted = by (is_in_window (c ∷ es) a z c) refl (selected_in es (sorted_tail event_cmp c es sorted))
      where
        above : AllByRecursion (λ d. event_cmp c d ≡ Less) es
        above = sorted_head event_cmp c es sorted

        same : win (c ∷ es) es ≡ win es es
        same = same_window c es es above

        behind : shown_in (c ∷ es) z table form keys (win es es) ≡ shown_in es z table form keys (win es es)
        behind = same_shown table form keys c es (win es es) (all_kept (λ d. event_cmp c d ≡ Less) (is_in_window es a z) es above) (all_in_time es es)

        by : (b : Bool) → is_in_window (c ∷ es) a z c ≡ b → selected_by table form keys es ≡ shown_in es z table form keys (win es es)
            → cons_option (shown_of table form keys c (next_of c es)) (selected_by table form keys es) ≡ shown_in (c ∷ es) z table form keys (cond (is_in_window (c ∷ es) a z c) (c ∷ win (c ∷ es) es) (win (c ∷ es) es))
        by true is more =
            (λ i. cons_option (shown_of table form keys c (sym (ended c es sorted is) i)) ((more ∙ sym behind) i))
            ∙ (λ i. shown_in (c ∷ es) z table form keys (cond (sym is i) (c ∷ sym same i) (sym same i)))
        by false is more =
            ap (λ o. cons_option o (selected_by table form keys es)) (none_shown c es sorted is)
            ∙ more ∙ sym behind
            ∙ (λ i. shown_in (c ∷ es) z table form keys (cond (sym is i) (c ∷ sym same i) (sym same i)))

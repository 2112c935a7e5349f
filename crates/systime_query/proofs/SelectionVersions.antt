-- What events in order show is what the versions of the changes show.
use Rattle.std.proofs.Common.{◌≡◌, ℕ, ◌<◌, List, [], ◌∷◌, Option, Some, None, Bool, true, false, T, refl, sym, ap, ◌∙◌, subst, cond, map, filter, nat_lt, ◌&&◌, ◌==◌, arith}
use Rattle.std.proofs.lemmas.Bool.Decides.{nat_tests}
use Rattle.std.proofs.lemmas.List.Elements.{All-head, All-tail}
use Rattle.std.specs.List.{AllByRecursion, filter_map, cons_option, flat_map, list_all}
use Rattle.std.specs.Map.{keys_of}
use Rattle.std.specs.FinMap.{is_sorted}
use Rattle.std.specs.FinMap.Entries.{below_all}
use Rattle.std.specs.Ordering.{nat_cmp, ordering_then, ordering_reverse, is_eq, is_lt}
use Rattle.std.specs.declared.cmp.Ordering.{Ordering}
use Rattle.std.specs.declared.cmp.Ordering.TheVariants.{Less, Equal, Greater}
use Rattle.values.specs.Event.{Event}
use Rattle.values.specs.declared.key.Key.{Key}
use Rattle.values.specs.declared.key.Point.{Point}
use Rattle.values.specs.declared.table.Table.{Table}
use Rattle.values.specs.declared.query.Form.{Form}
use Rattle.values.specs.declared.query.Keys.{Keys}
use Rattle.values.specs.declared.query.Shown.{Shown}
use Rattle.values.specs.Tables.{Schema, table_at, full_row}
use Rattle.values.specs.Order.{key_cmp, is_key}
use Rattle.values.specs.Log.{Changes, Row, point_cmp}
use Rattle.values.specs.Versions.{Version, next_change, version_of, versions, selects, holds, matches, shown_version, answer}
use Rattle.values.specs.KeyEncoding.{bytes_of_key, part_bytes}
use Rattle.values.specs.KeyReading.{whole_key, parts_from}
use Rattle.values.specs.Events.{events_of, event_of, IsKeyOfAny, IsKeyIn, AreChangesIn}
use Rattle.values.proofs.OrderTotal.{key_cmp_total, first, second, below}
use Rattle.values.proofs.OrderSorted.{sorted_from}
use Rattle.values.proofs.KeyReads.{key_back}
use Rattle.values.proofs.EventKeys.{same_key}
use Rattle.keyrange.specs.declared.range.KeyRange.{KeyRange}
use Rattle.keyrange.specs.Range.{is_key_in}
use Rattle.staging.specs.tsbtree.View.{TreeState, events}
use Rattle.staging.specs.View.{Holds}
use Rattle.searchrange.specs.SearchRange.{Covers}
use Rattle.staging.proofs.ViewNarrowed.{IsOut, out_of_range}
use Rattle.systime_query.proofs.SelectionShown.{out_taken}
use Rattle.searchrange.specs.Search.{is_taken}
use Rattle.systime_query.specs.Selection.{next_of, shown_of, selected_by}

-- ---- the next change of a key stands right behind it

-- a change before another is no later change of its key
not_later : (o : Ordering) (i j : ℕ) → T (is_lt (ordering_then o (nat_cmp i j))) → (q : Ordering) → (is_eq q ≡ true → is_eq o ≡ true) → (is_eq q && nat_lt j i) ≡ false
not_later o i j h Less same = refl
not_later o i j h Greater same = refl
not_later Less i j h Equal same = cc (same refl)
not_later Greater i j h Equal same = absurd h
not_later Equal i j h Equal same = let lt : i < j = below i j h in grind (arith, nat_tests)

-- equal from one side is equal from the other
turned_eq : (x y : Key) → is_eq (key_cmp x y) ≡ true → is_eq (key_cmp y x) ≡ true
turned_eq x y e = by (key_cmp x y) refl
  where
    by : (o : Ordering) → key_cmp x y ≡ o → is_eq (key_cmp y x) ≡ true
    by Less is = cc
    by Equal is = ap is_eq (key_cmp_total.antisymm y x ∙ ap ordering_reverse is)
    by Greater is = cc

-- what stands before a change adds nothing to what comes after it
skip : (x : Point × Option Row) (m : Changes) (c : Point) → T (is_lt (point_cmp x.0 c)) → next_change (x ∷ m) c.key c.instant ≡ next_change m c.key c.instant
skip x m c h = ap (λ b. cond b (Some x.0.instant) (next_change m c.key c.instant)) (not_later (key_cmp x.0.key c.key) x.0.instant c.instant h (key_cmp c.key x.0.key) (turned_eq c.key x.0.key))

-- keys above another are others
above : (x c : Key) → key_cmp x c ≡ Less → is_key x c ≡ false
above x c e = ap is_eq e

-- the keys from one on are above what is below it
all_above : (m : Changes) (x d : Point) (i : ℕ) → key_cmp x.key d.key ≡ Less → T (below_all point_cmp d m) → next_change m x.key i ≡ None
all_above [] x d i less h = refl
all_above (c ∷ cs) x d i less h =
    ap (λ b. cond (b && nat_lt i c.0.instant) (Some c.0.instant) (next_change cs x.key i)) (above x.key c.0.key (over (key_cmp d.key c.0.key) refl (first _ _ h)))
    ∙ all_above cs x d i less (second _ _ h)
  where
    over : (o : Ordering) → key_cmp d.key c.0.key ≡ o → T (is_lt (ordering_then o (nat_cmp d.instant c.0.instant))) → key_cmp x.key c.0.key ≡ Less
    over Less is h = key_cmp_total.trans x.key d.key c.0.key less is
    over Equal is h = key_cmp_total.antisymm x.key c.0.key ∙ ap ordering_reverse (sym (key_cmp_total.congr d.key c.0.key x.key is)) ∙ sym (key_cmp_total.antisymm x.key d.key) ∙ less
    over Greater is h = absurd h

-- the first change behind a point, where it is of the same key
abbrev behind : Point → Changes → Option ℕ
behind p [] = None
behind p (d ∷ ds) = cond (is_key p.key d.0.key) (Some d.0.instant) None

in_turn : (i j : ℕ) → T (is_lt (nat_cmp i j)) → nat_lt i j ≡ true
in_turn i j h = let lt : i < j = below i j h in grind (arith, nat_tests)

next_is_behind : (p : Point) (m : Changes) → T (below_all point_cmp p m) → T (is_sorted point_cmp m) → next_change m p.key p.instant ≡ behind p m
next_is_behind p [] h s = refl
next_is_behind p (d ∷ ds) h s = by (key_cmp p.key d.0.key) refl (first _ _ h)
  where
    by : (o : Ordering) → key_cmp p.key d.0.key ≡ o → T (is_lt (ordering_then o (nat_cmp p.instant d.0.instant)))
        → cond (is_eq (key_cmp p.key d.0.key) && nat_lt p.instant d.0.instant) (Some d.0.instant) (next_change ds p.key p.instant) ≡ cond (is_eq (key_cmp p.key d.0.key)) (Some d.0.instant) None
    by Less is lt =
        (λ i. cond (is_eq (is i) && nat_lt p.instant d.0.instant) (Some d.0.instant) (next_change ds p.key p.instant))
        ∙ all_above ds p d.0 p.instant is (first_of s)
        ∙ sym (λ i. cond (is_eq (is i)) (Some d.0.instant) None)
      where
        first_of : T (is_sorted point_cmp (d ∷ ds)) → T (below_all point_cmp d.0 ds)
        first_of s = first _ _ s
    by Equal is lt =
        (λ i. cond (is_eq (is i) && nat_lt p.instant d.0.instant) (Some d.0.instant) (next_change ds p.key p.instant))
        ∙ ap (λ b. cond b (Some d.0.instant) (next_change ds p.key p.instant)) (in_turn p.instant d.0.instant lt)
        ∙ sym (λ i. cond (is_eq (is i)) (Some d.0.instant) None)
    by Greater is lt = absurd lt

-- ---- versions, one behind the other

abbrev version_by : (Point × Option Row) → Option ℕ → Option Version
version_by (p, None) to = None
version_by (p, Some row) to = Some (record { key = p.key; row = row; from = p.instant; to = to })

by_next : (m : Changes) (c : Point × Option Row) → version_of m c ≡ version_by c (next_change m c.0.key c.0.instant)
by_next m (p, None) = refl
by_next m (p, Some row) = refl

same_versions : (x : Point × Option Row) (m cs : Changes) → T (below_all point_cmp x.0 cs) → filter_map (version_of (x ∷ m)) cs ≡ filter_map (version_of m) cs
same_versions x m [] h = refl
same_versions x m (c ∷ cs) h =
    ap (λ v. cons_option v (filter_map (version_of (x ∷ m)) cs)) (by_next (x ∷ m) c ∙ ap (version_by c) (skip x m c.0 (first _ _ h)) ∙ sym (by_next m c))
    ∙ ap (cons_option (version_of m c)) (same_versions x m cs (second _ _ h))

-- a change is none of those after it
not_after_itself : (b : Bool) (i : ℕ) → (b && nat_lt i i) ≡ false
not_after_itself false i = refl
not_after_itself true i = grind (arith, nat_tests)

first_version : (c : Point × Option Row) (cs : Changes) → T (is_sorted point_cmp (c ∷ cs)) → version_of (c ∷ cs) c ≡ version_by c (behind c.0 cs)
first_version c cs s =
    by_next (c ∷ cs) c
    ∙ ap (λ b. version_by c (cond b (Some c.0.instant) (next_change cs c.0.key c.0.instant))) (not_after_itself (is_key c.0.key c.0.key) c.0.instant)
    ∙ ap (version_by c) (next_is_behind c.0 cs (first _ _ s) (second _ _ s))

versions_are : (c : Point × Option Row) (cs : Changes) → T (is_sorted point_cmp (c ∷ cs)) → versions (c ∷ cs) ≡ cons_option (version_by c (behind c.0 cs)) (versions cs)
versions_are c cs s = ap (λ v. cons_option v (filter_map (version_of (c ∷ cs)) cs)) (first_version c cs s) ∙ ap (cons_option (version_by c (behind c.0 cs))) (same_versions c cs cs (first _ _ s))

-- ---- those that a query selects

equal : (a b : ℕ) → (a == b) ≡ true → a ≡ b
equal a b e = grind (arith, nat_tests)

module _ (schema : Schema) (table : Table) (form : Form) (keys : Keys) (is_table : table_at schema table.number ≡ Some table) (of_table : keys.table ≡ table.number) where
  pub taken_is : (k : Key) → IsKeyIn schema k → is_taken table keys (bytes_of_key k) ≡ matches table keys k
  taken_is k h = by (k.table == table.number) refl
    where
      found : Option Key → Bool
      found None = false
      found (Some key) = matches table keys key

      by : (b : Bool) → (k.table == table.number) ≡ b → is_taken table keys (bytes_of_key k) ≡ matches table keys k
      by true e =
          ap (λ (o : Option Key). elim o [ None ↦ false | Some key ↦ matches table keys key ])
          (key_back table k (subst (λ o. IsKeyOfAny o k) (ap (table_at schema) (equal k.table table.number e) ∙ is_table) h))
      by false e =
          ap (λ b. elim (cond b (whole_key table (parts_from table table.key (flat_map part_bytes k.parts))) None) [ None ↦ false | Some key ↦ matches table keys key ]) e
          ∙ sym (ap (λ n. (k.table == n) && list_all (holds table k) keys.comparisons) of_table ∙ ap (λ b. b && list_all (holds table k) keys.comparisons) e)

  abbrev picks : Version → Bool
  picks v = matches table keys v.key && selects form v.from v.to

  abbrev shown_by : Option Version → Option Shown
  shown_by None = None
  shown_by (Some v) = cond (picks v) (Some (shown_version table v)) None

  picked : (o : Option Version) (vs : List Version) → map (shown_version table) (filter picks (cons_option o vs)) ≡ cons_option (shown_by o) (map (shown_version table) (filter picks vs))
  picked None vs = refl
  picked (Some v) vs = by (picks v)
    where
      by : (b : Bool) → map (shown_version table) (cond b (v ∷ filter picks vs) (filter picks vs)) ≡ cons_option (cond b (Some (shown_version table v)) None) (map (shown_version table) (filter picks vs))
      by true = refl
      by false = refl

  swapped : (a b : Bool) → (a && b) ≡ (b && a)
  swapped true true = refl
  swapped true false = refl
  swapped false true = refl
  swapped false false = refl

  shown_is : (c : Point × Option Row) (to : Option ℕ) → IsKeyIn schema c.0.key → shown_of table form keys (event_of c) to ≡ shown_by (version_by c to)
  shown_is (p, None) to h = refl
  shown_is (p, Some row) to h =
      ap (λ b. cond (selects form p.instant to && b) (Some (record { row = full_row table row; from = p.instant; to = to })) None) (taken_is p.key h)
      ∙ ap (λ b. cond b (Some (record { row = full_row table row; from = p.instant; to = to })) None) (swapped (selects form p.instant to) (matches table keys p.key))

  next_is : (c : Point × Option Row) (cs : Changes) → AreChangesIn schema (c ∷ cs) → next_of (event_of c) (events_of cs) ≡ behind c.0 cs
  next_is c [] h = refl
  next_is c (d ∷ ds) h =
      ap (λ b. cond b (Some d.0.instant) None)
      (same_key schema c.0.key d.0.key (All-head (λ (p : Point). IsKeyIn schema p.key) c.0 (keys_of (d ∷ ds)) h) (All-head (λ (p : Point). IsKeyIn schema p.key) d.0 (keys_of ds) (All-tail (λ (p : Point). IsKeyIn schema p.key) c.0 (keys_of (d ∷ ds)) h)))

  pub selected_is : (m : Changes) → AreChangesIn schema m → T (is_sorted point_cmp m) → selected_by table form keys (events_of m) ≡ answer m table form keys
  selected_is [] h s = refl
  selected_is (c ∷ cs) h s =
      ap (λ o. cons_option o (selected_by table form keys (events_of cs)))
      (ap (shown_of table form keys (event_of c)) (next_is c cs h) ∙ shown_is c (behind c.0 cs) (All-head (λ (p : Point). IsKeyIn schema p.key) c.0 (keys_of cs) h))
      ∙ ap (cons_option (shown_by (version_by c (behind c.0 cs)))) (selected_is cs (All-tail (λ (p : Point). IsKeyIn schema p.key) c.0 (keys_of cs) h) (second _ _ s))
      ∙ sym (picked (version_by c (behind c.0 cs)) (versions cs))
      ∙ sym (ap (λ vs. map (shown_version table) (filter picks vs)) (versions_are c cs s))

-- ---- what a view shows

module _ (view : TreeState) (table : Table) (keys : Keys) where
  pub view_selected : (form : Form) (schema : Schema) (m : Changes) → Holds schema view m → table_at schema table.number ≡ Some table → keys.table ≡ table.number
      → selected_by table form keys (events view) ≡ answer m table form keys
  view_selected form schema m held is_table same =
      ap (selected_by table form keys) held.events_are ∙ selected_is schema table form keys is_table same m held.keys (sorted_from point_cmp m held.in_order)

  each_out : (range : KeyRange) (es : List Event) → AllByRecursion (λ e. is_key_in range e.key ≡ false → IsOut table keys e.key) es → AllByRecursion (λ e. is_key_in range e.key ≡ false → is_taken table keys e.key ≡ false) es
  each_out range [] h = tt
  each_out range (e ∷ es) h = (λ out. out_taken table keys e.key (h.0 out), each_out range es h.1)

  -- events out of the search range show nothing
  pub none_out : (range : KeyRange) → Covers table keys range → (schema : Schema) (m : Changes) → Holds schema view m → table_at schema table.number ≡ Some table
      → AllByRecursion (λ e. is_key_in range e.key ≡ false → is_taken table keys e.key ≡ false) (events view)
  none_out range covers schema m held is_table =
      subst (AllByRecursion (λ e. is_key_in range e.key ≡ false → is_taken table keys e.key ≡ false)) (sym held.events_are)
      (each_out range (events_of m) (out_of_range schema table keys range covers is_table m held.keys))

-- The rows that a transaction sees, of the events whose rows stand.
use Rattle.std.proofs.Common.{◌≡◌, ℕ, ◌≤◌, Bool, true, false, cond, ◌&&◌, ◌||◌, T, List, [], ◌∷◌, Option, Some, None, refl, sym, ap, subst, ◌∙◌, arith, not, filter, filter_map, is_some, if◌then◌else◌, nat_le, ◌==◌, inl, inr, ◌⊎◌}
use Rattle.std.proofs.lemmas.Bool.Decides.{nat_tests}
use Rattle.std.specs.declared.cmp.Ordering.{Ordering}
use Rattle.std.specs.declared.cmp.Ordering.TheVariants.{Less, Equal, Greater}
use Rattle.std.specs.Ordering.{is_eq, is_lt, match_ordering, nat_cmp, ordering_reverse, ordering_then}
use Rattle.std.specs.Option.{option_map}
use Rattle.std.specs.BTreeMap.{insert_entry}
use Rattle.std.specs.FinMap.{is_sorted}
use Rattle.std.specs.FinMap.Entries.{below_all, is_sorted-where_key}
use Rattle.std.specs.List.{AllByRecursion, list_any, list_all, cons_option}
use Rattle.std.specs.List.Sorted.{IsStrictlySortedBy}
use Rattle.values.specs.declared.key.Key.{Key}
use Rattle.values.specs.declared.key.Point.{Point}
use Rattle.values.specs.Event.{Event}
use Rattle.values.specs.declared.table.Table.{Table}
use Rattle.values.specs.declared.query.Keys.{Keys}
use Rattle.values.specs.Order.{key_cmp, is_key}
use Rattle.values.specs.Log.{State, Row, Changes, row_at}
use Rattle.values.specs.RowsAfter.{rows_after}
use Rattle.values.specs.Tables.{Schema, table_at}
use Rattle.values.specs.Writes.{insert_all}
use Rattle.values.specs.Versions.{matches, holds}
use Rattle.values.specs.KeyEncoding.{bytes_of_key}
use Rattle.values.specs.Events.{is_bytes, event_cmp, event_of, events_of, IsKeyIn, later}
use Rattle.values.proofs.OrderTotal.{key_cmp_total, key_cmp-IsAntisymmetric, both, first, second}
use Rattle.values.proofs.OrderSorted.{is_less}
use Rattle.values.proofs.LogMaps.{same_map, sorted_insert, lookup-insert_entry}
use Rattle.values.proofs.KeyReads.{key_back}
use Rattle.eventlist.specs.Overtaking.{overtakes}
use Rattle.eventlist.specs.Listing.{stands_at, standing}
use Rattle.staging.proofs.ViewKeyTable.{is_of_table}
use Rattle.searchrange.specs.Search.{entry_taken}
use Rattle.eventlist.proofs.PlaceOrder.{sorted_head, is_lower}
use Rattle.eventlist.proofs.OvertakingNext.{not_earlier, not_itself, overtakes_is, is_overtakes, never}
use Rattle.staging.proofs.StagedEntries.{upon, lookup-filter, same_key}
use Rattle.staging.proofs.ViewBridge.{AreSeen, keys_compare, rest_seen, last_change, after_is, sorted_base, is_bytes_is_key, own_key, in_time}

-- ---- which events stand, by those after them

abbrev stands_over : ℕ → ℕ → List Event → Event → Bool
stands_over number t rest e = is_of_table number e.key && (nat_le e.at t && (is_some e.row && not (list_any (overtakes e t) rest)))

later_ones : (number t : ℕ) (c : Event) (es ds : List Event) → AllByRecursion (λ d. event_cmp c d ≡ Less) ds
    → filter (λ e. is_of_table number e.key && stands_at (c ∷ es) t e) ds ≡ filter (λ e. is_of_table number e.key && stands_at es t e) ds
unfolding stands_at
later_ones number t c es [] h = refl
later_ones number t c es (d ∷ ds) h =
    λ i. cond (is_of_table number d.key && (nat_le d.at t && (is_some d.row && not (not_earlier c d t h.0 i || list_any (overtakes d t) es)))) (d ∷ later_ones number t c es ds h.1 i) (later_ones number t c es ds h.1 i)

standing_cons : (number t : ℕ) (c : Event) (es : List Event) → IsStrictlySortedBy event_cmp (c ∷ es)
    → standing (c ∷ es) (is_of_table number) t ≡ cond (stands_over number t es c) (c ∷ standing es (is_of_table number) t) (standing es (is_of_table number) t)
unfolding stands_at
standing_cons number t c es h =
    λ i. cond (is_of_table number c.key && (nat_le c.at t && (is_some c.row && not (not_itself c t i || list_any (overtakes c t) es)))) (c ∷ later_ones number t c es es (sorted_head event_cmp c es h) i) (later_ones number t c es es (sorted_head event_cmp c es h) i)

-- ---- in words of keys

abbrev has_later : Key → Changes → Bool
has_later k cs = list_any (λ d. is_key k d.0.key) cs

overtaken_is : (schema : Schema) (t : ℕ) (c : Point × Option Row) (cs ds : Changes) → IsKeyIn schema c.0.key → AllByRecursion (λ d. IsKeyIn schema d.0.key) ds → AllByRecursion (λ d. d.0.instant ≤ t) ds
    → AllByRecursion (λ d. event_cmp (event_of c) d ≡ Less) (events_of ds) → list_any (overtakes (event_of c) t) (events_of ds) ≡ list_any (λ d. is_key c.0.key d.0.key) ds
overtaken_is schema t c cs [] hc hk ht hs = refl
overtaken_is schema t c cs (d ∷ ds) hc hk ht hs = λ i. one i || overtaken_is schema t c cs ds hc hk.1 ht.1 hs.1 i
  where
    by : (b : Bool) → is_key c.0.key d.0.key ≡ b → overtakes (event_of c) t (event_of d) ≡ b
    by true is =
        let same : bytes_of_key c.0.key ≡ bytes_of_key d.0.key = ap bytes_of_key (same_key c.0.key d.0.key is) in
        is_overtakes (event_of c) t (event_of d) (record { of_key = same; after = (is_lower (event_of c) (event_of d) hs.0).same same; until = ht.0 })
    by false is =
        never (overtakes (event_of c) t (event_of d))
        (λ over. (
        let same = (overtakes_is (event_of c) t (event_of d) over).of_key in
        let bytes : is_bytes (bytes_of_key c.0.key) (bytes_of_key d.0.key) ≡ true = subst (λ k. is_bytes (bytes_of_key c.0.key) k ≡ true) same (Rattle.eventlist.proofs.PlaceOrder.is_own (bytes_of_key c.0.key)) in
        let clash : ◌≡◌ {A = Bool} true false = sym bytes ∙ is_bytes_is_key schema c.0.key d.0.key hc hk.0 ∙ is in cc
        ))

    one : overtakes (event_of c) t (event_of d) ≡ is_key c.0.key d.0.key
    one = by (is_key c.0.key d.0.key) refl

-- a change's row, where the keys take it and no later change is of its key
abbrev taken_at : Table → Keys → Point × Option Row → Changes → Option (Key × Row)
taken_at table keys c cs = if matches table keys c.0.key && not (has_later c.0.key cs) then option_map (λ row. (c.0.key, row)) c.1 else None

abbrev taken_rest : Table → Keys → Changes → State
taken_rest table keys [] = []
taken_rest table keys (c ∷ cs) = cons_option (taken_at table keys c cs) (taken_rest table keys cs)

-- of another table none is taken
other_table : (table : Table) (keys : Keys) (k : Key) → keys.table ≡ table.number → (k.table == table.number) ≡ false → matches table keys k ≡ false
other_table table keys k same is = ap (λ b. b && list_all (holds table k) keys.comparisons) (ap (λ n. k.table == n) same ∙ is)

equal : (a b : ℕ) → (a == b) ≡ true → a ≡ b
equal a b e = grind (arith, nat_tests)

-- a key of the table is read from its bytes
read_row : (schema : Schema) (table : Table) (keys : Keys) (c : Point × Option Row) → table_at schema table.number ≡ Some table → IsKeyIn schema c.0.key → (c.0.key.table == table.number) ≡ true
    → entry_taken table keys (event_of c) ≡ (if matches table keys c.0.key then option_map (λ row. (c.0.key, row)) c.1 else None)
read_row schema table keys c at hc is =
    ap (λ (o : Option Key). elim o [ None ↦ None | Some k ↦ if matches table keys k then option_map (λ row. (k, row)) c.1 else None ])
    (key_back table c.0.key (own_key schema table c.0.key at (equal c.0.key.table table.number is) hc))

-- the rows of the events that stand are those of the last changes
taken_is : (schema : Schema) (table : Table) (keys : Keys) (t : ℕ) (m : Changes) → table_at schema table.number ≡ Some table → keys.table ≡ table.number → AreSeen schema t m
    → filter_map (entry_taken table keys) (standing (events_of m) (is_of_table table.number) t) ≡ taken_rest table keys m
taken_is schema table keys t [] at same h = refl
taken_is schema table keys t (c ∷ cs) at same h =
    ap (filter_map (entry_taken table keys)) (standing_cons table.number t (event_of c) (events_of cs) h.sorted)
    ∙ ap (λ b. filter_map (entry_taken table keys) (cond (is_of_table table.number (bytes_of_key c.0.key) && b) (event_of c ∷ rest) rest))
    (λ i. in_time c.0.instant t h.upto.0 i && (is_some c.1 && not (overtaken_is schema t c cs cs h.keys.0 h.keys.1 h.upto.1 (sorted_head event_cmp (event_of c) (events_of cs) h.sorted) i)))
    ∙ by (c.0.key.table == table.number) c.1 refl refl
    ∙ ap (cons_option (taken_at table keys c cs)) (taken_is schema table keys t cs at same (rest_seen schema t c cs h))
  where
    rest : List Event
    rest = standing (events_of cs) (is_of_table table.number) t

    by : (b : Bool) (o : Option Row) → (c.0.key.table == table.number) ≡ b → c.1 ≡ o
        → filter_map (entry_taken table keys) (cond ((c.0.key.table == table.number) && (true && (is_some c.1 && not (has_later c.0.key cs)))) (event_of c ∷ rest) rest) ≡ cons_option (taken_at table keys c cs) (filter_map (entry_taken table keys) rest)
    by false o is row =
        ap (λ b. filter_map (entry_taken table keys) (cond (b && (true && (is_some c.1 && not (has_later c.0.key cs)))) (event_of c ∷ rest) rest)) is
        ∙ sym (ap (λ b. cons_option (if b && not (has_later c.0.key cs) then option_map (λ row. (c.0.key, row)) c.1 else None) (filter_map (entry_taken table keys) rest)) (other_table table keys c.0.key same is))
    by true None is row =
        (λ i. filter_map (entry_taken table keys) (cond (is i && (true && (is_some (row i) && not (has_later c.0.key cs)))) (event_of c ∷ rest) rest))
        ∙ sym (nothing (matches table keys c.0.key && not (has_later c.0.key cs)) ∙ refl)
      where
        nothing : (b : Bool) → cons_option (if b then option_map (λ row. (c.0.key, row)) c.1 else None) (filter_map (entry_taken table keys) rest) ≡ filter_map (entry_taken table keys) rest
        nothing true = ap (λ o. cons_option (option_map (λ row. (c.0.key, row)) o) (filter_map (entry_taken table keys) rest)) row
        nothing false = refl
    by true (Some r) is row =
        (λ i. filter_map (entry_taken table keys) (cond (is i && (true && (is_some (row i) && not (has_later c.0.key cs)))) (event_of c ∷ rest) rest)) ∙ last (has_later c.0.key cs)
      where
        none_taken : (b : Bool) → (b && false) ≡ false
        none_taken true = refl
        none_taken false = refl

        all_taken : (b : Bool) → (b && true) ≡ b
        all_taken true = refl
        all_taken false = refl

        last : (b : Bool) → filter_map (entry_taken table keys) (cond (not b) (event_of c ∷ rest) rest)
            ≡ cons_option (if matches table keys c.0.key && not b then option_map (λ row. (c.0.key, row)) c.1 else None) (filter_map (entry_taken table keys) rest)
        last true = sym (ap (λ b. cons_option (if b then option_map (λ row. (c.0.key, row)) c.1 else None) (filter_map (entry_taken table keys) rest)) (none_taken (matches table keys c.0.key)))
        last false =
            ap (λ o. cons_option o (filter_map (entry_taken table keys) rest)) (read_row schema table keys c at h.keys.0 is)
            ∙ sym (ap (λ b. cons_option (if b then option_map (λ row. (c.0.key, row)) c.1 else None) (filter_map (entry_taken table keys) rest)) (all_taken (matches table keys c.0.key)))

-- ---- and these are the rows that the changes leave

abbrev over : Option (Option Row) → Option Row → Option Row
over (Some (Some row)) other = Some row
over (Some None) other = other
over None other = other

no_later : (cs : Changes) (k : Key) → has_later k cs ≡ is_some (last_change cs k)
no_later [] k = refl
no_later (d ∷ cs) k = ap (λ b. is_key k d.0.key || b) (no_later cs k) ∙ by (is_key k d.0.key) (last_change cs k)
  where
    by : (b : Bool) (x : Option (Option Row)) → (b || is_some x) ≡ is_some (later x (cond b (Some d.1) None))
    by true None = refl
    by true (Some x) = refl
    by false None = refl
    by false (Some x) = refl

inserted_is : (table : Table) (keys : Keys) (m : Changes) (s : State) (q : Key) → row_at (insert_all s (taken_rest table keys m)) q ≡ cond (matches table keys q) (over (last_change m q) (row_at s q)) (row_at s q)
inserted_is table keys [] s q = same (matches table keys q)
  where
    same : (b : Bool) → row_at s q ≡ cond b (row_at s q) (row_at s q)
    same true = refl
    same false = refl
inserted_is table keys (c ∷ cs) s q =
    ap (λ b. row_at (insert_all s (cons_option (if matches table keys c.0.key && not b then option_map (λ row. (c.0.key, row)) c.1 else None) (taken_rest table keys cs))) q) (no_later cs c.0.key)
    ∙ by (λ s. inserted_is table keys cs s q) (matches table keys c.0.key) (last_change cs c.0.key) c.1 refl refl
  where
    -- a change that is not taken changes nothing of other keys, nor of its own where a later one is or its row is none
    put : (b : Bool) (x : Option (Option Row)) (o : Option Row) → Option (Key × Row)
    put b x o = if b && not (is_some x) then option_map (λ row. (c.0.key, row)) o else None

    Rest : Type 0
    Rest = (s : State) → row_at (insert_all s (taken_rest table keys cs)) q ≡ cond (matches table keys q) (over (last_change cs q) (row_at s q)) (row_at s q)

    goal : Option (Key × Row) → Option Row → Type 0
    goal p o = row_at (insert_all s (cons_option p (taken_rest table keys cs))) q ≡ cond (matches table keys q) (over (later (last_change cs q) (cond (is_key q c.0.key) (Some o) None)) (row_at s q)) (row_at s q)

    skipped : Rest → (o : Option Row) → (is_key q c.0.key ≡ true → (matches table keys q ≡ false) ⊎ ((is_some (last_change cs q) ≡ true) ⊎ (o ≡ None))) → goal None o
    skipped ih o why = ih s ∙ at (is_key q c.0.key) refl (last_change cs q) refl (matches table keys q) refl
      where
        at : (b : Bool) → is_key q c.0.key ≡ b → (x : Option (Option Row)) → last_change cs q ≡ x → (d : Bool) → matches table keys q ≡ d
            → cond d (over x (row_at s q)) (row_at s q) ≡ cond d (over (later x (cond b (Some o) None)) (row_at s q)) (row_at s q)
        at b is x x_is false d_is = refl
        at false is None x_is true d_is = refl
        at false is (Some y) x_is true d_is = refl
        at true is (Some y) x_is true d_is = refl
        at true is None x_is true d_is = reason (why is)
          where
            reason : (matches table keys q ≡ false) ⊎ ((is_some (last_change cs q) ≡ true) ⊎ (o ≡ None)) → row_at s q ≡ over (Some o) (row_at s q)
            reason (inl not_taken) = let clash : ◌≡◌ {A = Bool} true false = sym d_is ∙ not_taken in cc
            reason (inr (inl some)) = let clash : ◌≡◌ {A = Bool} false true = sym (ap is_some x_is) ∙ some in cc
            reason (inr (inr none)) = ap (λ o. over (Some o) (row_at s q)) (sym none)

    by : Rest → (b : Bool) (x : Option (Option Row)) (o : Option Row) → matches table keys c.0.key ≡ b → last_change cs c.0.key ≡ x
        → row_at (insert_all s (cons_option (if matches table keys c.0.key && not (is_some (last_change cs c.0.key)) then option_map (λ row. (c.0.key, row)) o else None) (taken_rest table keys cs))) q
        ≡ cond (matches table keys q) (over (later (last_change cs q) (cond (is_key q c.0.key) (Some o) None)) (row_at s q)) (row_at s q)
    by ih b x o b_is x_is = subst (λ p. goal p o) (λ i. put (sym b_is i) (sym x_is i) o) (cases ih b x o b_is x_is)
      where
        own : (f : Key → Bool) (b : Bool) → f c.0.key ≡ b → is_key q c.0.key ≡ true → f q ≡ b
        own f b is at = ap f (same_key q c.0.key at) ∙ is

        cases : Rest → (b : Bool) (x : Option (Option Row)) (o : Option Row) → matches table keys c.0.key ≡ b → last_change cs c.0.key ≡ x → goal (put b x o) o
        cases ih false x o b_is x_is = skipped ih o (λ at. inl (own (matches table keys) false b_is at))
        cases ih true (Some y) o b_is x_is = skipped ih o (λ at. inr (inl (own (λ k. is_some (last_change cs k)) true (ap is_some x_is) at)))
        cases ih true None None b_is x_is = skipped ih None (λ at. inr (inr refl))
        cases ih true None (Some r) b_is x_is =
            ih (insert_entry key_cmp s c.0.key r)
            ∙ ap (λ p. cond (matches table keys q) (over (last_change cs q) p) p) (lookup-insert_entry key_cmp_total q c.0.key r s)
            ∙ at (is_key q c.0.key) refl
          where
            at : (b : Bool) → is_key q c.0.key ≡ b → cond (matches table keys q) (over (last_change cs q) (cond b (Some r) (row_at s q))) (cond b (Some r) (row_at s q))
                ≡ cond (matches table keys q) (over (later (last_change cs q) (cond b (Some (Some r)) None)) (row_at s q)) (row_at s q)
            at false is = ap (λ x. cond (matches table keys q) (over x (row_at s q)) (row_at s q)) (still (last_change cs q))
              where
                still : (x : Option (Option Row)) → x ≡ later x None
                still None = refl
                still (Some y) = refl
            at true is =
                let mine : matches table keys q ≡ true = own (matches table keys) true b_is is in
                let last : last_change cs q ≡ None = ap (last_change cs) (same_key q c.0.key is) ∙ x_is in
                (λ i. cond (mine i) (over (last i) (Some r)) (Some r)) ∙ sym (λ i. cond (mine i) (over (later (last i) (Some (Some r))) (row_at s q)) (row_at s q))

-- ---- in order by key

-- changes behind one, none of which is of its key, are of greater keys
none_tied : (schema : Schema) (c : Point × Option Row) (cs : Changes) → IsKeyIn schema c.0.key → AllByRecursion (λ d. IsKeyIn schema d.0.key) cs → AllByRecursion (λ d. event_cmp (event_of c) d ≡ Less) (events_of cs) → has_later c.0.key cs ≡ false
    → AllByRecursion (λ d. key_cmp c.0.key d.0.key ≡ Less) cs
none_tied schema c [] hc hk hs h = tt
none_tied schema c (d ∷ cs) hc hk hs h =
    let apart = neither (is_key c.0.key d.0.key) (has_later c.0.key cs) h in (
      lesser (key_cmp c.0.key d.0.key) (nat_cmp c.0.instant d.0.instant) (ap (λ o. ordering_then o (nat_cmp c.0.instant d.0.instant)) (sym (keys_compare schema c.0.key d.0.key hc hk.0)) ∙ hs.0) apart.0,
      none_tied schema c cs hc hk.1 hs.1 apart.1,
    )
  where
    neither : (a b : Bool) → (a || b) ≡ false → (a ≡ false) × (b ≡ false)
    neither true b h = cc
    neither false b h = (refl, h)

    lesser : (o p : Ordering) → ordering_then o p ≡ Less → is_eq o ≡ false → o ≡ Less
    lesser Less p is other = refl
    lesser Equal p is other = cc
    lesser Greater p is other = cc

module _ (table : Table) (keys : Keys) where
  below_taken : (k : Key) (cs : Changes) → AllByRecursion (λ d. key_cmp k d.0.key ≡ Less) cs → T (below_all key_cmp k (taken_rest table keys cs))
  below_taken k [] h = tt
  below_taken k (d ∷ cs) h = by (matches table keys d.0.key && not (has_later d.0.key cs)) d.1 (below_taken k cs h.1)
    where
      by : (b : Bool) (o : Option Row) → T (below_all key_cmp k (taken_rest table keys cs)) → T (below_all key_cmp k (cons_option (if b then option_map (λ row. (d.0.key, row)) o else None) (taken_rest table keys cs)))
      by true (Some row) rest = both _ _ (subst (λ o. T (is_lt o)) (sym h.0) tt) rest
      by true None rest = rest
      by false o rest = rest

  -- of each key the last change alone is taken
  sorted_taken : (schema : Schema) (t : ℕ) (m : Changes) → AreSeen schema t m → T (is_sorted key_cmp (taken_rest table keys m))
  sorted_taken schema t [] h = tt
  sorted_taken schema t (c ∷ cs) h = by (matches table keys c.0.key) (has_later c.0.key cs) c.1 refl (sorted_taken schema t cs (rest_seen schema t c cs h))
    where
      by : (b l : Bool) (o : Option Row) → has_later c.0.key cs ≡ l → T (is_sorted key_cmp (taken_rest table keys cs))
          → T (is_sorted key_cmp (cons_option (if b && not l then option_map (λ row. (c.0.key, row)) o else None) (taken_rest table keys cs)))
      by true false (Some row) last rest =
          both _ _ (below_taken c.0.key cs (none_tied schema c cs h.keys.0 h.keys.1 (sorted_head event_cmp (event_of c) (events_of cs) h.sorted) last)) rest
      by true false None last rest = rest
      by true true o last rest = rest
      by false l o last rest = rest

insert_behind : (e : Key × Row) (s es : State) → T (below_all key_cmp e.0 es) → insert_all (e ∷ s) es ≡ e ∷ insert_all s es
insert_behind e s [] h = refl
insert_behind e s (d ∷ es) h =
    ap (λ o. insert_all (match_ordering o (d ∷ e ∷ s) ((e.0, d.1) ∷ s) (e ∷ insert_entry key_cmp s d.0 d.1)) es)
    (key_cmp_total.antisymm d.0 e.0 ∙ ap ordering_reverse (is_less (key_cmp e.0 d.0) (first _ _ h)))
    ∙ insert_behind e (insert_entry key_cmp s d.0 d.1) es (second _ _ h)

-- rows in order are inserted as they are
insert_rising : (es : State) → T (is_sorted key_cmp es) → insert_all [] es ≡ es
insert_rising [] h = refl
insert_rising (e ∷ es) h = insert_behind e [] es (first _ _ h) ∙ ap (λ l. e ∷ l) (insert_rising es (second _ _ h))

sorted_inserted : (es s : State) → T (is_sorted key_cmp s) → T (is_sorted key_cmp (insert_all s es))
sorted_inserted [] s h = h
sorted_inserted (e ∷ es) s h = sorted_inserted es _ (sorted_insert key_cmp_total s e.0 e.1 h)

-- the rows of the events that stand and that the keys take
pub base_is : (schema : Schema) (table : Table) (keys : Keys) (t : ℕ) (m : Changes) → table_at schema table.number ≡ Some table → keys.table ≡ table.number → AreSeen schema t m
    → filter_map (entry_taken table keys) (standing (events_of m) (is_of_table table.number) t) ≡ filter (λ e. matches table keys e.0) (rows_after [] m)
base_is schema table keys t m at same h =
    taken_is schema table keys t m at same h
    ∙ sym (insert_rising (taken_rest table keys m) (sorted_taken table keys schema t m h))
    ∙ same_map key_cmp_total key_cmp-IsAntisymmetric (insert_all [] (taken_rest table keys m)) (filter (λ e. matches table keys e.0) (rows_after [] m))
    (sorted_inserted (taken_rest table keys m) [] tt) (is_sorted-where_key key_cmp (matches table keys) (rows_after [] m) (sorted_base m))
    (λ q. inserted_is table keys m [] q ∙ by q (matches table keys q) (last_change m q) ∙ ap (λ o. cond (matches table keys q) o None) (sym (after_is m [] q tt)) ∙ sym (lookup-filter (matches table keys) q (rows_after [] m)))
  where
    by : (q : Key) (b : Bool) (x : Option (Option Row)) → cond b (over x None) None ≡ cond b (upon x None) None
    by q true None = refl
    by q true (Some None) = refl
    by q true (Some (Some r)) = refl
    by q false x = refl

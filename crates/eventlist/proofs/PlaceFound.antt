-- The last event of a key is found by its place.
use Rattle.std.proofs.Common.{◌≡◌, ℕ, ◌-◌, ◌<◌, ◌≤◌, Bool, true, false, ◌&&◌, List, [], ◌∷◌, Option, Some, None, refl, sym, ap, subst, ◌∙◌, arith, zero, suc, length, get_or, nat_le, nat_lt, not, if◌then◌else◌, ◌+◌}
use Rattle.std.proofs.lemmas.Bool.{and_parts}
use Rattle.std.specs.Ordering.{nat_cmp, ordering_then, ordering_reverse, is_eq, is_lt, match_ordering}
use Rattle.std.specs.declared.cmp.Ordering.{Ordering}
use Rattle.std.specs.declared.cmp.Ordering.TheVariants.{Less, Equal, Greater}
use Rattle.std.specs.List.{AllByRecursion, AllWithin, slice_get}
use Rattle.std.specs.List.Sorted.{IsStrictlySortedBy, IsPartitionedBy}
use Rattle.std.proofs.lemmas.Bool.Decides.{nat_tests}
use Rattle.std.proofs.lemmas.List.Elements.{All-from_recursion}
use Rattle.std.proofs.lemmas.Option.{slice_get-get_or, slice_get_read}
use Rattle.values.specs.Event.{Event}
use Rattle.values.specs.Events.{bytes_cmp, is_bytes, event_cmp, later, event_until, event_since}
use Rattle.eventlist.specs.Place.{AreFirst, is_until, of_key, last_event, since}
use Rattle.eventlist.proofs.ListingRanges.{not_above}
use Rattle.eventlist.proofs.PlaceParts.{first_same}
use Rattle.eventlist.proofs.PlaceOrder.{bytes_total, bytes_exact, is_bytes_back, same_bytes, bytes_tie, is_lower, sorted_head, sorted_tail, partitioned, within_tail, within_rest, within_head}

at_most : (i j : ℕ) → nat_le i j ≡ true → i ≤ j
at_most i j e = grind (arith, nat_tests)

is_at_most : (i j : ℕ) → i ≤ j → nat_le i j ≡ true
is_at_most i j h = grind (arith, nat_tests)

-- what is before an event that comes until a point comes until then
until_before : (key : List ℕ) (t : ℕ) (d e : Event) → event_cmp d e ≡ Less → is_until key t e ≡ true → is_until key t d ≡ true
until_before key t d e h up = by (bytes_cmp d.key e.key) (bytes_cmp e.key key) refl refl h up
  where
    in_time : (o : Ordering) → nat_cmp d.at e.at ≡ Less → match_ordering o true (nat_le e.at t) false ≡ true → match_ordering o true (nat_le d.at t) false ≡ true
    in_time Less h up = refl
    in_time Equal h up =
        let lower : d.at < e.at = less d.at e.at h in let le : e.at ≤ t = at_most e.at t up in is_at_most d.at t (omega arith)
      where
        less : (i j : ℕ) → nat_cmp i j ≡ Less → i < j
        less i j e = (is_lower (record { key = []; at = i; row = None }) (record { key = []; at = j; row = None }) e).same refl
    in_time Greater h up = up

    by : (a b : Ordering) → bytes_cmp d.key e.key ≡ a → bytes_cmp e.key key ≡ b → ordering_then a (nat_cmp d.at e.at) ≡ Less → match_ordering b true (nat_le e.at t) false ≡ true
        → match_ordering (bytes_cmp d.key key) true (nat_le d.at t) false ≡ true
    by Less Less p q h up = ap (λ o. match_ordering o true (nat_le d.at t) false) (bytes_total.trans d.key e.key key p q)
    by Less Equal p q h up = ap (λ o. match_ordering o true (nat_le d.at t) false) (subst (λ k. bytes_cmp d.key k ≡ Less) (bytes_exact e.key key q) p)
    by Less Greater p q h up = cc
    by Equal b p q h up =
        ap (λ o. match_ordering o true (nat_le d.at t) false) (bytes_total.congr d.key e.key key p ∙ q) ∙ in_time b h up
    by Greater b p q h up = cc

pub until_parts : (key : List ℕ) (t : ℕ) (es : List Event) → IsStrictlySortedBy event_cmp es → IsPartitionedBy (is_until key t) es
until_parts key t es h = partitioned event_cmp (is_until key t) (until_before key t) es h

-- past the point there is no event until then
not_until : (key : List ℕ) (t : ℕ) (e : Event) → is_until key t e ≡ false → (is_bytes key e.key && nat_le e.at t) ≡ false
not_until key t e h = ap (λ b. b && nat_le e.at t) (is_bytes_back key e.key) ∙ by (bytes_cmp e.key key) h
  where
    by : (o : Ordering) → match_ordering o true (nat_le e.at t) false ≡ false → (is_eq o && nat_le e.at t) ≡ false
    by Less h = refl
    by Equal h = h
    by Greater h = refl

none_until : (key : List ℕ) (t : ℕ) (es : List Event) → AllWithin (λ e. is_until key t e ≡ false) es 0 (length es) → event_until es key t ≡ None
none_until key t [] h = refl
none_until key t (e ∷ es) h =
    λ i. later (none_until key t es (within_rest (λ e. is_until key t e ≡ false) e es (length es) h) i) (if not_until key t e (within_head (λ e. is_until key t e ≡ false) e es (length es) h) i then Some e else None)

-- an event of the key that comes until the point is in time
in_time : (key : List ℕ) (t : ℕ) (e : Event) → is_until key t e ≡ true → (is_bytes key e.key && nat_le e.at t) ≡ is_bytes key e.key
in_time key t e h = ap (λ b. b && nat_le e.at t) (is_bytes_back key e.key) ∙ by (bytes_cmp e.key key) h ∙ sym (is_bytes_back key e.key)
  where
    by : (o : Ordering) → match_ordering o true (nat_le e.at t) false ≡ true → (is_eq o && nat_le e.at t) ≡ is_eq o
    by Less h = refl
    by Equal h = h
    by Greater h = cc

-- before an event of a lesser key there is none of the key
none_before : (key : List ℕ) (t : ℕ) (e last : Event) → event_cmp e last ≡ Less → is_until key t last ≡ true → is_bytes key last.key ≡ false → is_bytes key e.key ≡ false
none_before key t e last h up other = by (bytes_cmp last.key key) refl up (sym (is_bytes_back key last.key) ∙ other)
  where
    lower : bytes_cmp last.key key ≡ Less → is_bytes key e.key ≡ false
    lower less = within (is_bytes key e.key) refl
      where
        within : (b : Bool) → is_bytes key e.key ≡ b → b ≡ false
        within false is = refl
        within true is =
            let same : key ≡ e.key = same_bytes key e.key is in
            let above : bytes_cmp last.key e.key ≡ Less = subst (λ k. bytes_cmp last.key k ≡ Less) same less in
            absurd (apart same above)
          where
            apart : key ≡ e.key → bytes_cmp last.key e.key ≡ Less → ⊥
            apart same above = both (bytes_cmp e.key last.key) refl
              where
                both : (o : Ordering) → bytes_cmp e.key last.key ≡ o → ⊥
                both Less is = let loop : bytes_cmp e.key e.key ≡ Less = bytes_total.trans e.key last.key e.key is above in let tie = bytes_tie e.key in cc
                both Equal is = let loop : bytes_cmp e.key e.key ≡ Less = bytes_total.congr e.key last.key e.key is ∙ above in let tie = bytes_tie e.key in cc
                both Greater is = let never : ◌≡◌ {A = Ordering} Greater Less = sym (ap (λ o. ordering_then o (nat_cmp e.at last.at)) is) ∙ h in cc

    by : (o : Ordering) → bytes_cmp last.key key ≡ o → match_ordering o true (nat_le last.at t) false ≡ true → is_eq o ≡ false → is_bytes key e.key ≡ false
    by Less is up other = lower is
    by Equal is up other = cc
    by Greater is up other = cc

-- of the events until the point the last decides
pub last_decides : (key : List ℕ) (t : ℕ) (es : List Event) (n : ℕ) → IsStrictlySortedBy event_cmp es → suc n ≤ length es → AreFirst (is_until key t) es (suc n)
    → event_until es key t ≡ of_key key (slice_get es n)
last_decides key t [] n sorted le h = absurd (omega arith)
last_decides key t (e ∷ es) zero sorted le h =
    ap (λ o. later o (if is_bytes key e.key && nat_le e.at t then Some e else None)) (none_until key t es (within_tail (λ e. is_until key t e ≡ false) e es 0 (length es) h.1))
    ∙ ap (λ b. if b then Some e else None) (in_time key t e (within_head (λ e. is_until key t e ≡ true) e es 0 h.0))
last_decides key t (e ∷ es) (suc n) sorted le h =
    ap (λ o. later o (if is_bytes key e.key && nat_le e.at t then Some e else None))
    (last_decides key t es n (sorted_tail event_cmp e es sorted) (omega arith) (within_rest (λ e. is_until key t e ≡ true) e es (suc n) h.0, within_tail (λ e. is_until key t e ≡ false) e es (suc n) (length es) h.1))
    ∙ subst (λ o. later (of_key key o) mine ≡ of_key key o) (sym (slice_get-get_or es n e (omega arith)))
    (by_key (is_bytes key (get_or es n e).key) refl)
  where
    mine : Option Event
    mine = if is_bytes key e.key && nat_le e.at t then Some e else None

    by_key : (b : Bool) → is_bytes key (get_or es n e).key ≡ b → later (of_key key (Some (get_or es n e))) mine ≡ of_key key (Some (get_or es n e))
    by_key true is = subst (λ b. later (if b then Some (get_or es n e) else None) mine ≡ (if b then Some (get_or es n e) else None)) (sym is) refl
    by_key false is =
        let lower : event_cmp e (get_or es n e) ≡ Less = All-from_recursion (λ y. event_cmp e y ≡ Less) es (sorted_head event_cmp e es sorted) n e (omega arith) in
        let none : is_bytes key e.key ≡ false = none_before key t e (get_or es n e) lower (h.0 (suc n) e (omega arith) (omega arith)) is in
        subst (λ b. later (if b then Some (get_or es n e) else None) mine ≡ (if b then Some (get_or es n e) else None)) (sym is) (ap (λ b. if b && nat_le e.at t then Some e else None) none)

pub none_at : (key : List ℕ) (t : ℕ) (es : List Event) (n : ℕ) → n ≡ 0 → AreFirst (is_until key t) es n → event_until es key t ≡ None
none_at key t es n is h = none_until key t es (λ k d low high. h.1 k d (omega arith) high)

pub found_at : (key : List ℕ) (t : ℕ) (es : List Event) (n : ℕ) (last : Event) → ¬ (n ≡ 0) → n ≤ length es → IsStrictlySortedBy event_cmp es → AreFirst (is_until key t) es n → last ≡ get_or es (n - 1) last
    → of_key key (Some last) ≡ event_until es key t
found_at key t es n last some le sorted h is =
    let back : n ≡ suc (n - 1) = one_up n some in
    let there : slice_get es (n - 1) ≡ Some last = slice_get_read es (length es) (n - 1) last refl (omega arith) is in
    ap (of_key key) (sym there) ∙ sym (last_decides key t es (n - 1) sorted (omega arith) (subst (AreFirst (is_until key t) es) back h))
  where
    one_up : (n : ℕ) → ¬ (n ≡ 0) → n ≡ suc (n - 1)
    one_up n h = omega (arith, h)

-- ---- the last event of a key since an instant

pub found_in : (P : Event → Type 0) (es : List Event) (key : List ℕ) (t : ℕ) (d : Event) → AllByRecursion P es → event_until es key t ≡ Some d → P d × (is_bytes key d.key ≡ true)
found_in P [] key t d h is = cc
found_in P (e ∷ es) key t d h is = by (event_until es key t) (is_bytes key e.key && nat_le e.at t) refl refl is (λ k. found_in P es key t d h.1 k)
  where
    by : (o : Option Event) (b : Bool) → event_until es key t ≡ o → (is_bytes key e.key && nat_le e.at t) ≡ b → later o (if b then Some e else None) ≡ Some d
        → (event_until es key t ≡ Some d → P d × (is_bytes key d.key ≡ true)) → P d × (is_bytes key d.key ≡ true)
    by (Some x) b at b_is is more = more (at ∙ is)
    by None true at b_is is more = let same : e ≡ d = cc in subst (λ d. P d × (is_bytes key d.key ≡ true)) same (h.0, (and_parts (is_bytes key e.key) (nat_le e.at t) b_is).0)
    by None false at b_is is more = cc

pub since_is : (es : List Event) (start : ℕ) (key : List ℕ) (t : ℕ) → IsStrictlySortedBy event_cmp es → AllByRecursion (λ e. e.at ≤ t) es → event_since es start key ≡ since start (event_until es key t)
since_is [] start key t sorted upto = refl
since_is (e ∷ es) start key t sorted upto =
    ap (λ o. later o (if is_bytes key e.key && nat_lt start e.at then Some e.at else None)) (since_is es start key t (sorted_tail event_cmp e es sorted) upto.1)
    ∙ by (event_until es key t) (is_bytes key e.key) refl refl
    ∙ ap (λ b. since start (later (event_until es key t) (if is_bytes key e.key && b then Some e else None))) (sym (is_at_most e.at t upto.0))
  where
    kept : (b : Bool) → (if b && true then Some e else None) ≡ (if b then Some e else None)
    kept true = refl
    kept false = refl

    none_since : (d : Event) → d.at ≤ start → nat_lt start d.at ≡ false
    none_since d h = grind (arith, nat_tests)

    earlier : (i : ℕ) → i ≤ start → nat_lt start i ≡ false
    earlier i h = grind (arith, nat_tests)

    not_lt : (i : ℕ) → nat_lt start i ≡ false → i ≤ start
    not_lt i h = grind (arith, nat_tests)

    later_one : (d : Event) (c : Bool) → event_until es key t ≡ Some d → is_bytes key e.key ≡ true → nat_lt start d.at ≡ c
        → later (if c then Some d.at else None) (if nat_lt start e.at then Some e.at else None) ≡ (if c then Some d.at else None)
    later_one d true at mine is = refl
    later_one d false at mine is =
        let found = found_in (λ y. event_cmp e y ≡ Less) es key t d (sorted_head event_cmp e es sorted) at in
        let same : e.key ≡ d.key = sym (same_bytes key e.key mine) ∙ same_bytes key d.key found.1 in
        let less : e.at < d.at = (is_lower e d found.0).same same in
        ap (λ b. if b then Some e.at else None) (earlier e.at (let le : d.at ≤ start = not_lt d.at is in omega arith))

    by : (o : Option Event) (b : Bool) → event_until es key t ≡ o → is_bytes key e.key ≡ b
        → later (since start (event_until es key t)) (if is_bytes key e.key && nat_lt start e.at then Some e.at else None)
        ≡ since start (later (event_until es key t) (if is_bytes key e.key && true then Some e else None))
    by o b at mine = subst (λ o. later (since start o) (if is_bytes key e.key && nat_lt start e.at then Some e.at else None) ≡ since start (later o (if is_bytes key e.key && true then Some e else None))) (sym at)
        (subst (λ b. later (since start o) (if b && nat_lt start e.at then Some e.at else None) ≡ since start (later o (if b && true then Some e else None))) (sym mine) (cases o b at mine))
      where
        cases : (o : Option Event) (b : Bool) → event_until es key t ≡ o → is_bytes key e.key ≡ b
            → later (since start o) (if b && nat_lt start e.at then Some e.at else None) ≡ since start (later o (if b && true then Some e else None))
        cases (Some d) true at mine = later_one d (nat_lt start d.at) at mine refl
        cases (Some d) false at mine = none (nat_lt start d.at)
          where
            none : (c : Bool) → later (if c then Some d.at else None) None ≡ (if c then Some d.at else None)
            none true = refl
            none false = refl
        cases None true at mine = refl
        cases None false at mine = refl

-- an instant that no event is after
abbrev top : List Event → ℕ
top [] = 0
top (e ∷ es) = e.at + top es

upto_top : (es : List Event) (more : ℕ) → AllByRecursion (λ e. e.at ≤ more + top es) es
upto_top [] more = tt
upto_top (e ∷ es) more = (omega arith, subst (λ t. AllByRecursion (λ d. d.at ≤ t) es) (omega arith) (upto_top es (more + e.at)))

upto_own : (es : List Event) → AllByRecursion (λ e. e.at ≤ top es) es
upto_own es = subst (λ t. AllByRecursion (λ d. d.at ≤ t) es) (omega arith) (upto_top es 0)

until_top : (key : List ℕ) (t : ℕ) (es : List Event) → AllByRecursion (λ e. e.at ≤ t) es → event_until es key t ≡ last_event es key
until_top key t [] h = refl
until_top key t (e ∷ es) h =
    ap (λ o. later o (if is_bytes key e.key && nat_le e.at t then Some e else None)) (until_top key t es h.1)
    ∙ ap (λ b. later (last_event es key) (if is_bytes key e.key && b then Some e else None)) (is_at_most e.at t h.0)
    ∙ kept (is_bytes key e.key)
  where
    kept : (b : Bool) → later (last_event es key) (if b && true then Some e else None) ≡ later (last_event es key) (if b then Some e else None)
    kept true = refl
    kept false = refl

-- since an instant there is the last event of the key, or none
pub since_last : (es : List Event) (start : ℕ) (key : List ℕ) → IsStrictlySortedBy event_cmp es → since start (last_event es key) ≡ event_since es start key
since_last es start key sorted =
    ap (since start) (sym (until_top key (top es) es (upto_own es))) ∙ sym (since_is es start key (top es) sorted (upto_own es))

not_above_until : (key : List ℕ) (t : ℕ) (e : Event) → e.at ≤ t → not_above key e ≡ is_until key t e
not_above_until key t e le = ap not (ap is_lt (bytes_total.antisymm key e.key)) ∙ by (bytes_cmp e.key key) (is_at_most e.at t le)
  where
    by : (o : Ordering) → nat_le e.at t ≡ true → not (is_lt (ordering_reverse o)) ≡ match_ordering o true (nat_le e.at t) false
    by Less is = refl
    by Equal is = sym is
    by Greater is = refl

until_parted : (key : List ℕ) (es : List Event) (n : ℕ) → n ≤ length es → AreFirst (not_above key) es n → AreFirst (is_until key (top es)) es n
until_parted key es n le h =
    first_same (not_above key) (is_until key (top es)) es n le
    (All-from_recursion (λ e. not_above key e ≡ is_until key (top es) e) es (each es (upto_own es))) h
  where
    each : (ds : List Event) → AllByRecursion (λ e. e.at ≤ top es) ds → AllByRecursion (λ e. not_above key e ≡ is_until key (top es) e) ds
    each [] h = tt
    each (d ∷ ds) h = (not_above_until key (top es) d h.0, each ds h.1)

pub no_last : (key : List ℕ) (es : List Event) (n : ℕ) → n ≡ 0 → n ≤ length es → AreFirst (not_above key) es n → last_event es key ≡ None
no_last key es n is le h = sym (until_top key (top es) es (upto_own es)) ∙ none_at key (top es) es n is (until_parted key es n le h)

pub last_found : (key : List ℕ) (es : List Event) (n : ℕ) (last : Event) → ¬ (n ≡ 0) → n ≤ length es → IsStrictlySortedBy event_cmp es → AreFirst (not_above key) es n → last ≡ get_or es (n - 1) last
    → of_key key (Some last) ≡ last_event es key
last_found key es n last some le sorted h is = found_at key (top es) es n last some le sorted (until_parted key es n le h) is ∙ until_top key (top es) es (upto_own es)

-- From key to key: the events of one key stand together, and of them one alone may stand at an instant.
use Rattle.std.proofs.Common.{◌≡◌, ℕ, ◌-◌, ◌<◌, ◌≤◌, Bool, true, false, ◌&&◌, ◌||◌, List, [], ◌∷◌, ◌++◌, refl, sym, ap, subst, ◌∙◌, arith, zero, suc, length, get_or, take, cond, nat_le, nat_lt, not, is_some, filter, min, length-take, get_or-take, append_assoc}
use Rattle.std.proofs.lemmas.Option.{slice_get-get_or}
use Rattle.std.specs.Ordering.{nat_cmp, ordering_then, match_ordering, is_lt}
use Rattle.std.specs.declared.cmp.Ordering.{Ordering}
use Rattle.std.specs.declared.cmp.Ordering.TheVariants.{Less, Equal, Greater}
use Rattle.std.specs.List.{AllByRecursion, AllWithin, slice_get, list_any}
use Rattle.std.specs.List.Sorted.{IsStrictlySortedBy, IsPartitionedBy}
use Rattle.std.proofs.lemmas.Bool.Decides.{nat_tests}
use Rattle.std.proofs.lemmas.List.Elements.{All-nil, All-cons, filter-append, recursion_from_All}
use Rattle.std.proofs.lemmas.List.Folds.{list_any-append}
use Rattle.values.specs.Event.{Event}
use Rattle.values.specs.Events.{bytes_cmp, event_cmp}
use Rattle.keyrange.specs.Range.{is_below}
use Rattle.eventlist.specs.Overtaking.{overtakes, is_overtaken}
use Rattle.eventlist.specs.Listing.{stands_at, standing}
use Rattle.eventlist.specs.Place.{AreFirst, is_until}
use Rattle.eventlist.specs.KeyGroup.{is_up_to, first_key, AreOfKey, AreAbove}
use Rattle.eventlist.proofs.PlaceOrder.{bytes_tie, bytes_exact, is_lower, sorted_head, sorted_tail, within_tail, within_rest, within_head}
use Rattle.eventlist.proofs.OvertakingNext.{overtakes_is, is_overtakes, never, not_earlier, stands_before, stands_is}
use Rattle.eventlist.proofs.ListingRanges.{not_above, not_above_parts, none_pass}
use Rattle.eventlist.proofs.PlaceFound.{until_parts}
use Rattle.eventlist.proofs.PlaceParts.{same_filter}

-- ---- the first key's events

not_below_itself : (key : List ℕ) → is_below key key ≡ false
not_below_itself key = ap is_lt (bytes_tie key)

-- what is behind an event in order and not above its key is of its key
same_key : (x y : Event) → event_cmp x y ≡ Less → not_above x.key y ≡ true → y.key ≡ x.key
same_key x y h up = by (bytes_cmp x.key y.key) refl h up
  where
    by : (o : Ordering) → bytes_cmp x.key y.key ≡ o → ordering_then o (nat_cmp x.at y.at) ≡ Less → not (is_lt (bytes_cmp x.key y.key)) ≡ true → y.key ≡ x.key
    by Less is h up = let clash : ◌≡◌ {A = Bool} false true = sym (ap (λ o. not (is_lt o)) is) ∙ up in cc
    by Equal is h up = sym (bytes_exact x.key y.key is)
    by Greater is h up = cc

of_first : (x : Event) (ys : List Event) (n : ℕ) → AllByRecursion (λ y. event_cmp x y ≡ Less) ys → AllWithin (λ y. not_above x.key y ≡ true) ys 0 n → n ≤ length ys → AreOfKey x.key (take n ys)
of_first x ys zero h up le = All-nil (λ (e : Event). e.key ≡ x.key)
of_first x [] (suc n) h up le = All-nil (λ (e : Event). e.key ≡ x.key)
of_first x (y ∷ ys) (suc n) h up le =
    All-cons (λ (e : Event). e.key ≡ x.key) y (take n ys) (same_key x y h.0 (within_head (λ y. not_above x.key y ≡ true) y ys n up)) (of_first x ys n h.1 (within_rest (λ y. not_above x.key y ≡ true) y ys n up) (omega arith))

pub first_is : (es : List Event) (e : Event) → 0 < length es → e ≡ get_or es 0 e → e.key ≡ first_key es
first_is [] e some is = absurd (omega arith)
first_is (x ∷ xs) e some is = ap (λ (e : Event). e.key) is

pub one_key_is : (es : List Event) (n : ℕ) → IsStrictlySortedBy event_cmp es → n ≤ length es → AreFirst (not_above (first_key es)) es n → AreOfKey (first_key es) (take n es)
one_key_is es zero sorted le h = All-nil (λ (e : Event). e.key ≡ first_key es)
one_key_is [] (suc n) sorted le h = absurd (omega arith)
one_key_is (x ∷ xs) (suc n) sorted le h =
    All-cons (λ (e : Event). e.key ≡ x.key) x (take n xs) refl (of_first x xs n (sorted_head event_cmp x xs sorted) (within_rest (λ y. not_above x.key y ≡ true) x xs n h.0) (omega arith))

pub some_first : (es : List Event) (n : ℕ) → 0 < length es → AreFirst (not_above (first_key es)) es n → 0 < n
some_first es (suc n) some h = omega arith
some_first [] zero some h = absurd (omega arith)
some_first (x ∷ xs) zero some h =
    let clash : ◌≡◌ {A = Bool} true false = sym (ap not (not_below_itself x.key)) ∙ within_head (λ y. not_above x.key y ≡ false) x xs (length xs) h.1 in cc

-- from a place on that is past the key there is none of it
pub past_none : (key : List ℕ) (es : List Event) (reach r : ℕ) → IsStrictlySortedBy event_cmp es → is_up_to key (slice_get es reach) ≡ false → r ≡ min reach (length es) → AllWithin (λ e. not_above key e ≡ false) es r (length es)
past_none key es reach r sorted is least k d low high = by (not_above key (get_or es k d)) refl
  where
    inside : reach ≤ k
    inside = grind (arith, least)

    there : not_above key (get_or es reach d) ≡ false
    there = ap (is_up_to key) (sym (slice_get-get_or es reach d (omega (arith, inside)))) ∙ is

    by : (b : Bool) → not_above key (get_or es k d) ≡ b → b ≡ false
    by false e = refl
    by true e = sym (not_above_parts key es sorted reach k d inside high e) ∙ there

-- the place of a key among the first events is its place where behind them there is none of it
pub first_within : (p : Event → Bool) (es : List Event) (r n : ℕ) → r ≤ length es → n ≤ length (take r es) → AllWithin (λ e. p e ≡ false) es r (length es) → AreFirst p (take r es) n → AreFirst p es n
first_within p es r n le bound none h = (
  λ k d low high. sym (ap p (get_or-take r es k d (omega (arith, few)))) ∙ h.0 k d low high,
  λ k d low high. by k d low high (nat_lt k r) refl,
)
  where
    few : length (take r es) ≡ min r (length es)
    few = length-take r es

    by : (k : ℕ) (d : Event) → n ≤ k → k < length es → (b : Bool) → nat_lt k r ≡ b → p (get_or es k d) ≡ false
    by k d low high true is = sym (ap p (get_or-take r es k d (below k r is))) ∙ h.1 k d low (let lt : k < r = below k r is in grind (arith, few))
      where
        below : (i j : ℕ) → nat_lt i j ≡ true → i < j
        below i j e = grind (arith, nat_tests)
    by k d low high false is = none k d (above k r is) high
      where
        above : (i j : ℕ) → nat_lt i j ≡ false → j ≤ i
        above i j e = grind (arith, nat_tests)

-- ---- of one key's events

until_is : (key : List ℕ) (t : ℕ) (e : Event) → e.key ≡ key → is_until key t e ≡ nat_le e.at t
until_is key t e same = ap (λ o. match_ordering o true (nat_le e.at t) false) (ap (λ k. bytes_cmp k key) same ∙ bytes_tie key)

-- where all are of one key the instant alone decides, and in their order it parts them
pub instants_part : (key : List ℕ) (t : ℕ) (es : List Event) → IsStrictlySortedBy event_cmp es → AreOfKey key es → IsPartitionedBy (λ e. nat_le e.at t) es
instants_part key t es sorted one i j d le lt up =
    sym (until_is key t (get_or es i d) (one i d (omega (arith, le, lt))))
    ∙ until_parts key t es sorted i j d le lt (until_is key t (get_or es j d) (one j d lt) ∙ up)

abbrev lasting : List Event → ℕ → List Event
lasting es t = filter (stands_at es t) es

not_by_earlier : (x : Event) (xs ds : List Event) (t : ℕ) → AllByRecursion (λ y. event_cmp x y ≡ Less) ds → AllByRecursion (λ e. stands_at (x ∷ xs) t e ≡ stands_at xs t e) ds
unfolding stands_at
not_by_earlier x xs [] t h = tt
not_by_earlier x xs (d ∷ ds) t h = (ap (λ b. nat_le d.at t && (is_some d.row && not (b || list_any (overtakes d t) xs))) (not_earlier x d t h.0), not_by_earlier x xs ds t h.1)

lasting_cons : (x : Event) (xs : List Event) (t : ℕ) → IsStrictlySortedBy event_cmp (x ∷ xs) → lasting (x ∷ xs) t ≡ cond (stands_before x t (slice_get xs 0)) (x ∷ lasting xs t) (lasting xs t)
lasting_cons x xs t sorted =
    ap (λ b. cond b (x ∷ filter (stands_at (x ∷ xs) t) xs) (filter (stands_at (x ∷ xs) t) xs)) (stands_is (x ∷ xs) 0 x t sorted refl)
    ∙ ap (λ l. cond (stands_before x t (slice_get xs 0)) (x ∷ l) l) (same_filter (stands_at (x ∷ xs) t) (stands_at xs t) xs (not_by_earlier x xs xs t (sorted_head event_cmp x xs sorted)))

-- none of those after the instant
pub none_lasting : (es : List Event) (t n : ℕ) → n ≡ 0 → AreFirst (λ e. nat_le e.at t) es n → lasting es t ≡ []
unfolding stands_at
none_lasting es t n is h = none_pass (stands_at es t) (λ e. nat_le e.at t) false late es (λ k d low high. h.1 k d (omega arith) high)
  where
    late : (e : Event) → nat_le e.at t ≡ false → stands_at es t e ≡ false
    late e is = ap (λ b. b && (is_some e.row && not (list_any (overtakes e t) es))) is

one_lasting : (key : List ℕ) (es : List Event) (t i : ℕ) (d : Event) → IsStrictlySortedBy event_cmp es → AllByRecursion (λ e. e.key ≡ key) es → suc i ≤ length es → AreFirst (λ e. nat_le e.at t) es (suc i)
    → lasting es t ≡ cond (is_some (get_or es i d).row) (get_or es i d ∷ []) []
one_lasting key [] t i d sorted one le h = absurd (omega arith)
one_lasting key (x ∷ xs) t zero d sorted one le h =
    lasting_cons x xs t sorted
    ∙ ap (λ l. cond (stands_before x t (slice_get xs 0)) (x ∷ l) l) (none_lasting xs t 0 refl later)
    ∙ ap (λ b. cond b (x ∷ []) []) (ap (λ b. b && (is_some x.row && not (is_overtaken x t (slice_get xs 0)))) (within_head (λ e. nat_le e.at t ≡ true) x xs 0 h.0) ∙ ap (λ b. is_some x.row && not b) (not_yet xs later) ∙ kept (is_some x.row))
  where
    later : AreFirst (λ e. nat_le e.at t) xs 0
    later = (λ k d low high. absurd (omega arith), within_tail (λ e. nat_le e.at t ≡ false) x xs 0 (length xs) h.1)

    kept : (b : Bool) → (b && true) ≡ b
    kept true = refl
    kept false = refl

    not_yet : (ys : List Event) → AreFirst (λ e. nat_le e.at t) ys 0 → is_overtaken x t (slice_get ys 0) ≡ false
    not_yet [] f = refl
    not_yet (y ∷ ys) f = never (overtakes x t y) (λ is. after (overtakes_is x t y is).until (within_head (λ e. nat_le e.at t ≡ false) y ys (length ys) f.1))
      where
        after : y.at ≤ t → nat_le y.at t ≡ false → ⊥
        after le is = let clash : ◌≡◌ {A = Bool} true false = sym (at_most y.at t le) ∙ is in cc
          where
            at_most : (i j : ℕ) → i ≤ j → nat_le i j ≡ true
            at_most i j h = grind (arith, nat_tests)
one_lasting key (x ∷ []) t (suc i) d sorted one le h = absurd (omega arith)
one_lasting key (x ∷ y ∷ ys) t (suc i) d sorted one le h =
    lasting_cons x (y ∷ ys) t sorted
    ∙ ap (λ b. cond (nat_le x.at t && (is_some x.row && not b)) (x ∷ lasting (y ∷ ys) t) (lasting (y ∷ ys) t)) gone
    ∙ ap (λ b. cond b (x ∷ lasting (y ∷ ys) t) (lasting (y ∷ ys) t)) (fails (nat_le x.at t) (is_some x.row))
    ∙ one_lasting key (y ∷ ys) t i d (sorted_tail event_cmp x (y ∷ ys) sorted) one.1 (omega arith) rest
  where
    rest : AreFirst (λ e. nat_le e.at t) (y ∷ ys) (suc i)
    rest = (within_rest (λ e. nat_le e.at t ≡ true) x (y ∷ ys) (suc i) h.0, within_tail (λ e. nat_le e.at t ≡ false) x (y ∷ ys) (suc i) (length (y ∷ ys)) h.1)

    same : x.key ≡ y.key
    same = one.0 ∙ sym one.1.0

    at_most : (i j : ℕ) → nat_le i j ≡ true → i ≤ j
    at_most i j h = grind (arith, nat_tests)

    gone : overtakes x t y ≡ true
    gone = is_overtakes x t y (record { of_key = same; after = (is_lower x y (sorted_head event_cmp x (y ∷ ys) sorted).0).same same; until = at_most y.at t (within_head (λ e. nat_le e.at t ≡ true) y ys i rest.0) })

    fails : (a b : Bool) → (a && (b && false)) ≡ false
    fails true true = refl
    fails true false = refl
    fails false b = refl

-- of one key's events the last until the instant stands, where it is a row
pub one_stands : (es : List Event) (t n : ℕ) (e : Event) → ¬ (n ≡ 0) → IsStrictlySortedBy event_cmp es → AreOfKey (first_key es) es → n ≤ length es → AreFirst (λ e. nat_le e.at t) es n → e ≡ get_or es (n - 1) e
    → lasting es t ≡ cond (is_some e.row) (e ∷ []) []
one_stands es t zero e some sorted one le h is = absurd (some refl)
one_stands es t (suc i) e some sorted one le h is =
    one_lasting (first_key es) es t i e sorted (recursion_from_All (λ (e : Event). e.key ≡ first_key es) es one) le h
    ∙ ap (λ (e : Event). cond (is_some e.row) (e ∷ []) []) (sym (is ∙ (let back : suc i - 1 ≡ i = omega arith in ap (λ k. get_or es k e) back)))

-- ---- one key's events and those behind them

other_key : (key : List ℕ) (d e : Event) (t : ℕ) → d.key ≡ key → is_below key e.key ≡ true → (overtakes d t e ≡ false) × (overtakes e t d ≡ false)
other_key key d e t same above = (
  never (overtakes d t e) (λ is. clash (sym same ∙ (overtakes_is d t e is).of_key)),
  never (overtakes e t d) (λ is. clash (sym same ∙ sym (overtakes_is e t d is).of_key)),
)
  where
    clash : key ≡ e.key → ⊥
    clash k = let never : ◌≡◌ {A = Bool} true false = sym (subst (λ x. is_below key x ≡ true) (sym k) above) ∙ not_below_itself key in cc

module _ (key : List ℕ) (t : ℕ) where
  not_by_others : (e : Event) → e.key ≡ key → (ds : List Event) → AllByRecursion (λ d. is_below key d.key ≡ true) ds → list_any (overtakes e t) ds ≡ false
  not_by_others e same [] h = refl
  not_by_others e same (d ∷ ds) h = ap (λ b. b || list_any (overtakes e t) ds) (other_key key e d t same h.0).0 ∙ not_by_others e same ds h.1

  not_by_first : (e : Event) → is_below key e.key ≡ true → (ds : List Event) → AllByRecursion (λ d. d.key ≡ key) ds → list_any (overtakes e t) ds ≡ false
  not_by_first e above [] h = refl
  not_by_first e above (d ∷ ds) h = ap (λ b. b || list_any (overtakes e t) ds) (other_key key d e t h.0 above).1 ∙ not_by_first e above ds h.1

  or_none : (a : Bool) → (a || false) ≡ a
  or_none true = refl
  or_none false = refl

  of_first_alone : (run behind es : List Event) → AllByRecursion (λ d. is_below key d.key ≡ true) behind → AllByRecursion (λ d. d.key ≡ key) es → AllByRecursion (λ e. stands_at (run ++ behind) t e ≡ stands_at run t e) es
  unfolding stands_at
  of_first_alone run behind [] others h = tt
  of_first_alone run behind (e ∷ es) others h = (
    ap (λ b. nat_le e.at t && (is_some e.row && not b))
        (list_any-append (overtakes e t) run behind ∙ ap (λ b. list_any (overtakes e t) run || b) (not_by_others e h.0 behind others) ∙ or_none (list_any (overtakes e t) run)),
    of_first_alone run behind es others h.1,
  )

  of_others_alone : (run behind es : List Event) → AllByRecursion (λ d. d.key ≡ key) run → AllByRecursion (λ d. is_below key d.key ≡ true) es → AllByRecursion (λ e. stands_at (run ++ behind) t e ≡ stands_at behind t e) es
  unfolding stands_at
  of_others_alone run behind [] first h = tt
  of_others_alone run behind (e ∷ es) first h = (
    ap (λ b. nat_le e.at t && (is_some e.row && not b))
        (list_any-append (overtakes e t) run behind ∙ ap (λ b. b || list_any (overtakes e t) behind) (not_by_first e h.0 run first)),
    of_others_alone run behind es first h.1,
  )

  pub stand_apart : (run behind : List Event) → AreOfKey key run → AreAbove key behind → lasting (run ++ behind) t ≡ lasting run t ++ lasting behind t
  stand_apart run behind one others =
      filter-append (stands_at (run ++ behind) t) run behind
      ∙ (λ i. same_filter (stands_at (run ++ behind) t) (stands_at run t) run (of_first_alone run behind run above one_by_one) i
      ++ same_filter (stands_at (run ++ behind) t) (stands_at behind t) behind (of_others_alone run behind behind one_by_one above) i)
    where
      one_by_one : AllByRecursion (λ d. d.key ≡ key) run
      one_by_one = recursion_from_All (λ (d : Event). d.key ≡ key) run one

      above : AllByRecursion (λ d. is_below key d.key ≡ true) behind
      above = recursion_from_All (λ (d : Event). is_below key d.key ≡ true) behind others

-- ---- the events of some keys alone

module _ (p : List ℕ → Bool) (t : ℕ) where
  abbrev of : Event → Bool
  of e = p e.key

  other : (e d : Event) → of e ≡ true → of d ≡ false → overtakes e t d ≡ false
  other e d own is = never (overtakes e t d) (λ over. (let clash : ◌≡◌ {A = Bool} true false = sym own ∙ ap p (overtakes_is e t d over).of_key ∙ is in cc))

  by_its_own : (e : Event) → of e ≡ true → (ds : List Event) → list_any (overtakes e t) ds ≡ list_any (overtakes e t) (filter of ds)
  by_its_own e own [] = refl
  by_its_own e own (d ∷ ds) = by (of d) refl (by_its_own e own ds)
    where
      by : (b : Bool) → of d ≡ b → list_any (overtakes e t) ds ≡ list_any (overtakes e t) (filter of ds) → (overtakes e t d || list_any (overtakes e t) ds) ≡ list_any (overtakes e t) (cond b (d ∷ filter of ds) (filter of ds))
      by true is more = ap (λ b. overtakes e t d || b) more
      by false is more = ap (λ b. b || list_any (overtakes e t) ds) (other e d own is) ∙ more

  keys_alone : (all es : List Event) → filter (λ e. of e && stands_at all t e) es ≡ filter (stands_at (filter of all) t) (filter of es)
  unfolding stands_at
  keys_alone all [] = refl
  keys_alone all (e ∷ es) = by (of e) refl (keys_alone all es)
    where
      by : (b : Bool) → of e ≡ b → filter (λ e. of e && stands_at all t e) es ≡ filter (stands_at (filter of all) t) (filter of es)
          → cond (b && stands_at all t e) (e ∷ filter (λ e. of e && stands_at all t e) es) (filter (λ e. of e && stands_at all t e) es) ≡ filter (stands_at (filter of all) t) (cond b (e ∷ filter of es) (filter of es))
      by false is rest = rest
      by true is rest = λ i. cond (nat_le e.at t && (is_some e.row && not (by_its_own e is all i))) (e ∷ rest i) (rest i)

  pub standing_is : (es : List Event) → standing es p t ≡ lasting (filter of es) t
  standing_is es = keys_alone es es

-- one key more
pub stand_step : (all found new rest run behind one : List Event) (key : List ℕ) (t : ℕ) → run ++ behind ≡ rest → AreOfKey key run → AreAbove key behind → one ≡ lasting run t → found ++ lasting rest t ≡ all → new ≡ found ++ one → new ++ lasting behind t ≡ all
stand_step all found new rest run behind one key t whole of others stands before is_new =
    ap (λ l. l ++ lasting behind t) is_new
    ∙ append_assoc found one (lasting behind t)
    ∙ ap (λ l. found ++ l) (ap (λ l. l ++ lasting behind t) stands ∙ sym (stand_apart key t run behind of others) ∙ ap (λ l. lasting l t) whole)
    ∙ before

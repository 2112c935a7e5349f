-- What is found in place is what the node has.
use Rattle.std.proofs.Common.{◌≡◌, ℕ, suc, ◌≤◌, Bool, true, false, ◌&&◌, List, [], ◌∷◌, ◌++◌, Option, Some, None, length, refl, sym, ap, ◌∙◌, subst, arith, append_assoc, if◌then◌else◌, nat_le, nat_lt, All, IfSome, inl, inr}
use Rattle.std.specs.Prelude.{option_and_then, option_map}
use Rattle.std.specs.Int.{w16, w64, to_be_bytes, cast_unsigned}
use Rattle.std.specs.List.{flat_map}
use Rattle.std.specs.Ordering.{is_lt, is_eq}
use Rattle.std.specs.declared.cmp.Ordering.{Ordering}
use Rattle.std.specs.declared.cmp.Ordering.TheVariants.{Less, Equal, Greater}
use Rattle.std.proofs.lemmas.Bool.{le-leb, lt-ltb, and_parts}
use Rattle.std.proofs.lemmas.Bool.Decides.{nat_tests}
use Rattle.std.proofs.lemmas.List.Elements.{All-head, All-tail}
use Rattle.values.specs.declared.value.Value.{Value}
use Rattle.values.specs.declared.value.Value.TheVariants.{Int, Text, Bool as Truth, Null}
use Rattle.values.specs.Event.{Event}
use Rattle.values.specs.Events.{bytes_cmp, is_bytes, event_cmp, later, event_until, event_since, row_until}
use Rattle.values.specs.Fit.{fits_text}
use Rattle.values.specs.Log.{Row}
use Rattle.values.specs.RowEncoding.{value_bytes, IsStored, IsStoredRow}
use Rattle.values.specs.RowReading.{Parsed}
use Rattle.values.proofs.RowReads.{same_taken}
use Rattle.keyrange.specs.Range.{is_below}
use Rattle.keyrange.specs.Rect.{Area, has_point}
use Rattle.keyrange.proofs.RangeOrder.{is_less}
use Rattle.eventlist.proofs.PlaceOrder.{bytes_total, same_bytes, is_own, is_lower, sorted_tail}
use Rattle.datanode.specs.Cut.{IsMap}
use Rattle.datanode.specs.Node.{Node, IsCutOf}
use Rattle.datanode.proofs.CutMembers.{In}
use Rattle.datanode.proofs.CutOrder.{head_below}
use Rattle.datanode.proofs.LawLast.{shown_by_cut}
use Rattle.blocks.specs.Field.{taken_then, part_from, length_from}
use Rattle.blocks.specs.Event.{row_field, event_field, event_fields, IsKept, point_from, row_field_from}
use Rattle.blocks.specs.Block.{IsBlockOf}
use Rattle.blocks.specs.Lookup.{behind, past_text, past_tagged, past_value, past_values, past_row_tagged, past_row_field, is_wanted, event_place, events_place, place_in, row_of_field}
use Rattle.blocks.proofs.FieldReads.{part_back, length_back}
use Rattle.blocks.proofs.EventReads.{IsWritten, point_back, row_field_back, regroup}
use Rattle.blocks.proofs.BlockReads.{written, block_reads}

-- ---- rows are passed over

text_within : (t : List ℕ) → fits_text 1000 t ≡ true → length t ≤ 1000
text_within t e = let h = (and_parts (nat_le (length t) 1000) _ e).0 in grind (arith, nat_tests)

past_text_back : (t rest : List ℕ) → length t ≤ 1000 → past_text ((to_be_bytes w16 (length t) ++ t) ++ rest) ≡ Some rest
unfolding past_text
past_text_back t rest h =
    ap (λ l. behind (taken_then (length_from l) part_from)) (append_assoc (to_be_bytes w16 (length t)) t rest)
    ∙ ap (λ x. behind (taken_then x part_from)) (length_back (length t) (t ++ rest) (omega arith))
    ∙ ap behind (part_back t rest)

past_value_back : (v : Value) (rest : List ℕ) → IsStored v → past_value (value_bytes v ++ rest) ≡ Some rest
unfolding past_tagged
past_value_back Null rest s = refl
past_value_back (Int n) rest s = ap behind (part_back (to_be_bytes w64 (cast_unsigned w64 n)) rest)
past_value_back (Text t) rest s = past_text_back t rest (text_within t s)
past_value_back (Truth false) rest s = refl
past_value_back (Truth true) rest s = refl

past_values_back : (vs : List Value) (rest : List ℕ) → All IsStored vs → past_values (length vs) (flat_map value_bytes vs ++ rest) ≡ Some rest
past_values_back [] rest s = refl
past_values_back (v ∷ vs) rest s =
    ap (λ l. option_and_then (past_values (length vs)) (past_value l)) (append_assoc (value_bytes v) (flat_map value_bytes vs) rest)
    ∙ ap (option_and_then (past_values (length vs))) (past_value_back v (flat_map value_bytes vs ++ rest) (All-head IsStored v vs s))
    ∙ past_values_back vs rest (All-tail IsStored v vs s)

pub past_row_back : (row : Option Row) (rest : List ℕ) → IfSome row IsStoredRow → past_row_field (row_field row ++ rest) ≡ Some rest
unfolding past_row_tagged
past_row_back None rest s = refl
past_row_back (Some row) rest s = past_values_back row rest s.stored

-- ---- the head of a block

-- the number of its events, and where they begin
pub count_of_block : (bytes : List ℕ) (n : Node) → IsBlockOf bytes n → events_place bytes ≡ Some (length n.events, event_fields n.events)
unfolding events_place
count_of_block bytes n b = ap (λ (t : Parsed (Option ℕ × (Area × ℕ))). taken_then t (λ head events. Some (head.1.1, events))) (block_reads bytes n b).head_is

-- ---- the last event that is wanted

module _ (key : List ℕ) (low high : ℕ) where
  abbrev pub wanted : Event → Bool
  wanted e = is_wanted key low high (e.key, e.at)

  abbrev pub last_wanted : List Event → Option Event
  last_wanted [] = None
  last_wanted (e ∷ es) = later (last_wanted es) (if wanted e then Some e else None)

  -- where it was found
  abbrev pub IsPlaceOf : Option Event → Parsed ℕ → Type 0
  IsPlaceOf None t = t ≡ None
  IsPlaceOf (Some e) t = (rest : List ℕ) × (t ≡ Some (e.at, row_field e.row ++ rest))

  below_not : (k : List ℕ) → is_below key k ≡ true → is_bytes key k ≡ false
  below_not k h = by (bytes_cmp key k) h
    where
      by : (o : Ordering) → is_lt o ≡ true → is_eq o ≡ false
      by Less e = refl
      by Equal e = cc
      by Greater e = refl

  pub unwanted : (e : Event) → is_below key e.key ≡ true → wanted e ≡ false
  unfolding is_wanted
  unwanted e h = ap (λ b. b && (nat_lt low e.at && nat_le e.at high)) (below_not e.key h)

  below_next : (e x : Event) → is_below key e.key ≡ true → event_cmp e x ≡ Less → is_below key x.key ≡ true
  below_next e x h less = by (is_bytes e.key x.key) refl
    where
      by : (t : Bool) → is_bytes e.key x.key ≡ t → is_below key x.key ≡ true
      by true is = subst (λ k. is_below key k ≡ true) (same_bytes e.key x.key is) h
      by false is = ap is_lt (bytes_total.trans key e.key x.key (is_less (bytes_cmp key e.key) h) ((is_lower e x less).other (λ q.
          let own : is_bytes e.key x.key ≡ true = subst (λ k. is_bytes e.key k ≡ true) q (is_own e.key) in
          let never : ◌≡◌ {A = Bool} false true = sym is ∙ own in cc)))

  none_wanted : (es : List Event) → ((x : Event) → In x es → is_below key x.key ≡ true) → last_wanted es ≡ None
  none_wanted [] h = refl
  none_wanted (e ∷ es) h =
      ap (λ o. later o (if wanted e then Some e else None)) (none_wanted es (λ x i. h x (inr i)))
      ∙ ap (λ (t : Bool). if t then Some e else None) (unwanted e (h e (inl refl)))

  pub all_below : (e : Event) (es : List Event) → IsMap (e ∷ es) → is_below key e.key ≡ true → (x : Event) → In x (e ∷ es) → is_below key x.key ≡ true
  all_below e es map h x (inl q) = subst (λ (y : Event). is_below key y.key ≡ true) q h
  all_below e es map h x (inr i) = below_next e x h (head_below e es map x i)

  later_later : (a b o : Option Event) → later (later a b) o ≡ later a (later b o)
  later_later None b o = refl
  later_later (Some x) b o = refl

  one_later : (e : Event) (t : Bool) (o : Option Event) → later (if t then Some e else None) o ≡ (if t then Some e else o)
  one_later e true o = refl
  one_later e false o = refl

  -- an event whose key is not behind, and those after it
  abbrev next_place : (e : Event) (es : List Event) (found : Parsed ℕ) → Parsed ℕ
  next_place e es found = event_place (length es) (event_fields es) key low high (if wanted e then Some (e.at, row_field e.row ++ event_fields es) else found)

  step : (e : Event) (es : List Event) (found : Parsed ℕ) (t : Bool) → IsWritten e → is_below key e.key ≡ t
      → event_place (suc (length es)) (event_field e ++ event_fields es) key low high found ≡ (if t then found else next_place e es found)
  step e es found t w is =
      let after : (List ℕ × ℕ) → List ℕ → Option (List ℕ) → Parsed ℕ = λ point row o. elim o [
        | None ↦ None
        | Some left ↦ event_place (length es) left key low high (if is_wanted key low high point then Some (point.1, row) else found)
      ] in
      let f : (List ℕ × ℕ) → List ℕ → Parsed ℕ = λ point row. if is_below key point.0 then found else after point row (past_row_field row) in
      ap (λ l. taken_then (point_from l) f) (regroup e (event_fields es))
      ∙ ap (λ x. taken_then x f) (point_back e.key e.at (row_field e.row ++ event_fields es) w.kept.short_key w.fits)
      ∙ ap (λ o. if is_below key e.key then found else after (e.key, e.at) (row_field e.row ++ event_fields es) o) (past_row_back e.row (event_fields es) w.kept.stored)
      ∙ ap (λ b. if b then found else next_place e es found) is

  found_one : (e : Event) (es : List Event) (o : Option Event) (found : Parsed ℕ) (t : Bool) → IsPlaceOf o found
      → IsPlaceOf (if t then Some e else o) (if t then Some (e.at, row_field e.row ++ event_fields es) else found)
  found_one e es o found true h = (event_fields es, refl)
  found_one e es o found false h = h

  pub places : (es : List Event) (o : Option Event) (found : Parsed ℕ) → IsMap es → All IsWritten es → IsPlaceOf o found
      → IsPlaceOf (later (last_wanted es) o) (event_place (length es) (event_fields es) key low high found)
  places [] o found map w h = h
  places (e ∷ es) o found map w h = by (is_below key e.key) refl (λ p g k. places es p g (sorted_tail event_cmp e es map) (All-tail IsWritten e es w) k)
    where
      by : (t : Bool) → is_below key e.key ≡ t → ((p : Option Event) (g : Parsed ℕ) → IsPlaceOf p g → IsPlaceOf (later (last_wanted es) p) (event_place (length es) (event_fields es) key low high g))
          → IsPlaceOf (later (last_wanted (e ∷ es)) o) (event_place (suc (length es)) (event_field e ++ event_fields es) key low high found)
      by true is more =
          subst (λ p. IsPlaceOf p (event_place (suc (length es)) (event_field e ++ event_fields es) key low high found)) (sym (ap (λ p. later p o) (none_wanted (e ∷ es) (all_below e es map is))))
          (subst (IsPlaceOf o) (sym (step e es found true (All-head IsWritten e es w) is)) h)
      by false is more =
          subst (λ p. IsPlaceOf p (event_place (suc (length es)) (event_field e ++ event_fields es) key low high found))
          (sym (later_later (last_wanted es) (if wanted e then Some e else None) o ∙ ap (later (last_wanted es)) (one_later e (wanted e) o)))
          (subst (IsPlaceOf (later (last_wanted es) (if wanted e then Some e else o))) (sym (step e es found false (All-head IsWritten e es w) is))
          (more (if wanted e then Some e else o) (if wanted e then Some (e.at, row_field e.row ++ event_fields es) else found) (found_one e es o found (wanted e) h)))

  -- ---- in a block

  pub place_of_block : (bytes : List ℕ) (n : Node) → IsBlockOf bytes n → IsPlaceOf (last_wanted n.events) (place_in bytes key low high)
  unfolding place_in
  place_of_block bytes n b =
      let f : ℕ → List ℕ → Parsed ℕ = λ k events. event_place k events key low high None in
      let is : place_in bytes key low high ≡ event_place (length n.events) (event_fields n.events) key low high None =
      ap (λ t. taken_then t f) (count_of_block bytes n b) in
      subst (IsPlaceOf (last_wanted n.events)) (sym is)
      (subst (λ o. IsPlaceOf o (event_place (length n.events) (event_fields n.events) key low high None)) (no_more (last_wanted n.events))
      (places n.events None None b.held.node.ordered (written n b.held b.has_block) refl))
    where
      no_more : (o : Option Event) → later o None ≡ o
      no_more None = refl
      no_more (Some x) = refl

-- ---- what the node says

until_is : (key : List ℕ) (t : ℕ) (es : List Event) → All (λ e. 1 ≤ e.at) es → last_wanted key 0 t es ≡ event_until es key t
unfolding is_wanted
until_is key t [] h = refl
until_is key t (e ∷ es) h =
    ap (λ o. later o (if is_wanted key 0 t (e.key, e.at) then Some e else None)) (until_is key t es (All-tail (λ e. 1 ≤ e.at) e es h))
    ∙ ap (λ b. later (event_until es key t) (if is_bytes key e.key && (b && nat_le e.at t) then Some e else None)) (lt-ltb 0 e.at (All-head (λ e. 1 ≤ e.at) e es h))

pub and_true : (b : Bool) → (b && true) ≡ b
and_true true = refl
and_true false = refl

since_is : (key : List ℕ) (start : ℕ) (es : List Event) → All IsWritten es → option_map (λ (e : Event). e.at) (last_wanted key start 18446744073709551615 es) ≡ event_since es start key
unfolding is_wanted
since_is key start [] w = refl
since_is key start (e ∷ es) w =
    let one = All-head IsWritten e es w in
    let fits : e.at ≤ 18446744073709551615 = (let h = one.fits in omega arith) in
    at_later (last_wanted key start 18446744073709551615 es) (is_wanted key start 18446744073709551615 (e.key, e.at))
    ∙ ap (λ o. later o (if is_wanted key start 18446744073709551615 (e.key, e.at) then Some e.at else None)) (since_is key start es (All-tail IsWritten e es w))
    ∙ ap (λ b. later (event_since es start key) (if is_bytes key e.key && (nat_lt start e.at && b) then Some e.at else None)) (le-leb e.at 18446744073709551615 fits)
    ∙ ap (λ b. later (event_since es start key) (if is_bytes key e.key && b then Some e.at else None)) (and_true (nat_lt start e.at))
  where
    at_later : (o : Option Event) (t : Bool) → option_map (λ (e : Event). e.at) (later o (if t then Some e else None)) ≡ later (option_map (λ (e : Event). e.at) o) (if t then Some e.at else None)
    at_later None true = refl
    at_later None false = refl
    at_later (Some x) t = refl

-- ---- over what was found

row_found : (o : Option Event) (t : Parsed ℕ) (key : List ℕ) (instant : ℕ) → IsPlaceOf key 0 instant o t → t ≡ None → option_and_then (λ (e : Event). e.row) o ≡ None
row_found None t key instant h is = refl
row_found (Some e) t key instant h is = let never = sym is ∙ h.1 in cc

pub no_row_until : (bytes key : List ℕ) (instant : ℕ) → place_in bytes key 0 instant ≡ None → (n : Node) → IsBlockOf bytes n → None ≡ row_until n.events key instant
no_row_until bytes key instant none n b =
    let found = place_of_block key 0 instant bytes n b in
    sym (row_found (last_wanted key 0 instant n.events) (place_in bytes key 0 instant) key instant found none)
    ∙ ap (option_and_then (λ (e : Event). e.row)) (until_is key instant n.events b.has_block.instants)

found_row : (es : List Event) (o : Option Event) (at : ℕ) (field key : List ℕ) (instant : ℕ) → ((e : Event) → o ≡ Some e → IsKept e) → IsPlaceOf key 0 instant o (Some (at, field)) → row_of_field (row_field_from field) ≡ option_and_then (λ (e : Event). e.row) o
found_row es None at field key instant kept h = cc
found_row es (Some e) at field key instant kept h =
    let k = kept e refl in
    let is : field ≡ row_field e.row ++ h.0 = (same_taken at e.at field (row_field e.row ++ h.0) h.1).1 in
    ap (λ l. row_of_field (row_field_from l)) is ∙ ap row_of_field (row_field_back e.row h.0 k.stored k.held)

kept_found : (key : List ℕ) (low high : ℕ) (es : List Event) → All IsKept es → (e : Event) → last_wanted key low high es ≡ Some e → IsKept e
kept_found key low high [] h e is = cc
kept_found key low high (x ∷ xs) h e is = by (last_wanted key low high xs) (is_wanted key low high (x.key, x.at)) (kept_found key low high xs (All-tail IsKept x xs h) e) is
  where
    by : (o : Option Event) (t : Bool) → (o ≡ Some e → IsKept e) → later o (if t then Some x else None) ≡ Some e → IsKept e
    by (Some y) t more q = more q
    by None true more q = subst IsKept (ap (λ (o : Option Event). elim o [ Some y ↦ y | None ↦ x ]) q) (All-head IsKept x xs h)
    by None false more q = cc

pub row_until_found : (bytes key : List ℕ) (instant at : ℕ) (field : List ℕ) → place_in bytes key 0 instant ≡ Some (at, field) → (n : Node) → IsBlockOf bytes n → row_of_field (row_field_from field) ≡ row_until n.events key instant
row_until_found bytes key instant at field is n b =
    let found = subst (IsPlaceOf key 0 instant (last_wanted key 0 instant n.events)) is (place_of_block key 0 instant bytes n b) in
    found_row n.events (last_wanted key 0 instant n.events) at field key instant (kept_found key 0 instant n.events b.held.events) found
    ∙ ap (option_and_then (λ (e : Event). e.row)) (until_is key instant n.events b.has_block.instants)

pub at_found : (o : Option Event) (t : Parsed ℕ) (key : List ℕ) (low high : ℕ) → IsPlaceOf key low high o t → option_map (λ (x : ℕ × List ℕ). x.0) t ≡ option_map (λ (e : Event). e.at) o
at_found None t key low high h = ap (option_map (λ (x : ℕ × List ℕ). x.0)) h
at_found (Some e) t key low high h = ap (option_map (λ (x : ℕ × List ℕ). x.0)) h.1

pub changed_found : (bytes key : List ℕ) (start : ℕ) (n : Node) → IsBlockOf bytes n → option_map (λ (x : ℕ × List ℕ). x.0) (place_in bytes key start 18446744073709551615) ≡ event_since n.events start key
changed_found bytes key start n b =
    at_found (last_wanted key start 18446744073709551615 n.events) (place_in bytes key start 18446744073709551615) key start 18446744073709551615 (place_of_block key start 18446744073709551615 bytes n b)
    ∙ since_is key start n.events (written n b.held b.has_block)

-- ---- of each map that the node is the cut of

pub row_of_map : (n : Node) (m : List Event) (key : List ℕ) (instant : ℕ) → IsCutOf n m → has_point n.rect key instant ≡ true → row_until n.events key instant ≡ row_until m key instant
row_of_map n m key instant is point = ap (λ es. row_until es key instant) is.events_are ∙ shown_by_cut n.rect m key instant is.ordered point

-- Events read back from their bytes, and nothing else is read.
use Rattle.std.proofs.Common.{◌≡◌, ℕ, ◌^◌, ◌<◌, ◌≤◌, List, [], ◌∷◌, ◌++◌, ◌==◌, ◌&&◌, Bool, true, false, Option, Some, None, length, drop, zero, suc, refl, sym, subst, ap, ◌∙◌, arith, nat_le, nat_lt, if◌then◌else◌, append_assoc, All, IfSome}
use Rattle.std.proofs.lemmas.Bool.{and_from, and_parts}
use Rattle.std.proofs.lemmas.Bool.Decides.{nat_tests}
use Rattle.std.proofs.lemmas.List.{take-append-drop}
use Rattle.std.proofs.lemmas.List.Elements.{All-head, All-tail, All-cons, All-nil}
use Rattle.std.proofs.Math.Seq.{drop-append_seam}
use Rattle.values.specs.Event.{Event}
use Rattle.values.specs.Log.{Row}
use Rattle.values.specs.RowEncoding.{bytes_of_row, IsStoredRow, IsHeld}
use Rattle.values.specs.RowReading.{Parsed, row_from, after}
use Rattle.values.proofs.RowReads.{chosen, same_taken, AreBytes, row_back, row_sound}
use Rattle.blocks.specs.Field.{taken_then, key_field, instant_field, key_from, instant_from}
use Rattle.blocks.specs.Event.{row_field, event_field, event_fields, IsKept, point_from, row_taken, row_tagged, row_field_from, event_of, event_from, events_from}
use Rattle.blocks.proofs.FieldReads.{tag_is, are_taken, bytes_behind, key_back, key_only, instant_back, instant_only}

-- ---- points

pub point_back : (key : List ℕ) (at : ℕ) (rest : List ℕ) → length key ≤ 1609 → at < 2 ^ 64 → point_from (key_field key ++ (instant_field at ++ rest)) ≡ Some ((key, at), rest)
unfolding point_from
point_back key at rest short fits =
    ap (λ t. taken_then t (λ key rest. taken_then (instant_from rest) (λ at left. Some ((key, at), left)))) (key_back key (instant_field at ++ rest) short)
    ∙ ap (λ t. taken_then t (λ at left. Some ((key, at), left))) (instant_back at rest fits)

pub record IsPoint (bytes : List ℕ) (point : List ℕ × ℕ) (rest : List ℕ) : Type 0 where
  pub spelled : bytes ≡ key_field point.0 ++ (instant_field point.1 ++ rest)
  pub short : length point.0 ≤ 1609

pub point_only : (bytes : List ℕ) (point : List ℕ × ℕ) (rest : List ℕ) → AreBytes bytes → point_from bytes ≡ Some (point, rest) → IsPoint bytes point rest
unfolding point_from
point_only bytes point rest h is =
    let two = are_taken (key_from bytes) (λ key rest. taken_then (instant_from rest) (λ at left. Some ((key, at), left))) point rest is in
    let key = key_only bytes two.x two.left h two.first in
    let next = are_taken (instant_from two.left) (λ at left. Some ((two.x, at), left)) point rest two.second in
    let instant = instant_only two.left next.x next.left (bytes_behind bytes (key_field two.x) two.left key.spelled h) next.first in
    let parts = same_taken (two.x, next.x) point next.left rest next.second in
    let here : IsPoint bytes (two.x, next.x) next.left = record { spelled = key.spelled ∙ ap (λ l. key_field two.x ++ l) instant; short = key.short } in
    subst (λ p. IsPoint bytes p rest) parts.0 (subst (λ r. IsPoint bytes (two.x, next.x) r) parts.1 here)

-- ---- rows

pub row_field_back : (row : Option Row) (rest : List ℕ) → IfSome row IsStoredRow → IfSome row (All IsHeld) → row_field_from (row_field row ++ rest) ≡ Some (row, rest)
unfolding row_tagged
row_field_back None rest s h = refl
row_field_back (Some row) rest s h =
    ap (row_taken (bytes_of_row row ++ rest)) (row_back row rest s h)
    ∙ ap (λ l. Some (Some row, l)) (drop-append_seam (bytes_of_row row) rest)

pub record IsRowField (bytes : List ℕ) (row : Option Row) (rest : List ℕ) : Type 0 where
  pub spelled : bytes ≡ row_field row ++ rest
  pub stored : IfSome row IsStoredRow
  pub held : IfSome row (All IsHeld)

none_only : (bytes : List ℕ) (row : Option Row) (rest : List ℕ) → ◌≡◌ {A = Parsed (Option Row)} (Some (None, bytes)) (Some (row, rest)) → IsRowField (0 ∷ bytes) row rest
none_only bytes row rest is =
    let parts = same_taken None row bytes rest is in
    subst (λ e. IsRowField (0 ∷ bytes) e rest) parts.0 (subst (λ r. IsRowField (0 ∷ bytes) None r) parts.1 (record { spelled = refl; stored = tt; held = tt }))

some_only : (bytes : List ℕ) (row : Option Row) (rest : List ℕ) (o : Option (Row × ℕ)) → AreBytes bytes → row_from bytes ≡ o → row_taken bytes o ≡ Some (row, rest) → IsRowField (1 ∷ bytes) row rest
some_only bytes row rest None h o is = cc
some_only bytes row rest (Some (r, n)) h o is =
    let stands = row_sound bytes r n h o in
    let parts = same_taken (Some r) row (drop n bytes) rest is in
    let here : IsRowField (1 ∷ bytes) (Some r) (drop n bytes) = record {
      spelled = ap (λ l. 1 ∷ l) (sym (take-append-drop n bytes) ∙ ap (λ l. l ++ drop n bytes) stands.bytes_are);
      stored = stands.is_stored;
      held = stands.is_held;
    } in
    subst (λ e. IsRowField (1 ∷ bytes) e rest) parts.0 (subst (λ l. IsRowField (1 ∷ bytes) (Some r) l) parts.1 here)

row_by : (tag : ℕ) (bytes : List ℕ) (row : Option Row) (rest : List ℕ) (a b : Bool) → (tag == 0) ≡ a → (tag == 1) ≡ b → AreBytes bytes
    → ◌≡◌ {A = Parsed (Option Row)} (if a then Some (None, bytes) else if b then row_taken bytes (row_from bytes) else None) (Some (row, rest)) → IsRowField (tag ∷ bytes) row rest
row_by tag bytes row rest true b p q h is = subst (λ n. IsRowField (n ∷ bytes) row rest) (tag_is tag 0 p) (none_only bytes row rest is)
row_by tag bytes row rest false true p q h is = subst (λ n. IsRowField (n ∷ bytes) row rest) (tag_is tag 1 q) (some_only bytes row rest (row_from bytes) h refl is)
row_by tag bytes row rest false false p q h is = cc

row_tagged_only : (tag : ℕ) (bytes : List ℕ) (row : Option Row) (rest : List ℕ) → AreBytes bytes → row_tagged tag bytes ≡ Some (row, rest) → IsRowField (tag ∷ bytes) row rest
unfolding row_tagged
row_tagged_only tag bytes row rest h is = row_by tag bytes row rest (tag == 0) (tag == 1) refl refl h is

pub row_field_only : (bytes : List ℕ) (row : Option Row) (rest : List ℕ) → AreBytes bytes → row_field_from bytes ≡ Some (row, rest) → IsRowField bytes row rest
row_field_only [] row rest h is = cc
row_field_only (tag ∷ bytes) row rest h is = row_tagged_only tag bytes row rest (bytes_behind (tag ∷ bytes) (tag ∷ []) bytes refl h) is

-- ---- events

-- an event that a block may have
pub record IsWritten (e : Event) : Type 0 where
  pub kept : IsKept e
  pub first : 1 ≤ e.at
  pub fits : e.at < 2 ^ 64

some_point : (key : List ℕ) (at : ℕ) → 0 < length key → 1 ≤ at → (nat_lt 0 (length key) && nat_le 1 at) ≡ true
some_point key at k a = and_from (nat_lt 0 (length key)) (nat_le 1 at) (grind (arith, nat_tests)) (grind (arith, nat_tests))

pub regroup : (e : Event) (rest : List ℕ) → event_field e ++ rest ≡ key_field e.key ++ (instant_field e.at ++ (row_field e.row ++ rest))
regroup e rest = append_assoc (key_field e.key) (instant_field e.at ++ row_field e.row) rest ∙ ap (λ l. key_field e.key ++ l) (append_assoc (instant_field e.at) (row_field e.row) rest)

pub event_back : (e : Event) (rest : List ℕ) → IsWritten e → event_from (event_field e ++ rest) ≡ Some (e, rest)
unfolding event_from event_of
event_back e rest w =
    ap (λ l. taken_then (point_from l) (λ point rest. taken_then (row_field_from rest) (event_of point))) (regroup e rest)
    ∙ ap (λ t. taken_then t (λ point rest. taken_then (row_field_from rest) (event_of point))) (point_back e.key e.at (row_field e.row ++ rest) w.kept.short_key w.fits)
    ∙ ap (λ t. taken_then t (event_of (e.key, e.at))) (row_field_back e.row rest w.kept.stored w.kept.held)
    ∙ chosen _ _ None (some_point e.key e.at w.kept.some_key w.first)

pub record IsRead (bytes : List ℕ) (e : Event) (rest : List ℕ) : Type 0 where
  pub spelled : bytes ≡ event_field e ++ rest
  pub kept : IsKept e
  pub first : 1 ≤ e.at

above_none : (n : ℕ) → nat_lt 0 n ≡ true → 0 < n
above_none n e = grind (arith, nat_tests)

one_up : (n : ℕ) → nat_le 1 n ≡ true → 1 ≤ n
one_up n e = grind (arith, nat_tests)

event_by : (bytes : List ℕ) (point : List ℕ × ℕ) (row : Option Row) (left others : List ℕ) (e : Event) (rest : List ℕ) (t : Bool) → (nat_lt 0 (length point.0) && nat_le 1 point.1) ≡ t
    → IsPoint bytes point left → IsRowField left row others
    → ◌≡◌ {A = Parsed Event} (if t then Some (record { key = point.0; at = point.1; row = row }, others) else None) (Some (e, rest)) → IsRead bytes e rest
event_by bytes point row left others e rest false at p r is = cc
event_by bytes point row left others e rest true at p r is =
    let d : Event = record { key = point.0; at = point.1; row = row } in
    let parts = same_taken d e others rest is in
    let two = and_parts (nat_lt 0 (length point.0)) (nat_le 1 point.1) at in
    let here : IsRead bytes d others = record {
      spelled = p.spelled ∙ ap (λ l. key_field point.0 ++ (instant_field point.1 ++ l)) r.spelled ∙ sym (regroup d others);
      kept = record { some_key = above_none (length point.0) two.0; short_key = p.short; stored = r.stored; held = r.held };
      first = one_up point.1 two.1;
    } in
    subst (λ x. IsRead bytes x rest) parts.0 (subst (λ l. IsRead bytes d l) parts.1 here)

event_of_only : (bytes : List ℕ) (point : List ℕ × ℕ) (row : Option Row) (left others : List ℕ) (e : Event) (rest : List ℕ)
    → IsPoint bytes point left → IsRowField left row others → event_of point row others ≡ Some (e, rest) → IsRead bytes e rest
unfolding event_of
event_of_only bytes point row left others e rest p r is = event_by bytes point row left others e rest (nat_lt 0 (length point.0) && nat_le 1 point.1) refl p r is

behind_point : (bytes : List ℕ) (point : List ℕ × ℕ) (rest : List ℕ) → IsPoint bytes point rest → AreBytes bytes → AreBytes rest
behind_point bytes point rest p h =
    bytes_behind (instant_field point.1 ++ rest) (instant_field point.1) rest refl (bytes_behind bytes (key_field point.0) (instant_field point.1 ++ rest) p.spelled h)

pub event_only : (bytes : List ℕ) (e : Event) (rest : List ℕ) → AreBytes bytes → event_from bytes ≡ Some (e, rest) → IsRead bytes e rest
unfolding event_from
event_only bytes e rest h is =
    let two = are_taken (point_from bytes) (λ point rest. taken_then (row_field_from rest) (event_of point)) e rest is in
    let point = point_only bytes two.x two.left h two.first in
    let next = are_taken (row_field_from two.left) (event_of two.x) e rest two.second in
    let row = row_field_only two.left next.x next.left (behind_point bytes two.x two.left point h) next.first in
    event_of_only bytes two.x next.x two.left next.left e rest point row next.second

-- ---- lists of events

pub events_back : (es : List Event) (rest : List ℕ) → All IsWritten es → events_from (length es) (event_fields es ++ rest) ≡ Some (es, rest)
events_back [] rest w = refl
events_back (e ∷ es) rest w =
    let f : Event → List ℕ → Parsed (List Event) = λ e left. after (e ∷ []) (events_from (length es) left) in
    ap (λ l. taken_then (event_from l) f) (append_assoc (event_field e) (event_fields es) rest)
    ∙ ap (λ t. taken_then t f) (event_back e (event_fields es ++ rest) (All-head IsWritten e es w))
    ∙ ap (after (e ∷ [])) (events_back es rest (All-tail IsWritten e es w))

pub record AreRead (n : ℕ) (bytes : List ℕ) (es : List Event) (rest : List ℕ) : Type 0 where
  pub all_spelled : bytes ≡ event_fields es ++ rest
  pub all_kept : All IsKept es
  pub all_first : All (λ e. 1 ≤ e.at) es
  pub counted : length es ≡ n

no_events : (bytes : List ℕ) (es : List Event) (rest : List ℕ) → ◌≡◌ {A = Parsed (List Event)} (Some ([], bytes)) (Some (es, rest)) → AreRead 0 bytes es rest
no_events bytes es rest is =
    let parts = same_taken [] es bytes rest is in
    subst (λ xs. AreRead 0 bytes xs rest) parts.0 (subst (λ r. AreRead 0 bytes [] r) parts.1
    (record { all_spelled = refl; all_kept = All-nil IsKept; all_first = All-nil (λ e. 1 ≤ e.at); counted = refl }))

one_and_more : (n : ℕ) (bytes others : List ℕ) (e : Event) (es : List Event) (rest : List ℕ) → IsRead bytes e others → AreRead n others es rest → AreRead (suc n) bytes (e ∷ es) rest
one_and_more n bytes others e es rest one more = record {
  all_spelled = one.spelled ∙ ap (λ l. event_field e ++ l) more.all_spelled ∙ sym (append_assoc (event_field e) (event_fields es) rest);
  all_kept = All-cons IsKept e es one.kept more.all_kept;
  all_first = All-cons (λ e. 1 ≤ e.at) e es one.first more.all_first;
  counted = ap suc more.counted;
}

pub events_only : (n : ℕ) (bytes : List ℕ) (es : List Event) (rest : List ℕ) → AreBytes bytes → events_from n bytes ≡ Some (es, rest) → AreRead n bytes es rest
events_only zero bytes es rest h is = no_events bytes es rest is
events_only (suc n) bytes es rest h is =
    let two = are_taken (event_from bytes) (λ e left. after (e ∷ []) (events_from n left)) es rest is in
    let one = event_only bytes two.x two.left h two.first in
    joined two.x two.left one (events_from n two.left) refl two.second (λ xs k. events_only n two.left xs rest (bytes_behind bytes (event_field two.x) two.left one.spelled h) k)
  where
    joined : (e : Event) (others : List ℕ) → IsRead bytes e others → (t : Parsed (List Event)) → events_from n others ≡ t → after (e ∷ []) t ≡ Some (es, rest)
        → ((xs : List Event) → events_from n others ≡ Some (xs, rest) → AreRead n others xs rest) → AreRead (suc n) bytes es rest
    joined e others one None at is more = cc
    joined e others one (Some (xs, left)) at is more =
        let parts = same_taken (e ∷ xs) es left rest is in
        subst (λ ys. AreRead (suc n) bytes ys rest) parts.0 (one_and_more n bytes others e xs rest one (more xs (at ∙ ap (λ l. Some (xs, l)) parts.1)))

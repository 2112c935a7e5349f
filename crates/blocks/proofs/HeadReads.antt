-- Heads read back from their bytes, and nothing else is read.
use Rattle.std.proofs.Common.{◌≡◌, ℕ, ◌^◌, ◌<◌, ◌≤◌, List, [], ◌∷◌, ◌++◌, true, Option, Some, None, refl, sym, subst, ap, ◌∙◌, arith, append_assoc, IsSome}
use Rattle.std.specs.Prelude.{nat_le}
use Rattle.std.proofs.lemmas.Bool.{and_parts}
use Rattle.std.proofs.lemmas.Bool.Decides.{nat_tests}
use Rattle.values.specs.RowReading.{Parsed}
use Rattle.values.proofs.RowReads.{same_taken, AreBytes}
use Rattle.keyrange.specs.declared.range.KeyRange.{KeyRange}
use Rattle.keyrange.specs.declared.range.TimeRange.{TimeRange}
use Rattle.keyrange.specs.Range.{is_before_end, is_early}
use Rattle.keyrange.specs.Rect.{Area, IsArea, is_area}
use Rattle.blocks.specs.Field.{taken_then, key_field, end_field, instant_field, key_from, end_from, instant_from, byte_from}
use Rattle.blocks.specs.Rect.{keys_field, time_field, rect_field, AreShortKeys, keys_from, time_from}
use Rattle.blocks.specs.Start.{start_field, start_from}
use Rattle.blocks.specs.Head.{body_from, head_from}
use Rattle.blocks.proofs.StartReads.{start_back, start_only}
use Rattle.blocks.proofs.FieldReads.{are_taken, bytes_behind, key_back, key_only, end_back, end_only, instant_back, instant_only}

-- ---- keys

keys_back : (keys : KeyRange) (rest : List ℕ) → AreShortKeys keys → keys_from (keys_field keys ++ rest) ≡ Some (keys, rest)
unfolding keys_from
keys_back keys rest short =
    let f : List ℕ → List ℕ → Parsed KeyRange = λ lo rest. taken_then (end_from rest) (λ hi left. Some (record { lo = lo; hi = hi }, left)) in
    ap (λ l. taken_then (key_from l) f) (append_assoc (key_field keys.lo) (end_field keys.hi) rest)
    ∙ ap (λ t. taken_then t f) (key_back keys.lo (end_field keys.hi ++ rest) short.lower)
    ∙ ap (λ t. taken_then t (λ hi left. Some (record { lo = keys.lo; hi = hi }, left))) (end_back keys.hi rest short.upper)

record AreKeys (bytes : List ℕ) (keys : KeyRange) (rest : List ℕ) : Type 0 where
  spelled : bytes ≡ keys_field keys ++ rest
  short : AreShortKeys keys

keys_only : (bytes : List ℕ) (keys : KeyRange) (rest : List ℕ) → AreBytes bytes → keys_from bytes ≡ Some (keys, rest) → AreKeys bytes keys rest
unfolding keys_from
keys_only bytes keys rest h is =
    let two = are_taken (key_from bytes) (λ lo rest. taken_then (end_from rest) (λ hi left. Some (record { lo = lo; hi = hi }, left))) keys rest is in
    let key = key_only bytes two.x two.left h two.first in
    let next = are_taken (end_from two.left) (λ hi left. Some (record { lo = two.x; hi = hi }, left)) keys rest two.second in
    let end = end_only two.left next.x next.left (bytes_behind bytes (key_field two.x) two.left key.spelled h) next.first in
    let k : KeyRange = record { lo = two.x; hi = next.x } in
    let parts = same_taken k keys next.left rest next.second in
    let here : AreKeys bytes k next.left = record {
      spelled = key.spelled ∙ ap (λ l. key_field two.x ++ l) end.spelled ∙ sym (append_assoc (key_field two.x) (end_field next.x) next.left);
      short = record { lower = key.short; upper = end.short };
    } in
    subst (λ x. AreKeys bytes x rest) parts.0 (subst (λ l. AreKeys bytes k l) parts.1 here)

-- ---- instants

time_back : (from end : ℕ) (rest : List ℕ) → from < 2 ^ 64 → end < 2 ^ 64 → time_from ((instant_field from ++ instant_field end) ++ rest) ≡ Some (record { from = from; to = Some end }, rest)
unfolding time_from
time_back from end rest a b =
    let f : ℕ → List ℕ → Parsed TimeRange = λ from rest. taken_then (instant_from rest) (λ to left. Some (record { from = from; to = Some to }, left)) in
    ap (λ l. taken_then (instant_from l) f) (append_assoc (instant_field from) (instant_field end) rest)
    ∙ ap (λ t. taken_then t f) (instant_back from (instant_field end ++ rest) a)
    ∙ ap (λ t. taken_then t (λ to left. Some (record { from = from; to = Some to }, left))) (instant_back end rest b)

record IsTime (bytes : List ℕ) (time : TimeRange) (rest : List ℕ) : Type 0 where
  spelled : bytes ≡ time_field time ++ rest
  ends : IsSome time.to

time_only : (bytes : List ℕ) (time : TimeRange) (rest : List ℕ) → AreBytes bytes → time_from bytes ≡ Some (time, rest) → IsTime bytes time rest
unfolding time_from
time_only bytes time rest h is =
    let two = are_taken (instant_from bytes) (λ from rest. taken_then (instant_from rest) (λ to left. Some (record { from = from; to = Some to }, left))) time rest is in
    let from = instant_only bytes two.x two.left h two.first in
    let next = are_taken (instant_from two.left) (λ to left. Some (record { from = two.x; to = Some to }, left)) time rest two.second in
    let to = instant_only two.left next.x next.left (bytes_behind bytes (instant_field two.x) two.left from h) next.first in
    let t : TimeRange = record { from = two.x; to = Some next.x } in
    let parts = same_taken t time next.left rest next.second in
    let here : IsTime bytes t next.left = record {
      spelled = from ∙ ap (λ l. instant_field two.x ++ l) to ∙ sym (append_assoc (instant_field two.x) (instant_field next.x) next.left);
      ends = refl;
    } in
    subst (λ x. IsTime bytes x rest) parts.0 (subst (λ l. IsTime bytes t l) parts.1 here)

-- ---- heads

-- what a rectangle's bytes ask of it
pub record IsPast (r : Area) : Type 0 where
  pub area : IsArea r
  pub ends : IsSome r.time.to
  pub short : AreShortKeys r.keys

record Fits (from end : ℕ) : Type 0 where
  start : from < 2 ^ 64
  stop : end < 2 ^ 64

fits : (keys : KeyRange) (from end : ℕ) → is_area keys (record { from = from; to = Some end }) ≡ true → Fits from end
fits keys from end h =
    let a = and_parts (is_before_end keys.lo keys.hi) _ h in
    let b = and_parts (nat_le 1 from) _ a.1 in
    let c = and_parts (nat_le from 999999999999999999) _ b.1 in
    let d = and_parts (is_early from (Some end)) (nat_le end 999999999999999999) c.1 in
    let start : from ≤ 999999999999999999 = at_most from c.0 in
    let stop : end ≤ 999999999999999999 = at_most end d.1 in
    record { start = omega arith; stop = omega arith }
  where
    at_most : (n : ℕ) → nat_le n 999999999999999999 ≡ true → n ≤ 999999999999999999
    at_most n e = grind (arith, nat_tests)

body_back : (r : Area) (end : Option ℕ) (k : ℕ) (rest : List ℕ) → r.time.to ≡ end → IsSome end → IsArea r → AreShortKeys r.keys → body_from ((keys_field r.keys ++ time_field r.time) ++ k ∷ rest) ≡ Some ((r, k), rest)
unfolding body_from
body_back r None k rest e some area short = cc
body_back r (Some end) k rest e some area short =
    let time : TimeRange = record { from = r.time.from; to = Some end } in
    let is : r.time ≡ time = ap (λ t. record { from = r.time.from; to = t }) e in
    let both = fits r.keys r.time.from end (subst (λ t. is_area r.keys t ≡ true) is area) in
    let g : KeyRange → TimeRange → List ℕ → Parsed (Area × ℕ) =
    λ keys time left. taken_then (byte_from left) (λ count events. Some ((record { keys = keys; time = time }, count), events)) in
    let f : KeyRange → List ℕ → Parsed (Area × ℕ) = λ keys rest. taken_then (time_from rest) (g keys) in
    ap (λ t. taken_then (keys_from ((keys_field r.keys ++ time_field t) ++ k ∷ rest)) f) is
    ∙ ap (λ l. taken_then (keys_from l) f) (append_assoc (keys_field r.keys) (time_field time) (k ∷ rest))
    ∙ ap (λ t. taken_then t f) (keys_back r.keys (time_field time ++ k ∷ rest) short)
    ∙ ap (λ t. taken_then t (g r.keys)) (time_back r.time.from end (k ∷ rest) both.start both.stop)
    ∙ ap (λ (t : TimeRange). Some ((record { keys = r.keys; time = t }, k), rest)) (sym is)

pub head_back : (stated : Option ℕ) (r : Area) (k : ℕ) (rest : List ℕ) → IsPast r
    → head_from (start_field stated ++ (rect_field r ++ k ∷ rest)) ≡ Some ((stated, (r, k)), rest)
unfolding head_from
head_back stated r k rest past =
    let g : Option ℕ → (Area × ℕ) → List ℕ → Parsed (Option ℕ × (Area × ℕ)) = λ stated body events. Some ((stated, body), events) in
    let f : Option ℕ → List ℕ → Parsed (Option ℕ × (Area × ℕ)) = λ stated rest. taken_then (body_from rest) (g stated) in
    ap (λ t. taken_then t f) (start_back stated (rect_field r ++ k ∷ rest))
    ∙ ap (λ t. taken_then t (g stated)) (body_back r r.time.to k rest refl past.ends past.area past.short)

counted : (bytes : List ℕ) (k : ℕ) (rest : List ℕ) → byte_from bytes ≡ Some (k, rest) → bytes ≡ k ∷ rest
counted [] k rest is = cc
counted (b ∷ bytes) k rest is = let parts = same_taken b k bytes rest is in ap (λ n. n ∷ bytes) parts.0 ∙ ap (λ l. k ∷ l) parts.1

record IsBody (bytes : List ℕ) (r : Area) (k : ℕ) (rest : List ℕ) : Type 0 where
  spelled : bytes ≡ (keys_field r.keys ++ time_field r.time) ++ k ∷ rest
  ends : IsSome r.time.to
  short : AreShortKeys r.keys

body_only : (bytes : List ℕ) (x : Area × ℕ) (rest : List ℕ) → AreBytes bytes → body_from bytes ≡ Some (x, rest) → IsBody bytes x.0 x.1 rest
unfolding body_from
body_only bytes x rest h is =
    let g : KeyRange → TimeRange → List ℕ → Parsed (Area × ℕ) =
    λ keys time left. taken_then (byte_from left) (λ count events. Some ((record { keys = keys; time = time }, count), events)) in
    let two = are_taken (keys_from bytes) (λ keys rest. taken_then (time_from rest) (g keys)) x rest is in
    let keys = keys_only bytes two.x two.left h two.first in
    let next = are_taken (time_from two.left) (g two.x) x rest two.second in
    let time = time_only two.left next.x next.left (bytes_behind bytes (keys_field two.x) two.left keys.spelled h) next.first in
    let last = are_taken (byte_from next.left) (λ count events. Some ((record { keys = two.x; time = next.x }, count), events)) x rest next.second in
    let r : Area = record { keys = two.x; time = next.x } in
    let parts = same_taken (r, last.x) x last.left rest last.second in
    let here : IsBody bytes r last.x last.left = record {
      spelled =
          keys.spelled ∙ ap (λ l. keys_field two.x ++ l) (time.spelled ∙ ap (λ l. time_field next.x ++ l) (counted next.left last.x last.left last.first))
          ∙ sym (append_assoc (keys_field two.x) (time_field next.x) (last.x ∷ last.left));
      ends = time.ends;
      short = keys.short;
    } in
    subst (λ (y : Area × ℕ). IsBody bytes y.0 y.1 rest) parts.0 (subst (λ l. IsBody bytes r last.x l) parts.1 here)

pub record IsHead (bytes : List ℕ) (x : Option ℕ × (Area × ℕ)) (rest : List ℕ) : Type 0 where
  pub spelled : bytes ≡ start_field x.0 ++ (rect_field x.1.0 ++ x.1.1 ∷ rest)
  pub ends : IsSome x.1.0.time.to
  pub short : AreShortKeys x.1.0.keys

pub head_only : (bytes : List ℕ) (x : Option ℕ × (Area × ℕ)) (rest : List ℕ) → AreBytes bytes → head_from bytes ≡ Some (x, rest) → IsHead bytes x rest
unfolding head_from
head_only bytes x rest h is =
    let g : Option ℕ → (Area × ℕ) → List ℕ → Parsed (Option ℕ × (Area × ℕ)) = λ stated body events. Some ((stated, body), events) in
    let two = are_taken (start_from bytes) (λ stated rest. taken_then (body_from rest) (g stated)) x rest is in
    let start = start_only bytes two.x two.left two.first in
    let next = are_taken (body_from two.left) (g two.x) x rest two.second in
    let body = body_only two.left next.x next.left (bytes_behind bytes (start_field two.x) two.left start h) next.first in
    let parts = same_taken (two.x, next.x) x next.left rest next.second in
    let here : IsHead bytes (two.x, next.x) next.left = record {
      spelled = start ∙ ap (λ l. start_field two.x ++ l) body.spelled;
      ends = body.ends;
      short = body.short;
    } in
    subst (λ (y : Option ℕ × (Area × ℕ)). IsHead bytes y rest) parts.0 (subst (λ l. IsHead bytes (two.x, next.x) l) parts.1 here)

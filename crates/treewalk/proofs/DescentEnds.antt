-- A rectangle that begins and ends in another lies inside it.
use Rattle.std.proofs.Common.{◌≡◌, ℕ, ◌<◌, ◌≤◌, List, Bool, true, false, Option, Some, None, refl, ap, arith}
use Rattle.std.specs.Prelude.{not, nat_le}
use Rattle.std.proofs.lemmas.Bool.{and_parts, and_from, le-leb, lt-ltb, leb-true, ltb-true}
use Rattle.keyrange.specs.Range.{is_below, is_before_end, is_early, is_key_in}
use Rattle.keyrange.specs.Rect.{Area, has_point, IsInside}
use Rattle.keyrange.proofs.RangeOrder.{above}
use Rattle.treewalk.specs.Ends.{is_instant_end_within, is_bytes_end_within, is_time_end_within, ends_within}

denied : (a : Bool) → not a ≡ true → a ≡ false
denied true e = cc
denied false e = refl

-- ---- keys

low_key : (key lo outer : List ℕ) → not (is_below key lo) ≡ true → not (is_below lo outer) ≡ true → not (is_below key outer) ≡ true
low_key key lo outer h first = by (is_below key outer) refl
  where
    by : (b : Bool) → is_below key outer ≡ b → not (is_below key outer) ≡ true
    by false e = ap not e
    by true e =
        let under : is_below lo outer ≡ true = above key lo outer (denied (is_below key lo) h) e in
        let over : is_below lo outer ≡ false = denied (is_below lo outer) first in
        cc

high_key : (key : List ℕ) (end last : Option (List ℕ)) → is_before_end key end ≡ true → is_bytes_end_within end last ≡ true → is_before_end key last ≡ true
high_key key end None h within = refl
high_key key None (Some last) h within = cc
high_key key (Some end) (Some last) h within = by (is_below key last) refl
  where
    by : (b : Bool) → is_below key last ≡ b → is_below key last ≡ true
    by true e = e
    by false e =
        let under : is_below last end ≡ true = above key last end e h in
        let over : is_below last end ≡ false = denied (is_below last end) within in
        cc

-- ---- instants

low_instant : (t from outer : ℕ) → nat_le from t ≡ true → nat_le outer from ≡ true → nat_le outer t ≡ true
low_instant t from outer h first =
    let a : from ≤ t = leb-true from t h in
    let b : outer ≤ from = leb-true outer from first in
    le-leb outer t (omega arith)

high_instant : (t : ℕ) (end last : Option ℕ) → is_early t end ≡ true → is_instant_end_within end last ≡ true → is_early t last ≡ true
high_instant t end None h within = refl
high_instant t None (Some last) h within = cc
high_instant t (Some end) (Some last) h within =
    let a : t < end = ltb-true t end h in
    let b : end ≤ last = leb-true end last within in
    lt-ltb t last (omega arith)

-- ---- both

pub inside_by_ends : (inner outer : Area) → ends_within inner outer ≡ true → has_point outer inner.keys.lo inner.time.from ≡ true → IsInside inner outer
inside_by_ends inner outer ends first key instant h =
    let within = and_parts (is_time_end_within inner.time outer.time) _ ends in
    let start = and_parts (is_key_in outer.keys inner.keys.lo) _ first in
    let start_key = and_parts (not (is_below inner.keys.lo outer.keys.lo)) _ start.0 in
    let start_time = and_parts (nat_le outer.time.from inner.time.from) _ start.1 in
    let point = and_parts (is_key_in inner.keys key) _ h in
    let in_keys = and_parts (not (is_below key inner.keys.lo)) _ point.0 in
    let in_time = and_parts (nat_le inner.time.from instant) _ point.1 in
    and_from (is_key_in outer.keys key) _
    (and_from (not (is_below key outer.keys.lo)) _ (low_key key inner.keys.lo outer.keys.lo in_keys.0 start_key.0) (high_key key inner.keys.hi outer.keys.hi in_keys.1 within.1))
    (and_from (nat_le outer.time.from instant) _ (low_instant instant inner.time.from outer.time.from in_time.0 start_time.0) (high_instant instant inner.time.to outer.time.to in_time.1 within.0))

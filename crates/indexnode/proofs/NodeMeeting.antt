-- Rectangles have a point in common exactly where each begins before the other ends.
use Rattle.std.proofs.Common.{◌≡◌, Bool, true, false, refl, sym}
use Rattle.std.specs.Prelude.{IsTrue}
use Rattle.keyrange.specs.Rect.{Area, is_area, Common}
use Rattle.keyrange.specs.Range.{key_ranges_meet}
use Rattle.keyrange.proofs.RectMeeting.{both, first, second, common_point, keys_of_common, times_of_common}
use Rattle.indexnode.specs.Node.{meet}

pub met : (a b : Area) (answer : Bool) → IsTrue (is_area a.keys a.time) → IsTrue (is_area b.keys b.time) → (IsTrue answer → Common a b) → (Common a b → IsTrue answer) → answer ≡ meet a b
met a b true is_a is_b common apart =
    let c = common refl in
    sym (both _ _ (keys_of_common a b c) (times_of_common a b c))
met a b false is_a is_b common apart = by (meet a b) refl
  where
    by : (t : Bool) → meet a b ≡ t → false ≡ t
    by false e = refl
    by true e = apart (common_point a b is_a is_b (first _ _ e) (second (key_ranges_meet a.keys b.keys) _ e))

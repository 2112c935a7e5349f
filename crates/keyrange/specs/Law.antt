-- What rectangles that lie in one another, and halves, have in common.
use Rattle.keyrange.specs.Rect.{Area, IsArea, IsInside, Common}
use Rattle.keyrange.specs.Cut.{AreHalves}

abbrev pub InsideItself : Type 0
InsideItself = (r : Area) → IsInside r r

abbrev pub InsideOuter : Type 0
InsideOuter = (a b c : Area) → IsInside a b → IsInside b c → IsInside a c

-- a rectangle has a point, which is one of each that it lies in
abbrev pub InnerIsCommon : Type 0
InnerIsCommon = (r a b : Area) → IsArea r → IsInside r a → IsInside r b → Common a b

abbrev pub CommonToOuter : Type 0
CommonToOuter = (a b c : Area) → IsInside a b → Common a c → Common b c

abbrev pub CommonEitherWay : Type 0
CommonEitherWay = (a b : Area) → Common a b → Common b a

abbrev pub HalvesInside : Type 0
HalvesInside =
    (r first second : Area) → AreHalves r first second → IsInside first r × IsInside second r

abbrev pub HalvesApart : Type 0
HalvesApart = (r first second : Area) → AreHalves r first second → Common first second → ⊥

-- What cuts amount to.
use Rattle.std.specs.Prelude.{◌≡◌, ◌⊎◌, ℕ, List, ◌++◌, false, Some, ◌||◌, not, nat_le, nat_lt, filter, IsTrue}
use Rattle.values.specs.Event.{Event}
use Rattle.values.specs.Events.{put_event, row_until}
use Rattle.keyrange.specs.Rect.{Area, has_point, IsArea, IsInside}
use Rattle.keyrange.specs.Range.{is_below, is_early, is_key_in}
use Rattle.keyrange.specs.Cut.{halves_by_key, halves_by_time}
use Rattle.datanode.specs.Node.{last_before, kept_from}
use Rattle.datanode.specs.Cut.{IsMap, lies_in, is_carried, cut}

-- the cut of a cut is the cut of the inner rectangle
abbrev pub CutOfCut : Type 0
CutOfCut = (r s : Area) (m : List Event) → IsArea s → IsInside s r → cut s (cut r m) ≡ cut s m

-- the events that lie in the rectangle
abbrev pub own : Area → List Event → List Event
own r = filter (lies_in r)

-- of what a cut holds those that lie in the rectangle are the map's
abbrev pub OwnOfCut : Type 0
OwnOfCut = (r : Area) (m : List Event) → own r (cut r m) ≡ own r m

-- each event that lies in the whole is one half's own: the first half's where it lies in that, and else the second's
pub record HoldOnce (r first second : Area) (m : List Event) : Type 0 where
  pub in_first : own first (cut first m) ≡ filter (lies_in first) (own r (cut r m))
  pub in_second : own second (cut second m) ≡ filter (λ e. not (lies_in first e)) (own r (cut r m))

-- the halves at a key are the events below it and the others, carried ones too
pub record KeyHalves (r below above : Area) (key : List ℕ) (m : List Event) : Type 0 where
  pub once : HoldOnce r below above m
  pub lower : cut below m ≡ filter (λ e. is_below e.key key) (cut r m)
  pub upper : cut above m ≡ filter (λ e. not (is_below e.key key)) (cut r m)
  pub joined : IsMap m → cut below m ++ cut above m ≡ cut r m

-- the halves at an instant are the events before it, and those from it on with those that are carried to it
pub record TimeHalves (r past now : Area) (instant : ℕ) (m : List Event) : Type 0 where
  pub once : HoldOnce r past now m
  pub is_past : cut past m ≡ filter (λ e. nat_lt e.at instant) (cut r m)
  pub is_now : cut now m ≡ filter (λ e. nat_le instant e.at || is_carried m instant e) (cut r m)

abbrev pub HalvesByKey : Type 0
HalvesByKey =
    (r below above : Area) (key : List ℕ) (m : List Event)
    → IsArea r → halves_by_key r key ≡ Some (below, above) → KeyHalves r below above key m

abbrev pub HalvesByTime : Type 0
HalvesByTime =
    (r past now : Area) (instant : ℕ) (m : List Event)
    → IsArea r → halves_by_time r instant ≡ Some (past, now) → TimeHalves r past now instant m

-- a point of the rectangle shows in the cut what it shows in the map
abbrev pub ShownByCut : Type 0
ShownByCut =
    (r : Area) (m : List Event) (key : List ℕ) (instant : ℕ)
    → IsMap m → IsTrue (has_point r key instant)
    → row_until (cut r m) key instant ≡ row_until m key instant

-- a key's last event before the rectangle's end is in the cut the map's, unless that is a deletion from before its
-- start
abbrev pub LastOfCut : Type 0
LastOfCut =
    (r : Area) (m : List Event) (key : List ℕ)
    → IsMap m → IsArea r → IsTrue (is_key_in r.keys key)
    → last_before r.time.to (cut r m) key ≡ kept_from r.time.from (last_before r.time.to m key)

-- the event's key is none of the rectangle's, or its instant is past the end
abbrev pub IsElsewhere : Area → Event → Type 0
IsElsewhere r e = (is_key_in r.keys e.key ≡ false) ⊎ (is_early e.at r.time.to ≡ false)

-- an event elsewhere changes no cut
abbrev pub CutStays : Type 0
CutStays =
    (r : Area) (m : List Event) (e : Event)
    → IsArea r → IsElsewhere r e → cut r (put_event e m) ≡ cut r m

-- What stays in its place while an event is put in.
use Rattle.std.proofs.Common.{◌≡◌, ◌≢◌, ℕ, suc, ◌≤◌, Bool, true, false, cond, List, ◌∷◌, length, set, length-set, refl, sym, ap, subst, ◌∙◌, ◌⊎◌, inl, inr, arith}
use Rattle.std.specs.Prelude.{slice_get, IsTrue}
use Rattle.std.specs.List.{filter}
use Rattle.values.specs.Event.{Event}
use Rattle.values.specs.Events.{put_event}
use Rattle.keyrange.specs.Rect.{Area, has_point}
use Rattle.datanode.specs.Cut.{in_cut}
use Rattle.datanode.specs.Node.{capacity}
use Rattle.treenodes.specs.Node.{TreeNode, IsAt, IsDataNode, count_of, events_of}
use Rattle.treenodes.specs.Event.{with_put}
use Rattle.treenodes.proofs.NodeNumbers.{at_set, set_other, set_same, one_at, same_or_not}
use Rattle.treegrowth.specs.Places.{HasRoom, HaveRoom, HasRoomIn, IsInPlace, HaveSamePlaces, SplitsOverfull, IsRelieved}
use Rattle.treegrowth.proofs.PointOneKey.{filter_at_most}
use Rattle.treegrowth.proofs.CommitTaken.{length_put, counted}

-- so many of the events are at the points of a rectangle
abbrev at_points : Area → List Event → ℕ
at_points r es = length (filter (λ (e : Event). has_point r e.key e.at) es)

fewer_by : (b : Bool) (e : Event) (es : List Event) → length es ≤ length (cond b (e ∷ es) es)
fewer_by true e es = omega arith
fewer_by false e es = omega arith

fewer : (r : Area) (e : Event) (es : List Event) → at_points r es ≤ at_points r (e ∷ es)
fewer r e es = fewer_by (has_point r e.key e.at) e (filter (λ (e : Event). has_point r e.key e.at) es)

one_more : (r : Area) (e : Event) (es : List Event) → has_point r e.key e.at ≡ true → at_points r (e ∷ es) ≡ suc (at_points r es)
one_more r e es is = ap (λ b. length (cond b (e ∷ filter (λ (e : Event). has_point r e.key e.at) es) (filter (λ (e : Event). has_point r e.key e.at) es))) is

abbrev in_place : (nodes : List TreeNode) (i : ℕ) (n : TreeNode) → IsAt nodes i n → IsInPlace nodes i n
in_place nodes i n at = record { node = n; there = at; level = refl; rect = refl }

pub none_split : (es : List Event) (nodes : List TreeNode) → SplitsOverfull es es nodes nodes
none_split es nodes = record {
  leaves = λ i n at bottom room. record { place = in_place nodes i n at; room = room };
  all = λ rooms. (record { each = λ i n at. in_place nodes i n at; long = refl }, rooms);
}

abbrev in_place_then : (b c : List TreeNode) (i : ℕ) (n : TreeNode) (p : IsInPlace b i n) → IsInPlace c i p.node → IsInPlace c i n
in_place_then b c i n p q = record { node = q.node; there = q.there; level = q.level ∙ p.level; rect = q.rect ∙ p.rect }

pub splits_then : (es fs gs : List Event) (a b c : List TreeNode) → SplitsOverfull es fs a b → SplitsOverfull fs gs b c → SplitsOverfull es gs a c
splits_then es fs gs a b c one two = record {
  leaves = λ i n at bottom room.
      let p = one.leaves i n at bottom room in
      let q = two.leaves i p.place.node p.place.there (p.place.level ∙ bottom) p.room in
      record { place = in_place_then b c i n p.place q.place; room = q.room };
  all = λ rooms.
      let p = one.all rooms in
      let q = two.all p.1 in (
        record {
          each = λ i n at. let s = p.0.each i n at in in_place_then b c i n s (q.0.each i s.node s.there);
          long = q.0.long ∙ p.0.long;
        },
        q.1,
      );
}

-- ---- an event is put into a data node, which is split where it is over capacity then

module _ (nodes : List TreeNode) (number : ℕ) (old : TreeNode) (at : IsAt nodes number old) (is_data : IsDataNode old.content) (bottom : old.level ≡ 0) (e : Event) (has : IsTrue (has_point old.rect e.key e.at)) (rest : List Event) where
  abbrev new : TreeNode
  new = with_put old e

  abbrev pub put : List TreeNode
  put = set nodes number new

  room_after : HasRoom old (e ∷ rest) → HasRoom new rest
  room_after room =
      let same = counted old.content is_data in
      let more = length_put e (events_of old.content) in
      let less = filter_at_most (in_cut old.rect (put_event e (events_of old.content))) (put_event e (events_of old.content)) in
      let up = one_more old.rect e rest has in
      omega (arith, room, same, more, less, up)

  within : HasRoom old (e ∷ rest) → count_of new.content ≤ capacity
  within room = let after = room_after room in omega (arith, after)

  small : HasRoom old (e ∷ rest) → (n : TreeNode) → IsAt put number n → count_of n.content ≤ capacity
  small room n there = subst (λ (q : TreeNode). count_of q.content ≤ capacity) (one_at put number new n (set_same nodes number new old at) there) (within room)

  other_room : (n : TreeNode) → HasRoom n (e ∷ rest) → HasRoom n rest
  other_room n room = let less = fewer n.rect e rest in omega (arith, room, less)

  module _ (after : List TreeNode) (split : IsRelieved number put after) where
    here : HasRoom old (e ∷ rest) → IsAt after number new
    here room = subst (λ s. IsAt s number new) (sym (split.small (small room))) (set_same nodes number new old at)

    of_old : (i : ℕ) → i ≡ number → HasRoom old (e ∷ rest) → HasRoomIn after i old rest
    of_old i same room = record { place = record { node = new; there = ap (slice_get after) same ∙ here room; level = refl; rect = refl }; room = room_after room }

    leaves : (i : ℕ) (n : TreeNode) → IsAt nodes i n → n.level ≡ 0 → HasRoom n (e ∷ rest) → HasRoomIn after i n rest
    leaves i n there low room = by (same_or_not i number)
      where
        by : (i ≡ number) ⊎ (i ≢ number) → HasRoomIn after i n rest
        by (inl same) =
            let is : old ≡ n = one_at nodes number old n at (ap (slice_get nodes) (sym same) ∙ there) in
            subst (λ q. HasRoom q (e ∷ rest) → HasRoomIn after i q rest) is (of_old i same) room
        by (inr other) = record { place = in_place after i n (split.others i n other (set_other nodes number new i n other there) low); room = other_room n room }

    each_put : (i : ℕ) (n : TreeNode) → IsAt nodes i n → IsInPlace put i n
    each_put i n there = by (same_or_not i number)
      where
        by : (i ≡ number) ⊎ (i ≢ number) → IsInPlace put i n
        by (inl same) =
            let is : old ≡ n = one_at nodes number old n at (ap (slice_get nodes) (sym same) ∙ there) in
            subst (IsInPlace put i) is (record { node = new; there = ap (slice_get put) same ∙ set_same nodes number new old at; level = refl; rect = refl })
        by (inr other) = in_place put i n (set_other nodes number new i n other there)

    rooms_put : HaveRoom nodes (e ∷ rest) → HaveRoom put rest
    rooms_put rooms i n there low = elim (at_set nodes number new i n there) [
      | inl q ↦ subst (λ p. HasRoom p rest) (sym q.1) (room_after (rooms number old at bottom))
      | inr q ↦ other_room n (rooms i n q.1 low)
    ]

    all : HaveRoom nodes (e ∷ rest) → HaveSamePlaces nodes after × HaveRoom after rest
    all rooms = subst (λ s. HaveSamePlaces nodes s × HaveRoom s rest) (sym (split.small (small (rooms number old at bottom)))) (record { each = each_put; long = length-set nodes number new }, rooms_put rooms)

    pub one_put : SplitsOverfull (e ∷ rest) rest nodes after
    one_put = record { leaves = leaves; all = all }

-- The halves of a data node with one event too many are within capacity.
use Rattle.std.proofs.Common.{◌≡◌, ℕ, zero, suc, ◌<◌, ◌≤◌, Bool, true, false, cond, get_or, List, [], ◌∷◌, ◌++◌, length, sym, ap, subst, ◌∙◌, inl, inr, ◌||◌, arith, length-append}
use Rattle.std.specs.Prelude.{nat_le, nat_lt, IfSome}
use Rattle.std.specs.List.{Any, filter}
use Rattle.std.proofs.lemmas.Bool.{leb-true, and_parts, and_from, ltb-true, lt-ltb, le-leb, false≢true}
use Rattle.std.proofs.lemmas.List.Elements.{recursion_from_All}
use Rattle.keyrange.specs.Cut.{halves_by_key}
use Rattle.datanode.specs.Cut.{cut, is_carried}
use Rattle.datanode.specs.Node.{Node, IsNode}
use Rattle.datanode.proofs.LawHalves.{halves_at_key, halves_at_instant}
use Rattle.eventlist.proofs.OvertakingNext.{never}
use Rattle.keysplit.specs.Middle.{IsOfOneKey}
use Rattle.treegrowth.specs.declared.point.SplitPoint.TheVariants.{Key, Time}
use Rattle.treegrowth.specs.Growth.{IsAmidCommit}
use Rattle.treegrowth.specs.Point.{HalvesFit, staying, is_split_by_time}
use Rattle.treegrowth.proofs.PointOneKey.{filter_at_most, IsOf, IsUpTo, at_most_two, begins_before}

-- a filter that some element does not pass keeps fewer
filter_fewer : {X : Type 0} (p : X → Bool) (xs : List X) (k : ℕ) (x : X) → k < length xs → get_or xs k x ≡ x → p x ≡ false → length (filter p xs) < length xs
filter_fewer p [] k x lt at fails = absurd (omega arith)
filter_fewer p (y ∷ ys) zero x lt at fails = by (p y) (ap p at ∙ fails) (filter_at_most p ys)
  where
    by : (b : Bool) → b ≡ false → length (filter p ys) ≤ length ys → length (cond b (y ∷ filter p ys) (filter p ys)) < suc (length ys)
    by true is most = absurd (false≢true (sym is))
    by false is most = omega arith
filter_fewer p (y ∷ ys) (suc k) x lt at fails = by (p y) (filter_fewer p ys k x (omega arith) at fails)
  where
    by : (b : Bool) → length (filter p ys) < length ys → length (cond b (y ∷ filter p ys) (filter p ys)) < suc (length ys)
    by true rest = omega arith
    by false rest = omega arith

late_is_none : (at last : ℕ) → last < at → nat_lt at last ≡ false
late_is_none at last h = never (nat_lt at last) (λ e. (let lt : at < last = ltb-true at last e in omega arith))

module _ (n : Node) (node : IsNode n.rect n.events) (full : length n.events ≡ 65) where
  pub fits_by_time : (last : ℕ) → Any (λ e. last < e.at) n.events → is_split_by_time n last ≡ true → HalvesFit n (Time last)
  fits_by_time last some is h made =
      let law = halves_at_instant n.rect h.0 h.1 last n.events node.area made in
      let past : length (cut h.0 n.events) ≡ length (filter (λ e. nat_lt e.at last) n.events) = ap length (law.is_past ∙ ap (filter (λ e. nat_lt e.at last)) (sym node.whole)) in
      let now : length (cut h.1 n.events) ≡ length (staying n.events last) = ap length (law.is_now ∙ ap (filter (λ e. nat_le last e.at || is_carried n.events last e)) (sym node.whole)) in
      let fewer = filter_fewer (λ e. nat_lt e.at last) n.events some.0 some.1 some.2 some.3 (late_is_none some.1.at last some.4) in
      let few : length (staying n.events last) ≤ 42 = leb-true (length (staying n.events last)) 42 (and_parts (nat_lt n.rect.time.from last) _ is).1 in
      (omega (arith, past, fewer, full), omega (arith, now, few))

  pub fits_by_key : (key : List ℕ) → IfSome (halves_by_key n.rect key) (λ h. (0 < length (cut h.0 n.events)) × (0 < length (cut h.1 n.events))) → HalvesFit n (Key key)
  fits_by_key key both h made =
      let law = halves_at_key n.rect h.0 h.1 key n.events node.area made in
      let some : (0 < length (cut h.0 n.events)) × (0 < length (cut h.1 n.events)) = subst (λ o. IfSome o (λ h. (0 < length (cut h.0 n.events)) × (0 < length (cut h.1 n.events)))) made both in
      let all : length (cut h.0 n.events ++ cut h.1 n.events) ≡ length n.events = ap length (law.joined node.ordered ∙ sym node.whole) in
      let sum = length-append (cut h.0 n.events) (cut h.1 n.events) in
      let below : 0 < length (cut h.0 n.events) = some.0 in
      let above : 0 < length (cut h.1 n.events) = some.1 in
      (omega (arith, all, sum, full, below, above), omega (arith, all, sum, full, below, above))

  -- a node of one key is split by time
  pub one_key_by_time : (last : ℕ) → IsAmidCommit n.events last → IsOfOneKey n.events → is_split_by_time n last ≡ true
  one_key_by_time last amid one =
      let keys = recursion_from_All (IsOf one.0) n.events one.1 in
      let upto = recursion_from_All (IsUpTo last amid.instant) n.events amid.others in
      let two : length (staying n.events last) ≤ 2 = at_most_two n.events one.0 last amid.instant later node.ordered keys upto in
      and_from (nat_lt n.rect.time.from last) _ (lt-ltb n.rect.time.from last (begins_before n.events one.0 last amid.instant later n.rect node (omega (arith, full)) keys upto))
      (le-leb (length (staying n.events last)) 42 (omega (arith, two)))
    where
      later : last < amid.instant
      later = by (subst (IsUpTo last amid.instant) amid.some.3 (amid.others amid.some.0 amid.some.1 amid.some.2))
        where
          by : IsUpTo last amid.instant amid.some.1 → last < amid.instant
          by (inl le) = absurd (let lt : last < amid.some.1.at = amid.some.4 in omega arith)
          by (inr e) = let lt : last < amid.some.1.at = amid.some.4 in omega arith

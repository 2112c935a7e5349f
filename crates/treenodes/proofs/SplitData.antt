-- Data nodes that are split.
use Rattle.std.proofs.Common.{◌≡◌, ℕ, ◌≤◌, Bool, true, false, List, Option, Some, None, refl, sym, ap, subst, ◌∙◌, if◌then◌else◌}
use Rattle.std.specs.Prelude.{IsTrue, is_none, nat_lt, nat_le, ◌&&◌}
use Rattle.std.specs.Bool.{Decides}
use Rattle.std.proofs.lemmas.Bool.Decides.{Decides-and, Decides-like}
use Rattle.values.specs.Commits.{max_instant}
use Rattle.keyrange.specs.Range.{is_early}
use Rattle.treenodes.specs.Lookup.{IsData}
use Rattle.values.specs.Event.{Event}
use Rattle.keyrange.specs.Rect.{Area}
use Rattle.keyrange.specs.Cut.{is_key_inside, is_time_inside, halves_by_key, halves_by_time, AreHalves}
use Rattle.datanode.specs.Node.{Node, IsCutOf}
use Rattle.treenodes.specs.declared.node.Child.TheVariants.{Data}
use Rattle.treenodes.specs.Node.{TreeNode, Events, seen, IsAt, data_node, events_of}
use Rattle.treenodes.specs.Map.{EndsBy, latest}
use Rattle.treenodes.specs.Split.{AreSplit, HoldCuts, CanSplitKey, CanSplitTime, Halved, part}
use Rattle.datanode.specs.Cut.{cut}
use Rattle.datanode.proofs.CutMembers.{some_is}
use Rattle.treenodes.proofs.NodeNumbers.{one_at}

-- what is asked of a node that is split
module _ (nodes : List TreeNode) (number : ℕ) (n : TreeNode) (at : IsAt nodes number n) where
  pub key_of : (key : List ℕ) → CanSplitKey nodes number key → (n.rect.time.to ≡ None) × IsTrue (is_key_inside n.rect key)
  key_of key can =
      let same = one_at nodes number can.leaf.node n can.leaf.there at in
      (subst (λ (q : TreeNode). q.rect.time.to ≡ None) same can.current, subst (λ (q : TreeNode). is_key_inside q.rect key ≡ true) same can.inside)

  pub time_of : (instant : ℕ) → CanSplitTime nodes number instant → (n.rect.time.to ≡ None) × IsTrue (is_time_inside n.rect instant)
  time_of instant can =
      let same = one_at nodes number can.leaf.node n can.leaf.there at in
      (subst (λ (q : TreeNode). q.rect.time.to ≡ None) same can.current, subst (λ (q : TreeNode). is_time_inside q.rect instant ≡ true) same can.inside)

module _ (nodes : List TreeNode) (number : ℕ) (node a b : Node) (at : IsAt nodes number (data_node node)) where
  pub split_data : node.rect.time.to ≡ None → AreHalves node.rect a.rect b.rect → (n : TreeNode) → IsAt nodes number n → AreSplit nodes n (seen n.level (Data a)) (seen n.level (Data b))
  split_data current halves n here = subst (λ (n : TreeNode). AreSplit nodes n (seen n.level (Data a)) (seen n.level (Data b))) (one_at nodes number (data_node node) n at here) (record {
    current = current;
    first_level = refl;
    second_level = refl;
    halves = halves;
    first_has = refl;
    second_has = refl;
  })

  -- what is asked of the node
  pub key_in : (key : List ℕ) → CanSplitKey nodes number key → (node.rect.time.to ≡ None) × IsTrue (is_key_inside node.rect key)
  key_in = key_of nodes number (data_node node) at

  pub time_in : (instant : ℕ) → CanSplitTime nodes number instant → (node.rect.time.to ≡ None) × IsTrue (is_time_inside node.rect instant)
  time_in = time_of nodes number (data_node node) at

  -- both halves hold the map's cuts
  pub halves_hold : (m : List Event) → IsCutOf a m → IsCutOf b m → EndsBy (latest m) (Events a.events) a.rect.time.to → EndsBy (latest m) (Events b.events) b.rect.time.to → HoldCuts m (data_node a) (data_node b)
  halves_hold m cut_a cut_b ends_a ends_b = record { first_cut = cut_a.events_are; second_cut = cut_b.events_are; first_ends = ends_a; second_ends = ends_b }

pub no_end : (es : List Event) (l : ℕ) (to : Option ℕ) → to ≡ None → EndsBy l (Events es) to
no_end es l None e = tt
no_end es l (Some t) e = absurd (cc)

pub this_end : (es : List Event) (l t : ℕ) (to : Option ℕ) → to ≡ Some t → t ≤ l → EndsBy l (Events es) to
this_end es l t None e h = absurd (cc)
this_end es l t (Some u) e h = let same : u ≡ t = cc in subst (λ x. x ≤ l) (sym same) h

-- ---- the tests

none_decides : (to : Option ℕ) → Decides (is_none to) (to ≡ None)
none_decides None = ((λ h. refl), (λ h. refl))
none_decides (Some t) = ((λ h. absurd (some_not h)), (λ h. absurd (not_none t h)))
  where
    some_not : false ≡ true → ⊥
    some_not h = cc

    not_none : (t : ℕ) → ◌≡◌ {A = Option ℕ} (Some t) None → ⊥
    not_none t h = cc

endless_inside : (from instant : ℕ) (to : Option ℕ) (u : Bool) → to ≡ None → (nat_lt from instant && (is_early instant to && u)) ≡ (nat_lt from instant && u)
endless_inside from instant to u h = ap (λ o. nat_lt from instant && (is_early instant o && u)) h

module _ (nodes : List TreeNode) (number : ℕ) (node : TreeNode) (at : IsAt nodes number node) (leaf : IsData nodes number) where
  back : node ≡ leaf.node
  back = one_at nodes number node leaf.node at leaf.there

  pub key_test : (key : List ℕ) → Decides (is_none node.rect.time.to && is_key_inside node.rect key) (CanSplitKey nodes number key)
  key_test key = Decides-like (is_none node.rect.time.to && is_key_inside node.rect key)
      (λ p. record { leaf = leaf; current = subst (λ (q : TreeNode). q.rect.time.to ≡ None) back p.0; inside = subst (λ (q : TreeNode). is_key_inside q.rect key ≡ true) back p.1 })
      (λ can. key_of nodes number node at key can)
      (Decides-and (is_none node.rect.time.to) (is_key_inside node.rect key) (none_decides node.rect.time.to) ((λ h. h), (λ h. h)))

  pub time_test : (instant : ℕ) → Decides (is_none node.rect.time.to && (nat_lt node.rect.time.from instant && nat_le instant max_instant)) (CanSplitTime nodes number instant)
  time_test instant = Decides-like (is_none node.rect.time.to && (nat_lt node.rect.time.from instant && nat_le instant max_instant))
      (λ p. record {
        leaf = leaf;
        current = subst (λ (q : TreeNode). q.rect.time.to ≡ None) back p.0;
        inside = subst (λ (q : TreeNode). is_time_inside q.rect instant ≡ true) back (endless_inside node.rect.time.from instant node.rect.time.to (nat_le instant max_instant) p.0 ∙ p.1);
      })
      (λ can. let k = time_of nodes number node at instant can in (k.0, sym (endless_inside node.rect.time.from instant node.rect.time.to (nat_le instant max_instant) k.0) ∙ k.1))
      (Decides-and (is_none node.rect.time.to) (nat_lt node.rect.time.from instant && nat_le instant max_instant) (none_decides node.rect.time.to) ((λ h. h), (λ h. h)))

-- ---- halves are parts

same_node : (n p : Node) → data_node n ≡ data_node p → n ≡ p
same_node n p e = λ t. record { rect = (e t).rect; events = events_of (e t).content }

module _ (nodes : List TreeNode) (number : ℕ) (node a b : Node) (at : IsAt nodes number (data_node node)) (halves : Area → Option (Area × Area)) (are : halves node.rect ≡ Some (a.rect, b.rect)) (is_a : a.events ≡ cut a.rect node.events) (is_b : b.events ≡ cut b.rect node.events) where
  pub are_parts : (n : Node) (h : Area × Area) → IsAt nodes number (data_node n) → halves n.rect ≡ Some h → (data_node a ≡ part n h.0) × (data_node b ≡ part n h.1)
  are_parts n h here made =
      let same : node ≡ n = same_node node n (one_at nodes number (data_node node) (data_node n) at here) in
      let rects : (a.rect, b.rect) ≡ h = some_is (a.rect, b.rect) h (sym are ∙ ap (λ (p : Node). halves p.rect) same ∙ made) in (
        (λ t. data_node (record { rect = a.rect; events = is_a t })) ∙ (λ t. part (same t) (rects t).0),
        (λ t. data_node (record { rect = b.rect; events = is_b t })) ∙ (λ t. part (same t) (rects t).1),
      )

pub alike : (nodes s : List TreeNode) (parent number : ℕ) (a b a' b' : TreeNode) → a ≡ a' → b ≡ b' → Halved nodes s parent number a b → Halved nodes s parent number a' b'
alike nodes s parent number a b a' b' p q h = subst (λ x. Halved nodes s parent number x b') p (subst (Halved nodes s parent number a) q h)

-- ---- what halves end at

abbrev keys_pair : Area → List ℕ → Area × Area
keys_pair r key = (record { keys = record { lo = r.keys.lo; hi = Some key }; time = r.time }, record { keys = record { lo = key; hi = r.keys.hi }; time = r.time })

abbrev times_pair : Area → ℕ → Area × Area
times_pair r t = (record { keys = r.keys; time = record { from = r.time.from; to = Some t } }, record { keys = r.keys; time = record { from = t; to = r.time.to } })

ends : (p q : Area × Area) (x y : Option ℕ) → Some p ≡ Some q → p.0.time.to ≡ x → p.1.time.to ≡ y → (q.0.time.to ≡ x) × (q.1.time.to ≡ y)
ends p q x y e f g = let same : p ≡ q = cc in (sym (ap (λ (p : Area × Area). p.0.time.to) same) ∙ f, sym (ap (λ (p : Area × Area). p.1.time.to) same) ∙ g)

pub ends_by_key : (r a b : Area) (key : List ℕ) → halves_by_key r key ≡ Some (a, b) → (a.time.to ≡ r.time.to) × (b.time.to ≡ r.time.to)
ends_by_key r a b key e = by (is_key_inside r key) e
  where
    by : (t : Bool) → (if t then Some (keys_pair r key) else None) ≡ Some (a, b) → (a.time.to ≡ r.time.to) × (b.time.to ≡ r.time.to)
    by true e = ends (keys_pair r key) (a, b) r.time.to r.time.to e refl refl
    by false e = absurd (cc)

pub ends_by_time : (r a b : Area) (t : ℕ) → halves_by_time r t ≡ Some (a, b) → (a.time.to ≡ Some t) × (b.time.to ≡ r.time.to)
ends_by_time r a b t e = by (is_time_inside r t) e
  where
    by : (s : Bool) → (if s then Some (times_pair r t) else None) ≡ Some (a, b) → (a.time.to ≡ Some t) × (b.time.to ≡ r.time.to)
    by true e = ends (times_pair r t) (a, b) (Some t) r.time.to e refl refl
    by false e = absurd (cc)

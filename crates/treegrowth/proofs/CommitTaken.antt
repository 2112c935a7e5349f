-- What a data node is once it took an event of a commit.
use Rattle.std.proofs.Common.{◌≡◌, ℕ, suc, ◌+◌, ◌-◌, ◌<◌, ◌≤◌, List, [], ◌∷◌, length, get_or, set, Some, None, refl, sym, ap, subst, ◌∙◌, inl, inr, arith}
use Rattle.std.specs.Prelude.{slice_get, All}
use Rattle.std.specs.List.{Any}
use Rattle.std.specs.Ordering.{match_ordering}
use Rattle.std.specs.declared.cmp.Ordering.{Ordering}
use Rattle.std.specs.declared.cmp.Ordering.TheVariants.{Less, Equal, Greater}
use Rattle.std.proofs.lemmas.Bool.{and_parts}
use Rattle.std.proofs.lemmas.Option.{slice_get_within, get_or_from_slice_get}
use Rattle.std.proofs.lemmas.List.Elements.{All-filter, All-from_recursion, recursion_from_All}
use Rattle.values.specs.Event.{Event}
use Rattle.values.specs.Events.{event_cmp, put_event}
use Rattle.keyrange.specs.Range.{is_key_in}
use Rattle.keyrange.specs.Rect.{Area}
use Rattle.eventlist.proofs.PutPlaced.{all_put}
use Rattle.datanode.specs.Cut.{cut, in_cut}
use Rattle.datanode.specs.Node.{Node, capacity}
use Rattle.datanode.proofs.CutMembers.{In, In-filter}
use Rattle.datanode.proofs.CutLaws.{in_cut_decides, time_decides}
use Rattle.indexnode.specs.declared.reference.Reference.{Reference}
use Rattle.treenodes.specs.Node.{Content, Events, References, TreeNode, IsAt, IsDataNode, data_node, count_of, events_of, references_of}
use Rattle.treenodes.specs.Tree.{IsTree}
use Rattle.treenodes.specs.Map.{HoldsMap, IsCut}
use Rattle.treenodes.specs.Lookup.{IsLeafAt, IsParent, IsWayTo}
use Rattle.treenodes.specs.Event.{AcceptsEvent, with_put}
use Rattle.treenodes.proofs.NodeNumbers.{at_set, set_other, set_same, one_at}
use Rattle.treegrowth.specs.Growth.{AreOthersSmall, IsGrownLeaf, IsWayDown}
use Rattle.treegrowth.specs.Commit.{IsBeforeCommit}
use Rattle.treegrowth.proofs.PointOneKey.{filter_at_most, IsUpTo}

pub length_put : (e : Event) (es : List Event) → length (put_event e es) ≤ length es + 1
length_put e [] = omega arith
length_put e (d ∷ ds) = by (event_cmp e d) (length_put e ds)
  where
    by : (o : Ordering) → length (put_event e ds) ≤ length ds + 1 → length (match_ordering o (e ∷ d ∷ ds) (e ∷ ds) (d ∷ put_event e ds)) ≤ suc (length ds) + 1
    by Less rest = omega arith
    by Equal rest = omega arith
    by Greater rest = omega arith

put_among : (e : Event) (es : List Event) → In e (put_event e es)
put_among e [] = inl refl
put_among e (d ∷ ds) = by (event_cmp e d) (put_among e ds)
  where
    by : (o : Ordering) → In e (put_event e ds) → In e (match_ordering o (e ∷ d ∷ ds) (e ∷ ds) (d ∷ put_event e ds))
    by Less rest = inl refl
    by Equal rest = inl refl
    by Greater rest = inr rest

any_of : (P : Event → Type 0) (es : List Event) (e : Event) → In e es → P e → Any P es
any_of P [] e among h = absurd among
any_of P (d ∷ ds) e (inl is) h = (0, d, omega arith, refl, subst P (sym is) h)
any_of P (d ∷ ds) e (inr among) h =
    let rest = any_of P ds e among h in
    let lt : rest.0 < length ds = rest.2 in
    (suc rest.0, rest.1, omega arith, rest.3, rest.4)

cut_is : (m : List Event) (r : Area) (c : Content) → IsDataNode c → IsCut m r c → events_of c ≡ cut r m
cut_is m r (Events es) h is = is
cut_is m r (References rs) h is = absurd h

pub counted : (c : Content) → IsDataNode c → count_of c ≡ length (events_of c)
counted (Events es) h = refl
counted (References rs) h = absurd h

no_reference : (c : Content) (number : ℕ) → IsDataNode c → Any (λ (r : Reference ℕ). r.child ≡ number) (references_of c) → ⊥
no_reference (Events es) number h any = let lt : any.0 < 0 = any.2 in omega arith
no_reference (References rs) number h any = h

module _ (nodes : List TreeNode) (tree : IsTree nodes) (m : List Event) (holds : HoldsMap nodes m) (small : (i : ℕ) (n : TreeNode) → IsAt nodes i n → count_of n.content ≤ capacity) (e : Event) (last : ℕ) (takes : IsBeforeCommit m last e.at)
    (way : List ℕ) (w : IsWayTo nodes e.key e.at way) (depth : ℕ) (is_depth : depth ≡ length way - 1) where
  some_way : 0 < length way
  some_way = let lt = slice_get_within way (length way - 1) w.number w.last in omega (arith, lt)

  pub within : depth < length way
  within = omega (arith, is_depth, some_way)

  pub ends_there : (d : ℕ) → get_or way depth d ≡ w.number
  ends_there d = get_or_from_slice_get way depth w.number d (ap (slice_get way) is_depth ∙ w.last)

  pub leaf_there : IsLeafAt nodes e.key e.at (get_or way depth 0)
  leaf_there = subst (IsLeafAt nodes e.key e.at) (sym (ends_there 0)) w.leaf

  -- the leaf, before and after
  abbrev old : TreeNode
  old = w.leaf.leaf.node

  abbrev new : Node
  new = record { rect = old.rect; events = cut old.rect (put_event e (events_of old.content)) }

  abbrev after : List TreeNode
  after = set nodes w.number (with_put old e)

  module _ (accepted : AcceptsEvent old e) where
    put_is : with_put old e ≡ data_node new
    put_is = λ t. record { level = w.leaf.leaf.bottom t; rect = old.rect; content = Events new.events; packed = None }

    leads : (k d : ℕ) → k < depth → IsParent after (get_or way k d) (get_or way (k + 1) d)
    leads k d lt =
        let h = w.leads k d (omega (arith, is_depth, lt)) in
        record {
          node = h.node;
          there = set_other nodes w.number (with_put old e) (get_or way k d) h.node
              (λ same. no_reference h.node.content (get_or way (k + 1) d) (subst (λ (n : TreeNode). IsDataNode n.content) (one_at nodes w.number old h.node w.leaf.leaf.there (ap (slice_get nodes) (sym same) ∙ h.there)) w.leaf.leaf.is_data) h.refers) h.there;
          refers = h.refers;
        }

    pub still_down : IsWayDown after way depth
    still_down = record { within = within; from_root = w.from_root; leads = leads }

    pub others_still : AreOthersSmall after w.number
    others_still i n other at = elim (at_set nodes w.number (with_put old e) i n at) [ inl q ↦ absurd (other q.0) | inr q ↦ small i n q.1 ]

    -- its events are of the map, and the new one
    upto_all : All (IsUpTo last e.at) new.events
    upto_all = All-filter (in_cut old.rect (put_event e (events_of old.content))) (IsUpTo last e.at) (put_event e (events_of old.content))
        (All-from_recursion (IsUpTo last e.at) (put_event e (events_of old.content)) (all_put (IsUpTo last e.at) e (events_of old.content) (inr refl)
        (recursion_from_All (IsUpTo last e.at) (events_of old.content) (subst (All (IsUpTo last e.at)) (sym (cut_is m old.rect old.content w.leaf.leaf.is_data (holds.cuts w.number old w.leaf.leaf.there)))
        (All-filter (in_cut old.rect m) (IsUpTo last e.at) m takes.others)))))

    here : In e new.events
    here = In-filter (in_cut old.rect (put_event e (events_of old.content))) (put_event e (events_of old.content)) e (put_among e (events_of old.content))
        ((in_cut_decides old.rect (put_event e (events_of old.content)) e).1 ((and_parts (is_key_in old.rect.keys e.key) _ w.leaf.holds).0, inl ((time_decides old.rect e.at).0 (and_parts (is_key_in old.rect.keys e.key) _ w.leaf.holds).1)))

    pub grown_leaf : IsGrownLeaf after w.number last
    grown_leaf = record {
      node = new;
      there = set_same nodes w.number (with_put old e) old w.leaf.leaf.there ∙ ap Some put_is;
      grown = record {
        current = accepted.accepted.current;
        count = (
            let most = small w.number old w.leaf.leaf.there in
            let same = counted old.content w.leaf.leaf.is_data in
            let more = length_put e (events_of old.content) in
            let fewer = filter_at_most (in_cut old.rect (put_event e (events_of old.content))) (put_event e (events_of old.content)) in
            omega (arith, most, same, more, fewer)
            );
      };
      amid = record { instant = e.at; some = any_of (λ d. last < d.at) new.events e here takes.later; others = upto_all };
    }

-- ---- over the code's terms

pub way_of : (nodes : List TreeNode) (way : List ℕ) (key key' : List ℕ) (t t' : ℕ) → key ≡ key' → t ≡ t' → IsWayTo nodes key t way → IsWayTo nodes key' t' way
way_of nodes way key key' t t' k s w = subst (λ x. IsWayTo nodes key' x way) s (subst (λ x. IsWayTo nodes x t way) k w)

pub record Ready (nodes : List TreeNode) (way : List ℕ) (depth last : ℕ) : Type 0 where
  pub down : IsWayDown nodes way depth
  pub others : (d : ℕ) → AreOthersSmall nodes (get_or way depth d)
  pub grown : (d : ℕ) → IsGrownLeaf nodes (get_or way depth d) last

module _ (nodes : List TreeNode) (tree : IsTree nodes) (m : List Event) (holds : HoldsMap nodes m) (small : (i : ℕ) (n : TreeNode) → IsAt nodes i n → count_of n.content ≤ capacity) (e : Event) (last : ℕ) (takes : IsBeforeCommit m last e.at)
    (way : List ℕ) (w : IsWayTo nodes e.key e.at way) (depth : ℕ) (is_depth : depth ≡ length way - 1) (number : ℕ) (numbered : number ≡ get_or way depth 0) (next : List TreeNode)
    (taken : (n : TreeNode) → IsAt nodes number n → next ≡ set nodes number (with_put n e)) (accepts : (n : TreeNode) → IsAt nodes number n → AcceptsEvent n e) where
  is_number : number ≡ w.number
  is_number = numbered ∙ ends_there nodes tree m holds small e last takes way w depth is_depth 0

  there : IsAt nodes number w.leaf.leaf.node
  there = subst (λ i. IsAt nodes i w.leaf.leaf.node) (sym is_number) w.leaf.leaf.there

  made : next ≡ set nodes w.number (with_put w.leaf.leaf.node e)
  made = taken w.leaf.leaf.node there ∙ ap (λ i. set nodes i (with_put w.leaf.leaf.node e)) is_number

  accepted : AcceptsEvent w.leaf.leaf.node e
  accepted = accepts w.leaf.leaf.node there

  pub ready : Ready next way depth last
  ready = subst (λ s. Ready s way depth last) (sym made) (record {
    down = still_down nodes tree m holds small e last takes way w depth is_depth accepted;
    others = λ d. subst (AreOthersSmall (set nodes w.number (with_put w.leaf.leaf.node e))) (sym (ends_there nodes tree m holds small e last takes way w depth is_depth d)) (others_still nodes tree m holds small e last takes way w depth is_depth accepted);
    grown = λ d. subst (λ i. IsGrownLeaf (set nodes w.number (with_put w.leaf.leaf.node e)) i last) (sym (ends_there nodes tree m holds small e last takes way w depth is_depth d)) (grown_leaf nodes tree m holds small e last takes way w depth is_depth accepted);
  })

-- An index node with one reference too many: it can be split, and its halves are within capacity.
use Rattle.std.proofs.Common.{◌≡◌, ◌==◌, ℕ, ◌<◌, ◌≤◌, Bool, true, false, ◌&&◌, ◌||◌, cond, List, [], ◌∷◌, length, Some, None, refl, sym, ap, subst, ◌∙◌, ◌⊎◌, inl, inr, arith}
use Rattle.std.specs.Prelude.{nat_le, nat_lt, All}
use Rattle.std.specs.List.{filter}
use Rattle.std.proofs.lemmas.Bool.{and_from, and_parts, ltb-true, lt-ltb, leb-true, le-leb, cases_lt, false≢true}
use Rattle.std.proofs.lemmas.Bool.Decides.{nat_tests}
use Rattle.values.specs.Commits.{max_instant}
use Rattle.keyrange.specs.Rect.{Area, IsArea}
use Rattle.keyrange.specs.Range.{is_early}
use Rattle.keyrange.specs.Cut.{is_key_inside, is_time_inside, halves_by_key, halves_by_time}
use Rattle.datanode.specs.Node.{capacity}
use Rattle.indexnode.specs.declared.node.IndexNode.{IndexNode}
use Rattle.indexnode.specs.declared.reference.Reference.{Reference}
use Rattle.indexnode.specs.Choice.{current_count, HasOneCurrent, HasCurrents, StandsAlone, AreSmaller, IsLeastStart}
use Rattle.indexnode.specs.Split.{ends_after, starts_before, reaches_below, reaches_up, IsUncrossed}
use Rattle.treenodes.specs.declared.node.Child.TheVariants.{Index}
use Rattle.treenodes.specs.Node.{TreeNode, IsAt, seen, count_of}
use Rattle.treenodes.specs.Tree.{IsTree, IsIndex, RefersTo}
use Rattle.treenodes.specs.Split.{CanSplitIndexTime, CanSplitIndexKey, Halved, part_of}
use Rattle.treenodes.proofs.NodeNumbers.{one_at}
use Rattle.treegrowth.specs.Growth.{IsGrownIndex, IsOverfull, IsIndexSplit}
use Rattle.treegrowth.specs.Point.{is_index_split_by_time}
use Rattle.treegrowth.proofs.ReliefCurrent.{some_current}

-- ---- of the node that stands at the number

pub record Full (nodes : List TreeNode) (number level : ℕ) (x : IndexNode ℕ) : Type 0 where
  pub there : IsAt nodes number (seen level (Index x))
  pub area : IsArea x.rect
  pub current : x.rect.time.to ≡ None
  pub index : IsIndex nodes level x.rect x.references.items
  pub over : capacity < length x.references.items
  pub most : length x.references.items ≤ 65

-- the node is over capacity where its references are
pub overfull_at : (nodes : List TreeNode) (number : ℕ) → IsGrownIndex nodes number → (slot : TreeNode) (level : ℕ) (x : IndexNode ℕ) (rs : List (Reference ℕ)) → IsAt nodes number slot → slot ≡ seen level (Index x) → rs ≡ x.references.items → capacity < length rs → IsOverfull nodes number
overfull_at nodes number g slot level x rs at is are over = record {
  grown = g;
  over = subst (λ (n : TreeNode). capacity < count_of n.content) (sym (one_at nodes number g.node (seen level (Index x)) g.there (at ∙ ap Some is))) (subst (λ rs. capacity < length rs) are over);
}

pub full_of : (nodes : List TreeNode) → IsTree nodes → (number : ℕ) → IsOverfull nodes number → (level : ℕ) (x : IndexNode ℕ) (slot : TreeNode) → IsAt nodes number slot → slot ≡ seen level (Index x) → Full nodes number level x
full_of nodes tree number h level x slot at is =
    let there : IsAt nodes number (seen level (Index x)) = at ∙ ap Some is in
    let same : h.grown.node ≡ seen level (Index x) = one_at nodes number h.grown.node (seen level (Index x)) h.grown.there there in
    record {
      there = there;
      area = tree.areas number (seen level (Index x)) there;
      current = subst (λ (n : TreeNode). n.rect.time.to ≡ None) same h.grown.grown.current;
      index = tree.contents number (seen level (Index x)) there;
      over = subst (λ (n : TreeNode). capacity < count_of n.content) same h.over;
      most = subst (λ (n : TreeNode). count_of n.content ≤ 65) same h.grown.grown.count;
    }

module _ (nodes : List TreeNode) (number level : ℕ) (x : IndexNode ℕ) (full : Full nodes number level x) where
  abbrev refs : List (Reference ℕ)
  refs = x.references.items

  abbrev pub n : TreeNode
  n = seen level (Index x)

  -- it stands above its children
  pub high : 0 < level
  high = by refs full.over full.index.below
    where
      by : (rs : List (Reference ℕ)) → capacity < length rs → All (RefersTo nodes level) rs → 0 < level
      by [] lt all = absurd (omega arith)
      by (r ∷ rs) lt all = let up = (all 0 r (omega arith)).below in omega (arith, up)

  pub has_current : current_count refs ≡ 0 → ⊥
  has_current none = some_current x.rect refs full.area full.current full.index.tiled none

  pub one_current : current_count refs ≡ 1 → HasOneCurrent x.rect refs
  one_current one = record { tiled = full.index.tiled; meet = full.index.meet; endless = full.current; one = one }

  pub currents : (k : ℕ) → k ≤ current_count refs → HasCurrents k x.rect refs
  currents k le = record { tiled = full.index.tiled; inside = full.index.inside; count = le }

  several : (start : ℕ) → is_index_split_by_time x start ≡ false → 2 ≤ current_count refs
  several start no_time = by (cases_lt 1 (current_count refs))
    where
      by : (1 < current_count refs) ⊎ (current_count refs ≤ 1) → 2 ≤ current_count refs
      by (inl lt) = lt
      by (inr le) = absurd (either (current_count refs == 1) refl no_time)
        where
          either : (b : Bool) → (current_count refs == 1) ≡ b → (b || (nat_lt x.rect.time.from start && nat_le (length (filter (λ r. ends_after start r.rect) refs)) 42)) ≡ false → ⊥
          either true is h = false≢true (sym h)
          either false is h = has_current (none (current_count refs) is le)
            where
              none : (k : ℕ) → (k == 1) ≡ false → k ≤ 1 → k ≡ 0
              none k is le = grind (arith, nat_tests)

  pub two_currents : (start : ℕ) → is_index_split_by_time x start ≡ false → HasCurrents 2 x.rect refs
  two_currents start no_time = currents 2 (several start no_time)

  -- by time
  module _ (start : ℕ) (least : IsLeastStart refs start) (in_range : start ≤ max_instant) (fewer : length (filter (λ r. starts_before start r.rect) refs) < length refs)
      (alone : HasOneCurrent x.rect refs → StandsAlone x.rect refs start) (yes : is_index_split_by_time x start ≡ true) where
    inside_and_few : (x.rect.time.from < start) × (length (filter (λ r. ends_after start r.rect) refs) ≤ capacity)
    inside_and_few = by (current_count refs == 1) refl yes
      where
        by : (b : Bool) → (current_count refs == 1) ≡ b → (b || (nat_lt x.rect.time.from start && nat_le (length (filter (λ r. ends_after start r.rect) refs)) 42)) ≡ true → (x.rect.time.from < start) × (length (filter (λ r. ends_after start r.rect) refs) ≤ capacity)
        by true is h =
            let stands = alone (one_current (grind (arith, nat_tests, is))) in
            let stays = stands.stays in
            (stands.later (let over = full.over in omega arith), omega (arith, stays))
        by false is h =
            let few : length (filter (λ r. ends_after start r.rect) refs) ≤ 42 = leb-true _ 42 (and_parts (nat_lt x.rect.time.from start) _ h).1 in
            (ltb-true x.rect.time.from start (and_parts _ _ h).0, omega arith)

    pub inside_time : is_time_inside x.rect start ≡ true
    inside_time = and_from _ _ (lt-ltb x.rect.time.from start inside_and_few.0) (and_from _ _ (ap (is_early start) full.current) (le-leb start max_instant in_range))

    pub can_time : CanSplitIndexTime nodes number start
    can_time = record { node = seen level (Index x); there = full.there; is_index = tt; current = full.current; inside = inside_time; before = least.none_before }

    abbrev pub times : Area × Area
    times = (record { keys = x.rect.keys; time = record { from = x.rect.time.from; to = Some start } }, record { keys = x.rect.keys; time = record { from = start; to = x.rect.time.to } })

    pub made_time : halves_by_time x.rect start ≡ Some times
    made_time = ap (λ b. cond b (Some times) None) inside_time

    pub time_split : (after : List TreeNode) (parent : ℕ) → Halved nodes after parent number (part_of n times.0 (filter (λ r. starts_before start r.rect))) (part_of n times.1 (filter (λ r. ends_after start r.rect))) → IsIndexSplit nodes after parent number
    time_split after parent halved = record {
      first = part_of n times.0 (filter (λ r. starts_before start r.rect));
      second = part_of n times.1 (filter (λ r. ends_after start r.rect));
      halved = halved;
      first_level = high;
      second_level = high;
      first_small = (let most = full.most in let lt = fewer in omega (arith, most, lt));
      second_small = inside_and_few.1;
    }

  -- at a key
  module _ (key : List ℕ) (inside : is_key_inside x.rect key ≡ true) (uncrossed : IsUncrossed key refs) (smaller : AreSmaller key refs) where
    pub can_key : CanSplitIndexKey nodes number key
    can_key = record { node = seen level (Index x); there = full.there; is_index = tt; current = full.current; inside = inside; uncrossed = uncrossed }

    abbrev pub keys : Area × Area
    keys = (record { keys = record { lo = x.rect.keys.lo; hi = Some key }; time = x.rect.time }, record { keys = record { lo = key; hi = x.rect.keys.hi }; time = x.rect.time })

    pub made_keys : halves_by_key x.rect key ≡ Some keys
    made_keys = ap (λ b. cond b (Some keys) None) inside

    pub key_split : (after : List TreeNode) (parent : ℕ) → Halved nodes after parent number (part_of n keys.0 (filter (λ r. reaches_below key r.rect))) (part_of n keys.1 (filter (λ r. reaches_up key r.rect))) → IsIndexSplit nodes after parent number
    key_split after parent halved = record {
      first = part_of n keys.0 (filter (λ r. reaches_below key r.rect));
      second = part_of n keys.1 (filter (λ r. reaches_up key r.rect));
      halved = halved;
      first_level = high;
      second_level = high;
      first_small = (let most = full.most in let lt = smaller.below in omega (arith, most, lt));
      second_small = (let most = full.most in let lt = smaller.above in omega (arith, most, lt));
    }

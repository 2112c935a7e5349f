-- A tree stays one where a current node is split: one half takes its slot, the other a new one, and the parent refers to both.
use Rattle.std.proofs.Common.{◌≡◌, ◌≢◌, ℕ, suc, ◌+◌, ◌≤◌, Bool, true, false, cond, List, [], ◌∷◌, ◌++◌, length, get_or, set, Option, None, refl, sym, ap, subst, ◌∙◌, ◌⊎◌, inl, inr, arith, length-set, length-append}
use Rattle.std.specs.Prelude.{IsTrue, slice_get, All, is_none}
use Rattle.std.specs.List.{filter, Any}
use Rattle.std.proofs.lemmas.Bool.{and_from}
use Rattle.std.proofs.lemmas.List.Elements.{All-weaker, All-append, All-nil, All-cons, filter-append}
use Rattle.values.specs.Event.{Event}
use Rattle.keyrange.specs.Rect.{Area, has_point, Common, IsArea, IsInside}
use Rattle.keyrange.proofs.RectInside.{first_key_in, first_instant_in, inside_itself, halves_inside, halves_apart, common_to_outer, common_either_way, inner_is_common}
use Rattle.indexnode.specs.declared.reference.Reference.{Reference}
use Rattle.indexnode.specs.Node.{Tiles, AllMeet}
use Rattle.indexnode.specs.Split.{is_current, AreCurrentIn}
use Rattle.indexnode.specs.Replacement.{Replaced}
use Rattle.indexnode.proofs.ReplacementPlace.{fronts, backs}
use Rattle.treenodes.specs.Node.{Content, Events, References, TreeNode, IsAt, references_of}
use Rattle.treenodes.specs.Tree.{RefersTo, IsIndex, HasContent, HasRoot, IsTree}
use Rattle.treenodes.specs.Map.{HoldsMap, IsCut, EndsBy, latest}
use Rattle.treenodes.specs.History.{KeepsHistory}
use Rattle.treenodes.specs.Split.{AreSplit, HoldCuts, Halved}
use Rattle.treenodes.proofs.HistoryKept.{endless_outer, keeps_then, keeps_set, keeps_push}
use Rattle.treenodes.proofs.NodeNumbers.{at_set, set_other, set_same, at_push, push_old, push_new, one_at, same_or_not}

-- ---- of a list in which one alone passes, none behind that one does

module _ {X : Type 0} (p : X → Bool) where
  none_by : (b : Bool) (x : X) (xs : List X) → p x ≡ b → length (cond b (x ∷ filter p xs) (filter p xs)) ≡ 0 → (length (filter p xs) ≡ 0 → All (λ y. p y ≡ false) xs) → All (λ y. p y ≡ false) (x ∷ xs)
  none_by true x xs is none rest = absurd (omega (arith, none))
  none_by false x xs is none rest = All-cons (λ y. p y ≡ false) x xs is (rest none)

  none_pass : (xs : List X) → length (filter p xs) ≡ 0 → All (λ y. p y ≡ false) xs
  none_pass [] h = All-nil (λ y. p y ≡ false)
  none_pass (x ∷ xs) h = none_by (p x) x xs refl h (none_pass xs)

  pub none_behind : (front : List X) (x : X) (back : List X) → p x ≡ true → length (filter p (front ++ x ∷ back)) ≡ 1 → All (λ y. p y ≡ false) back
  none_behind front x back is one =
      let parts : length (filter p (front ++ x ∷ back)) ≡ length (filter p front) + length (filter p (x ∷ back)) = ap length (filter-append p front (x ∷ back)) ∙ length-append (filter p front) (filter p (x ∷ back)) in
      let more : length (filter p (x ∷ back)) ≡ suc (length (filter p back)) = ap (λ b. length (cond b (x ∷ filter p back) (filter p back))) is in
      none_pass back (omega arith)

module _ (nodes : List TreeNode) (tree : IsTree nodes) (c p : ℕ) (n first second : TreeNode) (at_c : IsAt nodes c n) (split : AreSplit nodes n first second) (lp : ℕ) (rp : Area) (rs rs' : List (Reference ℕ))
    (at_p : IsAt nodes p (record { level = lp; rect = rp; content = References rs; packed = None })) (refers : Any (λ r. r.child ≡ c) rs) where
  abbrev pub parent : TreeNode
  parent = record { level = lp; rect = rp; content = References rs; packed = None }

  abbrev pub parent' : TreeNode
  parent' = record { level = lp; rect = rp; content = References rs'; packed = None }

  abbrev pub after : List TreeNode
  after = set (set nodes c first) p parent' ++ second ∷ []

  index : IsIndex nodes lp rp rs
  index = tree.contents p parent at_p

  the_reference : (r : Reference ℕ) × RefersTo nodes lp r × ((r.child ≡ c) × ((IsTrue (is_current r) → IsInside r.rect rp)))
  the_reference =
      let k = refers.0 in
      let r = refers.1 in
      (r, subst (RefersTo nodes lp) refers.3 (index.below k r refers.2), (refers.4, subst (λ (s : Reference ℕ). IsTrue (is_current s) → IsInside s.rect rp) refers.3 (index.inside k r refers.2)))

  -- a reference to the node has its rectangle, and is of the level above
  of_node : (level : ℕ) (r : Reference ℕ) → RefersTo nodes level r → r.child ≡ c → (level ≡ n.level + 1) × (r.rect ≡ n.rect)
  of_node level r h e =
      let same : h.node ≡ n = one_at nodes c h.node n (ap (slice_get nodes) (sym e) ∙ h.there) at_c in
      (h.below ∙ ap (λ (q : TreeNode). q.level + 1) same, h.same ∙ ap (λ (q : TreeNode). q.rect) same)

  above : lp ≡ n.level + 1
  above = (of_node lp the_reference.0 the_reference.1 the_reference.2.0).0

  is_current_ref : (r : Reference ℕ) → r.rect ≡ n.rect → is_current r ≡ true
  is_current_ref r e = ap (λ (a : Area). is_none a.time.to) e ∙ ap is_none split.current

  pub in_parent : IsInside n.rect rp
  in_parent =
      let r = the_reference.0 in
      let e = (of_node lp r the_reference.1 the_reference.2.0).1 in
      subst (λ a. IsInside a rp) e (the_reference.2.1 (is_current_ref r e))

  -- no other index node refers to it
  one_parent : (q level : ℕ) (rect : Area) (ts : List (Reference ℕ)) (pk : Option (List ℕ)) → IsAt nodes q (record { level = level; rect = rect; content = References ts; packed = pk }) → q ≢ p → (r : Reference ℕ) → RefersTo nodes level r → (IsTrue (is_current r) → IsInside r.rect rect) → r.child ≢ c
  one_parent q level rect ts pk at_q other r refers_r inside e =
      let o = of_node level r refers_r e in
      let lies : IsInside n.rect rect = subst (λ a. IsInside a rect) o.1 (inside (is_current_ref r o.1)) in
      other (tree.apart q p _ parent at_q at_p (o.0 ∙ sym above) (inner_is_common n.rect rect rp (tree.areas c n at_c) lies in_parent))

  c_not_p : c ≢ p
  c_not_p e =
      let same : n ≡ parent = one_at nodes c n parent at_c (ap (slice_get nodes) e ∙ at_p) in
      let levels : n.level ≡ lp = ap (λ (q : TreeNode). q.level) same in
      absurd (omega (arith, above))

  c_not_root : c ≢ 0
  c_not_root e =
      let same : n ≡ tree.root.root = one_at nodes c n tree.root.root at_c (ap (slice_get nodes) e ∙ tree.root.first) in
      let levels : n.level ≡ tree.root.root.level = ap (λ (q : TreeNode). q.level) same in
      let le : lp ≤ tree.root.root.level = tree.levels p parent at_p in
      absurd (omega (arith, above))

  -- ---- what stands where

  pub long : length (set (set nodes c first) p parent') ≡ length nodes
  long = length-set (set nodes c first) p parent' ∙ length-set nodes c first

  abbrev Where : ℕ → TreeNode → Type 0
  Where j q = ((j ≡ length nodes) × (q ≡ second)) ⊎ (((j ≡ p) × (q ≡ parent')) ⊎ (((j ≡ c) × (q ≡ first)) ⊎ ((j ≢ c) × ((j ≢ p) × IsAt nodes j q))))

  where_is : (j : ℕ) (q : TreeNode) → IsAt after j q → Where j q
  where_is j q here = elim (at_push (set (set nodes c first) p parent') second j q here) [
    | inl e ↦ inl (e.0 ∙ long, e.1)
    | inr h ↦ elim (at_set (set nodes c first) p parent' j q h) [
      | inl e ↦ inr (inl e)
      | inr g ↦ elim (at_set nodes c first j q g.1) [
        | inl e ↦ inr (inr (inl e))
        | inr f ↦ inr (inr (inr (f.0, (g.0, f.1))))
      ]
    ]
  ]

  pub others : (j : ℕ) (q : TreeNode) → j ≢ c → j ≢ p → IsAt nodes j q → IsAt after j q
  others j q not_c not_p h = push_old (set (set nodes c first) p parent') second j q (set_other (set nodes c first) p parent' j q not_p (set_other nodes c first j q not_c h))

  pub at_first : IsAt after c first
  at_first = push_old (set (set nodes c first) p parent') second c first (set_other (set nodes c first) p parent' c first c_not_p (set_same nodes c first n at_c))

  pub at_parent : IsAt after p parent'
  at_parent = push_old (set (set nodes c first) p parent') second p parent' (set_same (set nodes c first) p parent' parent (set_other nodes c first p parent (λ e. c_not_p (sym e)) at_p))

  pub at_second : IsAt after (length nodes) second
  at_second = subst (λ k. IsAt after k second) long (push_new (set (set nodes c first) p parent') second)

  -- ---- references

  still_refers : (level : ℕ) (r : Reference ℕ) → r.child ≢ c → RefersTo nodes level r → RefersTo after level r
  still_refers level r not_c h = by (same_or_not r.child p)
    where
      by : (r.child ≡ p) ⊎ (r.child ≢ p) → RefersTo after level r
      by (inl e) =
          let same : h.node ≡ parent = one_at nodes p h.node parent (ap (slice_get nodes) (sym e) ∙ h.there) at_p in
          record { node = parent'; there = ap (slice_get after) e ∙ at_parent; below = h.below ∙ ap (λ (q : TreeNode). q.level + 1) same; same = h.same ∙ ap (λ (q : TreeNode). q.rect) same }
      by (inr not_p) = record { node = h.node; there = others r.child h.node not_c not_p h.there; below = h.below; same = h.same }

  -- the halves' own references name nodes below them
  own : (rect : Area) (content : Content) → HasContent nodes n.level rect content → HasContent after n.level rect content
  own rect (Events es) h = h
  own rect (References ts) h = record { tiled = h.tiled; meet = h.meet; inside = h.inside; below = All-weaker (RefersTo nodes n.level) (RefersTo after n.level) (λ r refers_r. still_refers n.level r (λ e. absurd (let o = (of_node n.level r refers_r e).0 in omega arith)) refers_r) ts h.below }

  kept : (q level : ℕ) (rect : Area) (content : Content) (pk : Option (List ℕ)) → IsAt nodes q (record { level = level; rect = rect; content = content; packed = pk }) → q ≢ p → HasContent nodes level rect content → HasContent after level rect content
  kept q level rect (Events es) pk at_q other h = h
  kept q level rect (References ts) pk at_q other h = record {
    tiled = h.tiled;
    meet = h.meet;
    inside = h.inside;
    below = λ k d lt. still_refers level (get_or ts k d) (one_parent q level rect ts pk at_q other (get_or ts k d) (h.below k d lt) (h.inside k d lt)) (h.below k d lt);
  }

  module _ (area_first : IsArea first.rect) (area_second : IsArea second.rect) (tiled : Tiles rp rs') (meet : AllMeet rp rs') (inside : AreCurrentIn rp rs') (replaced : Replaced n.rect (record { rect = first.rect; child = c } ∷ record { rect = second.rect; child = length nodes } ∷ []) rs rs') where
    abbrev one : Reference ℕ
    one = record { rect = first.rect; child = c }

    abbrev other : Reference ℕ
    other = record { rect = second.rect; child = length nodes }

    all_before : All (RefersTo nodes lp) (replaced.front ++ replaced.reference ∷ replaced.back)
    all_before = subst (All (RefersTo nodes lp)) replaced.was index.below

    front_refers : All (RefersTo after lp) replaced.front
    front_refers = λ k d lt.
        let r = get_or replaced.front k d in
        let h : RefersTo nodes lp r = fronts (RefersTo nodes lp) replaced.front (replaced.reference ∷ replaced.back) all_before k d lt in
        still_refers lp r (λ e. replaced.first k d lt (of_node lp r h e).1) h

    point : has_point n.rect n.rect.keys.lo n.rect.time.from ≡ true
    point = and_from _ _ (first_key_in n.rect (tree.areas c n at_c)) (first_instant_in n.rect (tree.areas c n at_c))

    abbrev holds_it : Reference ℕ → Bool
    holds_it r = has_point r.rect n.rect.keys.lo n.rect.time.from

    back_away : All (λ r. holds_it r ≡ false) replaced.back
    back_away = none_behind holds_it replaced.front replaced.reference replaced.back (ap (λ a. has_point a n.rect.keys.lo n.rect.time.from) replaced.has ∙ point)
        (ap (λ l. length (filter holds_it l)) (sym replaced.was) ∙ index.tiled.once n.rect.keys.lo n.rect.time.from (in_parent n.rect.keys.lo n.rect.time.from point))

    back_refers : All (RefersTo after lp) replaced.back
    back_refers = λ k d lt.
        let r = get_or replaced.back k d in
        let h : RefersTo nodes lp r = backs (RefersTo nodes lp) replaced.front replaced.reference replaced.back all_before k d lt in
        still_refers lp r (λ e. absurd (let away : holds_it r ≡ false = back_away k d lt in let has : holds_it r ≡ true = ap (λ a. has_point a n.rect.keys.lo n.rect.time.from) (of_node lp r h e).1 ∙ point in cc)) h

    to_first : RefersTo after lp (record { rect = first.rect; child = c })
    to_first = record { node = first; there = at_first; below = above ∙ ap (λ l. l + 1) (sym split.first_level); same = refl }

    to_second : RefersTo after lp (record { rect = second.rect; child = length nodes })
    to_second = record { node = second; there = at_second; below = above ∙ ap (λ l. l + 1) (sym split.second_level); same = refl }

    parent_index : IsIndex after lp rp rs'
    parent_index = record {
      tiled = tiled;
      meet = meet;
      inside = inside;
      below = subst (All (RefersTo after lp)) (sym replaced.is)
          (All-append (RefersTo after lp) (replaced.front ++ one ∷ other ∷ []) replaced.back
          (All-append (RefersTo after lp) replaced.front (one ∷ other ∷ []) front_refers (All-cons (RefersTo after lp) one (other ∷ []) to_first (All-cons (RefersTo after lp) other [] to_second (All-nil (RefersTo after lp))))) back_refers);
    }

    -- ---- rectangles

    a_in : IsInside first.rect n.rect
    a_in = (halves_inside n.rect first.rect second.rect split.halves).0

    b_in : IsInside second.rect n.rect
    b_in = (halves_inside n.rect first.rect second.rect split.halves).1

    -- each node but the second half was there, of its level and round it
    record WasRound (j : ℕ) (q : TreeNode) : Type 0 where
      before : TreeNode
      there : IsAt nodes j before
      level : q.level ≡ before.level
      round : IsInside q.rect before.rect

    abbrev Round : ℕ → TreeNode → Type 0
    Round j q = ((j ≡ length nodes) × (q ≡ second)) ⊎ WasRound j q

    round_by : (j : ℕ) (q : TreeNode) → Where j q → Round j q
    round_by j q (inl e) = inl e
    round_by j q (inr (inl e)) = inr (record { before = parent; there = ap (slice_get nodes) e.0 ∙ at_p; level = ap (λ (q : TreeNode). q.level) e.1; round = subst (λ (q : TreeNode). IsInside q.rect rp) (sym e.1) (inside_itself rp) })
    round_by j q (inr (inr (inl e))) = inr (record { before = n; there = ap (slice_get nodes) e.0 ∙ at_c; level = ap (λ (q : TreeNode). q.level) e.1 ∙ split.first_level; round = subst (λ (q : TreeNode). IsInside q.rect n.rect) (sym e.1) a_in })
    round_by j q (inr (inr (inr h))) = inr (record { before = q; there = h.1.1; level = refl; round = inside_itself q.rect })

    round_is : (j : ℕ) (q : TreeNode) → IsAt after j q → Round j q
    round_is j q here = round_by j q (where_is j q here)

    -- what meets the second half was the node, and now is the first half, which does not
    meets_second : (j : ℕ) (q : TreeNode) → IsAt after j q → WasRound j q → q.level ≡ n.level → Common second.rect q.rect → ⊥
    meets_second j q here w level meet =
        let old : Common n.rect w.before.rect = common_either_way w.before.rect n.rect (common_to_outer q.rect w.before.rect n.rect w.round (common_either_way n.rect q.rect (common_to_outer second.rect n.rect q.rect b_in meet))) in
        let at : c ≡ j = tree.apart c j n w.before at_c w.there (sym level ∙ w.level) old in
        let same : q ≡ first = one_at after j q first here (ap (slice_get after) (sym at) ∙ at_first) in
        halves_apart n.rect first.rect second.rect split.halves (common_either_way second.rect first.rect (subst (λ (q : TreeNode). Common second.rect q.rect) same meet))

    apart_by : (j k : ℕ) (q r : TreeNode) → IsAt after j q → IsAt after k r → q.level ≡ r.level → Common q.rect r.rect → Round j q → Round k r → j ≡ k
    apart_by j k q r at_j at_k level meet (inl e) (inl f) = e.0 ∙ sym f.0
    apart_by j k q r at_j at_k level meet (inl e) (inr w) =
        absurd (meets_second k r at_k w (sym level ∙ ap (λ (q : TreeNode). q.level) e.1 ∙ split.second_level) (subst (λ (q : TreeNode). Common q.rect r.rect) e.1 meet))
    apart_by j k q r at_j at_k level meet (inr w) (inl e) =
        absurd (meets_second j q at_j w (level ∙ ap (λ (q : TreeNode). q.level) e.1 ∙ split.second_level) (subst (λ (r : TreeNode). Common r.rect q.rect) e.1 (common_either_way q.rect r.rect meet)))
    apart_by j k q r at_j at_k level meet (inr w) (inr v) =
        tree.apart j k w.before v.before w.there v.there (sym w.level ∙ level ∙ v.level)
        (common_to_outer q.rect w.before.rect v.before.rect w.round (common_either_way v.before.rect q.rect (common_to_outer r.rect v.before.rect q.rect v.round (common_either_way q.rect r.rect meet))))

    area_by : (j : ℕ) (q : TreeNode) → Where j q → IsArea q.rect
    area_by j q (inl e) = subst (λ (q : TreeNode). IsArea q.rect) (sym e.1) area_second
    area_by j q (inr (inl e)) = subst (λ (q : TreeNode). IsArea q.rect) (sym e.1) (tree.areas p parent at_p)
    area_by j q (inr (inr (inl e))) = subst (λ (q : TreeNode). IsArea q.rect) (sym e.1) area_first
    area_by j q (inr (inr (inr h))) = tree.areas j q h.1.1

    has_by : (j : ℕ) (q : TreeNode) → Where j q → HasContent after q.level q.rect q.content
    has_by j q (inl e) = subst (λ (q : TreeNode). HasContent after q.level q.rect q.content) (sym e.1) (subst (λ l. HasContent after l second.rect second.content) (sym split.second_level) (own second.rect second.content split.second_has))
    has_by j q (inr (inl e)) = subst (λ (q : TreeNode). HasContent after q.level q.rect q.content) (sym e.1) parent_index
    has_by j q (inr (inr (inl e))) = subst (λ (q : TreeNode). HasContent after q.level q.rect q.content) (sym e.1) (subst (λ l. HasContent after l first.rect first.content) (sym split.first_level) (own first.rect first.content split.first_has))
    has_by j q (inr (inr (inr h))) = kept j q.level q.rect q.content q.packed h.1.1 h.1.0 (tree.contents j q h.1.1)

    level_by : (j : ℕ) (q : TreeNode) → Round j q → q.level ≤ tree.root.root.level
    level_by j q (inl e) = let le : n.level ≤ tree.root.root.level = tree.levels c n at_c in let is : q.level ≡ n.level = ap (λ (q : TreeNode). q.level) e.1 ∙ split.second_level in omega arith
    level_by j q (inr w) = let le : w.before.level ≤ tree.root.root.level = tree.levels j w.before w.there in omega (arith, w.level)

    -- the root keeps its level and its rectangle
    record RootIs : Type 0 where
      node : TreeNode
      there : IsAt after 0 node
      level : node.level ≡ tree.root.root.level
      rect : node.rect ≡ tree.root.root.rect

    root_by : (0 ≡ p) ⊎ (0 ≢ p) → RootIs
    root_by (inl e) =
        let same : tree.root.root ≡ parent = one_at nodes 0 tree.root.root parent tree.root.first (ap (slice_get nodes) e ∙ at_p) in
        record { node = parent'; there = ap (slice_get after) e ∙ at_parent; level = sym (ap (λ (q : TreeNode). q.level) same); rect = sym (ap (λ (q : TreeNode). q.rect) same) }
    root_by (inr other) = record { node = tree.root.root; there = others 0 tree.root.root (λ e. c_not_root (sym e)) other tree.root.first; level = refl; rect = refl }

    root_is : RootIs
    root_is = root_by (same_or_not 0 p)

    abbrev root : HasRoot after
    root = record { root = root_is.node; first = root_is.there; covers = root_is.rect ∙ tree.root.covers }

    pub split_tree : IsTree after
    split_tree = record {
      root = root;
      areas = λ j q here. area_by j q (where_is j q here);
      contents = λ j q here. has_by j q (where_is j q here);
      levels = λ j q here. let le : q.level ≤ tree.root.root.level = level_by j q (round_is j q here) in omega (arith, root_is.level);
      height = omega (arith, tree.height, root_is.level, long, length-append (set (set nodes c first) p parent') (second ∷ []));
      apart = λ j k q r at_j at_k level meet. apart_by j k q r at_j at_k level meet (round_is j q at_j) (round_is k r at_k);
    }

  pub halved : (given : List (Reference ℕ)) → length given ≡ 2 → Replaced n.rect given rs rs' → Halved nodes after p c first second
  halved given two replaced = record {
    first_there = at_first;
    second_there = at_second;
    long = length-append (set (set nodes c first) p parent') (second ∷ []) ∙ ap (λ k. k + 1) long;
    others = others;
    above = parent';
    above_there = at_parent;
    as_before = λ q at_q. let same = one_at nodes p parent q at_p at_q in
        record { level = ap (λ (q : TreeNode). q.level) same; rect = ap (λ (q : TreeNode). q.rect) same; index = tt; more = more ∙ ap (λ (q : TreeNode). length (references_of q.content) + 1) same };
  }
    where
      more : length rs' ≡ length rs + 1
      more = omega (arith, two, ap length replaced.was ∙ length-append replaced.front (replaced.reference ∷ replaced.back), ap length replaced.is ∙ length-append (replaced.front ++ given) replaced.back, length-append replaced.front given)

  -- ---- history

  parent_current : rp.time.to ≡ None
  parent_current = endless_outer n.rect rp (tree.areas c n at_c) split.current in_parent

  pub history : first.packed ≡ None → second.packed ≡ None → KeepsHistory nodes after
  history one two =
      let lower = set nodes c first in
      let upper = set lower p parent' in
      keeps_then nodes lower after (keeps_set nodes c n first at_c split.current one)
      (keeps_then lower upper after (keeps_set lower p parent parent' (set_other nodes c first p parent (λ e. c_not_p (sym e)) at_p) parent_current refl) (keeps_push upper second two))

  -- ---- the map

  module _ (m : List Event) (holds : HoldsMap nodes m) (cuts : HoldCuts m first second) where
    cut_by : (j : ℕ) (q : TreeNode) → Where j q → IsCut m q.rect q.content
    cut_by j q (inl e) = subst (λ (q : TreeNode). IsCut m q.rect q.content) (sym e.1) cuts.second_cut
    cut_by j q (inr (inl e)) = subst (λ (q : TreeNode). IsCut m q.rect q.content) (sym e.1) tt
    cut_by j q (inr (inr (inl e))) = subst (λ (q : TreeNode). IsCut m q.rect q.content) (sym e.1) cuts.first_cut
    cut_by j q (inr (inr (inr h))) = holds.cuts j q h.1.1

    ends_by : (j : ℕ) (q : TreeNode) → Where j q → EndsBy (latest m) q.content q.rect.time.to
    ends_by j q (inl e) = subst (λ (q : TreeNode). EndsBy (latest m) q.content q.rect.time.to) (sym e.1) cuts.second_ends
    ends_by j q (inr (inl e)) = subst (λ (q : TreeNode). EndsBy (latest m) q.content q.rect.time.to) (sym e.1) tt
    ends_by j q (inr (inr (inl e))) = subst (λ (q : TreeNode). EndsBy (latest m) q.content q.rect.time.to) (sym e.1) cuts.first_ends
    ends_by j q (inr (inr (inr h))) = holds.ended j q h.1.1

    pub split_holds : HoldsMap after m
    split_holds = record { ordered = holds.ordered; instants = holds.instants; cuts = λ j q here. cut_by j q (where_is j q here); ended = λ j q here. ends_by j q (where_is j q here) }

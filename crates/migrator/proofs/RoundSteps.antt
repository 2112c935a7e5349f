-- The steps of a round.
use Rattle.std.proofs.Common.{◌≡◌, ℕ, Bool, true, false, List, [], ◌∷◌, ◌++◌, map, append_assoc, length, get_or, Option, Some, None, refl, sym, ap, subst, ◌∙◌}
use Rattle.std.specs.Prelude.{Contains, MatchOption, slice_get}
use Rattle.std.specs.List.{swap_remove}
use Rattle.std.specs.List.Sorted.{IsPermutation, IsStrictlySortedBy}
use Rattle.std.specs.Ordering.{ordering_reverse, is_lt}
use Rattle.std.specs.declared.cmp.Ordering.{Ordering}
use Rattle.std.specs.declared.cmp.Ordering.TheVariants.{Less, Equal, Greater}
use Rattle.std.proofs.lemmas.List.{map-append, nil_from_length}
use Rattle.std.proofs.lemmas.Option.{get_or_from_slice_get, slice_get_within}
use Rattle.std.proofs.lemmas.List.Elements.{All-nil, All-push, Contains-append_left, Contains-push}
use Rattle.std.proofs.lemmas.List.Sorted.{IsPermutation-append_left, IsPermutation-map, IsPermutation-middle, IsPermutation-push_more, IsPermutation-refl, IsPermutation-swap_remove, IsPermutation-sym, IsPermutation-to_front, IsPermutation-trans}
use Rattle.keyrange.specs.Rect.{Area}
use Rattle.datanode.specs.Node.{Node}
use Rattle.sessions.specs.treenodes.Node.{TreeNode, data_node}
use Rattle.sessions.specs.treenodes.Tree.{IsTree}
use Rattle.sessions.specs.treenodes.Backlog.{IsBehind, IsFirstWaiting, IsWaiting, start_cmp}
use Rattle.sessions.proofs.treenodes.BacklogOrder.{start_total}
use Rattle.sessions.specs.tsbtree.View.{TreeState}
use Rattle.blocks.specs.Block.{block_of}
use Rattle.blocks.specs.PackedNode.{Packed}
use Rattle.sessions.specs.journal.declared.entry.Entry.{Entry}
use Rattle.sessions.specs.journal.declared.entry.Entry.TheVariants.{Install}
use Rattle.sessions.specs.Store.{IsInstallOf}
use Rattle.migrator.specs.Round.{AreInstalled, Given, IsInstallIn, IsAskedLast, IsOver, IsPart, IsUnderWay, IsWhole, RoundState, rect_of}
use Rattle.migrator.proofs.RoundStarts.{sorted_more, sorted_none, sorted_one, starts_apart}

-- the one at a place is taken out
pub taken_out : (xs ys : List Area) (place : ℕ) (x r : Area) → x ≡ get_or xs place x → ys ≡ swap_remove xs place x → slice_get xs place ≡ Some r → IsPermutation xs (r ∷ ys)
taken_out xs ys place x r read are at =
    let same : x ≡ r = read ∙ get_or_from_slice_get xs place r x at in
    subst (λ (a : Area). IsPermutation xs (a ∷ ys)) same
    (subst (λ (l : List Area). IsPermutation xs (x ∷ l)) (sym are)
    (IsPermutation-swap_remove xs place x (slice_get_within xs place r at) read))

-- what the store says of an install is what the round promises of it
pub install_in : (view : TreeState) (packed : Packed) (e : Given) → IsInstallOf packed e.1 → IsWaiting view.nodes None (data_node packed.node) → packed.bytes ≡ block_of packed.node → IsInstallIn view e
install_in view packed e is unpacked block = record {
  node = packed.node;
  unpacked = unpacked;
  done = is.done;
  entry_is = is.entry_is ∙ ap (λ b. Install packed.node.rect b is.done) block;
}

pub install_rect : (packed : Packed) (e : Entry) (r : Area) → IsInstallOf packed e → r ≡ packed.node.rect → rect_of e ≡ Some r
install_rect packed e r is same = ap rect_of is.entry_is ∙ ap Some (sym same)

abbrev pub Found : TreeState → Option Area → Option Node → Type 0
Found view after found = MatchOption found
    ((p : TreeNode) → IsWaiting view.nodes after p → ⊥)
    (λ node. IsFirstWaiting view.nodes after (data_node node))

-- there is none after the last
pub no_more : (view shown : TreeState) (after last : Option Area) (found : Option Node) → view ≡ shown → last ≡ after → found ≡ None → Found view last found → IsTree view.nodes → IsOver shown after
no_more view shown after last found same is none all tree =
    subst (λ (v : TreeState). IsOver v after) same (
      tree,
      subst (λ (a : Option Area). (p : TreeNode) → IsWaiting view.nodes a p → ⊥) is
          (subst (Found view last) none all),
    )

-- a round by its parts
abbrev round : Option Area → List Area → List Given → RoundState
round after asked given = record { after = after; asked = asked; given = given }

module _ (begin : Given) (view : TreeState) where
  pub begins : (asked : List Area) (given : List Given) → asked ≡ [] → given ≡ begin ∷ [] → IsUnderWay begin view (round None asked given)
  begins asked given none are = record {
    rects = [];
    installs = [];
    given_are = are;
    installed = record {
      in_turn = sorted_none;
      each = All-nil (IsInstallIn view);
      once = subst (λ (l : List Area). IsPermutation (map Some []) (map Some l ++ map (λ (g : Given). rect_of g.1) [])) (sym none) (IsPermutation-refl []);
    };
    last = refl;
    upto = λ tree n w first. absurd (first w);
  }

  -- ---- one more is asked for

  rising : (after : Option Area) (rects : List Area) (r : Area) → IsAskedLast after rects → IsStrictlySortedBy start_cmp rects → IsBehind after r → IsStrictlySortedBy start_cmp (rects ++ r ∷ [])
  rising None rects r last sorted behind = subst (λ (l : List Area). IsStrictlySortedBy start_cmp (l ++ r ∷ [])) (sym last) (sorted_one r)
  rising (Some s) rects r last sorted behind =
      subst (λ (l : List Area). IsStrictlySortedBy start_cmp (l ++ r ∷ [])) (sym last.1)
      (sorted_more last.0 s r (subst (IsStrictlySortedBy start_cmp) last.1 sorted) (less (start_cmp s r) behind))
    where
      less : (o : Ordering) → is_lt o ≡ true → o ≡ Less
      less Less h = refl
      less Equal h = absurd (cc)
      less Greater h = absurd (cc)

  module _ (q : RoundState) (u : IsUnderWay begin view q) where
    module _ (node : Node) (found : IsFirstWaiting view.nodes q.after (data_node node)) where
      waits : IsWaiting view.nodes None (data_node node)
      waits = record { number = found.waiting.number; there = found.waiting.there; unpacked = found.waiting.unpacked; behind = tt }

      -- what does not come after the new one is the new one, or was there before
      covered : IsTree view.nodes → (n : TreeNode) → IsWaiting view.nodes None n → (IsWaiting view.nodes (Some node.rect) n → ⊥) → Contains (u.rects ++ node.rect ∷ []) n.rect
      covered tree n w first = by (start_cmp node.rect n.rect) refl
        where
          behind : start_cmp node.rect n.rect ≡ Less → IsWaiting view.nodes (Some node.rect) n
          behind is = record { number = w.number; there = w.there; unpacked = w.unpacked; behind = ap is_lt is }

          earlier : start_cmp node.rect n.rect ≡ Greater → IsWaiting view.nodes q.after n → ⊥
          earlier is v =
              let less : start_cmp n.rect node.rect ≡ Less = start_total.antisymm n.rect node.rect ∙ ap ordering_reverse is in
              let not_less : is_lt (start_cmp n.rect node.rect) ≡ false = found.first n v in
              let never : ◌≡◌ {A = Bool} false true = sym not_less ∙ ap is_lt less in
              cc

          by : (o : Ordering) → start_cmp node.rect n.rect ≡ o → Contains (u.rects ++ node.rect ∷ []) n.rect
          by Less is = absurd (first (behind is))
          by Equal is = subst (Contains (u.rects ++ node.rect ∷ [])) (starts_apart view.nodes tree (data_node node) n waits w is) (Contains-push u.rects node.rect)
          by Greater is = Contains-append_left u.rects (node.rect ∷ []) n.rect (u.upto tree n w (earlier is))

      more_once : IsPermutation (map Some (u.rects ++ node.rect ∷ [])) (map Some (q.asked ++ node.rect ∷ []) ++ map (λ g. rect_of g.1) u.installs)
      more_once =
          let x : Option Area = Some node.rect in
          let a : List (Option Area) = map Some q.asked in
          let i : List (Option Area) = map (λ g. rect_of g.1) u.installs in
          let turned : IsPermutation (x ∷ (a ++ i)) (a ++ x ∷ i) = IsPermutation-sym (a ++ x ∷ i) (x ∷ (a ++ i)) (IsPermutation-middle a x i) in
          let joined : IsPermutation (map Some u.rects ++ x ∷ []) (a ++ x ∷ i) = IsPermutation-push_more (map Some u.rects) (a ++ i) (a ++ x ∷ i) x u.installed.once turned in
          subst (λ (l : List (Option Area)). IsPermutation l (map Some (q.asked ++ node.rect ∷ []) ++ i)) (sym (map-append Some u.rects (node.rect ∷ [])))
          (subst (λ (l : List (Option Area)). IsPermutation (map Some u.rects ++ x ∷ []) l) (sym (ap (λ l. l ++ i) (map-append Some q.asked (node.rect ∷ [])) ∙ append_assoc a (x ∷ []) i)) joined)

      pub asks : (more : List Area) → more ≡ q.asked ++ node.rect ∷ [] → IsUnderWay begin view (round (Some node.rect) more q.given)
      asks more is = subst (λ (l : List Area). IsUnderWay begin view (round (Some node.rect) l q.given)) (sym is) (record {
        rects = u.rects ++ node.rect ∷ [];
        installs = u.installs;
        given_are = u.given_are;
        installed = record {
          in_turn = rising q.after u.rects node.rect u.last u.installed.in_turn found.waiting.behind;
          each = u.installed.each;
          once = more_once;
        };
        last = (u.rects, refl);
        upto = covered;
      })

    pub asked_for : (shown : TreeState) (last : Option Area) (found : Option Node) (node : Node) (rect end : Area) (more : List Area) → shown ≡ view → last ≡ q.after → found ≡ Some node → Found shown last found → end ≡ node.rect → rect ≡ node.rect → more ≡ q.asked ++ rect ∷ [] → IsUnderWay begin view (round (Some end) more q.given)
    asked_for shown last found node rect end more same is some all ends here are =
        let first : IsFirstWaiting shown.nodes last (data_node node) = subst (Found shown last) some all in
        let first_here : IsFirstWaiting view.nodes q.after (data_node node) = subst (λ (v : TreeState). IsFirstWaiting v.nodes q.after (data_node node)) same (subst (λ (a : Option Area). IsFirstWaiting shown.nodes a (data_node node)) is first) in
        subst (λ (r : Area). IsUnderWay begin view (round (Some r) more q.given)) (sym ends)
        (asks node first_here more (are ∙ ap (λ r. q.asked ++ r ∷ []) here))

    -- ---- one comes

    module _ (r : Area) (fewer : List Area) (takes : IsPermutation q.asked (r ∷ fewer)) (e : Given) (installs : IsInstallIn view e) (rect : rect_of e.1 ≡ Some r) where
      fewer_once : IsPermutation (map Some u.rects) (map Some fewer ++ map (λ g. rect_of g.1) (u.installs ++ e ∷ []))
      fewer_once =
          let x : Option Area = Some r in
          let a : List (Option Area) = map Some fewer in
          let i : List (Option Area) = map (λ g. rect_of g.1) u.installs in
          let taken : IsPermutation (map Some q.asked ++ i) ((x ∷ a) ++ i) = IsPermutation-append_left i (map Some q.asked) (x ∷ a) (IsPermutation-map Some q.asked (r ∷ fewer) takes) in
          let back : IsPermutation (x ∷ (a ++ i)) ((a ++ i) ++ x ∷ []) = IsPermutation-sym ((a ++ i) ++ x ∷ []) (x ∷ (a ++ i)) (IsPermutation-to_front (a ++ i) x) in
          let all : IsPermutation (map Some u.rects) ((a ++ i) ++ x ∷ []) = IsPermutation-trans (map Some u.rects) (map Some q.asked ++ i) ((a ++ i) ++ x ∷ []) u.installed.once (IsPermutation-trans (map Some q.asked ++ i) (x ∷ (a ++ i)) ((a ++ i) ++ x ∷ []) taken back) in
          let last : map (λ g. rect_of g.1) (u.installs ++ e ∷ []) ≡ i ++ x ∷ [] = map-append (λ g. rect_of g.1) u.installs (e ∷ []) ∙ ap (λ o. i ++ o ∷ []) rect in
          subst (IsPermutation (map Some u.rects)) (append_assoc a i (x ∷ []) ∙ ap (λ l. a ++ l) (sym last)) all

      pub comes : (more : List Given) → more ≡ q.given ++ e ∷ [] → IsUnderWay begin view (round q.after fewer more)
      comes more is = record {
        rects = u.rects;
        installs = u.installs ++ e ∷ [];
        given_are = is ∙ ap (λ l. l ++ e ∷ []) u.given_are;
        installed = record {
          in_turn = u.installed.in_turn;
          each = All-push (IsInstallIn view) u.installs e u.installed.each installs;
          once = fewer_once;
        };
        last = u.last;
        upto = u.upto;
      }

    -- ---- the end

    pub ends : q.asked ≡ [] → IsOver view q.after → IsWhole begin view q.given
    ends none over = record {
      rects = u.rects;
      installs = u.installs;
      given_are = u.given_are;
      installed = subst (λ (l : List Area). AreInstalled view u.rects l u.installs) none u.installed;
      all = λ n w. u.upto over.0 n w (over.1 n);
    }

    pub finishes : (empty : length q.asked ≡ 0) → (length q.asked ≡ 0 → IsOver view q.after) → IsWhole begin view q.given
    finishes empty none = ends (nil_from_length q.asked empty) (none empty)

    pub breaks : IsPart begin view q.given
    breaks = record { rects = u.rects; left = q.asked; installs = u.installs; given_are = u.given_are; installed = u.installed }

-- The current data node of a key, and its split.
use Rattle.std.proofs.Common.{◌≡◌, ℕ, ◌<◌, ◌≤◌, Bool, true, false, List, Option, Some, None, refl, sym, subst, arith, nat_le}
use Rattle.std.specs.Prelude.{MatchOption}
use Rattle.std.proofs.lemmas.Bool.{and_parts, ltb-true}
use Rattle.values.specs.Commits.{max_instant}
use Rattle.keyrange.specs.Rect.{Area}
use Rattle.keyrange.specs.Range.{is_key_in, is_early}
use Rattle.treenodes.specs.Node.{Content, Events, References, TreeNode, IsDataNode}
use Rattle.treenodes.specs.Map.{EndsBy, changes, latest}
use Rattle.treenodes.specs.Sound.{IsSound}
use Rattle.treenodes.proofs.LookupFound.{leaf_of}
use Rattle.treegrowth.specs.Leaves.{IsCurrentLeaf, IsSplitIn}
use Rattle.tsbtree.specs.View.{TreeState}
use Rattle.tsbtree.specs.Growth.{IsSplitAt}

endless : (content : Content) (to : Option ℕ) (last : ℕ) → last ≤ max_instant → IsDataNode content → EndsBy last content to → is_early max_instant to ≡ true → to ≡ None
endless (Events es) None last le is_data ends early = refl
endless (Events es) (Some end) last le is_data ends early = absurd (let a : max_instant < end = ltb-true max_instant end early in let b : end ≤ last = ends in omega arith)
endless (References rs) to last le is_data ends early = absurd is_data

module _ (nodes : List TreeNode) (last : ℕ) (sound : IsSound nodes last) (within : last ≤ max_instant) (key : List ℕ) where
  pub current_leaf : (n : TreeNode) × IsCurrentLeaf nodes key n
  current_leaf =
      let l = leaf_of nodes sound.kept.tree key max_instant (omega arith) in
      let leaf = l.1.leaf in
      let point = and_parts (is_key_in leaf.node.rect.keys key) _ l.1.holds in
      let upto : latest (changes nodes) ≤ max_instant = subst (λ t. t ≤ max_instant) sound.last_is within in (
        leaf.node,
        record {
          number = l.0;
          there = leaf.there;
          bottom = leaf.bottom;
          current = endless leaf.node.content leaf.node.rect.time.to (latest (changes nodes)) upto leaf.is_data (sound.kept.holds.ended l.0 leaf.node leaf.there) (and_parts (nat_le leaf.node.rect.time.from max_instant) _ point.1).1;
          has = point.0;
        },
      )

module _ (old : TreeState) (nodes : List TreeNode) (last : ℕ) (are : nodes ≡ old.nodes) (is : last ≡ old.latest) (sound : IsSound nodes last) (within : last ≤ max_instant)
    (key : List ℕ) (halves : ℕ → Area → Option (Area × Area)) (answer : Option (List TreeNode)) where
  abbrev Answers : List TreeNode → ℕ → Option (List TreeNode) → Type 0
  Answers ns t o = (n : TreeNode) → IsCurrentLeaf ns key n → MatchOption o (halves t n.rect ≡ None) (λ s. IsSplitIn ns s n.rect (halves t n.rect))

  leaf : (n : TreeNode) × IsCurrentLeaf old.nodes key n
  leaf = subst (λ ns. (n : TreeNode) × IsCurrentLeaf ns key n) are (current_leaf nodes last sound within key)

  module _ (told : (n : TreeNode) → IsCurrentLeaf nodes key n → MatchOption answer (halves last n.rect ≡ None) (λ s. IsSplitIn nodes s n.rect (halves last n.rect))) where
    of_old : Answers old.nodes old.latest answer
    of_old = subst (λ t. Answers old.nodes t answer) is (subst (λ ns. Answers ns last answer) are told)

    not_split : answer ≡ None → IsSplitAt key (halves old.latest) old old false
    not_split none = record { leaf = leaf.0; current = leaf.1; split = (subst (Answers old.nodes old.latest) none of_old leaf.0 leaf.1, refl) }

    is_split : (s : List TreeNode) → answer ≡ Some s → IsSplitAt key (halves old.latest) old (record { nodes = s; latest = last }) true
    is_split s some = record { leaf = leaf.0; current = leaf.1; split = subst (Answers old.nodes old.latest) some of_old leaf.0 leaf.1 }

    -- what is put in place, and what is answered
    abbrev IsPut : Option (List TreeNode) → TreeState → Bool → Type 0
    IsPut o new done = MatchOption o ((done ≡ false) × (new ≡ old)) (λ s. (done ≡ true) × (new ≡ record { nodes = s; latest = last }))

    by_answer : (o : Option (List TreeNode)) → answer ≡ o → (new : TreeState) (done : Bool) → IsPut o new done → IsSplitAt key (halves old.latest) old new done
    by_answer None none new done put = subst (λ s. IsSplitAt key (halves old.latest) old s done) (sym put.1) (subst (λ b. IsSplitAt key (halves old.latest) old old b) (sym put.0) (not_split none))
    by_answer (Some s) some new done put = subst (λ t. IsSplitAt key (halves old.latest) old t done) (sym put.1) (subst (λ b. IsSplitAt key (halves old.latest) old (record { nodes = s; latest = last }) b) (sym put.0) (is_split s some))

    pub split_done : (new : TreeState) (done : Bool) → IsPut answer new done → IsSplitAt key (halves old.latest) old new done
    split_done = by_answer answer refl

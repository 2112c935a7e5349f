-- What keeps the nodes of history: other nodes are set and added, none of them packed.
use Rattle.std.proofs.Common.{◌≡◌, ℕ, ◌+◌, ◌<◌, true, List, [], ◌∷◌, ◌++◌, length, set, Option, Some, None, refl, sym, ap, subst, ◌∙◌, inl, inr, arith}
use Rattle.std.specs.Prelude.{IsSome, slice_get}
use Rattle.std.proofs.lemmas.Bool.{and_parts, and_from, ltb-true, le-leb, false≢true}
use Rattle.keyrange.specs.Rect.{Area, IsArea, IsInside, has_point}
use Rattle.keyrange.specs.Range.{is_key_in, is_early}
use Rattle.keyrange.proofs.RectInside.{first_key_in}
use Rattle.treenodes.specs.Node.{TreeNode, IsAt}
use Rattle.treenodes.specs.Root.{root_over}
use Rattle.treenodes.specs.History.{KeepsHistory}
use Rattle.treenodes.proofs.NodeNumbers.{at_set, set_other, at_push, push_old, one_at}

pub some_is : {X : Type 0} (o : Option X) → IsSome o → o ≡ None → ⊥
some_is None some none = false≢true some
some_is (Some x) some none = cc

-- a rectangle without an end lies in none with one
pub endless_outer : (inner outer : Area) → IsArea inner → inner.time.to ≡ None → IsInside inner outer → outer.time.to ≡ None
endless_outer inner outer area endless inside = by outer.time.to refl
  where
    point : (t : ℕ) → has_point inner inner.keys.lo (inner.time.from + t) ≡ true
    point t = and_from _ _ (first_key_in inner area) (and_from _ _ (le-leb inner.time.from (inner.time.from + t) (omega arith)) (ap (is_early (inner.time.from + t)) endless))

    by : (to : Option ℕ) → outer.time.to ≡ to → to ≡ None
    by None is = refl
    by (Some end) is = absurd (
        let within = (and_parts (is_key_in outer.keys inner.keys.lo) _ (inside inner.keys.lo (inner.time.from + end) (point end))).1 in
        let early : is_early (inner.time.from + end) (Some end) ≡ true = subst (λ o. is_early (inner.time.from + end) o ≡ true) is (and_parts _ _ within).1 in
        let lt : inner.time.from + end < end = ltb-true (inner.time.from + end) end early in
        omega arith
        )

pub keeps_same : (nodes : List TreeNode) → KeepsHistory nodes nodes
keeps_same nodes = record { past = λ i n at ended. at; packed = λ i n at packed. at }

pub keeps_then : (a b c : List TreeNode) → KeepsHistory a b → KeepsHistory b c → KeepsHistory a c
keeps_then a b c one two = record {
  past = λ i n at ended. two.past i n (one.past i n at ended) ended;
  packed = λ i n at packed. one.packed i n (two.packed i n at packed) packed;
}

-- in the place of a current node
pub keeps_set : (nodes : List TreeNode) (number : ℕ) (old new : TreeNode) → IsAt nodes number old → old.rect.time.to ≡ None → new.packed ≡ None → KeepsHistory nodes (set nodes number new)
keeps_set nodes number old new at current unpacked = record {
  past = λ i n here ended. set_other nodes number new i n
      (λ same. some_is n.rect.time.to ended (ap (λ (q : TreeNode). q.rect.time.to) (one_at nodes number n old (ap (slice_get nodes) (sym same) ∙ here) at) ∙ current)) here;
  packed = λ i n there packed. elim (at_set nodes number new i n there) [
    | inl e ↦ absurd (some_is n.packed packed (ap (λ (q : TreeNode). q.packed) e.1 ∙ unpacked))
    | inr e ↦ e.1
  ];
}

-- behind the last
pub keeps_push : (nodes : List TreeNode) (x : TreeNode) → x.packed ≡ None → KeepsHistory nodes (nodes ++ x ∷ [])
keeps_push nodes x unpacked = record {
  past = λ i n here ended. push_old nodes x i n here;
  packed = λ i n there packed. elim (at_push nodes x i n there) [
    | inl e ↦ absurd (some_is n.packed packed (ap (λ (q : TreeNode). q.packed) e.1 ∙ unpacked))
    | inr e ↦ e
  ];
}

-- under a new root
pub keeps_raised : (nodes : List TreeNode) (root : TreeNode) → IsAt nodes 0 root → root.rect.time.to ≡ None → root.packed ≡ None → KeepsHistory nodes (set nodes 0 (root_over root (length nodes)) ++ root ∷ [])
keeps_raised nodes root at current unpacked =
    let top = root_over root (length nodes) in
    keeps_then nodes (set nodes 0 top) (set nodes 0 top ++ root ∷ []) (keeps_set nodes 0 root top at current refl) (keeps_push (set nodes 0 top) root unpacked)

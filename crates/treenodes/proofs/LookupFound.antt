-- Each point from 1 on has a data node.
use Rattle.std.proofs.Common.{◌≡◌, ℕ, zero, suc, ◌+◌, ◌<◌, ◌≤◌, List, [], ◌∷◌, length, cond, Bool, true, false, Option, refl, sym, subst, arith}
use Rattle.std.specs.Prelude.{Contains}
use Rattle.std.specs.List.{filter}
use Rattle.std.proofs.lemmas.List.Elements.{All-contains}
use Rattle.keyrange.specs.Rect.{Area, has_point}
use Rattle.indexnode.specs.declared.reference.Reference.{Reference}
use Rattle.indexnode.specs.Node.{Tiles, at_point}
use Rattle.treenodes.specs.Node.{Content, Events, References, TreeNode, IsAt}
use Rattle.treenodes.specs.Tree.{RefersTo, IsIndex, IsTree}
use Rattle.treenodes.specs.Lookup.{IsLeafAt}
use Rattle.treenodes.proofs.LookupSteps.{whole_holds}

-- one that passes, where some do
pub record Passing {X : Type 0} (p : X → Bool) (xs : List X) : Type 0 where
  pub one : X
  pub among : Contains xs one
  pub passes : p one ≡ true

pub passing : {X : Type 0} (p : X → Bool) (xs : List X) → 1 ≤ length (filter p xs) → Passing p xs
passing p [] h = absurd (omega arith)
passing {X} p (x ∷ xs) h = by (p x) refl (passing p xs)
  where
    by : (b : Bool) → p x ≡ b → (1 ≤ length (filter p xs) → Passing p xs) → Passing p (x ∷ xs)
    by true is rest = record { one = x; among = (0, omega arith, refl); passes = is }
    by false is rest =
        let fewer : 1 ≤ length (filter p xs) = subst (λ b. 1 ≤ length (cond b (x ∷ filter p xs) (filter p xs))) is h in
        let r = rest fewer in
        let bound : r.among.0 < length xs = r.among.1 in
        record { one = r.one; among = (suc r.among.0, omega arith, r.among.2); passes = r.passes }

-- the reference at a point
pub reference_at : (rect : Area) (rs : List (Reference ℕ)) (key : List ℕ) (instant : ℕ) → Tiles rect rs → has_point rect key instant ≡ true → Passing (λ r. has_point r.rect key instant) rs
reference_at rect rs key instant tiles h =
    let one : length (at_point key instant rs) ≡ 1 = tiles.once key instant h in
    passing (λ r. has_point r.rect key instant) rs (omega (arith, one))

module _ (nodes : List TreeNode) (tree : IsTree nodes) (key : List ℕ) (instant : ℕ) where
  below : (fuel number level : ℕ) (rect : Area) (content : Content) (packed : Option (List ℕ)) → level ≤ fuel → IsAt nodes number (record { level = level; rect = rect; content = content; packed = packed }) → has_point rect key instant ≡ true → (i : ℕ) × IsLeafAt nodes key instant i
  below fuel number level rect (Events es) packed le at holds =
      let zero_level : level ≡ 0 = tree.contents number _ at in
      (number, record { leaf = record { node = record { level = level; rect = rect; content = Events es; packed = packed }; there = at; bottom = zero_level; is_data = tt }; holds = holds })
  below zero number level rect (References rs) packed le at holds =
      let index : IsIndex nodes level rect rs = tree.contents number _ at in
      let r = reference_at rect rs key instant index.tiled holds in
      let refers : RefersTo nodes level r.one = All-contains (RefersTo nodes level) rs r.one index.below r.among in
      absurd (let under : level ≡ refers.node.level + 1 = refers.below in omega arith)
  below (suc fuel) number level rect (References rs) packed le at holds =
      let index : IsIndex nodes level rect rs = tree.contents number _ at in
      let r = reference_at rect rs key instant index.tiled holds in
      let refers : RefersTo nodes level r.one = All-contains (RefersTo nodes level) rs r.one index.below r.among in
      let under : level ≡ refers.node.level + 1 = refers.below in
      below fuel r.one.child refers.node.level refers.node.rect refers.node.content refers.node.packed (omega arith) refers.there (subst (λ a. has_point a key instant ≡ true) refers.same r.passes)

  pub leaf_of : 1 ≤ instant → (i : ℕ) × IsLeafAt nodes key instant i
  leaf_of h =
      let root = tree.root.root in
      below root.level 0 root.level root.rect root.content root.packed (omega arith) tree.root.first (subst (λ a. has_point a key instant ≡ true) (sym tree.root.covers) (whole_holds key instant h))

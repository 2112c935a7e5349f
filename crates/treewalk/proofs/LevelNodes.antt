-- Each point from the first instant on has a node of each level.
use Rattle.std.proofs.Common.{◌≡◌, ℕ, zero, suc, ◌+◌, ◌-◌, ◌≤◌, List, true, Option, sym, subst, ◌∙◌, arith}
use Rattle.std.proofs.lemmas.Bool.{and_from}
use Rattle.std.proofs.lemmas.List.Elements.{All-contains}
use Rattle.keyrange.specs.Rect.{Area, has_point, IsArea}
use Rattle.keyrange.proofs.RectInside.{first_key_in, first_instant_in}
use Rattle.treenodes.specs.Node.{Content, Events, References, TreeNode, IsAt, IsDataNode, IsIndexNode}
use Rattle.treenodes.specs.Tree.{RefersTo, IsIndex, IsTree}
use Rattle.treenodes.proofs.LookupFound.{reference_at}
use Rattle.treenodes.proofs.LookupSteps.{whole_holds}

-- ---- a node of a level that has a point

pub record NodeAt (nodes : List TreeNode) (key : List ℕ) (instant level : ℕ) : Type 0 where
  pub number : ℕ
  pub node : TreeNode
  pub there : IsAt nodes number node
  pub of_level : node.level ≡ level
  pub holds : has_point node.rect key instant ≡ true

minus : (l k more : ℕ) → l ≡ k + 1 → k - more ≡ l - suc more
minus l k more e = omega arith

back : (r l : ℕ) → l ≤ r → r - (r - l) ≡ l
back r l le = omega arith

module _ (nodes : List TreeNode) (tree : IsTree nodes) (key : List ℕ) (instant : ℕ) where
  -- `more` levels down from a node
  down : (more number level : ℕ) (rect : Area) (content : Content) (pk : Option (List ℕ)) → more ≤ level → IsAt nodes number (record { level = level; rect = rect; content = content; packed = pk }) → has_point rect key instant ≡ true → NodeAt nodes key instant (level - more)
  down zero number level rect content pk le at holds = record { number = number; node = record { level = level; rect = rect; content = content; packed = pk }; there = at; of_level = omega arith; holds = holds }
  down (suc more) number level rect (Events es) pk le at holds = absurd (let is_zero : level ≡ 0 = tree.contents number _ at in omega arith)
  down (suc more) number level rect (References rs) pk le at holds =
      let index : IsIndex nodes level rect rs = tree.contents number _ at in
      let r = reference_at rect rs key instant index.tiled holds in
      let refers : RefersTo nodes level r.one = All-contains (RefersTo nodes level) rs r.one index.below r.among in
      let under : level ≡ refers.node.level + 1 = refers.below in
      let found = down more r.one.child refers.node.level refers.node.rect refers.node.content refers.node.packed (omega arith) refers.there (subst (λ a. has_point a key instant ≡ true) refers.same r.passes) in
      record { number = found.number; node = found.node; there = found.there; of_level = found.of_level ∙ minus level refers.node.level more under; holds = found.holds }

  pub at_level : (level : ℕ) → level ≤ tree.root.root.level → 1 ≤ instant → NodeAt nodes key instant level
  at_level level le first =
      let root = tree.root.root in
      let found = down (root.level - level) 0 root.level root.rect root.content root.packed (omega arith) tree.root.first (subst (λ a. has_point a key instant ≡ true) (sym tree.root.covers) (whole_holds key instant first)) in
      record { number = found.number; node = found.node; there = found.there; of_level = found.of_level ∙ back root.level level le; holds = found.holds }

-- ---- what a level says of what a node holds

module _ (nodes : List TreeNode) (tree : IsTree nodes) where
  -- above the data nodes there are index nodes
  pub is_indexed : (number level more : ℕ) (rect : Area) (content : Content) (pk : Option (List ℕ)) → IsAt nodes number (record { level = level; rect = rect; content = content; packed = pk }) → level ≡ more + 1 → IsIndexNode content
  is_indexed number level more rect (Events es) pk at up = absurd (let is_zero : level ≡ 0 = tree.contents number _ at in omega arith)
  is_indexed number level more rect (References rs) pk at up = tt

  -- a node of level 0 has no references, since it would have one at its first point
  pub is_listed : (number level : ℕ) (rect : Area) (content : Content) (pk : Option (List ℕ)) → IsAt nodes number (record { level = level; rect = rect; content = content; packed = pk }) → level ≡ 0 → IsDataNode content
  is_listed number level rect (Events es) pk at down = tt
  is_listed number level rect (References rs) pk at down =
      let index : IsIndex nodes level rect rs = tree.contents number _ at in
      let area : IsArea rect = tree.areas number _ at in
      let r = reference_at rect rs rect.keys.lo rect.time.from index.tiled (and_from _ _ (first_key_in rect area) (first_instant_in rect area)) in
      let refers : RefersTo nodes level r.one = All-contains (RefersTo nodes level) rs r.one index.below r.among in
      absurd (let under : level ≡ refers.node.level + 1 = refers.below in omega arith)

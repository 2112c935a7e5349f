-- From a level to the next: the children that meet a rectangle are all nodes there that do.
use Rattle.std.proofs.Common.{◌≡◌, ℕ, zero, suc, ◌+◌, ◌<◌, List, [], ◌∷◌, length, get_or, true, Option, refl, sym, ap, subst, ◌∙◌, arith}
use Rattle.std.specs.Prelude.{All, Contains}
use Rattle.std.specs.List.Sorted.{IsStrictlyIncreasing}
use Rattle.std.proofs.lemmas.List.Elements.{All-contains}
use Rattle.keyrange.specs.Rect.{Area, has_point, IsArea, Common}
use Rattle.keyrange.proofs.RectInside.{inside_itself, inner_is_common}
use Rattle.indexnode.specs.declared.reference.Reference.{Reference}
use Rattle.treenodes.specs.Node.{Content, Events, References, TreeNode, IsAt, references_of}
use Rattle.treenodes.specs.Tree.{RefersTo, IsIndex, IsTree}
use Rattle.treewalk.specs.Level.{MeetsAt, AreMeeting, IsAround}
use Rattle.treenodes.proofs.LookupFound.{reference_at}
use Rattle.treenodes.proofs.NodeNumbers.{one_at}
use Rattle.treewalk.proofs.LevelNodes.{NodeAt, at_level}

-- what is listed of a level: the children of its numbers that have a point of the rectangle
pub record AreChildren (nodes : List TreeNode) (area : Area) (numbers next : List ℕ) : Type 0 where
  pub reached : (p : ℕ) (n : TreeNode) (r : Reference ℕ) → Contains numbers p → IsAt nodes p n → Contains (references_of n.content) r → Common r.rect area → Contains next r.child
  pub only : (i : ℕ) → Contains next i → (p : ℕ) × (n : TreeNode) × (r : Reference ℕ) × Contains numbers p × IsAt nodes p n × Contains (references_of n.content) r × Common r.rect area × (r.child ≡ i)

all_of : {X : Type 0} (P : X → Type 0) (xs : List X) → ((x : X) → Contains xs x → P x) → All P xs
all_of P xs h k d lt = h (get_or xs k d) (k, lt, own xs k d lt)
  where
    own : {X : Type 0} (xs : List X) (k : ℕ) (d : X) → k < length xs → get_or xs k (get_or xs k d) ≡ get_or xs k d
    own [] k d lt = absurd (omega arith)
    own (x ∷ xs) zero d lt = refl
    own (x ∷ xs) (suc k) d lt = own xs k d (omega arith)

module _ (nodes : List TreeNode) (tree : IsTree nodes) (area : Area) where
  -- a node that has all points of the rectangle is alone of its level
  pub from_around : IsArea area → (number : ℕ) (around : IsAround nodes area number) (numbers : List ℕ) → numbers ≡ number ∷ [] → AreMeeting nodes around.node.level area numbers
  from_around is_area number around numbers is = subst (AreMeeting nodes around.node.level area) (sym is) (record {
    ordered = λ k lt. absurd (omega arith);
    each = all_of (MeetsAt nodes around.node.level area) (number ∷ []) (λ x c. subst (MeetsAt nodes around.node.level area) (number_is x c) meets);
    whole = λ i m. (0, omega arith, only i m);
  })
    where
      point : Common area area
      point = inner_is_common area area area is_area (inside_itself area) (inside_itself area)

      meets : MeetsAt nodes around.node.level area number
      meets = record { node = around.node; there = around.there; of_level = refl; common = record { key = point.key; instant = point.instant; is_first = point.is_first; is_last = point.is_last; in_first = around.inside point.key point.instant point.in_second; in_second = point.in_second } }

      number_is : (x : ℕ) → Contains (number ∷ []) x → number ≡ x
      number_is x (zero, lt, e) = e
      number_is x (suc k, lt, e) = absurd (omega arith)

      only : (i : ℕ) → MeetsAt nodes around.node.level area i → number ≡ i
      only i m = tree.apart number i around.node m.node around.there m.there (sym m.of_level) (record {
        key = m.common.key;
        instant = m.common.instant;
        is_first = m.common.is_first;
        is_last = m.common.is_last;
        in_first = around.inside m.common.key m.common.instant m.common.in_second;
        in_second = m.common.in_first;
      })

  -- one level down
  pub level_down : (level : ℕ) (numbers next : List ℕ) → level < tree.root.root.level → AreMeeting nodes (level + 1) area numbers → IsStrictlyIncreasing next → AreChildren nodes area numbers next → AreMeeting nodes level area next
  level_down level numbers next lower above rising children = record {
    ordered = rising;
    each = all_of (MeetsAt nodes level area) next (λ i c. below i c);
    whole = λ i m. reached i m;
  }
    where
      -- a child of one of the level above is of this one
      child_meets : (p i l : ℕ) (rect : Area) (content : Content) (pk : Option (List ℕ)) (r : Reference ℕ) → IsAt nodes p (record { level = l; rect = rect; content = content; packed = pk }) → l ≡ level + 1 → Contains (references_of content) r → Common r.rect area → r.child ≡ i → MeetsAt nodes level area i
      child_meets p i l rect (Events es) pk r at up among meet is = absurd (let lt : among.0 < 0 = among.1 in omega arith)
      child_meets p i l rect (References rs) pk r at up among meet is =
          let index : IsIndex nodes l rect rs = tree.contents p _ at in
          let refers : RefersTo nodes l r = All-contains (RefersTo nodes l) rs r index.below among in
          let under : l ≡ refers.node.level + 1 = refers.below in
          record { node = refers.node; there = subst (λ j. IsAt nodes j refers.node) is refers.there; of_level = omega (arith, up, under); common = subst (λ a. Common a area) refers.same meet }

      below : (i : ℕ) → Contains next i → MeetsAt nodes level area i
      below i c =
          let o = children.only i c in
          let up : MeetsAt nodes (level + 1) area o.0 = All-contains (MeetsAt nodes (level + 1) area) numbers o.0 above.each o.3 in
          let same : o.1 ≡ up.node = one_at nodes o.0 o.1 up.node o.4 up.there in
          child_meets o.0 i o.1.level o.1.rect o.1.content o.1.packed o.2 o.4 (ap (λ (n : TreeNode). n.level) same ∙ up.of_level) o.5 o.6 o.7

      reached : (i : ℕ) → MeetsAt nodes level area i → Contains next i
      reached i m = by up.number up.node.level up.node.rect up.node.content up.node.packed up.there up.of_level up.holds
        where
          up : NodeAt nodes m.common.key m.common.instant (level + 1)
          up = at_level nodes tree m.common.key m.common.instant (level + 1) (omega arith) m.common.is_first

          by : (p l : ℕ) (rect : Area) (content : Content) (pk : Option (List ℕ)) → IsAt nodes p (record { level = l; rect = rect; content = content; packed = pk }) → l ≡ level + 1 → has_point rect m.common.key m.common.instant ≡ true → Contains next i
          by p l rect (Events es) pk there up holds = absurd (let is_zero : l ≡ 0 = tree.contents p _ there in omega arith)
          by p l rect (References rs) pk there up holds =
              let index : IsIndex nodes l rect rs = tree.contents p _ there in
              let r = reference_at rect rs m.common.key m.common.instant index.tiled holds in
              let refers : RefersTo nodes l r.one = All-contains (RefersTo nodes l) rs r.one index.below r.among in
              let under : l ≡ refers.node.level + 1 = refers.below in
              let same_level : refers.node.level ≡ m.node.level = omega (arith, m.of_level, up, under) in
              let in_child : has_point refers.node.rect m.common.key m.common.instant ≡ true = subst (λ a. has_point a m.common.key m.common.instant ≡ true) refers.same r.passes in
              let one : r.one.child ≡ i = tree.apart r.one.child i refers.node m.node refers.there m.there same_level (meets refers.node.rect m.node.rect in_child m.common.in_first) in
              let top : MeetsAt nodes (level + 1) area p = record { node = record { level = l; rect = rect; content = References rs; packed = pk }; there = there; of_level = up; common = meets rect area holds m.common.in_second } in
              subst (Contains next) one (children.reached p _ r.one (above.whole p top) there r.among (meets r.one.rect area r.passes m.common.in_second))
            where
              meets : (a b : Area) → has_point a m.common.key m.common.instant ≡ true → has_point b m.common.key m.common.instant ≡ true → Common a b
              meets a b p q = record { key = m.common.key; instant = m.common.instant; is_first = m.common.is_first; is_last = m.common.is_last; in_first = p; in_second = q }

-- What a node of the tree represents.
use Rattle.std.specs.Prelude.{◌≡◌, ℕ, ◌<◌, ◌≤◌, List, [], ◌∷◌, ◌++◌, length}
use Rattle.slots.specs.declared.trie.Node.{Node}
use Rattle.slots.specs.declared.trie.Body.{Body}
use Rattle.slots.specs.declared.trie.Body.TheVariants.{Leaf, Inner}

-- the items of the children, one after the other
abbrev pub all_items : {T : Type 0} → List (ℕ × List T) → List T
all_items [] = []
all_items (k ∷ ks) = k.1 ++ all_items ks

-- each child but the last has n items, the last at least one; each has smaller places
abbrev pub Packed : {T : Type 0} → ℕ → List (ℕ × List T) → Type 0
Packed n [] = Unit {0}
Packed n (k ∷ ks) =
    (k.0 < n) × (0 < length k.1) × (length k.1 ≤ n) × (0 < length ks → length k.1 ≡ n) × Packed n ks

abbrev pub items_of : {T : Type 0} → Body T → List T
items_of (Leaf all) = all.items
items_of (Inner children) = all_items children.items

abbrev pub IsBody : {T : Type 0} → ℕ → Body T → Type 0
IsBody each (Leaf all) = each ≡ 1
IsBody each (Inner children) = (1 < each) × Packed each children.items

abbrev pub view_of : {T : Type 0} → Node T → ℕ × List T
view_of n = (n.each, items_of n.body)

abbrev pub IsShape : {T : Type 0} → Node T → Type 0
IsShape n = (n.len ≡ length (items_of n.body)) × IsBody n.each n.body

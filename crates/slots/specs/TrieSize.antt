-- Each child has smaller places than its parent.
use Rattle.std.specs.Prelude.{ℕ, ◌+◌, ◌≤◌, List, [], ◌∷◌, max}
use Rattle.std.proofs.Common.{arith}
use denote.Param.Weighed.{most}
use Rattle.slots.specs.declared.trie.Node.{Node}
use Rattle.slots.specs.declared.trie.Body.{Body}
use Rattle.slots.specs.declared.trie.Body.TheVariants.{Leaf, Inner}
use Rattle.slots.specs.declared.trie.Trie.TheDeep.{deep-Body}
use Rattle.slots.specs.Trie.{IsShape, IsBody, Packed}

pub most_le : {T : Type 0} → (n : ℕ) → (ks : List (ℕ × List T)) → Packed n ks
    → most (λ (k : ℕ × List T). k.0 + 1) ks ≤ n
most_le n [] h = omega arith
most_le n (k ∷ ks) h = omega (arith, most_le n ks h.4, h.0)

pub body_falls : {T : Type 0} → (n : ℕ) → (b : Body T) → IsBody n b → deep-Body T b ≤ n
body_falls n (Leaf all) h = omega arith
body_falls n (Inner children) h = omega (arith, most_le n children.items h.1)

pub falls : {T : Type 0} → (n : Node T) → IsShape n → max (max (deep-Body T n.body) 0) 0 ≤ n.each
falls n h = omega (arith, body_falls n.each n.body h.1)

use Rattle.std.proofs.Common.{rules, refl, ◌≡◌, ◌<◌, ◌∙◌, sym, ap, subst, arith, length, ℕ, ◌/◌, ◌%◌, List, get_or}
use Rattle.std.proofs.lemmas.Option.{slice_get_read, get_or_from_slice_get}
use Rattle.slots.specs.Trie.{all_items}
use Rattle.slots.specs.declared.trie.Node.{Node}
use Rattle.slots.specs.declared.trie.Body.TheVariants.{Leaf, Inner}
use Rattle.slots.proofs.TriePlaces.{reach_there, reach_has, reach_item, child_small}
use Rattle.slots.proofs.TrieNodes.{body_at, items_at, under}
use Rattle.slots.proofs.trie.Trie.+get.Goals as goal

-- src/trie.rt:68:34
pub index-requires-in-Inner : goal.index-requires-in-Inner
index-requires-in-Inner g t c =
    let b = body_at c.self.inside.node.value c.deref.result.now c.deref-2.result.now (Inner c.in-Inner.children) c.self.invariant c.deref.ensures c.deref-2.ensures c.in-Inner.is in
    let e = items_at c.self.inside.node.value c.deref-2.result.now (Inner c.in-Inner.children) c.deref-2.ensures c.in-Inner.is in
    let u = under (all_items c.in-Inner.children.items) c.self.inside.node.value c.args.self.now e c.self.view_is in
    let h : c.args.at / c.deref.result.now.each < length c.in-Inner.children.items = reach_there c.deref.result.now.each c.args.at c.in-Inner.children.items b.1 (subst (λ l. c.args.at < length l) u c.requires) in
    search (rules, h)

-- src/trie.rt:68:34
pub get-requires : goal.get-requires
get-requires g t c κs within =
    let b = body_at c.self.inside.node.value c.deref.result.now c.deref-2.result.now (Inner c.in-Inner.children) c.self.invariant c.deref.ensures c.deref-2.ensures c.in-Inner.is in
    let e = items_at c.self.inside.node.value c.deref-2.result.now (Inner c.in-Inner.children) c.deref-2.ensures c.in-Inner.is in
    let u = under (all_items c.in-Inner.children.items) c.self.inside.node.value c.args.self.now e c.self.view_is in
    let lt : c.args.at < length (all_items c.in-Inner.children.items) = subst (λ l. c.args.at < length l) u c.requires in
    let there = reach_there c.deref.result.now.each c.args.at c.in-Inner.children.items b.1 lt in
    let has : c.args.at % c.deref.result.now.each < length c.index-in-Inner.result.now.1 =
    rw c.index-in-Inner.ensures (reach_has c.deref.result.now.each c.args.at c.in-Inner.children.items c.index-in-Inner.result.now (omega (arith, b.0)) b.1 lt) in
    let small : c.index-in-Inner.result.now.0 < c.deref.result.now.each =
    rw c.index-in-Inner.ensures (child_small c.deref.result.now.each (c.args.at / c.deref.result.now.each) c.in-Inner.children.items c.index-in-Inner.result.now b.1 there) in
    let same : c.deref.result.now.each ≡ c.args.self.now.0 = ap (λ (n : Node _). n.each) c.deref.ensures ∙ ap (λ (p : ℕ × List _). p.0) c.self.view_is in
    (omega (arith, small, same, c.decreases), (within, has))

-- src/trie.rt:61:5
pub returns-in-Leaf : goal.returns-in-Leaf
returns-in-Leaf g t c =
    let e = items_at c.self.inside.node.value c.deref-2.result.now (Leaf c.in-Leaf.all) c.deref-2.ensures c.in-Leaf.is in
    let u = under c.in-Leaf.all.items c.self.inside.node.value c.args.self.now e c.self.view_is in
    slice_get_read c.args.self.now.1 (length c.args.self.now.1) c.args.at c.index.result.now refl c.requires (c.index.ensures ∙ ap (λ l. get_or l c.args.at c.index.result.now) (sym u))

-- src/trie.rt:61:5
pub returns-in-Inner : goal.returns-in-Inner
returns-in-Inner g t c =
    let b = body_at c.self.inside.node.value c.deref.result.now c.deref-2.result.now (Inner c.in-Inner.children) c.self.invariant c.deref.ensures c.deref-2.ensures c.in-Inner.is in
    let e = items_at c.self.inside.node.value c.deref-2.result.now (Inner c.in-Inner.children) c.deref-2.ensures c.in-Inner.is in
    let u = under (all_items c.in-Inner.children.items) c.self.inside.node.value c.args.self.now e c.self.view_is in
    let lt : c.args.at < length (all_items c.in-Inner.children.items) = subst (λ l. c.args.at < length l) u c.requires in
    let got : get_or c.index-in-Inner.result.now.1 (c.args.at % c.deref.result.now.each) c.get.result.now ≡ c.get.result.now = get_or_from_slice_get c.index-in-Inner.result.now.1 (c.args.at % c.deref.result.now.each) c.get.result.now c.get.result.now c.get.ensures in
    slice_get_read c.args.self.now.1 (length c.args.self.now.1) c.args.at c.get.result.now refl c.requires
    (sym (ap (λ l. get_or l c.args.at c.get.result.now) u
    ∙ reach_item c.deref.result.now.each c.args.at c.in-Inner.children.items c.index-in-Inner.result.now c.get.result.now (omega (arith, b.0)) b.1 lt
    ∙ ap (λ (k : ℕ × List _). get_or k.1 (c.args.at % c.deref.result.now.each) c.get.result.now) (sym c.index-in-Inner.ensures)
    ∙ got))

use Rattle.std.proofs.Common.{rules, refl, ◌≡◌, ◌<◌, ◌∙◌, sym, ap, subst, arith, length, ℕ, ◌/◌, ◌%◌, List, get_or, set}
use Rattle.slots.specs.Trie.{all_items, items_of}
use Rattle.slots.specs.declared.trie.Body.TheVariants.{Inner}
use Rattle.slots.proofs.TriePlaces.{reach_there, reach_has, reach_set, child_small, packed_set, set_length, written_length}
use Rattle.slots.proofs.TrieOutcomes.{on_ok}
use Rattle.slots.proofs.TrieNodes.{body_at, items_at}
use Rattle.slots.proofs.trie.+set.Goals as goal

-- src/trie.rt:189:34
pub Node::set-index_mut-requires-in-Inner : goal.Node::set-index_mut-requires-in-Inner
Node::set-index_mut-requires-in-Inner g t c =
    let n = c.args.self.now in
    let b = body_at c.args.self.now c.args.self.now c.args.self.now (Inner c.in-Inner.children) c.requires.shape refl refl c.in-Inner.is in
    let e = items_at c.args.self.now c.args.self.now (Inner c.in-Inner.children) refl c.in-Inner.is in
    let h : c.args.at / c.args.self.now.each < length c.in-Inner.children.items = reach_there c.args.self.now.each c.args.at c.in-Inner.children.items b.1 (subst (λ l. c.args.at < length l) e c.requires.inside) in
    search (rules, h)

-- src/trie.rt:189:34
pub Node::set-set-requires : goal.Node::set-set-requires
Node::set-set-requires g t c κs within =
    let b = body_at c.args.self.now c.args.self.now c.args.self.now (Inner c.in-Inner.children) c.requires.shape refl refl c.in-Inner.is in
    let e = items_at c.args.self.now c.args.self.now (Inner c.in-Inner.children) refl c.in-Inner.is in
    let lt : c.args.at < length (all_items c.in-Inner.children.items) = subst (λ l. c.args.at < length l) e c.requires.inside in
    let there = reach_there c.args.self.now.each c.args.at c.in-Inner.children.items b.1 lt in
    let has : c.args.at % c.args.self.now.each < length c.index_mut-in-Inner.result.now.1 =
    rw c.index_mut-in-Inner.ensures.value (reach_has c.args.self.now.each c.args.at c.in-Inner.children.items c.index_mut-in-Inner.result.now (omega (arith, b.0)) b.1 lt) in
    let small : c.index_mut-in-Inner.result.now.0 < c.args.self.now.each =
    rw c.index_mut-in-Inner.ensures.value (child_small c.args.self.now.each (c.args.at / c.args.self.now.each) c.in-Inner.children.items c.index_mut-in-Inner.result.now b.1 there) in
    (omega (arith, small, c.decreases), (within, has))

-- src/trie.rt:174:5
pub Node::set-returns-in-Inner-clause-shape : goal.Node::set-returns-in-Inner-clause-shape
Node::set-returns-in-Inner-clause-shape g t c =
    let n = c.args.self.now in
    let ks = c.in-Inner.children.items in
    let k = c.index_mut-in-Inner.result.now in
    let b = body_at c.args.self.now c.args.self.now c.args.self.now (Inner c.in-Inner.children) c.requires.shape refl refl c.in-Inner.is in
    let e = items_at c.args.self.now c.args.self.now (Inner c.in-Inner.children) refl c.in-Inner.is in
    let lt : c.args.at < length (all_items ks) = subst (λ l. c.args.at < length l) e c.requires.inside in
    let there = reach_there n.each c.args.at ks b.1 lt in
    let small : c.set.new.self.0 < n.each =
    rw (c.set.ensures.each, c.index_mut-in-Inner.ensures.value) (child_small n.each (c.args.at / n.each) ks k b.1 there) in
    let long : length c.set.new.self.1 ≡ length (get_or ks (c.args.at / n.each) k).1 =
    written_length c.set.result k c.set.new.self (c.args.at % n.each) c.args.item c.set.ensures.ok c.set.ensures.err
    ∙ ap (λ (p : ℕ × List _). length p.1) c.index_mut-in-Inner.ensures.value in (
      c.requires.shape.0 ∙ ap length e ∙ sym (set_length (c.args.at / n.each) ks k c.set.new.self there long),
      (b.0, packed_set n.each (c.args.at / n.each) ks k c.set.new.self b.1 there small long),
    )

-- src/trie.rt:174:5
pub Node::set-returns-in-Inner-clause-ok : goal.Node::set-returns-in-Inner-clause-ok
Node::set-returns-in-Inner-clause-ok g t c =
    let n = c.args.self.now in
    let ks = c.in-Inner.children.items in
    let k = c.index_mut-in-Inner.result.now in
    let b = body_at c.args.self.now c.args.self.now c.args.self.now (Inner c.in-Inner.children) c.requires.shape refl refl c.in-Inner.is in
    let e = items_at c.args.self.now c.args.self.now (Inner c.in-Inner.children) refl c.in-Inner.is in
    let lt : c.args.at < length (all_items ks) = subst (λ l. c.args.at < length l) e c.requires.inside in
    on_ok (c.set.new.self.1 ≡ set k.1 (c.args.at % n.each) c.args.item) (all_items (set ks (c.args.at / n.each) c.set.new.self) ≡ set (items_of n.body) c.args.at c.args.item) c.set.result
    (λ w. reach_set n.each c.args.at ks k c.set.new.self c.args.item (omega (arith, b.0)) b.1 lt
    (w ∙ ap (λ (p : ℕ × List _). set p.1 (c.args.at % n.each) c.args.item) c.index_mut-in-Inner.ensures.value)
    ∙ ap (λ l. set l c.args.at c.args.item) (sym e))
    c.set.ensures.ok

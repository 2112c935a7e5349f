use Rattle.std.proofs.Common.{rules, refl, ◌≡◌, ◌<◌, ◌∙◌, sym, ap, subst, arith, length, ℕ, ◌/◌, ◌%◌, List, get_or, set}
use Rattle.slots.specs.Trie.{all_items, items_of}
use Rattle.slots.specs.declared.trie.Body.TheVariants.{Leaf, Inner}
use Rattle.slots.proofs.TriePlaces.{reach_there, reach_has, reach_set, child_small, packed_set, set_length, same_set, written_length, item_read, some_of}
use Rattle.slots.proofs.TrieOutcomes.{on_ok, on_err}
use Rattle.slots.proofs.TrieNodes.{body_at, items_at}
use Rattle.slots.proofs.trie.+update.Goals as goal

pub Node::update-index_mut-requires-in-Inner : goal.Node::update-index_mut-requires-in-Inner
Node::update-index_mut-requires-in-Inner g t c =
    let n = c.args.self.now in
    let b = body_at c.args.self.now c.args.self.now c.args.self.now (Inner c.in-Inner.children) c.requires.shape refl refl c.in-Inner.is in
    let e = items_at c.args.self.now c.args.self.now (Inner c.in-Inner.children) refl c.in-Inner.is in
    let h : c.args.at / c.args.self.now.each < length c.in-Inner.children.items = reach_there c.args.self.now.each c.args.at c.in-Inner.children.items b.1 (subst (λ l. c.args.at < length l) e c.requires.inside) in
    search (rules, h)

pub Node::update-update-requires : goal.Node::update-update-requires
Node::update-update-requires g t c =
    let x = c.index_mut.result.now in
    let e = items_at c.args.self.now c.args.self.now (Leaf c.in-Leaf.all) refl c.in-Leaf.is in
    let is : x ≡ get_or c.in-Leaf.all.items c.args.at x = c.index_mut.ensures.value in
    subst (λ y. g.T.Update.can_update y c.args.change) (ap (λ l. get_or l c.args.at x) e ∙ sym is) (c.requires.can x)

pub Node::update-update-requires-in-Inner : goal.Node::update-update-requires-in-Inner
Node::update-update-requires-in-Inner g t c κs within =
    let n = c.args.self.now in
    let ks = c.in-Inner.children.items in
    let k = c.index_mut-in-Inner.result.now in
    let b = body_at c.args.self.now c.args.self.now c.args.self.now (Inner c.in-Inner.children) c.requires.shape refl refl c.in-Inner.is in
    let e = items_at c.args.self.now c.args.self.now (Inner c.in-Inner.children) refl c.in-Inner.is in
    let lt : c.args.at < length (all_items ks) = subst (λ l. c.args.at < length l) e c.requires.inside in
    let there = reach_there n.each c.args.at ks b.1 lt in
    let has : c.args.at % n.each < length k.1 =
    rw c.index_mut-in-Inner.ensures.value (reach_has n.each c.args.at ks k (omega (arith, b.0)) b.1 lt) in
    let small : k.0 < n.each =
    rw c.index_mut-in-Inner.ensures.value (child_small n.each (c.args.at / n.each) ks k b.1 there) in (
      omega (arith, small, c.decreases),
      (
        within.0,
        (
          within.1,
          (
            has,
            λ d. subst (λ y. g.T.Update.can_update y c.args.change) (item_read n.each c.args.at ks k (items_of n.body) d (omega (arith, b.0)) b.1 lt e c.index_mut-in-Inner.ensures.value) (c.requires.can d),
          ),
        ),
      ),
    )

pub Node::update-returns-in-Inner-clause-shape : goal.Node::update-returns-in-Inner-clause-shape
Node::update-returns-in-Inner-clause-shape g t c =
    let n = c.args.self.now in
    let ks = c.in-Inner.children.items in
    let k = c.index_mut-in-Inner.result.now in
    let b = body_at c.args.self.now c.args.self.now c.args.self.now (Inner c.in-Inner.children) c.requires.shape refl refl c.in-Inner.is in
    let e = items_at c.args.self.now c.args.self.now (Inner c.in-Inner.children) refl c.in-Inner.is in
    let lt : c.args.at < length (all_items ks) = subst (λ l. c.args.at < length l) e c.requires.inside in
    let there = reach_there n.each c.args.at ks b.1 lt in
    let has : c.args.at % n.each < length k.1 =
    rw c.index_mut-in-Inner.ensures.value (reach_has n.each c.args.at ks k (omega (arith, b.0)) b.1 lt) in
    let small : c.update-in-Inner.new.self.0 < n.each =
    rw (c.update-in-Inner.ensures.each, c.index_mut-in-Inner.ensures.value) (child_small n.each (c.args.at / n.each) ks k b.1 there) in
    let d = some_of k.1 (c.args.at % n.each) has in
    let long : length c.update-in-Inner.new.self.1 ≡ length (get_or ks (c.args.at / n.each) k).1 =
    written_length c.update-in-Inner.result k c.update-in-Inner.new.self (c.args.at % n.each) (g.T.Update.updated (get_or k.1 (c.args.at % n.each) d) c.args.change) (c.update-in-Inner.ensures.ok d) c.update-in-Inner.ensures.err
    ∙ ap (λ (p : ℕ × List _). length p.1) c.index_mut-in-Inner.ensures.value in (
      c.requires.shape.0 ∙ ap length e ∙ sym (set_length (c.args.at / n.each) ks k c.update-in-Inner.new.self there long),
      (b.0, packed_set n.each (c.args.at / n.each) ks k c.update-in-Inner.new.self b.1 there small long),
    )

pub Node::update-returns-in-Inner-clause-ok : goal.Node::update-returns-in-Inner-clause-ok
Node::update-returns-in-Inner-clause-ok g t c =
    let n = c.args.self.now in
    let ks = c.in-Inner.children.items in
    let k = c.index_mut-in-Inner.result.now in
    let b = body_at c.args.self.now c.args.self.now c.args.self.now (Inner c.in-Inner.children) c.requires.shape refl refl c.in-Inner.is in
    let e = items_at c.args.self.now c.args.self.now (Inner c.in-Inner.children) refl c.in-Inner.is in
    let lt : c.args.at < length (all_items ks) = subst (λ l. c.args.at < length l) e c.requires.inside in
    λ d. (
    let x = g.T.Update.updated (get_or k.1 (c.args.at % n.each) d) c.args.change in
    let y = g.T.Update.updated (get_or (items_of n.body) c.args.at d) c.args.change in
    let same : x ≡ y = ap (λ z. g.T.Update.updated z c.args.change) (sym (item_read n.each c.args.at ks k (items_of n.body) d (omega (arith, b.0)) b.1 lt e c.index_mut-in-Inner.ensures.value)) in
    on_ok (c.update-in-Inner.new.self.1 ≡ set k.1 (c.args.at % n.each) x) (all_items (set ks (c.args.at / n.each) c.update-in-Inner.new.self) ≡ set (items_of n.body) c.args.at y) c.update-in-Inner.result
    (λ w. reach_set n.each c.args.at ks k c.update-in-Inner.new.self x (omega (arith, b.0)) b.1 lt
    (w ∙ ap (λ (p : ℕ × List _). set p.1 (c.args.at % n.each) x) c.index_mut-in-Inner.ensures.value)
    ∙ ap (λ l. set l c.args.at x) (sym e) ∙ ap (set (items_of n.body) c.args.at) same)
    (c.update-in-Inner.ensures.ok d)
    )

pub Node::update-returns-in-Inner-clause-err : goal.Node::update-returns-in-Inner-clause-err
Node::update-returns-in-Inner-clause-err g t c =
    let n = c.args.self.now in
    let ks = c.in-Inner.children.items in
    let k = c.index_mut-in-Inner.result.now in
    let b = body_at c.args.self.now c.args.self.now c.args.self.now (Inner c.in-Inner.children) c.requires.shape refl refl c.in-Inner.is in
    let e = items_at c.args.self.now c.args.self.now (Inner c.in-Inner.children) refl c.in-Inner.is in
    let lt : c.args.at < length (all_items ks) = subst (λ l. c.args.at < length l) e c.requires.inside in
    on_err (c.update-in-Inner.new.self.1 ≡ k.1) (all_items (set ks (c.args.at / n.each) c.update-in-Inner.new.self) ≡ items_of n.body) c.update-in-Inner.result
    (λ w. same_set (c.args.at / n.each) ks k c.update-in-Inner.new.self (reach_there n.each c.args.at ks b.1 lt)
    (w ∙ ap (λ (p : ℕ × List _). p.1) c.index_mut-in-Inner.ensures.value) ∙ sym e)
    c.update-in-Inner.ensures.err

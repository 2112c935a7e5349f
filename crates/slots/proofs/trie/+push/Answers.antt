use Rattle.std.proofs.Common.{rules, ◌≡◌, ◌<◌, ◌∙◌, ap, arith, length, ℕ, ◌-◌, List, [], ◌∷◌, ◌++◌, set}
use Rattle.slots.specs.Trie.{all_items}
use Rattle.slots.proofs.TriePlaces.{child_small, packed_last, last_more, same_set, added_length, packed_more, all_items_more, full_last, two_reads, child_some}
use Rattle.slots.proofs.TrieOutcomes.{on_ok, on_err}
use Rattle.slots.proofs.trie.+push.Goals.{push_last-else-n-gt0-via-then-n-gt0+else-len-each, push_last-else-n-gt0-via-else-n-gt0}
use Rattle.slots.proofs.trie.+push.Goals as goal

-- src/trie.rt:228:9
pub push_last-push-requires : goal.push_last-push-requires
push_last-push-requires g t c κs within =
    let ks = c.args.children.now.items in
    let k = c.index_mut.result.now in
    let m : c.len-n.result ≡ length ks = search rules in
    let small : k.0 < c.args.each =
    rw c.index_mut.ensures.value (child_small c.args.each (c.len-n.result - 1) ks k c.requires.packed (omega (arith, m, c.if-n-gt0.true))) in
    (omega (arith, small, c.decreases), within)

-- src/trie.rt:228:9
pub push_last-returns-then-len-each-clause-packed :
    goal.push_last-returns-then-len-each-clause-packed
push_last-returns-then-len-each-clause-packed g t c =
    let ks = c.args.children.now.items in
    let k = c.index_mut.result.now in
    let m : c.len-n.result ≡ length ks = search rules in
    let there : c.len-n.result - 1 < length ks = omega (arith, m, c.if-n-gt0.true) in
    let small : k.0 < c.args.each =
    rw c.index_mut.ensures.value (child_small c.args.each (c.len-n.result - 1) ks k c.requires.packed there) in
    let one = two_reads ks (c.len-n.result - 1) c.index.result.now k there c.index.ensures c.index_mut.ensures.value in
    let room : length k.1 < c.args.each = omega (arith, ap (λ (p : ℕ × List _). length p.1) one, c.len.ensures, c.if-len-each.true) in
    let has : 0 < length k.1 =
    rw c.index_mut.ensures.value (child_some c.args.each (c.len-n.result - 1) ks k c.requires.packed there) in
    let long = added_length c.push.result k c.push.new.self c.args.item c.push.ensures.ok c.push.ensures.err in
    packed_last c.args.each (c.len-n.result - 1) ks k c.push.new.self c.requires.packed (omega (arith, m, c.if-n-gt0.true))
    (omega (arith, small, room, c.push.ensures.each)) (omega (arith, has, long.0)) (omega (arith, room, long.1))

-- src/trie.rt:228:9
pub push_last-returns-then-len-each-clause-ok : goal.push_last-returns-then-len-each-clause-ok
push_last-returns-then-len-each-clause-ok g t c =
    let ks = c.args.children.now.items in
    let k = c.index_mut.result.now in
    let m : c.len-n.result ≡ length ks = search rules in
    on_ok (c.push.new.self.1 ≡ k.1 ++ c.args.item ∷ []) (all_items (set ks (c.len-n.result - 1) c.push.new.self) ≡ all_items ks ++ c.args.item ∷ []) c.push.result
    (λ w. last_more (c.len-n.result - 1) ks k c.push.new.self c.args.item (omega (arith, m, c.if-n-gt0.true))
    (w ∙ ap (λ (p : ℕ × List _). p.1 ++ c.args.item ∷ []) c.index_mut.ensures.value))
    c.push.ensures.ok

-- src/trie.rt:228:9
pub push_last-returns-then-len-each-clause-err : goal.push_last-returns-then-len-each-clause-err
push_last-returns-then-len-each-clause-err g t c =
    let ks = c.args.children.now.items in
    let k = c.index_mut.result.now in
    let m : c.len-n.result ≡ length ks = search rules in
    on_err (c.push.new.self.1 ≡ k.1) (all_items (set ks (c.len-n.result - 1) c.push.new.self) ≡ all_items ks) c.push.result
    (λ w. same_set (c.len-n.result - 1) ks k c.push.new.self (omega (arith, m, c.if-n-gt0.true))
    (w ∙ ap (λ (p : ℕ × List _). p.1) c.index_mut.ensures.value))
    c.push.ensures.err

-- src/trie.rt:213:1
pub push_last-returns-clause-packed : goal.push_last-returns-clause-packed
push_last-returns-clause-packed g t c =
    let ks = c.args.children.now.items in
    let l = c.in_ok-last.last in
    let m : c.len-n.result ≡ length ks = search rules in
    let is : l ≡ (1, c.args.item ∷ []) = c.in_ok-last.ensures.ok in
    let i : c.push-2.new.self.items ≡ ks ++ l ∷ [] = c.in_ok-push.ensures.items in
    let w0 : l.0 ≡ 1 = ap (λ (p : ℕ × List _). p.0) is in
    let w1 : length l.1 ≡ 1 = ap (λ (p : ℕ × List _). length p.1) is in
    rw i (elim c.else-n-gt0.branch [
      | push_last-else-n-gt0-via-then-n-gt0+else-len-each w ↦
          packed_more c.args.each ks w.index.result.now l c.requires.packed
          (full_last c.args.each ks (c.len-n.result - 1) w.index.result.now c.requires.packed (omega (arith, m, w.if-n-gt0.true)) w.index.ensures (omega (arith, w.len.ensures, w.if-len-each.false)))
          (omega (arith, w0, c.requires.each)) (omega (arith, w1)) (omega (arith, w1, c.requires.each))
      | push_last-else-n-gt0-via-else-n-gt0 w ↦
          packed_more c.args.each ks l l c.requires.packed (λ q e. absurd (omega (arith, m, e, w.if-n-gt0.false)))
          (omega (arith, w0, c.requires.each)) (omega (arith, w1)) (omega (arith, w1, c.requires.each))
    ])

-- src/trie.rt:213:1
pub push_last-returns-clause-ok : goal.push_last-returns-clause-ok
push_last-returns-clause-ok g t c =
    let ks = c.args.children.now.items in
    let l = c.in_ok-last.last in
    let is : l ≡ (1, c.args.item ∷ []) = c.in_ok-last.ensures.ok in
    let i : c.push-2.new.self.items ≡ ks ++ l ∷ [] = c.in_ok-push.ensures.items in
    ap all_items i ∙ all_items_more ks l ∙ ap (λ (p : ℕ × List _). all_items ks ++ p.1) is

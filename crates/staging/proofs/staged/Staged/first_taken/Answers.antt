use Rattle.std.proofs.Common.{◌≡◌, ◌||◌, ◌+◌, suc, Bool, false, ◌∷◌, drop, sym, ap, ◌∙◌, arith, rules}
use Rattle.std.proofs.Math.Seq.{drop-cons}
use Rattle.std.specs.List.{list_any}
use Rattle.std.specs.BTreeSet.{insert_key}
use Rattle.values.specs.declared.key.Key.{Key}
use Rattle.values.specs.Order.{key_cmp, is_key}
use Rattle.tsbtree.specs.View.{events}
use Rattle.staging.specs.Staged.{sees, first_seen}
use Rattle.staging.proofs.StagedEarlier.{next_seen}
use Rattle.staging.proofs.staged.Staged.first_taken.Goals as goal

pub loop-key-preserved : goal.loop-key-preserved
loop-key-preserved c =
    let has : Key → Bool = sees (events c.args.view.now) c.args.last c.args.self.now in
    let next : suc c.loop-key.key-index ≡ c.loop-key.key-index + 1 = omega arith in
    let left : drop c.loop-key.key-index c.args.keys.now ≡ c.key-item.result ∷ drop (c.loop-key.key-index + 1) c.args.keys.now =
    drop-cons c.args.keys.now c.loop-key.key-index c.key-item.result c.loop-key-test.true ∙ (λ i. sym c.key-item.is i ∷ drop (next i) c.args.keys.now) in
    let copied : c.in_ok-clone-2.field-0 ≡ c.key-item.result = search rules in
    let put : c.insert.new.self.keys ≡ insert_key key_cmp c.loop-key.earlier.keys c.in_ok-clone-2.field-0 = search rules in
    let free : (has c.key-item.result || list_any (is_key c.key-item.result) c.loop-key.earlier.keys) ≡ false = search rules in
    ap (λ l. first_seen has l (drop (c.loop-key.key-index + 1) c.args.keys.now)) (put ∙ ap (insert_key key_cmp c.loop-key.earlier.keys) copied)
    ∙ next_seen has c.key-item.result (drop (c.loop-key.key-index + 1) c.args.keys.now) c.loop-key.earlier.keys free
    ∙ ap (first_seen has c.loop-key.earlier.keys) (sym left)
    ∙ c.loop-key.invariant

use Rattle.std.proofs.Common.{◌≡◌, [], ◌∷◌, ◌++◌, ap, ◌∙◌, rules}
use Rattle.std.specs.BTreeMap.{insert_entry, is_at}
use Rattle.std.specs.Map.{lookup, keys_of}
use Rattle.std.specs.List.Sorted.{IsStrictlySortedBy}
use Rattle.values.specs.Order.{key_cmp}
use Rattle.staging.specs.Staged.{put_back_one, put_back}
use Rattle.staging.proofs.StagedPutBack.{one_back, back_last}
use Rattle.staging.proofs.staged.put_one.Goals as goal

pub returns-clause-back : goal.returns-clause-back
returns-clause-back c =
    let same : c.in_ok-kept.kept ≡ c.args.key = search rules in
    let before : c.in_ok-before.before ≡ lookup (is_at (key_cmp c.args.key)) c.args.writes.now.entries = search rules in
    let entries : c.insert.new.self.entries ≡ insert_entry key_cmp c.args.writes.now.entries c.args.key c.args.row = search rules in
    let ordered : IsStrictlySortedBy key_cmp (keys_of c.args.writes.now.entries) = c.insert.ensures.was_ordered in
    ap (λ l. put_back l c.insert.new.self.entries) (c.push_reserved.ensures.items ∙ ap (λ l. l ++ (c.in_ok-kept.kept, c.in_ok-before.before) ∷ []) c.reserve.ensures.items)
    ∙ back_last c.args.earlier.now.items c.in_ok-kept.kept c.in_ok-before.before c.insert.new.self.entries
    ∙ (λ i. put_back c.args.earlier.now.items (put_back_one (same i) c.in_ok-before.before (entries i)))
    ∙ ap (put_back c.args.earlier.now.items) (one_back c.args.key c.args.row c.in_ok-before.before c.args.writes.now.entries ordered before)

use Rattle.std.proofs.Common.{◌≡◌, None, sym, ap, ◌∙◌, rules}
use Rattle.std.specs.BTreeMap.{is_at}
use Rattle.std.specs.Map.{lookup}
use Rattle.values.specs.Order.{key_cmp}
use Rattle.staging.specs.Staged.{put_back_one}
use Rattle.staging.proofs.StagedPutBack.{set_absent}
use Rattle.staging.proofs.staged.put_back_one.Goals as goal

pub returns-in_default : goal.returns-in_default
returns-in_default c =
    let none : lookup (is_at (key_cmp c.args.key.now)) c.args.writes.now.entries ≡ None = search rules in
    (λ i. (c.get_mut.follows.holds-at-none i).entries)
    ∙ sym (set_absent (is_at (key_cmp c.args.key.now)) c.args.writes.now.entries c.in-Some.row none)
    ∙ sym (ap (λ b. put_back_one c.args.key.now b c.args.writes.now.entries) c.in-Some.is)

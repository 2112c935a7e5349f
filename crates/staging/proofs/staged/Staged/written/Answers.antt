use Rattle.std.proofs.Common.{◌≡◌, true, false, Option, Some, None, refl, sym, ap, ◌∙◌}
use Rattle.std.specs.Prelude.{IsSome}
use Rattle.std.specs.BTreeMap.{is_at}
use Rattle.std.specs.Map.{lookup}
use Rattle.std.specs.Ordering.{is_lt}
use Rattle.std.specs.declared.cmp.Ordering.{Ordering}
use Rattle.values.specs.Log.{Row}
use Rattle.values.specs.Order.{key_cmp}
use Rattle.staging.proofs.staged.Staged.written.Goals as goal

-- what no key below another has
absent : (found : Option (Option Row)) (o : Ordering) → (IsSome found → is_lt o ≡ false) → is_lt o ≡ true → None ≡ found
absent None o above less = refl
absent (Some row) o above less = let never : is_lt o ≡ false = above refl in cc

pub returns-in-Some : goal.returns-in-Some
returns-in-Some c =
    absent (lookup (is_at (key_cmp c.args.key.now)) c.self.inside.writes.entries) (key_cmp c.in-Some.greatest.now c.args.key.now) (c.in-Some.ensures.greatest c.args.key.now) (ap is_lt (sym c.cmp.ensures) ∙ sym c.is_lt.ensures ∙ c.if-is_lt.true)
    ∙ ap (lookup (is_at (key_cmp c.args.key.now))) c.self.view_is

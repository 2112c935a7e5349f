use Rattle.std.proofs.Common.{All, sym, subst, []}
use Rattle.std.proofs.lemmas.List.Elements.{All-nil}
use Rattle.values.specs.Log.{Row}
use Rattle.values.specs.declared.key.Key.{Key}
use Rattle.std.specs.Prelude.{Option}
use Rattle.values.specs.KeyEncoding.{IsShortKey}
use Rattle.staging.proofs.StagedCalls.{put_entries}
use Rattle.staging.proofs.staged.Staged.put.Goals as goal

pub invariant_of-self : goal.invariant_of-self
invariant_of-self c =
    subst (All (λ w. IsShortKey w.0)) (sym c.in_ok-self-inside.ensures.ok) (put_entries IsShortKey c.args.changes.items [] c.requires (All-nil (λ (w : Key × Option Row). IsShortKey w.0)))

pub invariant_of-self-in_default : goal.invariant_of-self-in_default
invariant_of-self-in_default c =
    subst (All (λ w. IsShortKey w.0)) (sym c.in_default.ensures.ok) (put_entries IsShortKey c.args.changes.items c.self.inside.writes.entries c.requires c.self.invariant)

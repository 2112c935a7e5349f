use Rattle.std.proofs.Common.{◌≡◌, Option, ◌||◌, is_some, sym, ap, subst, ◌∙◌}
use Rattle.std.proofs.lemmas.Result.{IfOk-weaker}
use Rattle.std.specs.Map.{keys_of}
use Rattle.std.specs.List.Sorted.{IsStrictlySortedBy}
use Rattle.values.specs.Order.{key_cmp}
use Rattle.values.specs.declared.key.Key.{Key}
use Rattle.values.specs.Log.{Changes, Net, Row}
use Rattle.values.specs.Tables.{Schema}
use Rattle.staging.specs.Net.{IsNet}
use Rattle.staging.specs.Own.{net_over}
use Rattle.staging.specs.View.{Holds}
use Rattle.values.specs.KeyEncoding.{IsShortKey, bytes_of_key}
use Rattle.values.specs.Events.{IsKeyIn, AreKeysIn, row_until}
use Rattle.staging.specs.Staged.{net_in}
use Rattle.tsbtree.specs.View.{events}
use Rattle.staging.proofs.StagedCalls.{net_of_view, kept_entries, kept_keys, kept_ordered}
use Rattle.staging.proofs.staged.Staged.net.Goals as goal

pub of-requires : goal.of-requires
of-requires c =
    let p = λ (w : Key × Option Row). is_some w.1 || is_some (row_until (events c.args.view.now) (bytes_of_key w.0) c.last.result) in
    subst IsNet (sym c.in_ok-net.ensures.ok) (record {
      ordered = kept_ordered p c.self.inside.writes.entries c.in_ok-net.ensures.ordered;
      short = kept_entries IsShortKey p c.self.inside.writes.entries c.self.invariant;
    })

pub returns-clause-ok : goal.returns-clause-ok
returns-clause-ok c =
    IfOk-weaker c.of.result (λ net. net ≡ c.in_ok-net.net.items) (λ net. (schema : Schema) (m : Changes) → Holds schema c.args.view.now m → AreKeysIn schema c.args.self.now → net ≡ net_over m c.args.self.now)
    (λ net is. λ schema m held keys.
    is ∙ c.in_ok-net.ensures.ok ∙ ap (net_in (events c.args.view.now) c.last.result) c.self.view_is
    ∙ net_of_view schema c.args.view.now c.last.result m c.args.self.now held keys c.last.ensures.ordered c.last.ensures.upto
    (subst (λ (w : Net). IsStrictlySortedBy key_cmp (keys_of w)) c.self.view_is c.in_ok-net.ensures.ordered)) c.of.ensures.ok

pub returns-clause-keys : goal.returns-clause-keys
returns-clause-keys c =
    IfOk-weaker c.of.result (λ net. net ≡ c.in_ok-net.net.items) (λ net. (schema : Schema) → AreKeysIn schema c.args.self.now → AreKeysIn schema net)
    (λ net is. λ schema keys.
    subst (AreKeysIn schema) (sym (is ∙ c.in_ok-net.ensures.ok ∙ ap (net_in (events c.args.view.now) c.last.result) c.self.view_is))
    (kept_keys (IsKeyIn schema) (λ w. is_some w.1 || is_some (row_until (events c.args.view.now) (bytes_of_key w.0) c.last.result)) c.args.self.now keys)) c.of.ensures.ok

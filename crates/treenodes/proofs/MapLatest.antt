-- The latest instant once an event was put.
use Rattle.std.proofs.Common.{◌≡◌, ◌≤◌, List, [], ◌∷◌, refl, arith}
use Rattle.std.specs.Ordering.{match_ordering}
use Rattle.std.specs.declared.cmp.Ordering.{Ordering}
use Rattle.std.specs.declared.cmp.Ordering.TheVariants.{Less, Equal, Greater}
use Rattle.values.specs.Event.{Event}
use Rattle.values.specs.Events.{event_cmp, put_event}
use Rattle.datanode.proofs.NodePut.{event_equal}
use Rattle.treenodes.specs.Map.{latest}

pub latest_put : (e : Event) (m : List Event) → latest m ≤ latest (put_event e m)
latest_put e [] = omega arith
latest_put e (d ∷ ds) = by (event_cmp e d) refl (latest_put e ds)
  where
    by : (o : Ordering) → event_cmp e d ≡ o → latest ds ≤ latest (put_event e ds) → latest (d ∷ ds) ≤ latest (match_ordering o (e ∷ d ∷ ds) (e ∷ ds) (d ∷ put_event e ds))
    by Less is h = omega arith
    by Equal is h = (let same : e.at ≡ d.at = (event_equal e d is).1 in omega arith)
    by Greater is h = omega arith

pub latest_is : (e : Event) (m : List Event) → latest m ≤ e.at → latest (put_event e m) ≡ e.at
latest_is e [] h = omega arith
latest_is e (d ∷ ds) h = by (event_cmp e d) refl (latest_is e ds)
  where
    by : (o : Ordering) → event_cmp e d ≡ o → (latest ds ≤ e.at → latest (put_event e ds) ≡ e.at) → latest (match_ordering o (e ∷ d ∷ ds) (e ∷ ds) (d ∷ put_event e ds)) ≡ e.at
    by Less is rest = omega arith
    by Equal is rest = omega arith
    by Greater is rest = let more : latest (put_event e ds) ≡ e.at = rest (omega arith) in omega arith

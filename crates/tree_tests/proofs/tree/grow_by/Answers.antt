use Rattle.std.proofs.Common.{ℕ, zero, suc, ◌<◌, List, [], ◌∷◌, length, get_or, sym, ap, subst, ◌∙◌, arith}
use Rattle.values.specs.Event.{Event}
use Rattle.values.specs.Events.{put_event}
use Rattle.treenodes.specs.Map.{HoldsMap, changes, latest}
use Rattle.treenodes.proofs.MapRead.{changes_is}
use Rattle.treenodes.proofs.MapLatest.{latest_is}
use Rattle.tree_tests.proofs.tree.grow_by.Goals as goal

below : (m : List Event) (t : ℕ) → latest m < t → (k : ℕ) (d : Event) → k < length m → (get_or m k d).at < t
below [] t h k d lt = absurd (omega arith)
below (x ∷ xs) t h zero d lt = omega arith
below (x ∷ xs) t h (suc k) d lt = below xs t (omega arith) k d (omega arith)

pub with_event-requires-clause-next : goal.with_event-requires-clause-next
with_event-requires-clause-next g c = record {
  first = (let lt : latest (changes c.args.nodes) < c.args.event.at = c.requires.later in omega arith);
  upto = c.requires.upto;
  latest_before = (let lt : latest (changes c.args.nodes) < c.args.event.at = c.requires.later in omega arith);
  last = λ k d lt same. below (changes c.args.nodes) c.args.event.at c.requires.later k d lt;
}

pub returns-clause-holds : goal.returns-clause-holds
returns-clause-holds g c =
    let s = c.in-Ok.nodes in
    let is = changes_is s (put_event c.args.event (changes c.args.nodes)) c.in-Ok.ensures.tree c.in-Ok.ensures.holds in
    subst (HoldsMap s) (sym is) c.in-Ok.ensures.holds

pub returns-clause-latest : goal.returns-clause-latest
returns-clause-latest g c =
    let lt : latest (changes c.args.nodes) < c.args.event.at = c.requires.later in
    let is = changes_is c.in-Ok.nodes (put_event c.args.event (changes c.args.nodes)) c.in-Ok.ensures.tree c.in-Ok.ensures.holds in
    ap latest is ∙ latest_is c.args.event (changes c.args.nodes) (omega arith)

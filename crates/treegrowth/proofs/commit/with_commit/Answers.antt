use Rattle.std.proofs.Common.{◌≡◌, ◌≤◌, length, refl, arith, List, [], ◌∷◌, sym, ap, subst, ◌∙◌}
use Rattle.std.specs.Vec.Iter.{into_iter_items}
use Rattle.std.proofs.lemmas.List.Elements.{recursion_from_All}
use Rattle.values.specs.Event.{Event}
use Rattle.values.specs.Events.{put_event}
use Rattle.treenodes.specs.Map.{changes, latest}
use Rattle.treenodes.proofs.HistoryKept.{keeps_same, keeps_then}
use Rattle.treegrowth.specs.Commit.{put_each}
use Rattle.treegrowth.specs.Places.{SplitsOverfull}
use Rattle.treegrowth.proofs.PlacesKept.{none_split, splits_then}
use Rattle.treegrowth.proofs.CommitDue.{IsDue, due_at_first, due_after, latest_after, read_at, of_changes, sound_after}
use Rattle.treegrowth.proofs.commit.with_commit.Goals as goal

empty_of : (es : List Event) → length es ≡ 0 → es ≡ []
empty_of [] h = refl
empty_of (e ∷ es) h = absurd (omega arith)

pub loop-event-init : goal.loop-event-init
loop-event-init c = record {
  kept = c.requires.sound.kept;
  due = subst (IsDue (changes c.args.nodes) c.args.last c.args.instant) (sym c.into_iter-event-iterator.ensures.into_iter_gives.0)
      (due_at_first (changes c.args.nodes) c.args.last c.args.instant c.args.events.items c.requires.sound.last_is c.requires.later c.requires.upto c.requires.commit);
  to_come = ap (λ es. put_each es (changes c.args.nodes)) c.into_iter-event-iterator.ensures.into_iter_gives.0;
  history = keeps_same c.args.nodes;
  splits = subst (λ es. SplitsOverfull c.args.events.items es c.args.nodes c.args.nodes) (sym c.into_iter-event-iterator.ensures.into_iter_gives.0) (none_split c.args.events.items c.args.nodes);
}

pub loop-event-preserved : goal.loop-event-preserved
loop-event-preserved c =
    let m = changes c.loop-event.nodes in
    let rest = into_iter_items c.next.new.self in
    let step : into_iter_items c.loop-event.event-iterator ≡ c.in-Some.event ∷ rest = c.in-Some.ensures.steps.0 in
    let due = subst (IsDue m c.args.last c.args.instant) step c.loop-event.invariant.due in
    let m' = put_event c.in-Some.event m in
    let is = read_at c.in_ok-nodes.nodes m' c.in_ok-nodes.ensures.kept in
    record {
      kept = of_changes c.in_ok-nodes.nodes m' c.in_ok-nodes.ensures.kept;
      due = subst (λ l. IsDue l c.args.last c.args.instant rest) (sym is) (due_after m c.args.last c.args.instant c.in-Some.event rest due);
      to_come = ap (put_each rest) is ∙ ap (λ es. put_each es m) (sym step) ∙ c.loop-event.invariant.to_come;
      history = keeps_then c.args.nodes c.loop-event.nodes c.in_ok-nodes.nodes c.loop-event.invariant.history c.in_ok-nodes.ensures.history;
      splits = splits_then c.args.events.items (c.in-Some.event ∷ rest) rest c.args.nodes c.loop-event.nodes c.in_ok-nodes.nodes (subst (λ es. SplitsOverfull c.args.events.items es c.args.nodes c.loop-event.nodes) step c.loop-event.invariant.splits)
          (c.in_ok-nodes.ensures.splits rest);
    }

pub returns-clause-sound : goal.returns-clause-sound
returns-clause-sound c = λ some.
    let m = changes c.args.nodes in
    let none : into_iter_items c.loop-event.event-iterator ≡ [] = empty_of (into_iter_items c.loop-event.event-iterator) (sym c.loop-event.event-iterator.rest.ok.0 ∙ c.in-None.ensures.steps.0) in
    let is = ap (λ es. put_each es (changes c.loop-event.nodes)) (sym none) ∙ c.loop-event.invariant.to_come in
    let le = c.requires.sound.last_is in
    let later = c.requires.later in
    let upto : latest m ≤ c.args.instant = omega (arith, le, later) in
    let top = latest_after m c.args.instant c.args.events.items upto (recursion_from_All (λ e. e.at ≡ c.args.instant) c.args.events.items c.requires.commit.at_instant) some in
    sound_after c.loop-event.nodes (changes c.loop-event.nodes) c.args.instant c.loop-event.invariant.kept (top ∙ ap latest (sym is))

pub returns-clause-splits : goal.returns-clause-splits
returns-clause-splits c =
    let none : into_iter_items c.loop-event.event-iterator ≡ [] = empty_of (into_iter_items c.loop-event.event-iterator) (sym c.loop-event.event-iterator.rest.ok.0 ∙ c.in-None.ensures.steps.0) in
    subst (λ es. SplitsOverfull c.args.events.items es c.args.nodes c.loop-event.nodes) none c.loop-event.invariant.splits

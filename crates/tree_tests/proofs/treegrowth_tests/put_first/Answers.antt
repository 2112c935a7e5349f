use Rattle.std.proofs.Common.{◌≡◌, ℕ, Bool, true, false, List, [], ◌∷◌, Option, Some, None, refl, sym, ap, subst, ◌∙◌, if◌then◌else◌, rules}
use Rattle.std.specs.Prelude.{slice_get, insert, option_copied}
use Rattle.std.specs.List.{AllByRecursion}
use Rattle.std.specs.List.Sorted.{IsStrictlySortedBy}
use Rattle.std.specs.declared.cmp.Ordering.TheVariants.{Less}
use Rattle.std.proofs.lemmas.List.Elements.{All-cons}
use Rattle.values.specs.Event.{Event}
use Rattle.values.specs.EventOrder.{event_total}
use Rattle.values.specs.Events.{event_cmp}
use Rattle.eventlist.proofs.PlaceOrder.{sorted_cons, sorted_head}
use Rattle.treegrowth.specs.Commit.{IsCommit}
use Rattle.tree_tests.proofs.treegrowth_tests.put_first.Goals as goal
use Rattle.tree_tests.proofs.treegrowth_tests.put_first.Goals.{in-Some+else-assert, in_default}

module _ (instant : ℕ) (e : Event) where
  above : (d : Event) (ds : List Event) → event_cmp e d ≡ Less → AllByRecursion (λ x. event_cmp d x ≡ Less) ds → AllByRecursion (λ x. event_cmp e x ≡ Less) ds
  above d [] less h = tt
  above d (x ∷ ds) less h = (event_total.trans e d x less h.0, above d ds less h.1)

  below_all : (es : List Event) → IsStrictlySortedBy event_cmp es → ((d : Event) → slice_get es 0 ≡ Some d → event_cmp e d ≡ Less) → AllByRecursion (λ x. event_cmp e x ≡ Less) es
  below_all [] sorted lower = tt
  below_all (d ∷ ds) sorted lower = (lower d refl, above d ds (lower d refl) (sorted_head event_cmp d ds sorted))

  with_first : (es : List Event) → IsCommit instant es → e.at ≡ instant → ((d : Event) → slice_get es 0 ≡ Some d → event_cmp e d ≡ Less) → IsCommit instant (e ∷ es)
  with_first es commit at lower = record {
    at_instant = All-cons (λ (d : Event). d.at ≡ instant) e es at commit.at_instant;
    ordered = sorted_cons event_cmp e es (below_all es commit.ordered lower) commit.ordered;
  }

  inserted : (done : Bool) (es after : List Event) → after ≡ (if done then insert es 0 e else es) → IsCommit instant es → IsCommit instant (e ∷ es) → IsCommit instant after
  inserted true es after is before commit = subst (IsCommit instant) (sym is) commit
  inserted false es after is before commit = subst (IsCommit instant) (sym is) before

some_same : (x d : Event) → ◌≡◌ {A = Option Event} (Some x) (Some d) → x ≡ d
some_same x d is = cc

none_some : (d : Event) → ◌≡◌ {A = Option Event} None (Some d) → ⊥
none_some d is = cc

pub returns : goal.returns
returns g c =
    inserted c.args.at c.args.event _ c.args.events.now.items c.insert.new.self.items c.insert.ensures.items c.requires.commit
    (with_first c.args.at c.args.event c.args.events.now.items c.requires.commit c.requires.instant (λ d is. elim c.match-first.branch [
      | in-Some+else-assert w ↦ (
          let less : event_cmp c.args.event w.in-Some.first.now ≡ Less = search rules in
          let same : w.in-Some.first.now ≡ d = some_same w.in-Some.first.now d (ap option_copied (sym w.in-Some.is) ∙ c.first.ensures.value ∙ ap (λ es. slice_get es 0) c.deref.ensures.value ∙ is) in
          subst (λ x. event_cmp c.args.event x ≡ Less) same less
          )
      | in_default w ↦ absurd (none_some d (ap option_copied (sym w.in_default.is) ∙ c.first.ensures.value ∙ ap (λ es. slice_get es 0) c.deref.ensures.value ∙ is))
    ]))

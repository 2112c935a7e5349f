use Rattle.std.proofs.Common.{ap, subst, ◌∷◌, ◌∙◌}
use Rattle.std.specs.Prelude.{slice_get}
use Rattle.std.specs.List.Sorted.{IsPermutation}
use Rattle.migrator.proofs.RoundSteps.{taken_out}
use Rattle.migrator.proofs.request_list.RequestList.remove.Goals as goal

pub returns : goal.returns
returns c = λ r at.
    subst (λ xs. IsPermutation xs (r ∷ c.swap_remove-rect.new.self.items)) c.self.view_is
    (taken_out c.self.inside.rects.items c.swap_remove-rect.new.self.items c.args.place c.swap_remove-rect.result r c.swap_remove-rect.ensures.value c.swap_remove-rect.ensures.items (ap (λ xs. slice_get xs c.args.place) c.self.view_is ∙ at))

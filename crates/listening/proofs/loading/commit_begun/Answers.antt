use Rattle.std.proofs.Common.{ℕ, ◌++◌, ◌∷◌, [], ◌∙◌, ap, inr, map, refl, subst}
use Rattle.serving.specs.Progress.{Given}
use Rattle.listening.specs.Loading.{IsFirstCommit}
use Rattle.listening.proofs.loading.commit_begun.Goals as goal

-- both receipts, and no load
pub returns-in-None-clause-err : goal.returns-in-None-clause-err
returns-in-None-clause-err g c = inr (
  refl,
  (
    c.in-Ok.done.number,
    c.in-Ok.done.entry,
    subst (λ e. (instant : ℕ) → IsFirstCommit c.args.begun.number c.in-Ok.done.number e instant → ⊥) c.entry.ensures (c.load_instant-ended.ensures.none c.in-None.is),
    ap (map {B = Given} (λ r. record { number = r.number; entry = r.entry })) (c.push_reserved-2.ensures.items ∙ ap (λ rs. rs ++ c.in-Ok.done ∷ []) (c.push_reserved.ensures.items ∙ ap (λ rs. rs ++ c.args.begun ∷ []) c.requires.none)),
  ),
)

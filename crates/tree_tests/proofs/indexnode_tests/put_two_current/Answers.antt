use Rattle.std.proofs.Common.{◌≡◌, ℕ, Option, false, true, subst}
use Rattle.std.specs.Prelude.{is_some}
use Rattle.tree_tests.proofs.indexnode_tests.put_two_current.Goals as goal

pub returns-clause-current : goal.returns-clause-current
returns-clause-current g c =
    c.replace-done.ensures.current c.requires.current (λ some. absurd (ends (subst (λ (to : Option ℕ). is_some to ≡ true) c.all-area.ensures some)))
  where
    ends : false ≡ true → ⊥
    ends e = cc

-- The receipts of a round are the service's.
use Rattle.std.proofs.Common.{◌≡◌, ℕ, List, [], ◌∷◌, sym, ap, subst, ◌∙◌, map}
use Rattle.std.proofs.lemmas.List.Elements.{recursion_from_All}
use Rattle.std.specs.Prelude.{All}
use Rattle.std.specs.List.{AllByRecursion}
use Rattle.sessions.specs.tsbtree.View.{TreeState}
use Rattle.sessions.specs.journal.declared.entry.Entry.{Entry}
use Rattle.sessions.specs.SessionState.{SessionState}
use Rattle.serving.specs.Progress.{Given}
use Rattle.migrator.specs.Round.{HasBegun, IsBroken, IsInstallIn, IsRound, Given as Numbered}
use Rattle.runs.specs.Run.{IsOfService}

abbrev AreServiced : List Numbered → Type 0
AreServiced given = AllByRecursion (λ g. IsOfService g.1) given

installs : (view : TreeState) (given : List Numbered) → AllByRecursion (IsInstallIn view) given → AreServiced given
installs view [] all = tt
installs view (g ∷ given) all = (subst IsOfService (sym all.0.entry_is) tt, installs view given all.1)

begun : (old new : SessionState) (begin : Numbered) → old.number ≡ 0 → HasBegun old new begin → IsOfService begin.1
begun old new begin number begins = subst IsOfService (sym begins.begun.entry_is) number

begun_number : (old new : SessionState) (begin : Numbered) → old.number ≡ 0 → HasBegun old new begin → new.number ≡ 0
begun_number old new begin number begins = ap (λ (s : SessionState). s.number) begins.ended ∙ ap (λ (s : SessionState). s.number) begins.begun.session_is ∙ number

of_round : (view : TreeState) (given more : List Numbered) (begin : Numbered) → given ≡ begin ∷ more → IsOfService begin.1 → All (IsInstallIn view) more → AreServiced given
of_round view given more begin are first each = subst AreServiced (sym are) (first, installs view more (recursion_from_All (IsInstallIn view) more each))

pub round_serviced : (old new : SessionState) (given : List Numbered) → old.number ≡ 0 → IsRound old new given → AreServiced given
round_serviced old new given number round =
    of_round round.begins.begun.view given round.whole.installs round.begin round.whole.given_are (begun old new round.begin number round.begins) round.whole.installed.each

pub round_number : (old new : SessionState) (given : List Numbered) → old.number ≡ 0 → IsRound old new given → new.number ≡ 0
round_number old new given number round = begun_number old new round.begin number round.begins

pub broken_serviced : (old new : SessionState) (given : List Numbered) → old.number ≡ 0 → IsBroken old new given → AreServiced given
broken_serviced old new [] number broken = tt
broken_serviced old new (g ∷ given) number broken =
    of_round broken.begins.begun.view (g ∷ given) broken.part.installs broken.begin broken.part.given_are (begun old new broken.begin number broken.begins) broken.part.installed.each

pub broken_number : (old new : SessionState) (given : List Numbered) → old.number ≡ 0 → IsBroken old new given → new.number ≡ 0
broken_number old new [] number broken = ap (λ (s : SessionState). s.number) broken ∙ number
broken_number old new (g ∷ given) number broken = begun_number old new broken.begin number broken.begins

-- as receipts with numbers and entries
pub as_given : {R : Type 0} (number : R → ℕ) (entry : R → Entry) (receipts : List R) → AreServiced (map (λ r. (number r, entry r)) receipts)
    → AllByRecursion (λ g. IsOfService g.entry) (map {B = Given} (λ r. record { number = number r; entry = entry r }) receipts)
as_given number entry [] all = tt
as_given number entry (r ∷ receipts) all = (all.0, as_given number entry receipts all.1)

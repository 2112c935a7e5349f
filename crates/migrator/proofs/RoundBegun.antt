-- Which round it is: that of the first receipt.
use Rattle.std.proofs.Common.{◌≡◌, List, [], ◌∷◌, refl, sym, ap, subst, ◌∙◌}
use Rattle.sessions.specs.journal.declared.entry.Entry.{Entry}
use Rattle.sessions.specs.journal.declared.entry.Entry.TheVariants.{Begin}
use Rattle.sessions.specs.SessionState.{SessionState}
use Rattle.migrator.specs.Round.{Given, HasBegun, IsBroken, IsOne, IsPart, IsPartOf, IsRound, IsWhole, IsWholeOf}
use Rattle.migrator.proofs.RoundSteps.{begins, breaks}

-- the first, where there is one
abbrev pub first_of : List Given → Given
first_of [] = (0, Begin 0 0 record { nodes = []; latest = 0 })
first_of (g ∷ given) = g

pub is_one : (given : List Given) (g : Given) → given ≡ g ∷ [] → IsOne given
is_one given g is = (g, is)

pub part_alone : (given : List Given) → IsPartOf given given
part_alone given number session earlier view is =
    breaks (number, Begin session earlier view) view _ (begins (number, Begin session earlier view) view [] given refl is)

-- ---- with the session

module _ (old new : SessionState) (first given : List Given) (g : Given) (b : HasBegun old new g) (one : first ≡ g ∷ []) where
  begin_is : first ≡ (g.0, Begin old.number b.begun.earlier b.begun.view) ∷ []
  begin_is = one ∙ ap (λ (e : Entry). (g.0, e) ∷ []) b.begun.entry_is

  pub round_of : IsWholeOf first given → IsRound old new given
  round_of whole = record {
    begin = g;
    begins = b;
    whole = subst (λ (e : Entry). IsWhole (g.0, e) b.begun.view given) (sym b.begun.entry_is) (whole g.0 old.number b.begun.earlier b.begun.view begin_is);
  }

  pub broken_of : IsPartOf first given → IsBroken old new given
  broken_of parts =
      let part : IsPart g b.begun.view given = subst (λ (e : Entry). IsPart (g.0, e) b.begun.view given) (sym b.begun.entry_is) (parts g.0 old.number b.begun.earlier b.begun.view begin_is) in
      subst (IsBroken old new) (sym part.given_are) (record { begin = g; begins = b; part = subst (IsPart g b.begun.view) part.given_are part })

  -- its begin is handed back
  pub has_one : IsPartOf first given → given ≡ [] → ⊥
  has_one parts none =
      let part : IsPart g b.begun.view given = subst (λ (e : Entry). IsPart (g.0, e) b.begun.view given) (sym b.begun.entry_is) (parts g.0 old.number b.begun.earlier b.begun.view begin_is) in
      let never : ◌≡◌ {A = List Given} [] (g ∷ part.installs) = sym none ∙ part.given_are in
      cc

-- Lines that were served, one after another.
use Rattle.std.proofs.Common.{◌≡◌, ℕ, List, [], ◌∷◌, ◌++◌, Bool, Option, append_assoc, append-nil, refl, sym, ap, ◌∙◌, subst}
use Rattle.std.specs.Io.KnownBytes.{Keeps}
use Rattle.std.proofs.KnownBytes.{Appends-trans, Appends-nil, Appends-kept}
use Rattle.values.specs.Tables.{Schema}
use Rattle.statement.proofs.WriterPrefixes.{front_then}
use Rattle.lines.specs.Partial.{Partial}
use Rattle.sessions.specs.SessionState.{SessionState}
use Rattle.serving.specs.Progress.{Given, Progress}
use Rattle.serving.specs.ServedSession.{Told, IsAnswered, Serves}
use Rattle.serving.specs.BookRefusals.{GoesOn}
use Rattle.serving.specs.Account.{AccountState, Served, Writes, WritesPrefix, LeavesAll}
use Rattle.serving.proofs.BookRefusalsKnown.{goes_refl, goes_trans, known_join, known_on}

module _ (may_give : ℕ → Bool) (schema : Schema) (i : ℕ) where
  pub serves_one : (l : Partial) (t : Told) (p q : Progress) (g : List Given) (o : List ℕ) → IsAnswered may_give schema i l t p g o q → Serves may_give schema i (l ∷ []) (t ∷ []) p g o q
  serves_one l t p q g o is = (g, ([], (o, ([], (q, (sym (append-nil g), (sym (append-nil o), (is, (refl, (refl, refl))))))))))

  pub serves_join : (ls ms : List Partial) (ts us : List Told) (p q r : Progress) (g h : List Given) (o x : List ℕ) → Serves may_give schema i ls ts p g o q → Serves may_give schema i ms us q h x r → Serves may_give schema i (ls ++ ms) (ts ++ us) p (g ++ h) (o ++ x) r
  serves_join [] ms [] us p q r g h o x f s =
      subst (λ (k : List Given). Serves may_give schema i ms us p (k ++ h) (o ++ x) r) (sym f.0)
      (subst (λ (k : List ℕ). Serves may_give schema i ms us p h (k ++ x) r) (sym f.1.0)
      (subst (λ k. Serves may_give schema i ms us k h x r) f.1.1 s))
  serves_join [] ms (t ∷ ts) us p q r g h o x f s = absurd f
  serves_join (l ∷ ls) ms [] us p q r g h o x f s = absurd f
  serves_join (l ∷ ls) ms (t ∷ ts) us p q r g h o x f s =
      let own = f.0 in
      let more = f.1.0 in
      let text = f.1.1.0 in
      let texts = f.1.1.1.0 in
      let between = f.1.1.1.1.0 in
      let e = f.1.1.1.1.1 in (
        own,
        (
          more ++ h,
          (
            text,
            (
              texts ++ x,
              (
                between,
                (
                  ap (λ k. k ++ h) e.0 ∙ append_assoc own more h,
                  (
                    ap (λ k. k ++ x) e.1.0 ∙ append_assoc text texts x,
                    (e.1.1.0, serves_join ls ms ts us between q r more h texts x e.1.1.1 s),
                  ),
                ),
              ),
            ),
          ),
        ),
      )

module _ (may_give : ℕ → Bool) where
  pub served_none : (s : SessionState) (a b : AccountState) → b.given ≡ a.given → b.refused ≡ a.refused → Served may_give [] [] s s a b
  served_none s a b given refused = record {
    told = [];
    given = [];
    given_is = given ∙ sym (append-nil a.given);
    known = tt;
    goes_on = subst (GoesOn a.refused) (sym refused) (goes_refl a.refused);
    schema_is = refl;
    number_is = refl;
    steps = λ p at. (p, (at, (refl, (refl, refl))));
  }

  pub served_join : (ls ms : List Partial) (o x : List ℕ) (old mid new : SessionState) (a b c : AccountState) → Served may_give ls o old mid a b → Served may_give ms x mid new b c → Served may_give (ls ++ ms) (o ++ x) old new a c
  served_join ls ms o x old mid new a b c f s = record {
    told = f.told ++ s.told;
    given = f.given ++ s.given;
    given_is = s.given_is ∙ ap (λ k. k ++ s.given) f.given_is ∙ append_assoc a.given f.given s.given;
    known = known_join c.refused f.told s.told (known_on b.refused c.refused f.told s.goes_on f.known) s.known;
    goes_on = goes_trans a.refused b.refused c.refused f.goes_on s.goes_on;
    schema_is = s.schema_is ∙ f.schema_is;
    number_is = s.number_is ∙ f.number_is;
    steps = λ p at.
        let one = f.steps p at in
        let two = s.steps one.0 one.1.0 in (
          two.0,
          (
            two.1.0,
            serves_join may_give old.schema old.number ls ms f.told s.told p one.0 two.0 f.given s.given o x one.1.1
                (subst (λ k. Serves may_give k old.number ms s.told one.0 s.given x two.0) f.schema_is (subst (λ k. Serves may_give mid.schema k ms s.told one.0 s.given x two.0) f.number_is two.1.1)),
          ),
        );
  }

  pub writes_none : (s : SessionState) (a : AccountState) (w : Option (List ℕ)) → Writes may_give [] s s a a w w
  writes_none s a w = record { out = []; wrote = Appends-nil w; served = served_none s a a refl refl }

  pub writes_join : (ls ms : List Partial) (old mid new : SessionState) (a b c : AccountState) (w v u : Option (List ℕ)) → Writes may_give ls old mid a b w v → Writes may_give ms mid new b c v u → Writes may_give (ls ++ ms) old new a c w u
  writes_join ls ms old mid new a b c w v u f s = record { out = f.out ++ s.out; wrote = Appends-trans w v u f.out s.out f.wrote s.wrote; served = served_join ls ms f.out s.out old mid new a b c f.served s.served }

  pub writes_kept : (ls : List Partial) (old new : SessionState) (a b : AccountState) (w v u : Option (List ℕ)) → Writes may_give ls old new a b w v → Keeps v u → Writes may_give ls old new a b w u
  writes_kept ls old new a b w v u f kept = record { out = f.out; wrote = Appends-kept w v u f.out f.wrote kept; served = f.served }

  -- all that was to be written is a front of itself
  pub all_front : (ls : List Partial) (old new : SessionState) (a b : AccountState) (w v : Option (List ℕ)) → Writes may_give ls old new a b w v → WritesPrefix may_give ls old new a b w v
  all_front ls old new a b w v f = record { out = f.out; wrote = record { out = f.out; left = []; wrote = f.wrote; front = sym (append-nil f.out) }; served = f.served }

  pub front_join : (ls ms : List Partial) (old mid new : SessionState) (a b c : AccountState) (w v u : Option (List ℕ)) → Writes may_give ls old mid a b w v → WritesPrefix may_give ms mid new b c v u → WritesPrefix may_give (ls ++ ms) old new a c w u
  front_join ls ms old mid new a b c w v u f s = record { out = f.out ++ s.out; wrote = front_then w v u f.out s.out f.wrote s.wrote; served = served_join ls ms f.out s.out old mid new a b c f.served s.served }

  pub left_front : (old new : SessionState) (a b : AccountState) (w v : Option (List ℕ)) → LeavesAll old new a b w v → WritesPrefix may_give [] old new a b w v
  left_front old new a b w v f = record {
    out = [];
    wrote = record { out = []; left = []; wrote = Appends-kept w w v [] (Appends-nil w) f.wrote; front = refl };
    served = subst (λ s. Served may_give [] [] old s a b) (sym f.session_is) (served_none old a b f.given_is f.refused_is);
  }

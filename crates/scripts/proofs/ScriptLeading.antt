-- Steps before a script, one after another.
use Rattle.std.proofs.Common.{◌≡◌, ◌≢◌, List, ◌∷◌, Option, Some, None, false, refl, sym, ◌∙◌, ap, subst}
use Rattle.std.specs.Prelude.{Result, Ok, Err, IfOk, IfErr}
use Rattle.values.specs.Tables.{Schema}
use Rattle.values.specs.declared.refusal.Refusal.{Refusal}
use Rattle.values.specs.declared.refusal.Refusal.TheVariants.{Memory}
use Rattle.steps.specs.declared.step.Step.{Step}
use Rattle.steps.specs.declared.step.Reply.{Reply}
use Rattle.steps.specs.declared.step.Reply.TheVariants.{Refused}
use Rattle.histories.specs.History.{History, reply}
use Rattle.histories.specs.Led.{led}
use Rattle.interleaving.specs.SystemState.{SystemState, Stands}
use Rattle.scripts.specs.declared.script.RunFault.{RunFault}
use Rattle.scripts.specs.declared.script.RunFault.TheVariants.{First}
use Rattle.scripts.specs.First.{refusal_in, first_refusal, is_first}
use Rattle.scripts.specs.Transcript.{after}
use Rattle.scripts.specs.Script.{IsAt}
use Rattle.scripts.specs.declared.script.Script.{Script}

-- a system after some of the steps, of which this rest is left
pub record Leading (s s' : SystemState) (steps rest : List Step) : Type 0 where
  pub so_far : (schema : Schema) (h : History) → Stands schema s h
      → (g : History) × Stands schema s' g × (led h steps ≡ led g rest) × (first_refusal schema h steps ≡ first_refusal schema g rest)

-- what a step answers, where memory suffices
abbrev pub Answers : SystemState → SystemState → Step → Reply → Type 0
Answers s s' step r = (schema : Schema) (h : History) → Stands schema s h → r ≢ Refused Memory → (r ≡ reply schema h step) × Stands schema s' (step ∷ h)

pub no_memory : (r : Reply) → refusal_in r ≡ None → r ≢ Refused Memory
no_memory r none is = cc (sym none ∙ ap refusal_in is)

passes : (schema : Schema) (g : History) (step : Step) (more : List Step) (o : Option Refusal) → refusal_in (reply schema g step) ≡ o → o ≡ None → first_refusal schema g (step ∷ more) ≡ first_refusal schema (step ∷ g) more
passes schema g step more o is none = ap (λ r. elim r [ Some refusal ↦ Some refusal | None ↦ first_refusal schema (step ∷ g) more ]) (is ∙ none)

pub leading_more : (s m s' : SystemState) (steps rest more : List Step) (step : Step) (r : Reply) → rest ≡ step ∷ more → Leading s m steps rest → Answers m s' step r → refusal_in r ≡ None
    → Leading s s' steps more
leading_more s m s' steps rest more step r is so answers none = record {
  so_far = λ schema h at.
      let (g, at_g, led_g, refusal_g) = so.so_far schema h at in
      let (due, at_next) = answers schema g at_g (no_memory r none) in (
        step ∷ g,
        at_next,
        led_g ∙ ap (led g) is,
        refusal_g ∙ ap (first_refusal schema g) is
            ∙ passes schema g step more None (ap refusal_in (sym due) ∙ none) refl,
      );
}

-- ---- before a script

pub run_at : (s : Script) (system : SystemState) (schema : Schema) (h : History) → s.system ≡ system → s.reading ≡ 0 → Stands schema system h → IsAt s schema (after h)
run_at s system schema h same nought at = record {
  stands = subst (λ w. Stands schema w h) (sym same) at;
  reading_is = nought;
}

-- ---- a run over the system that took them

pub at_first : {S E : Type 0} (r : Result S E) (P : Schema → History → S → Type 0) (s : SystemState) (schema : Schema) (h : History) → Stands schema s h
    → IfOk r (λ x. (schema : Schema) (h : History) → Stands schema s h → P schema h x) → IfOk r (λ x. P schema h x)
at_first (Ok x) P s schema h at f = f schema h at
at_first (Err e) P s schema h at f = tt

pub never_first : {S : Type 0} (r : Result S RunFault) (x : Refusal) → IfErr r (λ fault. is_first fault ≡ false) → r ≡ Err (First x) → ⊥
never_first (Ok s) x i e = cc
never_first (Err fault) x i e =
    let same : fault ≡ First x = cc e in
    cc (sym i ∙ ap is_first same)

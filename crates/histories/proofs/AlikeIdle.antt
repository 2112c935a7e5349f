-- One system stands for both histories, and answers for both.
use Rattle.std.proofs.Common.{◌≡◌, ℕ, ◌+◌, List, [], ◌∷◌, Option, None, true, refl, sym, ap, subst, ◌∙◌, arith}
use Rattle.std.specs.Prelude.{replicate, ◌≤◌}
use Rattle.std.proofs.lemmas.List.{length-replicate, get_or-replicate}
use Rattle.values.specs.Tables.{Schema}
use Rattle.values.specs.Log.{Log, last, changes}
use Rattle.steps.specs.declared.step.Step.{Step}
use Rattle.steps.specs.Idle.{is_idle}
use Rattle.steps.specs.Misfit.{max_session}
use Rattle.histories.specs.Alike.{IdleHistoriesAnswerAlike}
use Rattle.histories.specs.History.{History, has_open, schema_after, log, own, replies}
use Rattle.histories.specs.World.{OpenTransaction, World}
use Rattle.histories.specs.Stands.{Stands, open_in, open_from}
use Rattle.histories.specs.Turn.{turn}
use Rattle.histories.specs.TurnLaw.{TurnsGiveTheReplies}
use Rattle.histories.proofs.HistoryOwn.{none_begun}

abbrev none_open : ℕ → List (Option OpenTransaction)
none_open n = replicate n None

-- nobody has a transaction open
abbrev quiet : Schema → Log → World
quiet now log = record {
  schema = now;
  changes = changes log;
  latest = last log;
  sessions = none_open (max_session + 1);
}

closed_in : (first : Schema) (h : History) (i : ℕ) → is_idle (has_open h) ≡ true → open_in first h i ≡ None
closed_in first h i idle = ap (λ o. open_from (schema_after first h) (log first h) o (own first h i)) (none_begun first h i idle)

stands : (first : Schema) (h : History) → is_idle (has_open h) ≡ true → Stands first (quiet (schema_after first h) (log first h)) h
stands first h idle = record {
  schema_is = refl;
  wide = length-replicate {A = Option OpenTransaction} (max_session + 1) None;
  changes_are = refl;
  latest_is = refl;
  sessions_are = λ i small. get_or-replicate {A = Option OpenTransaction} (max_session + 1) i None None (let le : i ≤ max_session = small in omega arith) ∙ sym (closed_in first h i idle);
}

module _ (turns : TurnsGiveTheReplies) where
  both : (first other : Schema) (w : World) (h g : History) (steps : List Step) → Stands first w h → Stands other w g → replies first h steps ≡ replies other g steps
  both first other w h g [] here there = refl
  both first other w h g (step ∷ steps) here there =
      let a = turns first w h step here in
      let b = turns other w g step there in
      λ k. (sym a.0 ∙ b.0) k ∷ both first other (turn w step).1 (step ∷ h) (step ∷ g) steps a.1 b.1 k

  pub idle_histories_answer_alike : IdleHistoriesAnswerAlike
  idle_histories_answer_alike first other h g steps same =
      both first other (quiet (schema_after first h) (log first h)) h g steps (stands first h same.idle)
      (subst (λ w. Stands other w g) (λ k. quiet (sym same.tables_are k) (sym same.log_is k)) (stands other g same.other_idle))

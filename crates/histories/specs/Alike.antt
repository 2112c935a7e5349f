-- Histories after which whatever follows is answered alike.
use Rattle.std.specs.Prelude.{◌≡◌, List, true}
use Rattle.values.specs.Tables.{Schema}
use Rattle.steps.specs.declared.step.Step.{Step}
use Rattle.steps.specs.Idle.{is_idle}
use Rattle.histories.specs.History.{History, has_open, schema_after, log, replies}

-- two histories have come to the same tables and the same log, and no session has a transaction open
pub record CameToTheSame (first : Schema) (h : History) (other : Schema) (g : History) : Type 0 where
  pub idle : is_idle (has_open h) ≡ true
  pub other_idle : is_idle (has_open g) ≡ true
  pub tables_are : schema_after first h ≡ schema_after other g
  pub log_is : log first h ≡ log other g

-- then whatever steps follow get the same replies
abbrev pub IdleHistoriesAnswerAlike : Type 0
IdleHistoriesAnswerAlike =
    (first other : Schema) (h g : History) (steps : List Step)
    → CameToTheSame first h other g → replies first h steps ≡ replies other g steps

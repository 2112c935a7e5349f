-- The events of a run: entries of the journal, and steps of sessions.
use Rattle.std.specs.Prelude.{◌≡◌, ℕ, ◌==◌, List, [], ◌∷◌, Option, Some, None, filter}
use Rattle.std.specs.List.{filter_map}
use Rattle.std.specs.Option.{option_map}
use Rattle.values.specs.Tables.{Schema}
use Rattle.steps.specs.declared.step.Step.{Step}
use Rattle.steps.specs.declared.step.Reply.{Reply}
use Rattle.histories.specs.History.{History, reply}
use Rattle.serving.specs.journal.declared.entry.Entry.{Entry}
use Rattle.serving.specs.Progress.{Given}

-- whose it is; the number of its part's last receipt, 0 before the first; the entry of that receipt,
-- where the event took it; and its step with the reply, where it is one
pub record Event : Type 0 where
  pub part : ℕ
  pub number : ℕ
  pub entry : Option Entry
  pub step : Option (Step × Reply)

abbrev pub of_part : ℕ → List Event → List Event
of_part i events = filter (λ e. e.part == i) events

-- the receipts that the events took
abbrev pub receipt_of : Event → Option Given
receipt_of e = option_map (λ entry. record { number = e.number; entry = entry }) e.entry

abbrev pub receipts_of : List Event → List Given
receipts_of events = filter_map receipt_of events

-- ---- their history

abbrev pub with_step : Option (Step × Reply) → History → History
with_step None h = h
with_step (Some s) h = s.0 ∷ h

-- the steps of events, the newest first, over those before
abbrev pub history_after : History → List Event → History
history_after h [] = h
history_after h (e ∷ events) = history_after (with_step e.step h) events

abbrev pub IsRight : Schema → History → Option (Step × Reply) → Type 0
IsRight schema h None = Unit {0}
IsRight schema h (Some s) = s.1 ≡ reply schema h s.0

-- each reply is the history's, where its step stands
abbrev pub AreRight : Schema → History → List Event → Type 0
AreRight schema h [] = Unit {0}
AreRight schema h (e ∷ events) = IsRight schema h e.step × AreRight schema (with_step e.step h) events

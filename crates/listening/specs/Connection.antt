-- What the sessions of connections were sent, as one history.
use Rattle.std.specs.Prelude.{◌≡◌, ◌≢◌, ◌<◌, ◌≤◌, ℕ, List, [], Option, map, length}
use Rattle.std.specs.Io.KnownBytes.{Keeps}
use Rattle.std.specs.List.{AllByRecursion, flat_map}
use Rattle.values.specs.Log.{Row}
use Rattle.values.specs.Tables.{Schema}
use Rattle.growlog.specs.Origin.{Origin}
use Rattle.steps.specs.Misfit.{max_session}
use Rattle.histories.specs.History.{History}
use Rattle.sessions.specs.book.Book.{BookState}
use Rattle.sessions.specs.journal.Entries.{numbers}
use Rattle.serving.specs.Progress.{Given}
use Rattle.runs.specs.Event.{Event}
use Rattle.runs.specs.OneHistory.{Dialogue, OneHistory}
use Rattle.runs.specs.Run.{IsRun, Part}
use Rattle.listening.specs.declared.limit.Limit.{Limit}
use Rattle.listening.specs.declared.limit.Limit.TheVariants.{Sessions, Connections}

-- a session had one connection at most, and none where its number is above so many; or all sessions together
-- had so many at most, or any number of them where that is 0
abbrev pub IsWithin : Limit → List Dialogue → Type 0
IsWithin (Sessions most) ds = AllByRecursion (λ d. (length d.talks ≤ 1) × (most < d.number → d.talks ≡ [])) ds
IsWithin (Connections most) ds = most ≢ 0 → length (flat_map (λ d. d.talks) ds) ≤ most

-- the same of connections as they were served
abbrev pub AreWithin : Limit → List Part → Type 0
AreWithin (Sessions most) parts = AllByRecursion (λ p. (length p.sent ≤ 1) × (most < p.number → p.sent ≡ [])) parts
AreWithin (Connections most) parts = most ≢ 0 → length (flat_map (λ p. p.sent) parts) ≤ most

-- of each session, all that it was sent, and the load before them, goes on from a history as one with it:
-- its entries are the book's in order, which may have so many. There were no more connections than the limit has it
pub record IsOneRun (start : Schema) (before : History) (limit : Limit) (most : ℕ) (table : ℕ) (rows : List Row)
    (b : BookState) : Type 0 where
  pub dialogues : List Dialogue
  pub numbered : map (λ d. d.number) dialogues ≡ numbers max_session
  pub within : IsWithin limit dialogues
  pub events : List Event
  pub history : OneHistory start before most b table rows dialogues events

-- how they were served, receipt by receipt: these receipts of before, and those of each session's lines and of the
-- service, are those of a run
pub record IsServedRun (o : Origin) (limit : Limit) (table : ℕ) (rows : List Row) (loaded : List Given)
    (b : BookState) : Type 0 where
  pub parts : List Part
  pub service : List Given
  pub numbered : map (λ p. p.number) parts ≡ numbers max_session
  pub within : AreWithin limit parts
  pub is_run : IsRun o b table rows loaded parts service

-- what becomes of the reader whose end stops a server: nothing is read of it where the server has a limit
abbrev pub HasRead : Limit → (unread left : Option (List ℕ)) → Type 0
HasRead (Sessions most) unread left = Keeps unread left
HasRead (Connections most) unread left = most ≢ 0 → Keeps unread left

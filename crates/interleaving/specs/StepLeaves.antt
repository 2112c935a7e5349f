-- What a step leaves as it was.
use Rattle.std.specs.Prelude.{ℕ, Bool, true, false, Some}
use Rattle.values.specs.declared.refusal.Refusal.TheVariants.{Conflict, ClockEnd}
use Rattle.values.specs.Log.{Net}
use Rattle.treenodes.specs.History.{KeepsHistory, KeepsPast}
use Rattle.tsbtree.specs.View.{TreeState}
use Rattle.staging.specs.View.{Adds}
use Rattle.validation.specs.Split.{SplitsByNeed}
use Rattle.steps.specs.declared.step.Step.{Step}
use Rattle.steps.specs.declared.step.Step.TheVariants.{Commit, SplitKey, SplitTime, Migrate}
use Rattle.steps.specs.declared.step.Reply.{Reply}
use Rattle.steps.specs.declared.step.Reply.TheVariants.{Refused, Committed}

-- a refusal after which nothing has changed: each but a conflict and the clock's end, which end a transaction
abbrev pub leaves_all : Reply → Bool
leaves_all (Refused (Conflict key instant)) = false
leaves_all (Refused ClockEnd) = false
leaves_all (Refused refusal) = true
leaves_all reply = false

-- only these change the tree: a split, a migration, and a commit with an instant
abbrev pub may_change_tree : Step → Reply → Bool
may_change_tree (SplitKey key) reply = true
may_change_tree (SplitTime key instant) reply = true
may_change_tree Migrate reply = true
may_change_tree (Commit session reading) (Committed (Some instant)) = true
may_change_tree step reply = false

-- the nodes of history stay, and but for a migration none is packed
abbrev pub LeavesHistory : Step → TreeState → TreeState → Type 0
LeavesHistory Migrate old new = KeepsPast old.nodes new.nodes
LeavesHistory step old new = KeepsHistory old.nodes new.nodes

-- net changes were added at an instant, and only nodes that they overfill were split
pub record AddsByNeed (instant : ℕ) (old new : TreeState) : Type 0 where
  pub net : Net
  pub adds : Adds instant net old new
  pub splits : SplitsByNeed instant net old new

abbrev pub SplitsAsReplied : Step → Reply → TreeState → TreeState → Type 0
SplitsAsReplied (Commit session reading) (Committed (Some instant)) old new =
    AddsByNeed instant old new
SplitsAsReplied step reply old new = Unit {0}

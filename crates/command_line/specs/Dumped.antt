-- What is left of a run, of which a dump is made.
use Rattle.std.specs.Prelude.{◌≡◌}
use Rattle.values.specs.Tables.{Schema}
use Rattle.histories.specs.History.{History, log, schema_after}
use Rattle.sessions.specs.tsbtree.View.{TreeState}
use Rattle.dumping.specs.History.{HoldsLog}
use Rattle.command_line.specs.declared.dumped.Left.{Left}
use Rattle.command_line.specs.declared.dumped.Store.{Store}
use Rattle.command_line.specs.declared.dumped.Store.TheVariants.{Engine, Closed}

-- the tree of what was committed
abbrev pub tree_of : Store → TreeState
tree_of (Engine engine) = engine
tree_of (Closed b) = b.engine

-- it is what a history has come to: its tables, and a tree that holds what its transactions changed
pub record IsLeftBy (first : Schema) (h : History) (left : Left) : Type 0 where
  pub tables_are : left.tables ≡ schema_after first h
  pub holds : HoldsLog left.tables (tree_of left.store) (log first h)

-- a history was come to in this way, and left it
pub record HasLeft (first : Schema) (left : Left) (CameTo : History → Type 0) : Type 0 where
  pub end : History
  pub came_to : CameTo end
  pub left_by : IsLeftBy first end left

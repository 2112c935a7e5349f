-- What contracts see of an open transaction.
use Rattle.values.specs.Log.{Net}
use Rattle.systime_query.specs.tsbtree.View.{TreeState}

-- what it sees of what was committed, and its own writes
pub record OpenTransactionState : Type 0 where
  pub view : TreeState
  pub writes : Net

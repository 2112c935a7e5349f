-- A node that was copied from what a begin shows.
use Rattle.std.specs.Prelude.{Option, Some, None}
use Rattle.book.specs.journal.declared.entry.Entry.{Entry}
use Rattle.book.specs.treenodes.LeafCopy.{NumberedNode}
use Rattle.book.specs.Copy.{IsCopyFor}

-- there is a receipt, and the copy is of a node that its entry shows
abbrev pub IsCopyOfBegin : {R : Type 0} → (R → Entry) → Option R → NumberedNode → Type 0
IsCopyOfBegin entry None copy = ⊥
IsCopyOfBegin entry (Some r) copy = IsCopyFor (entry r) copy

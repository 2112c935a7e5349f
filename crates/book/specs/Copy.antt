-- A data node that was copied from what a begin shows.
use Rattle.validation.specs.treenodes.LeafCopy.{NumberedNode, IsCopyIn}
use Rattle.journal.specs.declared.entry.Entry.{Entry}
use Rattle.journal.specs.declared.entry.Entry.TheVariants.{Begin, Commit, Split, Install}

-- the entry is a begin, and the copy one of a node that it shows
abbrev pub IsCopyFor : Entry → NumberedNode → Type 0
IsCopyFor (Begin session earlier view) copy = IsCopyIn view.nodes copy
IsCopyFor (Commit session begin net reading end) copy = ⊥
IsCopyFor (Split cut done) copy = ⊥
IsCopyFor (Install rect block done) copy = ⊥

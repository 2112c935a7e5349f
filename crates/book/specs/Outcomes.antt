-- The entries of a step of which it is known only afterwards whether it is done.
use Rattle.std.specs.Prelude.{Bool, if◌then◌else◌}
use Rattle.journal.specs.declared.entry.Entry.{Entry}
use Rattle.book.specs.declared.outcomes.Outcomes.{Outcomes}

-- the entry of a step that is done or not
abbrev pub entry_of : Outcomes → Bool → Entry
entry_of outcomes done = if done then outcomes.done.0 else outcomes.left.0

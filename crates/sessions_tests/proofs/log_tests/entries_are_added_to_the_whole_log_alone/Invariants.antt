use Rattle.std.proofs.Common.{[]}
use Rattle.sessions_tests.proofs.log_tests.entries_are_added_to_the_whole_log_alone.Given as goal

-- the log that was just made
abbrev pub ghosts-lengths : goal.ghosts-lengths
ghosts-lengths g a = record { book = a.opened.seen.book; origin = record { schema = record { tables = [] }; log = []; most_entries = 1000000 } }

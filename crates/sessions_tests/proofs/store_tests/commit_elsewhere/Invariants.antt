use Rattle.std.proofs.Common.{[]}
use Rattle.sessions_tests.proofs.store_tests.commit_elsewhere.Given as goal

-- the other store's log, which was just made, and its tables
abbrev pub ghosts-refuses_commit : goal.ghosts-refuses_commit
ghosts-refuses_commit g a = record { book = a.opened.seen.book; origin = record { schema = a.schema; log = []; most_entries = 1000000 } }

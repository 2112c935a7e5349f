use Rattle.std.proofs.Common.{[]}
use Rattle.sessions_tests.proofs.socket_tests.serve_clients.Given as goal

-- the log that was just made, and the tables
abbrev pub ghosts-serve_new : goal.ghosts-serve_new
ghosts-serve_new g a = record { book = a.opened.seen.book; origin = record { schema = a.schema; log = []; most_entries = 1000000 } }

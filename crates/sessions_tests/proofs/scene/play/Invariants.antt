use Rattle.std.proofs.Common.{[]}
use Rattle.sessions_tests.proofs.scene.play.Given as goal

-- the log that was just made, the tables, and the room for entries
abbrev pub ghosts-play_round : goal.ghosts-play_round
ghosts-play_round g a = record { book = a.opened.seen.book; origin = record { schema = a.schema; log = []; most_entries = a.most_entries } }

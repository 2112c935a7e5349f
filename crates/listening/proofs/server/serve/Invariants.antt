use Rattle.listening.proofs.ServerCarried.{taken}
use Rattle.listening.proofs.server.serve.Given as goal

-- the log that was just made, and what the system has come to
abbrev pub ghosts-serve_store : goal.ghosts-serve_store
ghosts-serve_store g a = record { book = a.opened.seen.book; origin = taken a.schema a.engine a.plan.entries }

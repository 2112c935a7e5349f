use Rattle.std.proofs.Common.{map}
use Rattle.migrator.proofs.RoundBegun.{first_of}
use Rattle.migrator.proofs.run.pack_begun.Given as goal

-- the begin that was just made, and what it shows
abbrev pub ghosts-pack_all : goal.ghosts-pack_all
ghosts-pack_all g a = record { begin = first_of (map (λ r. (r.number, r.entry)) a.receipts.items); shown = a.view.now }

use Rattle.std.proofs.Common.{◌≡◌, drop}
use Rattle.statement.specs.List.{more_at, list_at}
use Rattle.statement.proofs.list.list_at.Given as goal

abbrev pub invariant-loop-turn : goal.invariant-loop-turn
invariant-loop-turn g l = more_at (g.I.Item.separator l.items) (g.I.Item.item l.items) (drop l._turn-index l.after) l.list.items l.rest ≡ list_at (g.I.Item.separator l.items) (g.I.Item.item l.items) l.bytes

use Rattle.values.proofs.RowWidened.{IsWidened}
use Rattle.values.proofs.row.Row.widen.Given as goal

abbrev pub invariant-loop : goal.invariant-loop
invariant-loop l = IsWidened l.fn.self l.width l.counter l.values.items

use Rattle.sessions.proofs.StoreBeginning.{clock, holds, most_is, tables}
use Rattle.sessions.proofs.store.LockedStore.new.Goals as goal

pub over-requires-clause-tables : goal.over-requires-clause-tables
over-requires-clause-tables g c = λ κs h. tables g.J.StoreName.origin c.args.schema c.args.most_entries c.in_ok-engine.engine c.requires.origin c.in_ok-engine.ensures.ok

pub over-requires-clause-holds : goal.over-requires-clause-holds
over-requires-clause-holds g c = λ κs h. holds g.J.StoreName.origin c.args.schema c.args.most_entries c.in_ok-engine.engine c.requires.origin c.in_ok-engine.ensures.ok

pub over-requires-clause-clock : goal.over-requires-clause-clock
over-requires-clause-clock g c = λ κs h. clock g.J.StoreName.origin c.args.schema c.args.most_entries c.in_ok-engine.engine c.requires.origin c.in_ok-engine.ensures.ok

pub over-requires-clause-most : goal.over-requires-clause-most
over-requires-clause-most g c = λ κs h. most_is g.J.StoreName.origin c.args.schema c.args.most_entries c.in_ok-engine.engine c.requires.origin c.in_ok-engine.ensures.ok

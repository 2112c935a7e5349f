use Rattle.std.proofs.Common.{◌≡◌, Some, None, length, sym, ◌∙◌, rules}
use Rattle.values.proofs.RowReads.{same_taken}
use Rattle.blocks.specs.Event.{event_fields}
use Rattle.blocks.specs.Lookup.{events_place}
use Rattle.blocks.proofs.LookupFinds.{count_of_block}
use Rattle.blocks.proofs.lookup.event_count.Goals as goal

pub returns-in-None : goal.returns-in-None
returns-in-None c n b =
    let none : events_place c.args.bytes.now ≡ None = search rules in
    let never = sym none ∙ count_of_block c.args.bytes.now n b in
    cc

pub returns-in-Some : goal.returns-in-Some
returns-in-Some c n b =
    let found : events_place c.args.bytes.now ≡ Some (c.in-Some.n, c.in-Some._events.now) = search rules in
    (same_taken c.in-Some.n (length n.events) c.in-Some._events.now (event_fields n.events) (sym found ∙ count_of_block c.args.bytes.now n b)).0

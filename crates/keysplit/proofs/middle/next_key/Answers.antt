use Rattle.std.proofs.Common.{sym, ◌∙◌}
use Rattle.keysplit.proofs.MiddleKeys.{next_at}
use Rattle.keysplit.proofs.middle.next_key.Goals as goal

pub returns : goal.returns
returns c = c.key_at.ensures ∙ sym (next_at c.args.key.now c.args.events.now c.place_behind_key.result c.place_behind_key.ensures.bound c.place_behind_key.ensures.first)

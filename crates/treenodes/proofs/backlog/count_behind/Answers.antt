use Rattle.std.proofs.Common.{length, refl, ap, option_copied}
use Rattle.treenodes.proofs.BacklogFirst.{behind_all, behind_one}
use Rattle.treenodes.proofs.backlog.count_behind.Goals as goal

pub returns-in-None : goal.returns-in-None
returns-in-None c = behind_all c.args.slots.now c.args.numbers.now c.requires (option_copied c.args.after) (length c.args.numbers.now) (ap option_copied c.in-None.is) refl

pub returns-in-Some : goal.returns-in-Some
returns-in-Some c =
    behind_one c.args.slots.now c.args.numbers.now c.requires (option_copied c.args.after) c.in-Some.rect.now c.count_after.result c.len.result (ap option_copied c.in-Some.is) c.len.ensures c.count_after.ensures.bound c.count_after.ensures.parted

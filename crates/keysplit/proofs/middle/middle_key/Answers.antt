use Rattle.std.proofs.Common.{option_copied}
use Rattle.keysplit.proofs.MiddleKeys.{is_none_of, is_inside_of, is_both_of}
use Rattle.keysplit.proofs.middle.middle_key.Goals as goal

pub returns-clause-none : goal.returns-clause-none
returns-clause-none c = is_none_of c.args.node.now.rect c.args.node.now.events c.events.result.now (option_copied c.middle_of.result) c.events.ensures.node c.requires c.middle_of.ensures c.events.ensures.are

pub returns-clause-inside : goal.returns-clause-inside
returns-clause-inside c = is_inside_of c.args.node.now.rect c.args.node.now.events c.events.result.now (option_copied c.middle_of.result) c.events.ensures.node c.requires c.middle_of.ensures c.events.ensures.are

pub returns-clause-both : goal.returns-clause-both
returns-clause-both c = is_both_of c.args.node.now.rect c.args.node.now.events c.events.result.now (option_copied c.middle_of.result) c.events.ensures.node c.requires c.middle_of.ensures c.events.ensures.are

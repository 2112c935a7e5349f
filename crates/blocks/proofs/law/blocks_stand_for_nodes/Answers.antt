use Rattle.std.proofs.Common.{refl}
use Rattle.blocks.proofs.BlockReads.{one_node, one_block, both_forms, only_greatest}
use Rattle.blocks.proofs.law.blocks_stand_for_nodes.Goals as goal

pub returns-clause-node : goal.returns-clause-node
returns-clause-node c = one_node

pub returns-clause-block : goal.returns-clause-block
returns-clause-block c = one_block

pub returns-clause-forms : goal.returns-clause-forms
returns-clause-forms c = both_forms

pub returns-clause-greatest : goal.returns-clause-greatest
returns-clause-greatest c = only_greatest

pub returns-clause-worked : goal.returns-clause-worked
returns-clause-worked c = record { is = refl; of_form_1 = refl }

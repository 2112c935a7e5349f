use Rattle.tree_tests.proofs.treenodes_tests.three_parts.Goals as goal

pub with_keys_split-requires-clause-can : goal.with_keys_split-requires-clause-can
with_keys_split-requires-clause-can g c = c.can_split_key.ensures.0 c.if-can_split_key.true

use Rattle.tree_tests.proofs.tree.time_split.Goals as goal

pub with_time_split-requires-clause-can : goal.with_time_split-requires-clause-can
with_time_split-requires-clause-can g c = c.can_split_time.ensures.0 c.if-can_split_time.true

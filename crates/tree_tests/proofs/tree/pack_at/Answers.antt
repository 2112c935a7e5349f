use Rattle.tree_tests.proofs.tree.pack_at.Goals as goal

pub returns : goal.returns
returns g c = c.in-Ok.ensures.tree c.requires

use Rattle.tree_tests.proofs.indexnode_tests.two_references.Goals as goal

pub returns-clause-inside : goal.returns-clause-inside
returns-clause-inside g c = (c.in-Ok.ensures.halves c.args.area.now c.requires).1

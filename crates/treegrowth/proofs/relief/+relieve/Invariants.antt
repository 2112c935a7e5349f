use Rattle.treegrowth.proofs.relief.+relieve.Given as goal

abbrev pub decreases-relieve : goal.decreases-relieve
decreases-relieve l = l.depth

use Rattle.treenodes.specs.Map.{changes}
use Rattle.treenodes.proofs.LeafCopyPast.{same_node}
use Rattle.treenodes.proofs.leaf_copy.LeafCopy.fits.Goals as goal

pub returns : goal.returns
returns c = λ t. same_node c.args.nodes.now (changes c.args.nodes.now) c.args.instant c.args.self.now c.requires.holds c.requires.past (c.is_like.ensures t)

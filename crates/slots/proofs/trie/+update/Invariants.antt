use Rattle.std.proofs.Common.{◌*◌, ◌+◌}
use Rattle.slots.proofs.trie.+update.Given as goal

abbrev pub decreases-Node::update : goal.decreases-Node::update
decreases-Node::update g l = 2 * l.self.now.each

abbrev pub decreases-Trie::update : goal.decreases-Trie::update
decreases-Trie::update g l = 2 * l.self.now.0 + 1

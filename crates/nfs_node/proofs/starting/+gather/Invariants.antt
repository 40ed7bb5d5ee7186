use Rattle.node_rules.specs.Stock.{parts}
use Rattle.nfs_node.proofs.starting.+gather.Given as goal

-- with each move the cache has one part less
abbrev pub decreases-gather : goal.decreases-gather
decreases-gather g l = parts l.cache.now

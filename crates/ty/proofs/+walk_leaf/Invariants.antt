-- `walk_leaf` calls itself at a depth one less.
use Rattle.ty.proofs.+walk_leaf.Given as goal

abbrev pub decreases-walk_leaf : goal.decreases-walk_leaf
decreases-walk_leaf l = l.depth

-- `merging::sort`, which calls itself: each half has fewer places. Assumes nothing.
use lib.ListN.{length}
use Rattle.distinct.proofs.merging.+sort.Given as goal

abbrev pub decreases-sort : goal.decreases-sort
decreases-sort l = length l.places.now

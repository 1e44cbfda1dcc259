use Rattle.walk.specs.Inside.{walked_half}
use Rattle.walk.proofs.clocks.Goals as goal

pub returns-then-is_set : goal.returns-then-is_set
unfolding walked_half
returns-then-is_set c = rw (c.clock_rises.ensures, ← c.is_set.ensures, c.if-is_set.true)

pub returns : goal.returns
unfolding walked_half
returns c = rw (c.goes_on.ensures, ← c.is_set.ensures, c.if-is_set.false)

use Rattle.memory.proofs.Filled.{nothing_filled, then_filled}
use Rattle.rules.specs.Maker.{walk}
use Rattle.act_parts.proofs.Lists.{walk_more}
use Rattle.act_parts.proofs.put_walk.Goals as goal

pub loop-init : goal.loop-init
unfolding walk
loop-init c = nothing_filled _

pub loop-preserved : goal.loop-preserved
loop-preserved c =
    rw (walk_more c.args.fus c.loop.counter) (then_filled c.loop.invariant (rw c.pulse-pulse.ensures at c.put.ensures))

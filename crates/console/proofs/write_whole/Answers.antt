use Rattle.console.proofs.Known.{left_over}
use Rattle.console.proofs.write_whole.Goals as goal

pub loop-rest-preserved : goal.loop-rest-preserved
loop-rest-preserved g c =
    left_over _ _ _ _ _ _ c.loop-rest.invariant.0 c.loop-rest.invariant.1 c.loop-rest.invariant.2 c.in-Ok.ensures.bound c.in-Ok.ensures.bytes

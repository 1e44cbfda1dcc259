use Rattle.memory.proofs.Filled.{then_filled}
use Rattle.act_parts.proofs.put_try.Goals as goal

pub returns : goal.returns
returns c =
    let write = rw c.program.ensures at c.put.ensures in
    then_filled c.put_walk.ensures (then_filled write (rw c.program-2.ensures at c.put-2.ensures))

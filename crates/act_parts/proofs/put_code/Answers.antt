use Rattle.memory.proofs.Filled.{then_filled}
use Rattle.act_parts.proofs.put_code.Goals as goal

pub returns : goal.returns
returns c =
    let up = rw c.reset.ensures at c.put.ensures in
    then_filled up (then_filled c.put_walk.ensures c.put_show.ensures)

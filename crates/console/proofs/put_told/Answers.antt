use Rattle.memory.proofs.Filled.{then_filled}
use Rattle.console.specs.Told.{told_line}
use Rattle.console.proofs.put_told.Goals as goal

pub returns : goal.returns
unfolding told_line
returns c =
    then_filled c.put.ensures
    (then_filled c.put-2.ensures (then_filled c.put-3.ensures (then_filled c.put-4.ensures c.put-5.ensures)))

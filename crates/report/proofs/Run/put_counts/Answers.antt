use Rattle.memory.proofs.Filled.{then_filled}
use Rattle.report.proofs.Run.put_counts.Goals as goal

pub returns : goal.returns
returns c = then_filled c.put_number.ensures (then_filled c.put_line.ensures c.put_line-2.ensures)

use Rattle.memory.proofs.Filled.{then_filled}
use Rattle.report.specs.Lines.{line}
use Rattle.report.proofs.put_line.Goals as goal

pub returns : goal.returns
unfolding line
returns c = then_filled c.put_number.ensures c.put.ensures

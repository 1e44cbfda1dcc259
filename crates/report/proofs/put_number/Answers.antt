use Rattle.memory.proofs.Filled.{then_filled}
use Rattle.report.specs.Lines.{numbered}
use Rattle.report.proofs.put_number.Goals as goal

pub returns : goal.returns
unfolding numbered
returns c = then_filled c.put.ensures c.put_decimal.ensures

use native.Mathlib.Omega.{arith}
use Rattle.std.proofs.Common.{rules}
use Rattle.report.proofs.Laws.{filled, too_small}
use Rattle.report.proofs.Run.four_lines.Goals as goal

pub returns-then-out-all : goal.returns-then-out-all
returns-then-out-all c = too_small (omega arith)

pub returns : goal.returns
returns c =
    let to = c.of.ensures in
    filled c.length-all.ensures c.if-out-all.false to.bytes to.start c.put.ensures (search rules)

use native.Mathlib.Omega.{arith}
use Rattle.std.proofs.Common.{rules}
use Rattle.report.specs.Lines.{bad_text}
use Rattle.report.proofs.Laws.{filled, too_small}
use Rattle.report.proofs.Lengths.{length_bad}
use Rattle.report.proofs.bad.Goals as goal

pub returns-then-out-total : goal.returns-then-out-total
returns-then-out-total c = too_small (omega (arith, length_bad c.args.refusal))

pub returns : goal.returns
unfolding bad_text
returns c =
    let refusal = c.args.refusal in
    let to = c.of.ensures in
    filled (omega (arith, length_bad refusal)) c.if-out-total.false to.bytes to.start c.put_line.ensures (search rules)

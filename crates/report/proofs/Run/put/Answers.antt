use mathlib.Core.List.{append_assoc}
use Rattle.memory.proofs.Filled.{then_filled}
use Rattle.report.specs.Lines.{four_lines}
use Rattle.report.proofs.Run.put.Goals as goal

-- The words before the answers and the rest, grouped as in the definition.
pub returns : goal.returns
unfolding four_lines
returns c =
    let answers = rw c.told_answers.ensures at c.put_answers.ensures in
    let all = then_filled c.put_counts.ensures (then_filled answers c.put_line.ensures) in
    simp append_assoc at all

use Rattle.std.proofs.Common.{arith, length-take}
use Rattle.report.proofs.Lengths.{length_lines}
use Rattle.report.proofs.Run.length.Goals as goal

pub returns : goal.returns
returns c =
    let run = c.args.self.now in
    rw c.told_answers.ensures
    (omega (arith, length-take run.done run.answers.now, length_lines run.done run.given run.refusal run.answers.now run.left))

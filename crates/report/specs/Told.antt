-- The four lines of a run as the code has it.
use Rattle.std.specs.Prelude.{ℕ, List}
use Rattle.report.specs.declared.Run.{Run}
use Rattle.report.specs.Lines.{four_lines}

abbrev pub lines_of : Run → List ℕ
lines_of run = four_lines run.done run.given run.refusal run.answers.now run.left

use Rattle.std.proofs.Common.{length}
use Rattle.text.specs.Held.{sheet_of}
use Rattle.text.proofs.LineByLine.{Underway}
use Rattle.text.proofs.reading.read.Given as goal

abbrev pub invariant-loop-k : goal.invariant-loop-k
invariant-loop-k l = Underway l.text (sheet_of l.sheet) (length l.yielded)

use Rattle.words.proofs.Digits.{Underway}
use Rattle.words.proofs.numeral_from.Given as goal

abbrev pub invariant-loop-b : goal.invariant-loop-b
invariant-loop-b l = Underway l.base l.w l.value l.b-index

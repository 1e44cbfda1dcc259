use Rattle.std.proofs.Common.{map, drop}
use Rattle.memory.proofs.Filled.{Underway}
use Rattle.decimal.specs.Decimal.{digit}
use Rattle.report.proofs.put_answers.Given as goal

abbrev pub invariant-loop-a : goal.invariant-loop-a
invariant-loop-a l =
    let all = map digit l.answers in
    Underway l.initial.to all (drop l.a-index all) l.to

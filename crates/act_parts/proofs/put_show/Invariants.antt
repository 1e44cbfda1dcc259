use Rattle.memory.proofs.Filled.{Underway}
use Rattle.rules.specs.Maker.{show}
use Rattle.act_parts.proofs.put_show.Given as goal

abbrev pub invariant-loop-k : goal.invariant-loop-k
invariant-loop-k l = Underway l.initial.to (show l.fus l.width l.x) (show l.fus l.k l.x) l.to

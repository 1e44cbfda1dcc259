use Rattle.memory.specs.Filled.{Filled}
use Rattle.rules.specs.Maker.{walk}
use Rattle.act_parts.proofs.put_walk.Given as goal

abbrev pub invariant-loop : goal.invariant-loop
invariant-loop l = Filled l.initial.to (walk l.fus l.counter) l.to

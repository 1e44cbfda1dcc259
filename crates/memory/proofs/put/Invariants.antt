use lib.ListN.{take}
use Rattle.memory.specs.Buffer.{Put}
use Rattle.memory.proofs.put.Given as goal

abbrev pub invariant-loop-b : goal.invariant-loop-b
invariant-loop-b l = Put l.initial.out l.at (take l.b-index l.bytes) l.next l.out

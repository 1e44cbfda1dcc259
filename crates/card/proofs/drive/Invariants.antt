use Rattle.volatile.specs.Packed.{given}
use Rattle.card.proofs.Loop.{Going}
use Rattle.card.proofs.drive.Given as goal

abbrev pub invariant-loop-i : goal.invariant-loop-i
invariant-loop-i l =
    Going (given l.initial.image l.initial.f l.initial.s) l.steps l.initial.answers (given l.image l.f l.s) l.answers l.p l.i

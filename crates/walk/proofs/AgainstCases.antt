-- The cases of a walk, computed from the definitions. Assumes nothing.
use mathlib.Core.Path.{refl}
use Rattle.rules.specs.Computing.{the_card}
use Rattle.rules.specs.CaseForms.{sample}
use Rattle.volatile.specs.Packed.{packed, unpacked}
use Rattle.walk.specs.Calls.{walk_of}
use Rattle.walk.specs.Cases.{Walks}

pub walks : Walks
unfolding the_card sample walk_of packed unpacked
walks = (refl, refl, refl, refl, refl, refl, refl, refl, refl, refl)

-- 01's cases of the acts' parts, computed from the definitions. Assumes nothing.
use mathlib.Core.Path.{refl}
use Rattle.memory.specs.Image.{digit}
use Rattle.rules.specs.Maker.{reset, walk, show, program}
use Rattle.act_parts.specs.Parts.{pulse, shown_bit}
use Rattle.act_parts.specs.Cases.{PartsMade}

pub parts_made : PartsMade
unfolding digit reset walk show program pulse shown_bit
parts_made = (refl, refl, refl, refl, refl, refl, refl, refl, refl, refl)

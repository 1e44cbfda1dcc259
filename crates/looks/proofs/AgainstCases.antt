-- The cases of both calls, computed from the definitions. Assumes nothing.
use mathlib.Core.Path.{refl}
use Rattle.rules.specs.CaseForms.{sample}
use Rattle.rules.specs.Computing.{the_card}
use Rattle.rules.specs.Numbers.{refused}
use Rattle.looks.specs.Flags.{flags_of, flags_held}
use Rattle.looks.specs.Reasons.{reason_answer, reason_told}
use Rattle.looks.specs.Cases.{FlagsTold, ReasonsTold}

pub flags_told : FlagsTold
unfolding the_card flags_of refused flags_held
flags_told = (refl, refl, refl)

pub reasons_told : ReasonsTold
unfolding the_card sample reason_answer refused reason_told
reasons_told = (refl, refl, refl, refl, refl)

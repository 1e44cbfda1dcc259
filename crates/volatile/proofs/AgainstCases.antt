-- The cases of the packed half, computed from the definitions. Assumes nothing.
use mathlib.Core.Path.{refl}
use Rattle.rules.specs.Computing.{the_card}
use Rattle.rules.specs.CaseForms.{state, card_at, ones, sample}
use Rattle.volatile.specs.Packed.{unpacked, packed, made_up_word, plainly_sound}
use Rattle.volatile.specs.Packed.{programmed_half, compared_here, gone_on, arrival_flags, opening_flags}
use Rattle.volatile.specs.Cases.{FlagsApart, MadeUp, PlainlySoundRows, Programmed, Moved, Operates}

pub flags_apart : FlagsApart
unfolding the_card card_at unpacked packed
flags_apart = (refl, refl, refl, refl, refl)

pub made_up : MadeUp
unfolding the_card made_up_word
made_up = (refl, refl, refl, refl, refl)

pub plainly_sound_lem : PlainlySoundRows
unfolding plainly_sound
plainly_sound_lem = (refl, refl, refl, refl, refl, refl, refl)

pub programmed : Programmed
unfolding state programmed_half opening_flags
programmed = (refl, refl, refl, refl, refl, refl, refl, refl, refl, refl)

pub moved : Moved
unfolding the_card state ones sample compared_here gone_on arrival_flags
moved = (refl, refl, refl, refl, refl, refl, refl)

pub operates : Operates
unfolding the_card state
operates = (refl, refl, refl, refl, refl, refl, refl, refl)

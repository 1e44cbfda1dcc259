-- The cases of the exported calls, computed from the definitions. Assumes nothing.
use mathlib.Core.Path.{refl}
use Rattle.rules.specs.Maker.{reset, walk, walk_refusal}
use Rattle.rules.specs.CaseForms.{sample, card_file, session}
use Rattle.rules.specs.Computing.{the_card}
use Rattle.looks.specs.Flags.{flags_of}
use Rattle.looks.specs.Reasons.{reason_answer}
use Rattle.maker.specs.Act.{made, in_buffer}
use Rattle.rules.specs.Numbers.{refused}
use Rattle.file.specs.Opening.{card_answer, session_answer, in_memory, handed_steps}
use Rattle.exports.specs.Rendered.{of_step, flag_bytes, reason_bytes, made_of, card_file_of, session_of}
use Rattle.exports.specs.Cases.{StepsTold, FlagsTold, ReasonsTold, VersionTold, ActsTold, FilesTold}

pub steps_told : StepsTold
unfolding of_step
steps_told = (refl, refl, refl)

pub flags_told : FlagsTold
unfolding the_card flags_of flag_bytes
flags_told = refl

pub reasons_told : ReasonsTold
unfolding the_card sample reason_answer reason_bytes
reasons_told = (refl, refl, refl, refl)

pub version_told : VersionTold
version_told = refl

pub acts_told : ActsTold
unfolding reset walk walk_refusal made in_buffer made_of
acts_told = (
  record { answer = refl; bytes = refl },
  record { answer = refl; bytes = refl },
  record { answer = refl; bytes = refl },
  refl,
)

pub files_told : FilesTold
unfolding sample card_file session refused card_answer session_answer in_memory handed_steps card_file_of session_of
files_told = (
  record { answer = refl; bytes = refl },
  record { answer = refl; bytes = refl },
  record { answer = refl; bytes = refl },
  record { answer = refl; bytes = refl; section = refl },
  record { answer = refl; bytes = refl; section = refl },
  record { answer = refl; bytes = refl; section = refl },
)

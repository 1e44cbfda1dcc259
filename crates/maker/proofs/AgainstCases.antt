-- 01's cases of the step maker, computed from the definitions. Assumes nothing.
use mathlib.Core.Path.{refl}
use Rattle.memory.specs.Image.{digit}
use Rattle.rules.specs.Maker.{reset, walk, program, blow, open_card, walk_refusal, open_refusal}
use Rattle.maker.specs.Act.{refusal_in, count_of, made, in_buffer}
use Rattle.maker.specs.Cases.{ActsMake, AnswersTold}

pub acts_make : ActsMake
unfolding digit reset walk program blow open_card walk_refusal open_refusal made in_buffer
acts_make = (
  record { answer = refl; bytes = refl },
  record { answer = refl; bytes = refl },
  record { answer = refl; bytes = refl },
  record { answer = refl; bytes = refl },
  record { answer = refl; bytes = refl },
  record { answer = refl; bytes = refl },
  record { answer = refl; bytes = refl },
  record { answer = refl; bytes = refl },
  record { answer = refl; bytes = refl },
  record { answer = refl; bytes = refl },
  record { answer = refl; bytes = refl },
  record { answer = refl; bytes = refl },
  record { answer = refl; bytes = refl },
)

pub answers_told : AnswersTold
unfolding refusal_in count_of
answers_told = (refl, refl, refl, refl, refl)

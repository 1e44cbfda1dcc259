-- 01's cases of the openers, computed from the definitions. Assumes nothing.
use mathlib.Core.Path.{refl}
use Rattle.rules.specs.CaseForms.{sample, session as session_bytes}
use Rattle.rules.specs.Numbers.{refused}
use Rattle.file.specs.Opening.{card_fuses, session_fuses, session_steps}
use Rattle.file.specs.Opening.{card_answer, session_answer, in_memory, handed_steps, handed_from}
use Rattle.file.specs.Cases.{buffer, card_with, session_with, lying_at, CardsOpen, SessionsOpen, AnswersTold}

pub cards_open : CardsOpen
unfolding buffer card_with sample refused card_answer in_memory
cards_open = (
  record { bytes = refl; answer = refl },
  record { bytes = refl; answer = refl },
  record { bytes = refl; answer = refl },
  record { bytes = refl; answer = refl },
  record { bytes = refl; answer = refl },
  record { bytes = refl; answer = refl },
  record { bytes = refl; answer = refl },
)

pub sessions_open : SessionsOpen
unfolding buffer card_with session_with session_bytes sample lying_at refused session_answer in_memory handed_steps handed_from
sessions_open = (
  (record { bytes = refl; answer = refl }, record { bytes = refl; block = refl; offset = refl }),
  (record { bytes = refl; answer = refl }, record { bytes = refl; block = refl; offset = refl }),
  (record { bytes = refl; answer = refl }, record { bytes = refl; block = refl; offset = refl }),
  (record { bytes = refl; answer = refl }, record { bytes = refl; block = refl; offset = refl }),
  (record { bytes = refl; answer = refl }, record { bytes = refl; block = refl; offset = refl }),
  (record { bytes = refl; answer = refl }, record { bytes = refl; block = refl; offset = refl }),
  (record { bytes = refl; answer = refl }, record { bytes = refl; block = refl; offset = refl }),
  (record { bytes = refl; answer = refl }, record { bytes = refl; block = refl; offset = refl }),
  (record { bytes = refl; answer = refl }, record { bytes = refl; block = refl; offset = refl }),
  (record { bytes = refl; answer = refl }, record { bytes = refl; block = refl; offset = refl }),
)

pub answers_told : AnswersTold
unfolding refused card_fuses session_fuses session_steps
answers_told = (refl, refl, refl, refl, refl, refl, refl, refl, refl, refl, refl, refl)

-- 01's cases of the card's calls, computed from the definitions. Assumes nothing.
use mathlib.Core.Path.{refl}
use Rattle.rules.specs.Card.{refusal_in, pin_in}
use Rattle.rules.specs.Computing.{the_card}
use Rattle.rules.specs.CaseForms.{sample}
use Rattle.card.specs.Calls.{step_leaves, step_answer, run_leaves, run_answers, run_refused}
use Rattle.card.specs.Cases.{StepsAnswer, StepsTold, RunsAnswer}

pub steps_answer : StepsAnswer
unfolding the_card sample step_leaves step_answer
steps_answer = (
  record { card = refl; answer = refl },
  record { card = refl; answer = refl },
  record { card = refl; answer = refl },
  record { card = refl; answer = refl },
  record { card = refl; answer = refl },
  record { card = refl; answer = refl },
  record { card = refl; answer = refl },
  record { card = refl; answer = refl },
  record { card = refl; answer = refl },
  record { card = refl; answer = refl },
  record { card = refl; answer = refl },
  record { card = refl; answer = refl },
  record { card = refl; answer = refl },
  record { card = refl; answer = refl },
)

pub steps_told : StepsTold
unfolding the_card sample step_leaves step_answer refusal_in pin_in
steps_told = (
  record { card = refl; pin = refl; refusal = refl },
  record { card = refl; pin = refl; refusal = refl },
  record { card = refl; pin = refl; refusal = refl },
  record { card = refl; pin = refl; refusal = refl },
)

pub runs_answer : RunsAnswer
unfolding the_card sample run_leaves run_answers run_refused
runs_answer = (
  record { card = refl; done = refl; refusal = refl; pins = refl },
  record { card = refl; done = refl; refusal = refl; pins = refl },
  record { card = refl; done = refl; refusal = refl; pins = refl },
  record { card = refl; done = refl; refusal = refl; pins = refl },
  record { card = refl; done = refl; refusal = refl; pins = refl },
  record { card = refl; done = refl; refusal = refl; pins = refl },
  record { card = refl; done = refl; refusal = refl; pins = refl },
  record { card = refl; done = refl; refusal = refl; pins = refl },
  record { card = refl; done = refl; refusal = refl; pins = refl },
  record { card = refl; done = refl; refusal = refl; pins = refl },
  record { card = refl; done = refl; refusal = refl; pins = refl },
  record { card = refl; done = refl; refusal = refl; pins = refl },
)

-- 01's cases of the session program's text, computed from the definitions. Assumes nothing.
use mathlib.Core.Path.{refl}
use native.Mathlib.Omega.{arith}
use Rattle.rules.specs.Computing.{the_card}
use Rattle.rules.specs.CaseForms.{card_at, sample}
use Rattle.report.specs.Buffer.{told, held, Enough}
use Rattle.report.specs.Cases.{the_text, NumbersPrint, TextsPrint, TextsFit}

pub numbers_print : NumbersPrint
unfolding the_text
numbers_print = refl

pub texts_print : TextsPrint
unfolding the_card the_text card_at sample
texts_print = (refl, refl, refl, refl, refl, refl, refl)

pub texts_fit : TextsFit
unfolding the_text told held Enough
texts_fit = (
  record { answered = refl; lent = refl },
  record { answered = refl; lent = refl },
  record { answered = refl; lent = refl },
  record { answered = refl; lent = refl },
  record { answered = refl; lent = refl },
  record { place = refl; stored = refl },
  record { place = refl; stored = refl },
  record { place = refl; stored = refl },
  λ enough. enough (omega arith) refl,
  λ room. absurd (omega arith),
)

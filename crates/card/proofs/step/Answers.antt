use mathlib.Core.Path.{sym}
use Rattle.rules.specs.Numbers.{numbered, number_in}
use Rattle.card.proofs.Answers.{step_barred}
use Rattle.card.proofs.WithoutLoop.{quick_told}
use Rattle.card.proofs.step.Goals as goal

pub returns-in-Err : goal.returns-in-Err
unfolding numbered number_in
returns-in-Err c = step_barred _ _ _ c.in-Err.ensures

pub returns-in-Some : goal.returns-in-Some
unfolding numbered number_in
returns-in-Some c = rw c.pin.ensures (quick_told _ _ _ (sym c.in_default.ensures) c.in-Some.ensures)

use Rattle.rules.specs.Numbers.{numbered, number_if_any}
use Rattle.card.proofs.Answers.{fits, step_of_run, step_of_barred_run}
use Rattle.card.proofs.step_by_run.Goals as goal

pub drive-ran-requires : goal.drive-ran-requires
drive-ran-requires c = fits _ c.args.n c.requires

pub returns-in-None : goal.returns-in-None
unfolding numbered number_if_any
returns-in-None c = step_of_run _ _ c.requires (rw c.in-None.is at c.drive-ran.ensures)

pub returns-in-Some : goal.returns-in-Some
unfolding numbered number_if_any
returns-in-Some c = step_of_barred_run _ _ c.requires _ (rw c.in-Some.is at c.drive-ran.ensures)

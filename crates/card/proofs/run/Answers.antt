use Rattle.rules.specs.Numbers.{number_in, number_if_any}
use Rattle.card.proofs.Answers.{run_barred}
use Rattle.card.proofs.run.Goals as goal

pub returns-in-Err : goal.returns-in-Err
unfolding number_in number_if_any
returns-in-Err c = run_barred _ _ _ _ c.in-Err.ensures

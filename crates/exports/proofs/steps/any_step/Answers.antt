use Rattle.exports.proofs.Walked.{step_told}
use Rattle.exports.specs.Rendered.{of_step}
use Rattle.exports.proofs.steps.any_step.Goals as goal

pub returns : goal.returns
unfolding of_step
returns c = rw c.into.ensures (step_told _ c.step.ensures)

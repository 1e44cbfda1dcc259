use native.Mathlib.Omega.{arith}
use Rattle.exports.proofs.Walked.{walk_told}
use Rattle.exports.proofs.steps.step.Goals as goal

pub returns-in-Some : goal.returns-in-Some
returns-in-Some c =
    rw c.of_walk.ensures
    (walk_told _ _ (omega (arith, c.ranges)) c.in-Some.ensures)

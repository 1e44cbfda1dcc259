-- A walk's half and pin are the step's, and a step's numbers are its answer's.
use Prim.Native.Nat.{ℕ, ◌<◌}
use mathlib.Core.Path.{◌≡◌}
use Rattle.std.specs.Prelude.{Some, Result, Ok, Err}
use Rattle.rules.specs.declared.Refusal.{Refusal}
use Rattle.rules.specs.Numbers.{numbered, number_in}
use Rattle.rules.specs.Card.{refusal_in, pin_in}
use Rattle.volatile.specs.Packed.{Given, with_half}
use Rattle.walk.specs.declared.Walked.{Walked}
use Rattle.walk.specs.Calls.{walk_of}
use Rattle.walk.proofs.AtOnce.{walk_steps}
use Rattle.card.specs.Calls.{StepAnswered, StepTold}
use Rattle.card.proofs.Answers.{step_done, told_as}

pub walk_told :
    (g : Given) (n : ℕ) {w : Walked} → n < 256 → Some w ≡ walk_of g n → StepTold g n (with_half g w.volatile) w.pin 0
unfolding refusal_in pin_in
walk_told g n byte is = let did = walk_steps g n byte is in told_as (step_done g n did.0 did.1)

pub step_told :
    {g left : Given} {n : ℕ} (x : Result ℕ Refusal) → StepAnswered g n left (numbered x) →
    StepTold g n left (pin_in (numbered x)) (number_in x)
unfolding numbered number_in refusal_in
step_told (Ok p) told = told_as told
step_told (Err r) told = told_as told

-- 01's cases of the refusals before any step, computed from the definitions. Assumes nothing.
use mathlib.Core.Path.{refl}
use Rattle.rules.specs.Computing.{the_card}
use Rattle.rules.specs.CaseForms.{sample}
use Rattle.refusals.specs.Before.{given_refusal, given_run_refusal}
use Rattle.refusals.specs.Cases.{BeforeAStep, BeforeARun}

pub before_a_step : BeforeAStep
unfolding the_card sample given_refusal
before_a_step = (refl, refl, refl, refl, refl, refl)

pub before_a_run : BeforeARun
unfolding the_card sample given_run_refusal
before_a_run = (refl, refl, refl, refl, refl, refl, refl, refl)

use native.Mathlib.Omega.{arith}
use mathlib.Core.Path.{refl}
use Rattle.rules.specs.Numbers.{number_if_any}
use Rattle.rules.specs.Steps.{pin}
use Rattle.rules.proofs.Numbers.{some_number}
use Rattle.volatile.specs.Packed.{unpacked}
use Rattle.card.proofs.Loop.{starts, ends, stops, again}
use Rattle.card.proofs.drive.Goals as goal

pub loop-i-init : goal.loop-i-init
unfolding pin unpacked
loop-i-init c = starts _ _ _ _ c.requires c.pin-p.ensures

pub step-requires : goal.step-requires
step-requires c = c.loop-i.invariant.ready

pub returns-in-Err : goal.returns-in-Err
unfolding number_if_any
returns-in-Err c = stops c.loop-i.invariant c.loop-i-test.true c.in-Err.ensures (some_number _)

pub bounds-answers-i : goal.bounds-answers-i
bounds-answers-i c =
    let inv = c.loop-i.invariant in
    omega (arith, c.loop-i-test.true, inv.room, inv.sized)

pub loop-i-preserved : goal.loop-i-preserved
loop-i-preserved c = again c.loop-i.invariant c.loop-i-test.true c.in-Ok.ensures refl

pub returns : goal.returns
unfolding number_if_any
returns c = ends c.loop-i.invariant c.loop-i-test.false

use mathlib.Core.Path.{sym, ◌∙◌}
use borrow.Author.Tests.{eqb-true}
use Rattle.edge_laws.proofs.LineMasks.{both}
use Rattle.rules.specs.Lines.{VCC, place, mask}
use Rattle.volatile.specs.Packed.{unpacked}
use Rattle.edge_laws.proofs.ByLine.{turned, power_cut}
use Rattle.card.proofs.inner_step.step.Goals as goal

pub clock-requires : goal.clock-requires
clock-requires c =
    record { ready = c.requires; programming = sym c.is_set.ensures ∙ c.if-is_set.true; line = c.if-d-eq4.true }

pub clock-requires-then-d-eq4 : goal.clock-requires-then-d-eq4
clock-requires-then-d-eq4 c =
    record { ready = c.requires; idle = sym c.is_set.ensures ∙ c.if-is_set.false; line = c.if-d-eq4.true }

pub returns-then-d-eq4 : goal.returns-then-d-eq4
returns-then-d-eq4 c = rw c.with_fuses.ensures c.clock-then-d-eq4.ensures

pub returns-then-d-is_set : goal.returns-then-d-is_set
unfolding mask place unpacked
returns-then-d-is_set c =
    let ready = c.requires in
    let two = both _ _ c.if-d-is_set.true in
    let programming = sym c.is_set-2.ensures ∙ two.1 in
    rw c.power.ensures (power_cut ready _ (turned ready _ VCC (eqb-true _ 1 two.0)) programming)

pub returns : goal.returns
returns c = rw c.with_fuses-2.ensures c.in_ok-other_than_clock.ensures

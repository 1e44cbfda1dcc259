use Rattle.rules.specs.Lines.{place, mask}
use Rattle.card.specs.Moves.{QuickTo}
use Rattle.card.proofs.WithoutLoop.{fus_quick, rst_rises_quick, rst_falls_quick}
use Rattle.card.proofs.quick.idle.Goals as goal

pub returns-then-d-eq32 : goal.returns-then-d-eq32
unfolding mask place
returns-then-d-eq32 c = rw c.follows.ensures (fus_quick _ _ c.requires c.if-d-eq32.true)

pub returns-then-n-eq1 : goal.returns-then-n-eq1
unfolding mask place
returns-then-n-eq1 c =
    rw c.reset_falls.ensures (rst_falls_quick _ _ c.requires c.if-d-eq2.true c.if-n-eq1.true)

pub returns-then-d-eq2 : goal.returns-then-d-eq2
unfolding mask place
returns-then-d-eq2 c =
    rw c.follows-then-d-eq2.ensures (rst_rises_quick _ _ c.requires c.if-d-eq2.true c.if-n-eq1.false)

pub returns : goal.returns
unfolding QuickTo
returns c = tt

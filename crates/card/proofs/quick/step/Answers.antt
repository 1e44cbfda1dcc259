use borrow.Author.Tests.{eqb-true, eqb-false}
use Rattle.edge_laws.proofs.LineMasks.{high_low}
use Rattle.rules.specs.Lines.{IO, place, mask}
use Rattle.card.specs.Moves.{QuickTo}
use Rattle.edge_laws.proofs.ByLine.{io_goes}
use Rattle.card.proofs.WithoutLoop.{quick_by, pgm_quick}
use Rattle.card.proofs.quick.step.Goals as goal

pub returns-then-d-eq16 : goal.returns-then-d-eq16
unfolding mask place
returns-then-d-eq16 c =
    rw c.follows.ensures (quick_by _ _ IO _ c.if-d-eq16.true (λ g p ready t. io_goes ready _ t))

pub returns-then-d-n : goal.returns-then-d-n
unfolding mask place
returns-then-d-n c =
    let both = high_low _ _ c.if-d-n.true in
    rw c.follows-then-d-n.ensures (pgm_quick _ _ (eqb-true _ 8 both.0) (eqb-false _ 13 both.1))

pub returns : goal.returns
unfolding QuickTo
returns c = tt

use Rattle.rules.specs.Lines.{IO, place, mask}
use Rattle.edge_laws.proofs.ByLine.{turned, io_goes, io_kept, keeps}
use Rattle.card.proofs.edges.other_than_clock.Goals as goal

pub returns-then-d-eq16 : goal.returns-then-d-eq16
unfolding mask place
returns-then-d-eq16 c =
    let ready = c.requires.ready in
    let t = turned ready _ IO c.if-d-eq16.true in
    rw c.follows.ensures (keeps ready _ (io_goes ready _ t) (io_kept ready _ t))

use Rattle.volatile.proofs.Packing.{unpacked_packed}
use Rattle.card.proofs.HandedOn.{clocks}
use Rattle.card.proofs.edges.clock_counts.Goals as goal

pub returns : goal.returns
returns c =
    rw (
      c.read.ensures,
      c.arrives-next.ensures,
      c.following.ensures,
      c.unlatched.ensures,
      unpacked_packed,
      c.compared-matched.ensures,
      c.level1.ensures,
    )
    (clocks _ _)

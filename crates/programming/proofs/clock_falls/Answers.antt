use Rattle.rules.specs.Halves.{unblown, fuse_place}
use Rattle.programming.specs.Leaves.{done_by}
use Rattle.programming.proofs.Laws.{by_parts}
use Rattle.programming.proofs.clock_falls.Goals as goal

pub returns : goal.returns
unfolding done_by unblown fuse_place
returns c =
    rw (
      c.programmed.ensures,
      c.carry_out-done.ensures.done,
      c.carry_out-done.ensures.memory,
      c.operation.ensures,
      c.is_set-ec_en.ensures,
      c.level1-l1.ensures,
    )
    (by_parts _ _)

use Rattle.memory.proofs.Filled.{put_at_start}
use Rattle.console.proofs.Line.{at_front, told}
use Rattle.console.proofs.tell.Goals as goal

pub returns : goal.returns
returns g c =
    let to = c.of-to.ensures in
    let line = at_front (put_at_start c.put_told.ensures to.bytes to.start) in
    told c.write_whole.result _ _ _ _ (rw (c.so_far.ensures, line) at c.write_whole.ensures)

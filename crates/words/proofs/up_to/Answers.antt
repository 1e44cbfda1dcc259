use mathlib.Core.Path.{sym}
use lib.Seq.{length-take-le}
use Rattle.words.proofs.Scans.{ahead_le}
use Rattle.words.proofs.up_to.Goals as goal

pub slice_bounds-result-end : goal.slice_bounds-result-end
slice_bounds-result-end c = sym (length-take-le _ _ (rw c.ahead-end.ensures (ahead_le _ _)))

use Rattle.std.proofs.Common.{sym, length-take-le}
use Rattle.report.proofs.Laws.{written_within}
use Rattle.replay.proofs.as_recorded.Goals as goal

pub slice_bounds-out-end : goal.slice_bounds-out-end
slice_bounds-out-end c = written_within c.session_text.auto.out c.in-Some.ensures.text

pub slice_bounds-eq-end : goal.slice_bounds-eq-end
slice_bounds-eq-end c = sym (length-take-le _ _ (written_within c.session_text.auto.out c.in-Some.ensures.text))

use Rattle.std.proofs.Common.{sym, length-take-le}
use Rattle.report.proofs.Laws.{written_within}
use Rattle.text.proofs.Fitting.{session_fits}
use Rattle.lessons.proofs.tell.Goals as goal

pub slice_bounds-session-end : goal.slice_bounds-session-end
slice_bounds-session-end c =
    rw c.assemble.auto.out (session_fits _ _ _ c.assemble.result c.assemble.ensures.answer c.in-Ok.is)

pub slice_bounds-eq-end : goal.slice_bounds-eq-end
slice_bounds-eq-end c =
    sym (length-take-le _ _ (rw c.assemble.auto.out (session_fits _ _ _ c.assemble.result c.assemble.ensures.answer c.in-Ok.is)))

pub slice_bounds-said-end : goal.slice_bounds-said-end
slice_bounds-said-end c = written_within c.error_line.auto.out c.in-Some.ensures.text

pub slice_bounds-say-end-in-Some : goal.slice_bounds-say-end-in-Some
slice_bounds-say-end-in-Some c = sym (length-take-le _ _ (written_within c.error_line.auto.out c.in-Some.ensures.text))

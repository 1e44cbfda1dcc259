use Rattle.std.proofs.Common.{sym, length-take-le}
use Rattle.report.proofs.Laws.{written_within}
use Rattle.text.proofs.Fitting.{session_fits}
use Rattle.assemble.proofs.main.Goals as goal

pub slice_bounds-session-end : goal.slice_bounds-session-end
slice_bounds-session-end c = rw c.assemble.auto.out (session_fits _ _ _ c.assemble.result c.assemble.ensures.answer c.in-Ok-assemble.is)

pub slice_bounds-say-end : goal.slice_bounds-say-end
slice_bounds-say-end c =
    sym (length-take-le _ _ (rw c.assemble.auto.out (session_fits _ _ _ c.assemble.result c.assemble.ensures.answer c.in-Ok-assemble.is)))

pub slice_bounds-said-end : goal.slice_bounds-said-end
slice_bounds-said-end c = written_within c.error_line.auto.out c.in-Some.ensures.text

pub slice_bounds-write_all-end : goal.slice_bounds-write_all-end
slice_bounds-write_all-end c = sym (length-take-le _ _ (written_within c.error_line.auto.out c.in-Some.ensures.text))

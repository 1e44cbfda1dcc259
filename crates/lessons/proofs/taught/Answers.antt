use Rattle.std.proofs.Common.{sym, length-take-le}
use Rattle.report.proofs.Laws.{written_within}
use Rattle.lessons.proofs.taught.Goals as goal

pub slice_bounds-text-end : goal.slice_bounds-text-end
slice_bounds-text-end c = written_within c.session_text.auto.out c.in-Some.ensures.text

pub slice_bounds-say-end-in-Some : goal.slice_bounds-say-end-in-Some
slice_bounds-say-end-in-Some c = sym (length-take-le _ _ (written_within c.session_text.auto.out c.in-Some.ensures.text))

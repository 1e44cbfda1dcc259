use Rattle.std.proofs.Common.{sym, length-take-le}
use Rattle.report.proofs.Laws.{written_within}
use Rattle.session.proofs.main.Goals as goal

pub slice_bounds-text-end : goal.slice_bounds-text-end
slice_bounds-text-end c = written_within c.answer.auto.out c.in-Some.ensures

pub slice_bounds-say-end : goal.slice_bounds-say-end
slice_bounds-say-end c = sym (length-take-le _ _ (written_within c.answer.auto.out c.in-Some.ensures))

use Rattle.text_steps.proofs.Computed.{cut_steps}
use Rattle.text_steps.proofs.cut.Goals as goal

pub returns : goal.returns
returns c = rw (cut_steps _ _ c.program-p.ensures c.level-off.ensures.value c.level.ensures.value) c.raw.ensures

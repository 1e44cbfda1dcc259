use Rattle.text_steps.proofs.Computed.{power_steps}
use Rattle.text_steps.proofs.power.Goals as goal

pub returns : goal.returns
returns c =
    rw (power_steps _ _ c.level-off.ensures.value c.level.ensures.value) c.raw.ensures

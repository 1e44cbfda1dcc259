use mathlib.Core.Path.{sym, ◌∙◌}
use Rattle.rules.specs.Numbers.{number_in}
use Rattle.refusals.proofs.Laws.{none_refused}
use Rattle.refusals.proofs.quick_state_refusal.Goals as goal

pub returns-then-plainly_sound : goal.returns-then-plainly_sound
unfolding number_in
returns-then-plainly_sound c =
    sym (none_refused _ c.if-image-eq-BYTES.true c.if-fuses-le7.true (sym c.plainly_sound.ensures ∙ c.if-plainly_sound.true))

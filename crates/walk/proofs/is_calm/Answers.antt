use mathlib.Core.Path.{refl}
use Rattle.walk.specs.Calls.{calm}
use Rattle.walk.proofs.is_calm.Goals as goal

pub returns : goal.returns
unfolding calm
returns c = refl

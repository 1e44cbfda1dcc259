-- What becomes of an output's state.
use Rattle.std.proofs.Common.{◌≡◌, refl}
use Rattle.console.specs.declared.Output.{Output}
use Rattle.console.specs.declared.Output.TheVariants.{Open, Lost, Stopped}
use Rattle.console.specs.Ends.{stopped, ended}

pub stops : {now : Output} → now ≡ Open → Stopped ≡ stopped now
unfolding stopped
stops e = rw e

pub stands : (now : Output) → (now ≡ Open → ⊥) → now ≡ stopped now
unfolding stopped
stands Open shut = absurd (shut refl)
stands Lost shut = refl
stands Stopped shut = refl

pub ends : {now : Output} → now ≡ Lost → Stopped ≡ ended now
unfolding ended
ends e = rw e

pub is_ended : (now : Output) → (now ≡ Lost → ⊥) → now ≡ ended now
unfolding ended
is_ended Open kept = refl
is_ended Lost kept = absurd (kept refl)
is_ended Stopped kept = refl

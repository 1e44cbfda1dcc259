-- The borders, computed from the definition. Assumes nothing.
use mathlib.Core.Path.{refl}
use Rattle.rules.specs.Zones.{between}
use Rattle.shown.specs.Shown.{plain_at}
use Rattle.shown.specs.Cases.{PlainAddresses}

pub plain_addresses : PlainAddresses
unfolding plain_at between
plain_addresses = refl

-- The zones' bytes are those of 01's ranges: the first and the last bit of each lie in the zone of that name.
use Prim.Native.Nat.{ℕ, zero, suc, ◌+◌, ◌-◌, ◌*◌}
use mathlib.Core.Path.{◌≡◌, refl}
use mathlib.Core.Bool.{Bool, true, ◌&&◌}
use lib.Dec.{eqb}
use lib.ListN.{get_or}
use Rattle.rules.specs.Zones.{zone, row}
use Rattle.text_lines.specs.Orders.{firsts, sizes}

in_zone : ℕ → Bool
in_zone k =
    eqb (row (zone (8 * get_or firsts k 0))) k && eqb (row (zone (8 * (get_or firsts k 0 + get_or sizes k 0) - 1))) k

all : ℕ → Bool
all zero = true
all (suc k) = in_zone k && all k

zones : all 10 ≡ true
unfolding all in_zone zone
zones = refl

-- 01, "Rights": the ladder of the zones past the last address, for the crates that stand on the definitions alone.
use Prim.Native.Nat.{ℕ, ◌<◌}
use mathlib.Core.Path.{◌≡◌}
use native.Mathlib.Omega.{arith}
use borrow.Author.Tests.{le-leb, lt-leb, ne_eqb}
use Rattle.rules.specs.declared.Zone.TheVariants.{Gap}
use Rattle.rules.specs.Zones.{between, zone}

pub past_all : (a : ℕ) → 1519 < a → Gap ≡ zone a
unfolding zone between
past_all a h =
    rw (
      lt-leb a 15 (omega arith),
      lt-leb a 79 (omega arith),
      lt-leb a 95 (omega arith),
      lt-leb a 111 (omega arith),
      lt-leb a 175 (omega arith),
      lt-leb a 1199 (omega arith),
      lt-leb a 1231 (omega arith),
      lt-leb a 1359 (omega arith),
      lt-leb a 1375 (omega arith),
      lt-leb a 1391 (omega arith),
      lt-leb a 1407 (omega arith),
      lt-leb a 1423 (omega arith),
      ne_eqb a 1481 (omega arith),
      le-leb 1504 a (omega arith),
      lt-leb a 1519 h,
    )

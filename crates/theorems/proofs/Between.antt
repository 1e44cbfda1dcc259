-- A range's test, by where the number lies.
use Prim.Native.Nat.{ℕ, ◌≤◌, ◌<◌}
use mathlib.Core.Path.{◌≡◌}
use mathlib.Core.Bool.{true, false, and-false}
use borrow.Author.Tests.{le-leb, lt-leb, leb-true}
use lib.Dec.{leb}
use Rattle.rules.specs.Zones.{between}
use Rattle.theorems.proofs.Tests.{and_left, and_right}

module _ (low high a : ℕ) where
  pub within : low ≤ a → a ≤ high → between low high a ≡ true
  unfolding between
  within h k = rw (le-leb low a h, le-leb a high k)

  pub under : a < low → between low high a ≡ false
  unfolding between
  under h = rw (lt-leb low a h)

  pub over : high < a → between low high a ≡ false
  unfolding between
  over h = rw (lt-leb a high h) (and-false (leb low a))

  -- And back.
  pub bounds : between low high a ≡ true → (low ≤ a) × (a ≤ high)
  unfolding between
  bounds e = (leb-true low a (and_left _ _ e), leb-true a high (and_right (leb low a) _ e))

-- A rule of every number below a bound, by one test that is computed at each of them.
use Prim.Native.Nat.{ℕ, zero, suc, ◌<◌}
use native.Mathlib.Omega.{arith}
use native.Mathlib.Decide.{ℕ_discrete}
use mathlib.Core.Path.{◌≡◌, refl}
use mathlib.Core.Bool.{Bool, true, false, ◌&&◌}

-- The test holds at each number below k.
unfoldable pub all : ℕ → (ℕ → Bool) → Bool
all zero test = true
all (suc k) test = test k && all k test

pub and_left : (a b : Bool) → (a && b) ≡ true → a ≡ true
and_left true b e = refl
and_left false b e = e

pub and_right : (a b : Bool) → (a && b) ≡ true → b ≡ true
and_right true b e = e
and_right false b e = absurd (mathlib.Core.Bool.false≢true e)

pub below : (k : ℕ) (test : ℕ → Bool) → all k test ≡ true → (n : ℕ) → n < k → test n ≡ true
unfolding all
below zero test e n h = absurd (omega arith)
below (suc k) test e n h = go (ℕ_discrete n k) (λ (l : n < k). below k test (and_right (test k) (all k test) e) n l)
  where
    go : Dec (n ≡ k) → (n < k → test n ≡ true) → test n ≡ true
    go (yes q) rest = rw q (and_left (test k) (all k test) e)
    go (no q) rest = rest (omega arith)

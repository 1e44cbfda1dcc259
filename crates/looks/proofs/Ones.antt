-- The tries left as a count of ones.
use Prim.Native.Nat.{ℕ, ◌<◌, ◌≤◌}
use mathlib.Core.Path.{◌≡◌, refl}
use mathlib.Core.List.{List}
use lib.Count.{ones, ones_in}
use lib.Dec.{eqb}
use lib.ListN.{length, get_or-eq_default}
use borrow.Author.Tests.{eqb-true}
use Rattle.memory.proofs.Below.{all, below}
use Rattle.rules.specs.Card.{tries_left}

pub ones_of_byte : (x : ℕ) → x < 256 → ones x ≡ ones_in 8 x
unfolding all ones ones_in
ones_of_byte x h = eqb-true (ones x) (ones_in 8 x) (below 256 (λ (y : ℕ). eqb (ones y) (ones_in 8 y)) refl x h)

-- No try is left in an image without their byte.
pub none_past : (m : List ℕ) → length m ≤ 12 → tries_left m ≡ 0
unfolding tries_left ones_in
none_past m h = rw (get_or-eq_default m 0 h)

pub ruleset tries = (ones_of_byte, none_past)

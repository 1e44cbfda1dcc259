-- What holds of each byte: `leading_zeros` is 01's "number of zeros before the first one in that byte".
use Prim.Native.Nat.{ℕ, ◌<◌}
use mathlib.Core.Path.{◌≡◌, refl}
use mathlib.Core.Bool.{Bool, cond}
use lib.Count.{count_leading_zeros}
use lib.Dec.{eqb}
use borrow.Author.Tests.{eqb-true}
use Rattle.memory.specs.Image.{digit}
use Rattle.memory.proofs.Below.{all, below}
use Rattle.rules.specs.Maker.{zeros_before, open_refusal}

same : ℕ → Bool
same x = eqb (count_leading_zeros 8 x) (zeros_before 8 x)

pub leading_zeros : (x : ℕ) → x < 256 → count_leading_zeros 8 x ≡ zeros_before 8 x
unfolding all same count_leading_zeros zeros_before digit
leading_zeros x h = eqb-true _ _ (below 256 same refl x h)

-- "no one in the byte"
none_in_0 : ℕ → Bool
none_in_0 x = eqb (open_refusal x) (cond (eqb x 0) 23 0)

pub refused_at_0 : (x : ℕ) → x < 256 → open_refusal x ≡ cond (eqb x 0) 23 0
unfolding all none_in_0 open_refusal zeros_before digit
refused_at_0 x h = eqb-true _ _ (below 256 none_in_0 refl x h)

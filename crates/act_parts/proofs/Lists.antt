-- The lists of walk and show, step group by step group.
use Prim.Native.Nat.{ℕ, zero, suc, ◌+◌, ◌-◌, ◌<◌}
use mathlib.Core.Path.{◌≡◌, refl}
use mathlib.Core.Bool.{Bool}
use mathlib.Core.List.{◌++◌}
use native.Mathlib.Nat.{not-suc-le-zero}
use native.Mathlib.Numerals.{add-one}
use native.Mathlib.Omega.{arith}
use Rattle.memory.specs.Image.{digit}
use Rattle.rules.specs.Maker.{walk, show}
use Rattle.act_parts.specs.Parts.{pulse, shown_bit}

-- One address more is a pulse more.
walk_suc : (fus : Bool) (n : ℕ) → walk fus (suc n) ≡ walk fus n ++ pulse 4 fus
unfolding walk pulse
walk_suc fus zero = refl
walk_suc fus (suc n) = rw (← walk_suc fus n) refl

pub walk_more : (fus : Bool) (n : ℕ) → walk fus (n + 1) ≡ walk fus n ++ pulse 4 fus
walk_more fus n = rw (add-one n) (walk_suc fus n)

less_one : (k : ℕ) → suc k - 1 ≡ k
less_one k = omega arith

-- "first the most significant"
pub show_first : (fus : Bool) (k x : ℕ) → 0 < k → show fus k x ≡ shown_bit fus (digit (k - 1) x) ++ show fus (k - 1) x
unfolding show shown_bit
show_first fus zero x h = absurd (not-suc-le-zero h)
show_first fus (suc k) x h = rw (less_one k) refl

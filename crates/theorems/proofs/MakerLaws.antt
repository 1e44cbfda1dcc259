-- How many steps each act of the maker has, as 01, "The step maker", counts them.
use Prim.Native.Nat.{ℕ, zero, suc, ◌+◌, ◌*◌}
use native.Mathlib.Omega.{arith}
use mathlib.Core.Path.{◌≡◌, refl, ap}
use mathlib.Core.Bool.{Bool}
use mathlib.Core.List.{List, [], ◌∷◌}
use lib.ListN.{length, length-append}
use Rattle.rules.specs.Maker.{walk, digits, show_bits, show, zeros_before, open_card}

-- "Walk n (0 to 1519): CLK up, down; 2n."
pub length_walk : (fus : Bool) (n : ℕ) → length (walk fus n) ≡ 2 * n
unfolding walk
length_walk fus zero = refl
length_walk fus (suc n) = let rest = length_walk fus n in omega arith

length_digits : (width x : ℕ) → length (digits width x) ≡ width
unfolding digits
length_digits zero x = refl
length_digits (suc width) x = ap suc (length_digits width x)

length_shown : (fus : Bool) (bs : List Bool) → length (show_bits fus bs) ≡ 3 * length bs + 1
unfolding show_bits
length_shown fus [] = refl
length_shown fus (b ∷ bs) = let rest = length_shown fus bs in omega arith

-- "per bit set I/O, CLK up, down; at the end I/O 1; 49 or 97."
pub length_show : (fus : Bool) (width x : ℕ) → length (show fus width x) ≡ 3 * width + 1
unfolding show
length_show fus width x = rw (length_shown fus (digits width x), length_digits width x)

-- "open with a code and the byte of bits 96 to 103: reset, walk 80, show, walk k, write, erase; 223 + 2k steps."
pub length_open : (fus : Bool) (code attempts : ℕ) → length (open_card fus code attempts) ≡ 223 + 2 * zeros_before 8 attempts
unfolding open_card
length_open fus code attempts = simp (length-append, length_walk) (omega arith)

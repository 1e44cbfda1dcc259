-- The digits of a number are its decimal: read, they give it back, and the first of a number over 0 is not `0`.
use Prim.Native.Nat.{ℕ, zero, suc, ◌+◌, ◌-◌, ◌*◌, ◌/◌, ◌≤◌, ◌<◌}
use native.Mathlib.Omega.{arith}
use native.Mathlib.Decide.{dec_lt}
use mathlib.Core.Path.{◌≡◌, refl}
use mathlib.Core.List.{List, [], ◌∷◌, ◌++◌}
use lib.ListN.{get_or, get_or-append}
use Rattle.decimal.specs.Decimal.{digit, decimal}
use Rattle.decimal.proofs.Digits.{one_digit, more_digits, some_digit}

-- A decimal read byte by byte, behind what was read already.
unfoldable pub value : ℕ → List ℕ → ℕ
value before [] = before
value before (b ∷ bs) = value (10 * before + (b - 48)) bs

value_append : (before : ℕ) (a b : List ℕ) → value before (a ++ b) ≡ value (value before a) b
unfolding value
value_append before [] b = refl
value_append before (x ∷ a) b = value_append (10 * before + (x - 48)) a b

read_within : (bound x : ℕ) → x ≤ bound → value 0 (decimal x) ≡ x
unfolding value digit
read_within zero x h =
    let none : x ≡ 0 = omega arith in
    rw (one_digit x (omega arith)) (omega arith)
read_within (suc bound) x h = go (dec_lt x 10) (read_within bound (x / 10) (omega arith))
  where
    go : Dec (x < 10) → value 0 (decimal (x / 10)) ≡ x / 10 → value 0 (decimal x) ≡ x
    go (yes l) tenth = rw (one_digit x l) (omega arith)
    go (no l) tenth = rw (more_digits x (omega arith), value_append, tenth) (omega arith)

first_within : (bound x : ℕ) → x ≤ bound → 0 < x → 48 < get_or (decimal x) 0 0
unfolding digit
first_within zero x h p = absurd (omega arith)
first_within (suc bound) x h p = go (dec_lt x 10) (first_within bound (x / 10) (omega arith))
  where
    go : Dec (x < 10) → (0 < x / 10 → 48 < get_or (decimal (x / 10)) 0 0) → 48 < get_or (decimal x) 0 0
    go (yes l) tenth = rw (one_digit x l) (omega arith)
    go (no l) tenth =
        rw (more_digits x (omega arith), get_or-append (decimal (x / 10)) _ 0 0 (some_digit (x / 10))) (tenth (omega arith))

pub reads_back : (x : ℕ) → value 0 (decimal x) ≡ x
reads_back x = read_within x x (omega arith)

pub no_leading_zero : (x : ℕ) → 0 < x → 48 < get_or (decimal x) 0 0
no_leading_zero x = first_within x x (omega arith)

-- A number's digits: one, or those of its tenth and one more; and how many there are.
use Prim.Native.Nat.{ℕ, zero, suc, ◌+◌, ◌*◌, ◌/◌, ◌%◌, ◌^◌, ◌≤◌, ◌<◌, max}
use native.Mathlib.Nat.{pow-suc}
use native.Mathlib.Omega.{arith}
use native.Mathlib.Decide.{dec_lt}
use mathlib.Core.Path.{◌≡◌, refl, ap}
use mathlib.Core.List.{[], ◌∷◌, ◌++◌}
use lib.ListN.{length, length-append}
use borrow.Author.Tests.{lt-ltb, le-ltb}
use Rattle.decimal.specs.Decimal.{digit, digits_within, decimal}

-- Any bound from x on gives the same digits.
enough : (a b x : ℕ) → x ≤ a → x ≤ b → digits_within a x ≡ digits_within b x
unfolding digits_within
enough zero zero x ha hb = refl
enough zero (suc b) x ha hb =
    let none : x ≡ 0 = omega arith in
    rw none
enough (suc a) zero x ha hb =
    let none : x ≡ 0 = omega arith in
    rw none
enough (suc a) (suc b) x ha hb = rw (enough a b (x / 10) (omega arith) (omega arith))

pub one_digit : (x : ℕ) → x < 10 → decimal x ≡ digit x ∷ []
unfolding decimal digits_within
one_digit zero h = refl
one_digit (suc n) h = rw (lt-ltb (suc n) 10 h)

last_digit : (x : ℕ) → digit (x % 10) ≡ digit x
unfolding digit
last_digit x = omega arith

pub more_digits : (x : ℕ) → 10 ≤ x → decimal x ≡ decimal (x / 10) ++ (digit (x % 10) ∷ [])
unfolding decimal digits_within
more_digits zero h = absurd (omega arith)
more_digits (suc n) h =
    rw (le-ltb (suc n) 10 h, last_digit (suc n), enough n (suc n / 10) (suc n / 10) (omega arith) (omega arith))

pub length_more : (x : ℕ) → 10 ≤ x → length (decimal x) ≡ length (decimal (x / 10)) + 1
length_more x h = rw (more_digits x h) (length-append (decimal (x / 10)) (digit (x % 10) ∷ []))

pub some_digit : (x : ℕ) → 0 < length (decimal x)
some_digit x = go (dec_lt x 10)
  where
    go : Dec (x < 10) → 0 < length (decimal x)
    go (yes l) = rw (one_digit x l) (omega arith)
    go (no l) = omega (arith, length_more x (omega arith))

-- A number below ten to the k-th has at most k digits.
pub few_digits : (k x : ℕ) → x < 10 ^ suc k → length (decimal x) ≤ suc k
few_digits zero x h = rw (one_digit x h) (omega arith)
few_digits (suc k) x h = go (dec_lt x 10) (few_digits k (x / 10) (omega (arith, rw (pow-suc 10 (suc k)) at h)))
  where
    go : Dec (x < 10) → length (decimal (x / 10)) ≤ suc k → length (decimal x) ≤ suc (suc k)
    go (yes l) tenth = rw (one_digit x l) (omega arith)
    go (no l) tenth = omega (arith, length_more x (omega arith))

power : (k : ℕ) → 1 ≤ 10 ^ k
power zero = omega arith
power (suc k) = rw (pow-suc 10 k) (omega (arith, power k))

-- And one of at least that more than k.
many_digits : (k x : ℕ) → 10 ^ k ≤ x → k < length (decimal x)
many_digits zero x h = some_digit x
many_digits (suc k) x h =
    let scaled : 10 ^ k * 10 ≤ x = rw (pow-suc 10 k) at h in
    let large : 10 ≤ x = omega (arith, power k) in
    omega (arith, length_more x large, many_digits k (x / 10) (omega arith))

-- So 0 has the digits of 1, and any other number one more than the power of ten in it.
pub by_powers : (k x : ℕ) → 10 ^ k ≤ max x 1 → max x 1 < 10 * 10 ^ k → length (decimal x) ≡ k + 1
by_powers k zero least most =
    let none : length (decimal 0) ≡ 1 = ap length (one_digit 0 (omega arith)) in
    let one : length (decimal 1) ≡ 1 = ap length (one_digit 1 (omega arith)) in
    omega (arith, many_digits k 1 least)
by_powers k (suc n) least most =
    omega (arith, few_digits k (suc n) (rw (pow-suc 10 k) (omega arith)), many_digits k (suc n) (omega arith))

pub at_most_twenty : (x : ℕ) → x < 2 ^ 64 → length (decimal x) ≤ 20
at_most_twenty x h = few_digits 19 x (omega arith)

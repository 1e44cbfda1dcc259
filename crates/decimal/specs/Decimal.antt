-- A number in decimal, as bytes.
use Rattle.std.specs.Prelude.{ℕ, zero, suc, ◌+◌, ◌/◌, ◌%◌, cond, List, [], ◌∷◌, ◌++◌, ltb}

-- The last decimal digit of x; 48 is the byte `0`.
unfoldable pub digit : ℕ → ℕ
digit x = 48 + x % 10

-- The digits of x, the first the most significant: those of x / 10, if x has more than one, and its last. The first argument bounds the
-- recursion.
unfoldable pub digits_within : ℕ → ℕ → List ℕ
digits_within zero x = digit x ∷ []
digits_within (suc bound) x =
    let front = digits_within bound (x / 10) in
    cond (ltb x 10) [] front ++ (digit x ∷ [])

-- No leading zeros, and `0` for 0. A number is bound enough for itself.
unfoldable pub decimal : ℕ → List ℕ
decimal x = digits_within x x

-- A word that is a number.
use Rattle.std.specs.Prelude.{ℕ, ◌+◌, ◌-◌, ◌*◌, Bool, cond, List, [], ◌∷◌, eqb, leb, ltb, length, Option, Some, None}

-- The value of `0` to `9`, `A` to `F` and `a` to `f`; 16 for what is no digit.
unfoldable pub digit_of : ℕ → ℕ
digit_of b =
    cond (ltb b 48) 16
    (cond (ltb b 58) (b - 48)
    (cond (ltb b 65) 16
    (cond (ltb b 71) (b - 55)
    (cond (ltb b 97) 16
    (cond (ltb b 103) (b - 87) 16)))))

-- What the code answers for a byte: none where it is no digit.
unfoldable pub digit_in : Option ℕ → ℕ
digit_in (Some d) = d
digit_in None = 16

-- 2 to the power of 60: what is no less takes no further digit.
abbrev pub limit : ℕ
limit = 0x1000_0000_0000_0000

-- The digits of a word after those that come to `value`.
unfoldable pub number_from : ℕ → ℕ → List ℕ → Option ℕ
unfolding digit_of
number_from base value [] = Some value
number_from base value (b ∷ s) =
    cond (leb base (digit_of b)) None
    (cond (leb limit value) None (number_from base (value * base + digit_of b) s))

-- One or more digits, all below the base: 16 for hex, else 10.
unfoldable pub number_of : Bool → List ℕ → Option ℕ
unfolding number_from
number_of hex w = cond (eqb (length w) 0) None (number_from (cond hex 16 10) 0 w)

-- What so many hex digits come to.
use Prim.Native.Nat.{ℕ, suc, ◌+◌, ◌*◌, ◌^◌, ◌≤◌, ◌<◌}
use mathlib.Core.Path.{◌≡◌, refl}
use mathlib.Core.Bool.{Bool, true, false, cond}
use mathlib.Core.List.{List, [], ◌∷◌}
use native.Mathlib.Nat.{lt_of_lt_of_le, mul-le-mul_right, mul_assoc, mul-one, pow-succ'}
use native.Mathlib.Omega.{arith}
use borrow.Author.Tests.{leb-false}
use lib.Dec.{eqb, leb}
use lib.ListN.{length}
use Rattle.std.specs.Prelude.{Some, None}
use Rattle.std.proofs.lemmas.Option.{none-some}
use Rattle.words.specs.Numbers.{digit_of, limit, number_from, number_of}

one_more : (v d p : ℕ) → d < 16 → (v * 16 + d + 1) * p ≤ (v + 1) * (16 * p)
one_more v d p h =
    let l : v * 16 + d + 1 ≤ (v + 1) * 16 = omega arith in
    rw (← mul_assoc (v + 1) 16 p) (mul-le-mul_right p l)

digits_below : (w : List ℕ) (v n : ℕ) → number_from 16 v w ≡ Some n → n < (v + 1) * 16 ^ length w
unfolding number_from
digits_below [] v n e = let q : n ≡ v = cc in rw (q, mul-one) (omega arith)
digits_below (b ∷ w) v n e =
    go (leb 16 (digit_of b)) refl (leb limit v) e (λ q. digits_below w (v * 16 + digit_of b) n q)
  where
    go :
        (t : Bool) → leb 16 (digit_of b) ≡ t → (u : Bool)
        → cond t None (cond u None (number_from 16 (v * 16 + digit_of b) w)) ≡ Some n
        → (number_from 16 (v * 16 + digit_of b) w ≡ Some n → n < (v * 16 + digit_of b + 1) * 16 ^ length w)
        → n < (v + 1) * 16 ^ suc (length w)
    go true p u q rest = absurd (none-some n q)
    go false p true q rest = absurd (none-some n q)
    go false p false q rest =
        rw (pow-succ' 16 (length w))
        (lt_of_lt_of_le (rest q) (one_more v (digit_of b) (16 ^ length w) (leb-false 16 (digit_of b) p)))

pub hex_below : (w : List ℕ) (k n : ℕ) → length w ≡ k → number_of true w ≡ Some n → n < 16 ^ k
unfolding number_of
hex_below w k n l e = go (eqb (length w) 0) e
  where
    go : (t : Bool) → cond t None (number_from 16 0 w) ≡ Some n → n < 16 ^ k
    go true q = absurd (none-some n q)
    go false q = rw (← l) (omega (arith, digits_below w 0 n q))

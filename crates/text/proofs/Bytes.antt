-- The bytes of a number, and where they go.
use Prim.Native.Nat.{ℕ, zero, suc, ◌+◌, ◌-◌, ◌*◌, ◌/◌, ◌%◌, ◌^◌, ◌≤◌, ◌<◌}
use mathlib.Core.Path.{◌≡◌, refl, ◌∙◌}
use mathlib.Core.List.{List, [], ◌∷◌}
use native.Mathlib.Nat.{div-eq_of_lt, lt_of_lt_of_le, pow-le-pow_right, not-suc-le-zero}
use native.Mathlib.Numerals.{add-one}
use native.Mathlib.Omega.{arith}
use lib.ListN.{length, set, length-set}
use lib.Seq.{sets, set_out}
use Rattle.std.proofs.Common.{◌⊎◌, inl, inr, min}
use Rattle.std.proofs.lemmas.Bool.{cases_lt}
use Rattle.text.specs.Sheet.{bytes_of}

pub byte_past : (x k : ℕ) → x < 2 ^ 64 → 8 ≤ k → x / 2 ^ (8 * k) % 256 ≡ 0
byte_past x k h l =
    let far : 64 ≤ 8 * k = omega arith in
    let some : 0 < 2 = omega arith in
    rw (div-eq_of_lt (lt_of_lt_of_le h (pow-le-pow_right some far))) refl

pub sets_out : (l : List ℕ) (i : ℕ) (vs : List ℕ) → length l ≤ i → sets l i vs ≡ l
sets_out l i [] h = refl
sets_out l i (v ∷ vs) h =
    sets_out (set l i v) (suc i) vs (omega (arith, length-set l i v)) ∙ set_out l i v h

less_one : (n : ℕ) → suc n - 1 ≡ n
less_one n = omega arith

bytes_first : (n x : ℕ) → 0 < n → bytes_of n x ≡ (x / 2 ^ (8 * (n - 1)) % 256) ∷ bytes_of (n - 1) x
unfolding bytes_of
bytes_first zero x h = absurd (not-suc-le-zero h)
bytes_first (suc n) x h = rw (less_one n) refl

-- One store of the loop that puts them.
one_byte :
    (l : List ℕ) (at n x b : ℕ) → 0 < n → b ≡ x / 2 ^ (8 * (n - 1)) % 256
    → sets (set l at b) (at + 1) (bytes_of (n - 1) x) ≡ sets l at (bytes_of n x)
one_byte l at n x b h e = rw (add-one at, bytes_first n x h, e) refl

module _ (l : List ℕ) (first i count x : ℕ) where
  pub next_byte :
      (b : ℕ) → i < count → b ≡ x / 2 ^ (8 * (count - 1 - i)) % 256
      → sets (set l (first + i) b) (first + (i + 1)) (bytes_of (count - (i + 1)) x) ≡ sets l (first + i) (bytes_of (count - i) x)
  next_byte b h e =
      let p : first + (i + 1) ≡ first + i + 1 = omega arith in
      let q : count - (i + 1) ≡ count - i - 1 = omega arith in
      let r : count - 1 - i ≡ count - i - 1 = omega arith in
      let some : 0 < count - i = omega arith in
      rw (p, q) (one_byte l (first + i) (count - i) x b some (rw r at e))

  -- All are put, or there is no more room.
  pub no_more : min count (length l - first) ≤ i → sets l (first + i) (bytes_of (count - i) x) ≡ l
  unfolding bytes_of
  no_more h = go (cases_lt i count)
    where
      go : (i < count) ⊎ (count ≤ i) → sets l (first + i) (bytes_of (count - i) x) ≡ l
      go (inl m) = sets_out l (first + i) (bytes_of (count - i) x) (omega arith)
      go (inr m) = let z : count - i ≡ 0 = omega arith in rw z refl

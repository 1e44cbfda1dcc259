-- What a write and an erase do to each bit of the image, and what a fill leaves.
use Prim.Native.Nat.{ℕ, zero, suc, ◌+◌, ◌-◌, ◌*◌, ◌/◌, ◌%◌, ◌^◌, ◌≤◌, ◌<◌}
use native.Mathlib.Nat.{div-one, div-div-eq-div-mul, pow-suc, mul_comm}
use native.Mathlib.Omega.{arith}
use native.Mathlib.Decide.{dec_lt, ℕ_discrete}
use mathlib.Core.Path.{◌≡◌, refl, sym, ap, ◌∙◌}
use mathlib.Core.Bool.{Bool, true, false, cond, not, ◌&&◌, ◌||◌}
use mathlib.Core.List.{List, ◌++◌}
use lib.Dec.{eqb, ltb, leb, eqb-zero-suc, eqb-suc-zero, eqb-suc-suc}
use lib.Bits.{bit_and}
use lib.ListN.{length, get_or, set, take, drop, replicate, length-set, length-append, length-drop, length-replicate}
use lib.ListN.{get_or-eq_default}
use lib.Seq.{get_or-set_same, get_or-set_other, set_out, length-take-le, drop-drop}
use borrow.Author.Tests.{lt-ltb, le-ltb, le-leb, lt-leb, eq-eqb, ne_eqb, eqb-true, leb-true}
use Rattle.memory.proofs.Below.{all, below}
use Rattle.memory.specs.Image.{digit, cleared, bit, written, erased_word, filled}

pub digit_cleared : (k j x : ℕ) → digit j (cleared k x) ≡ (not (eqb k j) && digit j x)
unfolding digit cleared
digit_cleared zero zero x = rw (halved x)
  where
    halved : (y : ℕ) → y / 2 * 2 % 2 ≡ 0
    halved y = omega arith
digit_cleared zero (suc j) x = rw (eqb-zero-suc j, halved x)
  where
    halved : (y : ℕ) → y / 2 * 2 / 2 ≡ y / 2
    halved y = omega arith
digit_cleared (suc k) zero x = rw (eqb-suc-zero k, low (cleared k (x / 2)) x)
  where
    low : (c y : ℕ) → (c * 2 + y % 2) % 2 ≡ y % 2
    low c y = omega arith
digit_cleared (suc k) (suc j) x = rw (eqb-suc-suc k j, high (cleared k (x / 2)) x) (digit_cleared k j (x / 2))
  where
    high : (c y : ℕ) → (c * 2 + y % 2) / 2 ≡ c
    high c y = omega arith

pub digit_zero : (k : ℕ) → digit k 0 ≡ false
unfolding digit
digit_zero zero = refl
digit_zero (suc k) = digit_zero k

-- What stands at a place of a list after a store.
pub get_d_set : (l : List ℕ) (i v j : ℕ) → get_or (set l i v) j 0 ≡ cond (eqb i j && ltb j (length l)) v (get_or l j 0)
get_d_set l i v j = go (ℕ_discrete i j) (dec_lt j (length l))
  where
    go : Dec (i ≡ j) → Dec (j < length l) → get_or (set l i v) j 0 ≡ cond (eqb i j && ltb j (length l)) v (get_or l j 0)
    go (yes e) (yes h) = rw (eq-eqb i j e, lt-ltb j (length l) h, e) (get_or-set_same l j v 0 h)
    go (yes e) (no h) =
        let out : length l ≤ j = omega arith in
        rw (eq-eqb i j e, le-ltb j (length l) out, e) (ap (λ (x : List ℕ). get_or x j 0) (set_out l j v out))
    go (no e) d = rw (ne_eqb i j e) (get_or-set_other l i j v 0 (λ (q : j ≡ i). e (sym q)))

-- The same bit is the same place of the same byte.
same_bit : (a b : ℕ) → a / 8 ≡ b / 8 → eqb (7 - a % 8) (7 - b % 8) ≡ eqb a b
same_bit a b h = go (ℕ_discrete a b)
  where
    go : Dec (a ≡ b) → eqb (7 - a % 8) (7 - b % 8) ≡ eqb a b
    go (yes e) =
        let same : 7 - a % 8 ≡ 7 - b % 8 = rw e in
        eq-eqb (7 - a % 8) (7 - b % 8) same ∙ sym (eq-eqb a b e)
    go (no e) =
        let other : 7 - a % 8 ≡ 7 - b % 8 → ⊥ = λ q. e (whole q) in
        ne_eqb (7 - a % 8) (7 - b % 8) other ∙ sym (ne_eqb a b e)
      where
        whole : 7 - a % 8 ≡ 7 - b % 8 → a ≡ b
        whole q = omega arith

pub bit_written_lem : (m : List ℕ) (a b : ℕ) → bit (written m a) b ≡ (not (eqb a b) && bit m b)
unfolding bit written
bit_written_lem m a b =
    rw (get_d_set m (a / 8) (cleared (7 - a % 8) (get_or m (a / 8) 0)) (b / 8))
    (go (ℕ_discrete (a / 8) (b / 8)) (dec_lt (b / 8) (length m)))
  where
    go :
        Dec (a / 8 ≡ b / 8) → Dec (b / 8 < length m) →
        digit (7 - b % 8)
        (cond (eqb (a / 8) (b / 8) && ltb (b / 8) (length m)) (cleared (7 - a % 8) (get_or m (a / 8) 0)) (get_or m (b / 8) 0)) ≡
        (not (eqb a b) && digit (7 - b % 8) (get_or m (b / 8) 0))
    go (yes e) (yes h) =
        rw (eq-eqb (a / 8) (b / 8) e, lt-ltb (b / 8) (length m) h, ← same_bit a b e, ← e)
        (digit_cleared (7 - a % 8) (7 - b % 8) (get_or m (a / 8) 0))
    go (yes e) (no h) =
        let out : length m ≤ b / 8 = omega arith in
        rw (eq-eqb (a / 8) (b / 8) e, le-ltb (b / 8) (length m) out, get_or-eq_default m 0 out, digit_zero (7 - b % 8))
        (nothing (eqb a b))
      where
        nothing : (t : Bool) → false ≡ (not t && false)
        nothing true = refl
        nothing false = refl
    go (no e) d = rw (ne_eqb (a / 8) (b / 8) e, ne_eqb a b (λ (q : a ≡ b). e (ap (λ (x : ℕ). x / 8) q)))

-- Every digit of a byte of ones is one.
ones : (k : ℕ) → k < 8 → digit k 255 ≡ true
unfolding all digit
ones k h = below 8 (λ (j : ℕ). digit j 255) refl k h

-- The two bytes of a word.
in_word : (a b : ℕ) → (eqb (a / 16 * 2 + 1) (b / 8) || eqb (a / 16 * 2) (b / 8)) ≡ eqb (a / 16) (b / 16)
in_word a b = go (ℕ_discrete (a / 16 * 2 + 1) (b / 8)) (ℕ_discrete (a / 16 * 2) (b / 8))
  where
    first : a / 16 * 2 ≡ b / 8 → a / 16 ≡ b / 16
    first e = omega arith

    second : a / 16 * 2 + 1 ≡ b / 8 → a / 16 ≡ b / 16
    second e = omega arith

    neither : (a / 16 * 2 + 1 ≡ b / 8 → ⊥) → (a / 16 * 2 ≡ b / 8 → ⊥) → a / 16 ≡ b / 16 → ⊥
    neither e f q = omega arith

    go :
        Dec (a / 16 * 2 + 1 ≡ b / 8) → Dec (a / 16 * 2 ≡ b / 8) →
        (eqb (a / 16 * 2 + 1) (b / 8) || eqb (a / 16 * 2) (b / 8)) ≡ eqb (a / 16) (b / 16)
    go (yes e) d = rw (eq-eqb (a / 16 * 2 + 1) (b / 8) e, eq-eqb (a / 16) (b / 16) (second e))
    go (no e) (yes f) =
        rw (ne_eqb (a / 16 * 2 + 1) (b / 8) e, eq-eqb (a / 16 * 2) (b / 8) f, eq-eqb (a / 16) (b / 16) (first f))
    go (no e) (no f) =
        rw (ne_eqb (a / 16 * 2 + 1) (b / 8) e, ne_eqb (a / 16 * 2) (b / 8) f, ne_eqb (a / 16) (b / 16) (neither e f))

pub bit_erased : (m : List ℕ) (a b : ℕ) → bit (erased_word m a) b ≡ (eqb (a / 16) (b / 16) && ltb (b / 8) (length m) || bit m b)
unfolding bit erased_word
bit_erased m a b =
    let i : ℕ = a / 16 * 2 in
    rw (get_d_set (set m i 255) (i + 1) 255 (b / 8), get_d_set m i 255 (b / 8), length-set m i 255, ← in_word a b)
    (go (eqb (i + 1) (b / 8)) (eqb i (b / 8)) (ltb (b / 8) (length m)))
  where
    full : digit (7 - b % 8) 255 ≡ true
    full = ones (7 - b % 8) (omega arith)

    go :
        (t u l : Bool) →
        digit (7 - b % 8) (cond (t && l) 255 (cond (u && l) 255 (get_or m (b / 8) 0))) ≡
        ((t || u) && l || digit (7 - b % 8) (get_or m (b / 8) 0))
    go true u true = full
    go false true true = full
    go false false l = refl
    go true true false = refl
    go true false false = refl
    go false true false = refl

pub length_written : (m : List ℕ) (a : ℕ) → length (written m a) ≡ length m
unfolding written
length_written m a = length-set m (a / 8) (cleared (7 - a % 8) (get_or m (a / 8) 0))

pub length_erased : (m : List ℕ) (a : ℕ) → length (erased_word m a) ≡ length m
unfolding erased_word
length_erased m a = simp length-set

pub length_filled : (first count v : ℕ) (m : List ℕ) → length (filled first count v m) ≡ length m
unfolding filled
length_filled first count v m = go (leb (first + count) (length m)) refl
  where
    go :
        (t : Bool) → leb (first + count) (length m) ≡ t →
        length (cond t (take first m ++ (replicate count v ++ drop (first + count) m)) m) ≡ length m
    go true e =
        let fits : first + count ≤ length m = leb-true (first + count) (length m) e in
        simp (length-append, length-replicate, length-take-le first m (omega arith), length-drop) (omega arith)
    go false e = refl

-- A digit as a shift and a remainder give it.
pub digit_shift : (k x : ℕ) → digit k x ≡ eqb (x / 2 ^ k % 2) 1
unfolding digit
digit_shift zero x = rw div-one
digit_shift (suc k) x = rw (pow-suc 2 k, mul_comm (2 ^ k) 2, ← div-div-eq-div-mul x 2 (2 ^ k)) (digit_shift k (x / 2))

-- Past the image a bit reads 0.
pub bit_past : (m : List ℕ) (a : ℕ) → length m ≤ a / 8 → bit m a ≡ false
unfolding bit
bit_past m a h = rw (get_or-eq_default m 0 h) (digit_zero (7 - a % 8))

-- A mask of all ones but one clears that digit of a byte.
pub masked : (x k : ℕ) → x < 256 → k < 8 → bit_and x (255 - 128 / 2 ^ k) ≡ cleared (7 - k) x
unfolding all cleared
masked x k hx hk =
    eqb-true (bit_and x (255 - 128 / 2 ^ k)) (cleared (7 - k) x)
    (below 8 (λ (j : ℕ). eqb (bit_and x (255 - 128 / 2 ^ j)) (cleared (7 - j) x))
    (below 256 (λ (y : ℕ). all 8 (λ (j : ℕ). eqb (bit_and y (255 - 128 / 2 ^ j)) (cleared (7 - j) y))) refl x hx) k hk)

pub one_small : (a : ℕ) → 128 / 2 ^ (a % 8) ≤ 255
unfolding all
one_small a =
    leb-true (128 / 2 ^ (a % 8)) 255 (below 8 (λ (j : ℕ). leb (128 / 2 ^ j) 255) refl (a % 8) (omega arith))

opened :
    (first count v : ℕ) (m : List ℕ) → first + count ≤ length m →
    filled first count v m ≡ take first m ++ (replicate count v ++ drop (first + count) m)
unfolding filled
opened first count v m fits = rw (le-leb (first + count) (length m) fits)

-- A part that is lent and comes back full of v, in its place.
pub put_filled :
    (first count v : ℕ) (m part : List ℕ) → first ≤ length m → count ≤ length m - first →
    part ≡ replicate (length (take (first + count - first) (drop first m))) v →
    take first m ++ (part ++ drop (first + count - first) (drop first m)) ≡ filled first count v m
put_filled first count v m part hf hc e =
    let fits : first + count ≤ length m = omega arith in
    let whole : first + count - first ≡ count = omega arith in
    rw (opened first count v m fits, e, whole, drop-drop count first m, length-take-le count (drop first m) (rw length-drop hc))

-- An image that is too short stays as it is.
pub not_filled : (first count v : ℕ) (m : List ℕ) → length m < first + count → filled first count v m ≡ m
unfolding filled
not_filled first count v m h = rw (lt-leb (first + count) (length m) h)

-- A number below 2 ^ w has no digit from w on.
pub digit_past : (w k x : ℕ) → x < 2 ^ w → w ≤ k → digit k x ≡ false
unfolding digit
digit_past zero zero x h l =
    let none : x ≡ 0 = omega arith in
    rw none
digit_past zero (suc k) x h l =
    let none : x ≡ 0 = omega arith in
    rw none (digit_zero k)
digit_past (suc w) zero x h l = absurd (omega arith)
digit_past (suc w) (suc k) x h l =
    let half : x / 2 < 2 ^ w = omega (arith, rw (pow-suc 2 w) at h) in
    digit_past w k (x / 2) half (omega arith)

-- Packing loses nothing, and the word's masks are the flags' changes.
use Prim.Native.Nat.{ℕ, zero, suc, ◌+◌, ◌*◌, ◌/◌, ◌%◌, ◌^◌, ◌≤◌, ◌<◌}
use native.Mathlib.Omega.{arith}
use native.Mathlib.Nat.{mod-eq_of_lt, mod-lt}
use native.Mathlib.Numerals.{add-one}
use lib.Pow.{mod-pow-add, pow_pos}
use mathlib.Core.Path.{◌≡◌, refl, sym, ap, ◌∙◌}
use mathlib.Core.Bool.{Bool, true, false, beq}
use lib.Dec.{eqb}
use lib.Bits.{bit_and, and_mod, and_le_r}
use borrow.Author.Tests.{eqb-true}
use Rattle.memory.specs.Image.{digit}
use Rattle.memory.proofs.Below.{all, below}
use Rattle.rules.specs.Halves as Halves
use Rattle.theorems.proofs.Tests.{beq_true}
use Rattle.volatile.specs.declared.Volatile.{Volatile}
use Rattle.volatile.specs.Packed.{one, word, packed, unpacked}

-- The lowest digit of a number that is put together, and the others.
pub digit_one : (b : Bool) (y : ℕ) → digit zero (one b + 2 * y) ≡ b
unfolding digit
digit_one true y = rw (odd y)
  where
    odd : (x : ℕ) → (1 + 2 * x) % 2 ≡ 1
    odd x = omega arith
digit_one false y = rw (even y)
  where
    even : (x : ℕ) → (0 + 2 * x) % 2 ≡ 0
    even x = omega arith

pub halves : (b : Bool) (y : ℕ) → (one b + 2 * y) / 2 ≡ y
halves true y = omega arith
halves false y = omega arith

-- Digit k + 1 is digit k of what the lowest one is put on.
digit_rest : (b : Bool) (k y : ℕ) → digit (suc k) (one b + 2 * y) ≡ digit k y
unfolding digit
digit_rest b k y = rw (halves b y)

pub last_digit : (b : Bool) → digit zero (one b) ≡ b
unfolding digit
last_digit true = refl
last_digit false = refl

module _ (sv p1 r1 programming latch e1 matched : Bool) where
  abbrev w6 : ℕ
  w6 = one matched

  abbrev w5 : ℕ
  w5 = one e1 + 2 * w6

  abbrev w4 : ℕ
  w4 = one latch + 2 * w5

  abbrev w3 : ℕ
  w3 = one programming + 2 * w4

  abbrev w2 : ℕ
  w2 = one r1 + 2 * w3

  abbrev w1 : ℕ
  w1 = one p1 + 2 * w2

  -- Past the first three digits.
  after_3 : (k : ℕ) → digit (suc (suc (suc k))) (one sv + 2 * w1) ≡ digit k w3
  after_3 k = digit_rest sv (suc (suc k)) w1 ∙ (digit_rest p1 (suc k) w2 ∙ digit_rest r1 k w3)

  digits_of_word :
      let w = word sv p1 r1 programming latch e1 matched in
      (digit 0 w ≡ sv) × (digit 1 w ≡ p1) × (digit 2 w ≡ r1) × (digit 3 w ≡ programming) × (digit 4 w ≡ latch) × (digit 5 w ≡ e1) ×
      (digit 6 w ≡ matched)
  unfolding word
  digits_of_word = (
    digit_one sv w1,
    digit_rest sv 0 w1 ∙ digit_one p1 w2,
    digit_rest sv 1 w1 ∙ (digit_rest p1 0 w2 ∙ digit_one r1 w3),
    after_3 0 ∙ digit_one programming w4,
    after_3 1 ∙ (digit_rest programming 0 w4 ∙ digit_one latch w5),
    after_3 2 ∙ (digit_rest programming 1 w4 ∙ (digit_rest latch 0 w5 ∙ digit_one e1 w6)),
    after_3 3 ∙ (digit_rest programming 2 w4 ∙ (digit_rest latch 1 w5 ∙ (digit_rest e1 0 w6 ∙ last_digit matched))),
  )

pub unpacked_packed : (v : Halves.Volatile) → unpacked (packed v) ≡ v
unfolding unpacked packed
unpacked_packed v =
    let d = digits_of_word v.sv v.p1 v.r1 v.programming v.latch v.e1 v.matched in
    rw (d.0, d.1, d.2, d.3, d.4, d.5, d.6)

one_small : (b : Bool) → one b ≤ 1
one_small true = omega arith
one_small false = omega arith

pub packed_small : (v : Halves.Volatile) → (packed v).flags < 128
unfolding packed word
packed_small v =
    omega (
      arith,
      one_small v.sv,
      one_small v.p1,
      one_small v.r1,
      one_small v.programming,
      one_small v.latch,
      one_small v.e1,
      one_small v.matched,
    )

-- The lowest digits are those of the remainder.
split_low : (w x : ℕ) → x % 2 ^ suc w ≡ (x / 2 % 2 ^ w) * 2 + x % 2
split_low w x = rw (add-one w) at (mod-pow-add x w 1)

pub digit_low : (w k x : ℕ) → k < w → digit k (x % 2 ^ w) ≡ digit k x
unfolding digit
digit_low zero k x h = absurd (omega arith)
digit_low (suc w) zero x h = rw (split_low w x, low (x / 2 % 2 ^ w))
  where
    low : (q : ℕ) → (q * 2 + x % 2) % 2 ≡ x % 2
    low q = omega arith
digit_low (suc w) (suc k) x h = rw (split_low w x, high (x / 2 % 2 ^ w)) (digit_low w k (x / 2) (omega arith))
  where
    high : (q : ℕ) → (q * 2 + x % 2) / 2 ≡ q
    high q = omega arith

-- A mask below 2 ^ w sees the lowest digits only.
pub mask_low : (w c x : ℕ) → c < 2 ^ w → bit_and x c ≡ bit_and (x % 2 ^ w) c
mask_low w c x h =
    let small : bit_and x c < 2 ^ w = omega (arith, and_le_r x c) in
    sym (mod-eq_of_lt small) ∙ (and_mod x c w ∙ ap (λ (k : ℕ). bit_and (x % 2 ^ w) k) (mod-eq_of_lt h))

-- Two tests that agree at each number below k.
pub agree_below :
    (k : ℕ) (f g : ℕ → Bool) → all k (λ (n : ℕ). beq (f n) (g n)) ≡ true → (n : ℕ) → n < k → f n ≡ g n
agree_below k f g t n h = beq_true (f n) (g n) (below k (λ (y : ℕ). beq (f y) (g y)) t n h)

-- A test of what a mask below 2 ^ w leaves, as a test of the lowest digits.
pub masked_test :
    (w c : ℕ) (f g : ℕ → Bool) → c < 2 ^ w → all (2 ^ w) (λ (n : ℕ). beq (f (bit_and n c)) (g n)) ≡ true → (x : ℕ) →
    f (bit_and x c) ≡ g (x % 2 ^ w)
masked_test w c f g h t x =
    ap f (mask_low w c x h) ∙ agree_below (2 ^ w) (λ (n : ℕ). f (bit_and n c)) g t (x % 2 ^ w) (mod-lt x (pow_pos w))

-- A number of the seven flags.
abbrev pub OfFlags : Type 0
OfFlags = Bool → Bool → Bool → Bool → Bool → Bool → Bool → ℕ

-- That number at the digits of a word, SV, P1, R1, programming, latch, E1, match.
abbrev pub at_digits : OfFlags → ℕ → ℕ
at_digits g x = g (digit 0 x) (digit 1 x) (digit 2 x) (digit 3 x) (digit 4 x) (digit 5 x) (digit 6 x)

-- What a change of the word makes of its lowest seven digits, by one test over all words of seven.
pub change_of_flags :
    (f : ℕ → ℕ) (g : OfFlags) → all 128 (λ (x : ℕ). eqb (f x) (at_digits g x)) ≡ true → (x : ℕ) → f (x % 128) ≡ at_digits g x
change_of_flags f g t x =
    eqb-true (f (x % 128)) (at_digits g (x % 128)) (below 128 (λ (y : ℕ). eqb (f y) (at_digits g y)) t (x % 128) (mod-lt x (omega arith))) ∙
    rw (
      digit_low 7 0 x (omega arith),
      digit_low 7 1 x (omega arith),
      digit_low 7 2 x (omega arith),
      digit_low 7 3 x (omega arith),
      digit_low 7 4 x (omega arith),
      digit_low 7 5 x (omega arith),
      digit_low 7 6 x (omega arith),
    )

-- A mask of the seven flags, and what is made of it.
pub masked_flags :
    (f : ℕ → ℕ) (c : ℕ) (g : OfFlags) → c < 128 → all 128 (λ (x : ℕ). eqb (f (bit_and x c)) (at_digits g x)) ≡ true → (x : ℕ) →
    f (bit_and x c) ≡ at_digits g x
masked_flags f c g h t x = ap f (mask_low 7 c x h) ∙ change_of_flags (λ (y : ℕ). f (bit_and y c)) g t x

-- A word of no more than the seven flags is packed again as it was.
pub packed_unpacked : (v : Volatile) → v.flags < 128 → packed (unpacked v) ≡ v
unfolding packed unpacked word all digit
packed_unpacked v h =
    rw (mod-eq_of_lt h) at (ap again (sym (change_of_flags (λ (y : ℕ). y) word refl v.flags)))
  where
    again : ℕ → Volatile
    again w = record { lines = v.lines; address = v.address; flags = w }

-- Which line a step turns over, by the difference of the levels.
use Prim.Native.Nat.{ℕ, ◌/◌, ◌<◌}
use native.Mathlib.Omega.{arith}
use native.Mathlib.Nat.{div-eq_of_lt}
use mathlib.Core.Path.{◌≡◌, refl, ap, ◌∙◌}
use mathlib.Core.Bool.{Bool, true, false, cond, not, ◌&&◌, ◌||◌, beq}
use lib.Dec.{eqb, ltb}
use lib.Bits.{bit_xor, xor_shr, xor_zero_l}
use borrow.Author.Tests.{eqb-true, eq-eqb, ltb-true}
use Rattle.memory.specs.Image.{digit}
use Rattle.rules.specs.Lines.{Line, VCC, RST, CLK, PGM, IO, FUS, place, mask, high, Edge, Same, Many, turned, change, edge}
use Rattle.theorems.proofs.Tests.{all, below₂, and_left, and_right, beq_true}

-- Below 64 the difference is below 64 with both.
pub small_step : (levels n : ℕ) → levels < 64 → bit_xor levels n < 64 → n < 64
small_step levels n h d =
    let none : levels / 64 ≡ 0 = div-eq_of_lt h in
    let same : bit_xor levels n / 64 ≡ n / 64 = xor_shr levels n 6 ∙ (ap (λ (x : ℕ). bit_xor x (n / 64)) none ∙ xor_zero_l (n / 64)) in
    let nothing : bit_xor levels n / 64 ≡ 0 = div-eq_of_lt d in
    omega arith

-- The edge by the difference of the levels, in the order of the masks.
unfoldable pub by_difference : ℕ → ℕ → Edge
unfolding change
by_difference d levels =
    cond (eqb d 0) Same
    (cond (eqb d 1) (change VCC levels)
    (cond (eqb d 2) (change RST levels)
    (cond (eqb d 4) (change CLK levels)
    (cond (eqb d 8) (change PGM levels) (cond (eqb d 16) (change IO levels) (cond (eqb d 32) (change FUS levels) Many))))))

-- A line that a step turns over, and no other.
pub record Turned (x : Line) (levels n : ℕ) : Type 0 where
  pub small : n < 64
  pub edge_is : edge levels n ≡ change x levels
  pub over : high x n ≡ not (high x levels)
  pub others : (y : Line) → eqb (place y) (place x) ≡ false → high y n ≡ high y levels

-- The test holds at each line.
unfoldable all_lines : (Line → Bool) → Bool
all_lines test = test VCC && (test RST && (test CLK && (test PGM && (test IO && test FUS))))

each_line : (test : Line → Bool) → all_lines test ≡ true → (x : Line) → test x ≡ true
unfolding all_lines
each_line test e VCC = search and_left
each_line test e RST = search (and_left, and_right)
each_line test e CLK = search (and_left, and_right)
each_line test e PGM = search (and_left, and_right)
each_line test e IO = search (and_left, and_right)
each_line test e FUS = search (and_left, and_right)

unfoldable kept : Line → ℕ → ℕ → Line → Bool
kept x levels n y = eqb (place y) (place x) || beq (high y n) (high y levels)

-- The edge's test of a line is one of the difference, and where the difference is its mask the line is turned over, and no other.
unfoldable told : ℕ → ℕ → Line → Bool
told levels n x =
    let d = bit_xor levels n in
    beq (eqb n (turned x levels)) (eqb d (mask x)) &&
    (not (eqb d (mask x)) || beq (high x n) (not (high x levels)) && all_lines (kept x levels n))

unfoldable told_all : ℕ → ℕ → Bool
told_all levels n = beq (eqb n levels) (eqb (bit_xor levels n) 0) && all_lines (told levels n)

module _ (levels n : ℕ) (h : levels < 64) (k : n < 64) where
  told_all_lem : told_all levels n ≡ true
  unfolding told_all told kept all_lines all turned digit
  told_all_lem = below₂ 64 64 told_all refl levels n h k

  told_of : (x : Line) → told levels n x ≡ true
  unfolding told_all
  told_of = each_line (told levels n) (and_right (beq (eqb n levels) (eqb (bit_xor levels n) 0)) _ told_all_lem)

  by_zero : eqb n levels ≡ eqb (bit_xor levels n) 0
  unfolding told_all
  by_zero = beq_true _ _ (and_left _ _ told_all_lem)

  by_mask : (x : Line) → eqb n (turned x levels) ≡ eqb (bit_xor levels n) (mask x)
  unfolding told
  by_mask x = beq_true _ _ (and_left _ _ (told_of x))

  pub edge_by_difference : edge levels n ≡ by_difference (bit_xor levels n) levels
  unfolding edge by_difference
  edge_by_difference = rw (by_zero, by_mask VCC, by_mask RST, by_mask CLK, by_mask PGM, by_mask IO, by_mask FUS)

  pub same_levels : bit_xor levels n ≡ 0 → n ≡ levels
  same_levels d = eqb-true n levels (by_zero ∙ rw d)

-- The difference is one line's mask.
its_change : (x : Line) (levels : ℕ) → by_difference (mask x) levels ≡ change x levels
unfolding by_difference mask place
its_change VCC levels = refl
its_change RST levels = refl
its_change CLK levels = refl
its_change PGM levels = refl
its_change IO levels = refl
its_change FUS levels = refl

mask_small : (x : Line) → ltb (mask x) 64 ≡ true
unfolding all_lines mask
mask_small = each_line (λ x. ltb (mask x) 64) refl

pub turned_by_mask : (x : Line) (levels n : ℕ) → levels < 64 → bit_xor levels n ≡ mask x → Turned x levels n
unfolding told kept
turned_by_mask x levels n h e =
    let k : n < 64 = small_step levels n h (rw e (ltb-true (mask x) 64 (mask_small x))) in
    let same = beq (eqb n (turned x levels)) (eqb (bit_xor levels n) (mask x)) in
    let t = rw (eq-eqb _ _ e) at (and_right same _ (told_of levels n h k x)) in
    record {
      small = k;
      edge_is = edge_by_difference levels n h k ∙ rw e (its_change x levels);
      over = beq_true _ _ (and_left _ _ t);
      others =
          λ y d.
          beq_true _ _ (rw d at (each_line (kept x levels n) (and_right (beq (high x n) (not (high x levels))) _ t) y));
    }
